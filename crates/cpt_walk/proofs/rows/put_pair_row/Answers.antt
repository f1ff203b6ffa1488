use Rattle.std.proofs.Common.{arith, subst}
use Rattle.std.proofs.lemmas.List.{take_all}
use Rattle.cpt_cert_accept.specs.Reading.{values_of}
use Rattle.cpt_walk.specs.Puts.{PutsPairs}
use Rattle.cpt_walk.proofs.Putting.{no_run, nothing_pairs, run_within, place_more, row_more}
use Rattle.cpt_walk.proofs.rows.put_pair_row.Goals as goal

pub loop-run-init : goal.loop-run-init
loop-run-init c = record { place = omega arith; puts = nothing_pairs c.args.pairs.now c.args.p c.args.p }

pub put_pair_run-requires-clause-first : goal.put_pair_run-requires-clause-first
put_pair_run-requires-clause-first c = let place = c.loop-run.invariant.place in omega (arith, place)

pub put_pair_run-requires-clause-fits : goal.put_pair_run-requires-clause-fits
put_pair_run-requires-clause-fits c =
    let place = c.loop-run.invariant.place in
    let size = c.loop-run.invariant.puts.size in
    let all = run_within c.args.runs.now c.loop-run.run-index no_run c.loop-run-test.true in
    let fits = c.requires.fits in omega (arith, place, size, all, fits)

pub overflow_add-q : goal.overflow_add-q
overflow_add-q c =
    let place = c.loop-run.invariant.place in
    let few = c.atoms-few.ensures.few in
    let value = c.atoms-few.ensures.value in
    let all = run_within c.args.runs.now c.loop-run.run-index no_run c.loop-run-test.true in
    let fits = c.requires.fits in omega (arith, place, few, value, all, fits)

pub loop-run-preserved : goal.loop-run-preserved
loop-run-preserved c =
    let inv = c.loop-run.invariant in
    record {
      place = place_more c.args.runs.now c.loop-run.run-index no_run c.args.p c.loop-run.q c.loop-run-test.true inv.place;
      puts = row_more c.args.pairs.now c.loop-run.pairs c.put_pair_run.new.pairs c.args.runs.now c.loop-run.run-index no_run c.args.p c.loop-run.q c.loop-run-test.true inv.place c.requires.fits inv.puts c.put_pair_run.ensures;
    }

pub returns : goal.returns
returns c =
    subst (λ z. PutsPairs c.args.pairs.now c.loop-run.pairs c.args.p c.args.p (values_of z)) (take_all c.loop-run.run-index c.args.runs.now c.loop-run-test.false) c.loop-run.invariant.puts
