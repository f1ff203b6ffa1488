use Rattle.std.proofs.Common.{arith, subst}
use Rattle.std.proofs.lemmas.List.{take_all}
use Rattle.cpt_cert_accept.specs.Reading.{values_of}
use Rattle.cpt_walk.specs.Puts.{PutsDists}
use Rattle.cpt_walk.proofs.Putting.{no_run, nothing_dists, run_within, place_more, dist_row_more}
use Rattle.cpt_walk.proofs.rows.put_dist_row.Goals as goal

pub loop-run-init : goal.loop-run-init
loop-run-init c = record { place = omega arith; puts = nothing_dists c.args.dists.now c.args.act 0 }

pub put_dist_run-requires-clause-fits : goal.put_dist_run-requires-clause-fits
put_dist_run-requires-clause-fits c =
    let place = c.loop-run.invariant.place in
    let size = c.loop-run.invariant.puts.atoms in
    let all = run_within c.args.runs.now c.loop-run.run-index no_run c.loop-run-test.true in
    let fits = c.requires.fits in omega (arith, place, size, all, fits)

pub overflow_add-q : goal.overflow_add-q
overflow_add-q c =
    let place = c.loop-run.invariant.place in
    let few = c.atoms-few.ensures.few in
    let value = c.atoms-few.ensures.value in
    let all = run_within c.args.runs.now c.loop-run.run-index no_run c.loop-run-test.true in
    let fits = c.requires.fits in omega (arith, place, few, value, all, fits)

pub loop-run-preserved : goal.loop-run-preserved
loop-run-preserved c =
    let inv = c.loop-run.invariant in
    record {
      place = place_more c.args.runs.now c.loop-run.run-index no_run 0 c.loop-run.q c.loop-run-test.true inv.place;
      puts = dist_row_more c.args.dists.now c.loop-run.dists c.put_dist_run.new.dists c.args.runs.now c.loop-run.run-index no_run c.args.act c.loop-run.q c.requires.act c.loop-run-test.true inv.place c.requires.fits inv.puts c.put_dist_run.ensures;
    }

pub returns : goal.returns
returns c =
    subst (λ z. PutsDists c.args.dists.now c.loop-run.dists c.args.act 0 (values_of z)) (take_all c.loop-run.run-index c.args.runs.now c.loop-run-test.false) c.loop-run.invariant.puts
