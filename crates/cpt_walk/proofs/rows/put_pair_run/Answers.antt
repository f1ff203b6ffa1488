use Rattle.std.proofs.Common.{◌≡◌, replicate, arith, subst}
use Rattle.cpt_walk.specs.Puts.{PutsPairs}
use Rattle.cpt_walk.proofs.Putting.{nothing_pairs, run_more}
use Rattle.cpt_walk.proofs.rows.put_pair_run.Goals as goal

pub loop-i-init : goal.loop-i-init
loop-i-init c = nothing_pairs c.args.pairs.now c.args.p c.args.q

pub overflow_add-q : goal.overflow_add-q
overflow_add-q c = let fits = c.requires.fits in let few = c.atoms-few.ensures.few in let size = c.atoms-few.ensures.value in let lt = c.loop-i-test.true in omega (arith, fits, few, size, lt)

pub set-requires-clause-first : goal.set-requires-clause-first
set-requires-clause-first c = let fits = c.requires.fits in let le = c.requires.first in let size = c.loop-i.invariant.size in let lt = c.loop-i-test.true in omega (arith, fits, le, size, lt)

pub set-requires-clause-second : goal.set-requires-clause-second
set-requires-clause-second c = let fits = c.requires.fits in let size = c.loop-i.invariant.size in let lt = c.loop-i-test.true in omega (arith, fits, size, lt)

pub loop-i-preserved : goal.loop-i-preserved
loop-i-preserved c =
    run_more c.args.pairs.now c.loop-i.pairs c.set.new.self c.args.p c.args.q c.loop-i.i c.args.run.count c.args.run.value c.requires.first c.requires.fits c.loop-i-test.true c.loop-i.invariant c.set.ensures.sets c.set.ensures.small c.requires.small

pub returns : goal.returns
returns c =
    let le = c.loop-i.auto.i-end in
    let ge = c.loop-i-test.false in
    let all : c.loop-i.i ≡ c.args.run.count = omega (arith, le, ge) in
    subst (λ z. PutsPairs c.args.pairs.now c.loop-i.pairs c.args.p c.args.q (replicate z c.args.run.value)) all c.loop-i.invariant
