use Rattle.std.proofs.Common.{◌≡◌, replicate, arith, subst}
use Rattle.cpt_walk.specs.Puts.{PutsDists}
use Rattle.cpt_walk.proofs.Putting.{nothing_dists, dist_run_more}
use Rattle.cpt_walk.proofs.rows.put_dist_run.Goals as goal

pub loop-i-init : goal.loop-i-init
loop-i-init c = nothing_dists c.args.dists.now c.args.act c.args.q

pub overflow_add-q : goal.overflow_add-q
overflow_add-q c = let fits = c.requires.fits in let few = c.atoms-few.ensures.few in let size = c.atoms-few.ensures.value in let lt = c.loop-i-test.true in omega (arith, fits, few, size, lt)

pub set-requires-clause-act : goal.set-requires-clause-act
set-requires-clause-act c = let act = c.requires.act in let rows = c.loop-i.invariant.actions in omega (arith, act, rows)

pub set-requires-clause-atom : goal.set-requires-clause-atom
set-requires-clause-atom c = let fits = c.requires.fits in let size = c.loop-i.invariant.atoms in let lt = c.loop-i-test.true in omega (arith, fits, size, lt)

pub loop-i-preserved : goal.loop-i-preserved
loop-i-preserved c =
    dist_run_more c.args.dists.now c.loop-i.dists c.set.new.self c.args.act c.args.q c.loop-i.i c.args.run.count c.args.run.value c.requires.act c.requires.fits c.loop-i-test.true c.loop-i.invariant c.set.ensures.sets c.set.ensures.small c.requires.small

pub returns : goal.returns
returns c =
    let le = c.loop-i.auto.i-end in
    let ge = c.loop-i-test.false in
    let all : c.loop-i.i ≡ c.args.run.count = omega (arith, le, ge) in
    subst (λ z. PutsDists c.args.dists.now c.loop-i.dists c.args.act c.args.q (replicate z c.args.run.value)) all c.loop-i.invariant
