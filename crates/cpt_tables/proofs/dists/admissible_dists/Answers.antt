use Rattle.std.proofs.Common.{◌≡◌, ◌<◌, List, length, ap, arith}
use Rattle.cpt_task.specs.declared.task.Action.{Action}
use Rattle.cpt_tables.proofs.LimitLemmas.{adds_below}
use Rattle.cpt_tables.proofs.AtomScans.{atom_below, fault_from_some, fine_from_none, fine_more, fine_all}
use Rattle.cpt_tables.proofs.DistBounds.{dists_bound}
use Rattle.cpt_tables.proofs.dists.admissible_dists.Goals as goal

pub least_distance-requires-clause-atom : goal.least_distance-requires-clause-atom
least_distance-requires-clause-atom c =
    atom_below c.args.task.now c.args.pairs.now c.args.dists.now c.loop-act.act c.in-Some.atom c.requires.pairs c.requires.dists (λ i lt r has. adds_below c.args.task.now i r c.in-Some.ensures.bounds lt has) c.in-Some.ensures.found

pub returns-clause-answer : goal.returns-clause-answer
returns-clause-answer c =
    fine_all c.args.task.now c.args.pairs.now c.args.dists.now c.loop-act.act (let count : length c.actions.result.now ≡ length c.args.task.now.actions = ap (λ (xs : List Action). length xs) c.actions.ensures.value in omega (arith, count, c.loop-act-test.false)) c.loop-act.invariant

pub returns-clause-bounds : goal.returns-clause-bounds
returns-clause-bounds c ok =
    dists_bound c.args.task.now c.args.pairs.now c.args.dists.now c.actions.ensures.bounds ok
    (fine_all c.args.task.now c.args.pairs.now c.args.dists.now c.loop-act.act (let count : length c.actions.result.now ≡ length c.args.task.now.actions = ap (λ (xs : List Action). length xs) c.actions.ensures.value in omega (arith, count, c.loop-act-test.false)) c.loop-act.invariant)

pub returns-in-Some-clause-answer : goal.returns-in-Some-clause-answer
returns-in-Some-clause-answer c =
    let below : c.in-Some.atom < c.args.dists.now.atoms =
    atom_below c.args.task.now c.args.pairs.now c.args.dists.now c.loop-act.act c.in-Some.atom c.requires.pairs c.requires.dists (λ i lt r has. adds_below c.args.task.now i r c.in-Some.ensures.bounds lt has) c.in-Some.ensures.found in
    let width : c.args.dists.now.atoms ≡ length c.args.task.now.atoms = c.requires.dists.atoms in
    fault_from_some c.args.task.now c.args.pairs.now c.args.dists.now c.loop-act.act c.in-Some.atom c.least_distance.result c.requires.pairs (let count : length c.actions.result.now ≡ length c.args.task.now.actions = ap (λ (xs : List Action). length xs) c.actions.ensures.value in omega (arith, count, c.loop-act-test.true)) (omega (arith, below, width))
    c.loop-act.invariant c.in-Some.ensures.found c.least_distance.ensures.least c.least_distance.ensures.within

pub loop-act-preserved : goal.loop-act-preserved
loop-act-preserved c =
    fine_more c.args.task.now c.args.pairs.now c.args.dists.now c.loop-act.act c.loop-act.invariant
    (fine_from_none c.args.task.now c.args.pairs.now c.args.dists.now c.loop-act.act c.requires.pairs c.in_default.ensures.found)
