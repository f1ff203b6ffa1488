use Rattle.std.proofs.Common.{◌<◌, length, Some, sym, ap, ◌∙◌, subst}
use Rattle.cpt_task.specs.Timeline.{makespan}
use Rattle.cpt_tighten.specs.Best.{IsBest}
use Rattle.cpt_tighten.specs.Chains.{IsChain}
use Rattle.cpt_tighten.specs.Links.{Descends, IsTrail}
use Rattle.cpt_tighten.specs.Schedules.{IsEarliest}
use Rattle.cpt_tighten.proofs.Ending.{chain_from_trail, descends, earliest, ends_at_makespan, is_plan}
use Rattle.cpt_tighten.proofs.tightening.with_chain.Goals as goal

pub chain_to-requires-clause-links : goal.chain_to-requires-clause-links
chain_to-requires-clause-links c =
    subst (λ xs. Descends xs c.args.links.now) (sym c.deref-in-Some.ensures.value)
    (descends c.args.task.now c.args.plan.now c.args.tight.items c.args.links.now c.requires.bounds (is_plan c.args.task.now c.args.plan.now c.requires.plan) c.requires.tightened)

pub returns-in-None-clause-plan : goal.returns-in-None-clause-plan
returns-in-None-clause-plan c =
    subst (IsEarliest c.args.task.now c.args.plan.now) (sym c.from_vec.ensures)
    (earliest c.args.task.now c.args.plan.now c.args.tight.items c.args.links.now c.requires.bounds (is_plan c.args.task.now c.args.plan.now c.requires.plan) c.requires.tightened)

pub returns-in_ok-chain-in-Some-clause-plan : goal.returns-in_ok-chain-in-Some-clause-plan
returns-in_ok-chain-in-Some-clause-plan c =
    subst (IsEarliest c.args.task.now c.args.plan.now) (sym c.from_vec-in-Some.ensures)
    (earliest c.args.task.now c.args.plan.now c.args.tight.items c.args.links.now c.requires.bounds (is_plan c.args.task.now c.args.plan.now c.requires.plan) c.requires.tightened)

pub returns-in_ok-chain-in-Some-clause-makespan : goal.returns-in_ok-chain-in-Some-clause-makespan
returns-in_ok-chain-in-Some-clause-makespan c =
    let best : IsBest c.args.task.now c.args.tight.items (λ k. k < length c.args.tight.items) (Some c.in-Some.last) =
    subst (λ xs. IsBest c.args.task.now xs (λ k. k < length xs) (Some c.in-Some.last)) c.deref.ensures.value c.in-Some.ensures in
    ends_at_makespan c.args.task.now c.args.tight.items c.in-Some.last best ∙ ap (makespan c.args.task.now) (sym c.from_vec-in-Some.ensures)

pub returns-in_ok-chain-in-Some-clause-chain : goal.returns-in_ok-chain-in-Some-clause-chain
returns-in_ok-chain-in-Some-clause-chain c =
    let best : IsBest c.args.task.now c.args.tight.items (λ k. k < length c.args.tight.items) (Some c.in-Some.last) =
    subst (λ xs. IsBest c.args.task.now xs (λ k. k < length xs) (Some c.in-Some.last)) c.deref.ensures.value c.in-Some.ensures in
    let trail : IsTrail c.args.tight.items c.args.links.now c.in-Some.last.place c.in_ok-chain-in-Some.chain.items =
    subst (λ xs. IsTrail xs c.args.links.now c.in-Some.last.place c.in_ok-chain-in-Some.chain.items) c.deref-in-Some.ensures.value c.in_ok-chain-in-Some.ensures in
    subst (λ xs. IsChain c.args.task.now c.args.plan.now xs c.from_vec-in-Some-2.result) (sym c.from_vec-in-Some.ensures)
    (subst (IsChain c.args.task.now c.args.plan.now c.args.tight.items) (sym c.from_vec-in-Some-2.ensures)
    (chain_from_trail c.args.task.now c.args.plan.now c.args.tight.items c.args.links.now c.in-Some.last.place c.in_ok-chain-in-Some.chain.items c.requires.tightened best.0 trail))
