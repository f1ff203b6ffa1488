use Rattle.std.proofs.Common.{List, rules, subst, ◌≡◌}
use Rattle.std.specs.List.Sorted.{IsPermutation}
use Rattle.std.proofs.lemmas.Fn.{always_returns_same}
use Rattle.cpt_task.specs.declared.plan.Occ.{Occ}
use Rattle.cpt_outcome.proofs.OrderLemmas.{leaf-plans-valid}
use Rattle.cpt_branch.proofs.LeafOrder.{in_plan_order, key_of}
use Rattle.cpt_branch.proofs.leaves.leaf_plan.Goals as goal

pub returns-clause-plan : goal.returns-clause-plan
returns-clause-plan c = record {
  tokens = subst (λ (z : List Occ). IsPermutation z c.sort_by_key.new.self.items) c.in_ok-plan.ensures c.in_ok-sort_by_key.ensures.permutation;
  order = in_plan_order _ (c.in_ok-sort_by_key.ensures.sorted key_of (always_returns_same _ (λ a r. r ≡ key_of a.0.now) _ (λ a r q k. search rules)));
}

pub returns-clause-valid : goal.returns-clause-valid
returns-clause-valid c =
    (leaf-plans-valid c.args.ctx.now.task.now c.args.ctx.now.tables.now c.args.store.now.sheet c.sort_by_key.new.self.items c.requires.solved
    (subst (λ (z : List Occ). IsPermutation z c.sort_by_key.new.self.items) c.in_ok-plan.ensures c.in_ok-sort_by_key.ensures.permutation)).0

pub returns-clause-short : goal.returns-clause-short
returns-clause-short c =
    (leaf-plans-valid c.args.ctx.now.task.now c.args.ctx.now.tables.now c.args.store.now.sheet c.sort_by_key.new.self.items c.requires.solved
    (subst (λ (z : List Occ). IsPermutation z c.sort_by_key.new.self.items) c.in_ok-plan.ensures c.in_ok-sort_by_key.ensures.permutation)).1
