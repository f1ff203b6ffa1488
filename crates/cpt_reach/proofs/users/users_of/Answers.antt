use Rattle.std.proofs.Common.{◌≡◌, ℕ, ◌+◌, ◌<◌, List, length, sym, ap, ◌∙◌, subst, arith}
use Rattle.cpt_task.specs.declared.task.Action.{Action}
use Rattle.cpt_reach.specs.Reached.{action_at}
use Rattle.cpt_reach.specs.Marking.{AllBelow, AddsUses, IsUsersUpTo, IsNoUsers}
use Rattle.cpt_reach.proofs.TaskLemmas.{action_is, pre_below}
use Rattle.cpt_reach.proofs.UserLemmas.{no_users, users_more, users_all, written_back}
use Rattle.cpt_reach.proofs.users.users_of.Goals as goal

pub add_uses-requires : goal.add_uses-requires
add_uses-requires c =
    let t = c.args.task.now in
    let a = c.loop-a.a in
    let within : a < length t.actions = omega (arith, c.loop-a-test.true, ap length c.actions-action-items.ensures.value) in
    let e : c.action-item.result ≡ action_at t a = action_is t c.actions-action-items.result.now a c.action-item.result within c.actions-action-items.ensures.value c.action-item.is in
    subst (λ (xs : List ℕ). AllBelow (length c.deref_mut.result.now) xs) (sym (c.as_slice.ensures.items ∙ ap (λ (x : Action). x.pre) e))
    (pre_below t (length c.deref_mut.result.now) a c.atoms.ensures.bounds within (ap length c.deref_mut.ensures.value ∙ c.loop-a.invariant.size))

pub loop-a-preserved : goal.loop-a-preserved
loop-a-preserved c =
    let t = c.args.task.now in
    let a = c.loop-a.a in
    let new = c.add_uses.new.rows in
    let within : a < length t.actions = omega (arith, c.loop-a-test.true, ap length c.actions-action-items.ensures.value) in
    let e : c.action-item.result ≡ action_at t a = action_is t c.actions-action-items.result.now a c.action-item.result within c.actions-action-items.ensures.value c.action-item.is in
    let uses : AddsUses a c.as_slice.result.now c.loop-a.rows.items new = subst (λ (rows : List (List ℕ)). AddsUses a c.as_slice.result.now rows new) c.deref_mut.ensures.value c.in_ok-add_uses.ensures in
    let all : AddsUses a (action_at t a).pre c.loop-a.rows.items new = subst (λ (xs : List ℕ). AddsUses a xs c.loop-a.rows.items new) (c.as_slice.ensures.items ∙ ap (λ (x : Action). x.pre) e) uses in
    subst (IsUsersUpTo t (a + 1)) (sym (written_back c.loop-a.rows.items new c.loop-a.rows.len c.loop-a.rows.ok.0 uses.size))
    (users_more t a c.loop-a.rows.items new c.loop-a.invariant all)

pub returns : goal.returns
returns c =
    let e : c.loop-a.a ≡ length c.args.task.now.actions = omega (arith, c.loop-a-test.false, c.loop-a.auto.a-end, ap length c.actions-action-items.ensures.value) in
    users_all c.args.task.now c.loop-a.a c.loop-a.rows.items e c.loop-a.invariant

pub loop-a-init : goal.loop-a-init
loop-a-init c = no_users c.args.task.now c.in_ok-rows.rows.items (subst (λ n. IsNoUsers n c.in_ok-rows.rows.items) (ap length c.atoms.ensures.value) c.in_ok-rows.ensures)
