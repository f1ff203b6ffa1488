use Rattle.std.proofs.Common.{◌≡◌, ℕ, ◌+◌, ◌<◌, List, Vec, Global, length, sym, ap, ◌∙◌, subst, arith}
use Rattle.cpt_task.specs.declared.task.Action.{Action}
use Rattle.cpt_reach.specs.Reached.{action_at}
use Rattle.cpt_reach.specs.Kept.{IsListOf}
use Rattle.cpt_reach.specs.Marking.{AllBelow, AreMarked, HasUnmarked}
use Rattle.cpt_reach.proofs.TaskLemmas.{action_is, pre_below}
use Rattle.cpt_reach.proofs.MarkLemmas.{not_all_marked}
use Rattle.cpt_reach.proofs.ListLemmas.{list_push, list_skip}
use Rattle.cpt_reach.proofs.numbers.ready_actions.Goals as goal
use Rattle.cpt_reach.proofs.numbers.ready_actions.Goals.{then-are_marked+in_ok-push, else-are_marked}

pub are_marked-requires : goal.are_marked-requires
are_marked-requires c =
    let t = c.args.task.now in
    let a = c.loop-a.a in
    let within : a < length t.actions = omega (arith, c.loop-a-test.true, ap length c.actions-action-items.ensures.value) in
    let e : c.action-item.result ≡ action_at t a = action_is t c.actions-action-items.result.now a c.action-item.result within c.actions-action-items.ensures.value c.action-item.is in
    subst (λ (xs : List ℕ). AllBelow (length c.args.marks.now) xs) (sym (c.as_slice.ensures.items ∙ ap (λ (x : Action). x.pre) e))
    (pre_below t (length c.args.marks.now) a c.actions-action-items.ensures.bounds within c.requires)

pub loop-a-preserved : goal.loop-a-preserved
loop-a-preserved c =
    let t = c.args.task.now in
    let m = c.args.marks.now in
    let a = c.loop-a.a in
    let within : a < length t.actions = omega (arith, c.loop-a-test.true, ap length c.actions-action-items.ensures.value) in
    let e : c.action-item.result ≡ action_at t a = action_is t c.actions-action-items.result.now a c.action-item.result within c.actions-action-items.ensures.value c.action-item.is in
    let pre : c.as_slice.result.now ≡ (action_at t a).pre = c.as_slice.ensures.items ∙ ap (λ (x : Action). x.pre) e in
    let Q : ℕ → Type 0 = λ b. AreMarked m (action_at t b).pre in
    let P : List ℕ → Type 0 = λ xs. IsListOf (λ b. (b < a + 1) × Q b) xs in
    elim c.if-are_marked.branch [
      | then-are_marked+in_ok-push w ↦
          subst P (sym (ap (λ (v : Vec ℕ Global). v.items) w.xs-is ∙ w.in_ok-push.ensures.items))
          (list_push Q c.loop-a.xs.items a c.loop-a.invariant (subst (λ (xs : List ℕ). AreMarked m xs) pre w.if-are_marked.ensures))
      | else-are_marked w ↦
          subst P (sym (ap (λ (v : Vec ℕ Global). v.items) w.xs-is))
          (list_skip Q c.loop-a.xs.items a c.loop-a.invariant (not_all_marked m (action_at t a).pre (subst (λ (xs : List ℕ). HasUnmarked m xs) pre w.if-are_marked.ensures)))
    ]
