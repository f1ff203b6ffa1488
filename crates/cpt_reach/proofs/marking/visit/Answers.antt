use Rattle.std.proofs.Common.{◌≡◌, ℕ, List, length, sym, ap, ◌∙◌, subst}
use Rattle.cpt_task.specs.declared.task.Action.{Action}
use Rattle.cpt_reach.specs.Reached.{action_at}
use Rattle.cpt_reach.specs.Marking.{AllBelow, AreMarked, MarksAll}
use Rattle.cpt_reach.proofs.TaskLemmas.{action_is, pre_below, add_below}
use Rattle.cpt_reach.proofs.MarkLemmas.{settles_ready}
use Rattle.cpt_reach.proofs.marking.visit.Goals as goal

pub are_marked-requires : goal.are_marked-requires
are_marked-requires c =
    let e : c.index-actions-a.result ≡ action_at c.args.task.now c.args.a = action_is c.args.task.now c.actions.result.now c.args.a c.index-actions-a.result c.requires.action c.actions.ensures.value c.index-actions-a.is in
    subst (λ (xs : List ℕ). AllBelow (length c.args.marks.now) xs) (sym (c.as_slice.ensures.items ∙ ap (λ (x : Action). x.pre) e))
    (pre_below c.args.task.now (length c.args.marks.now) c.args.a c.actions.ensures.bounds c.requires.action c.requires.size)

pub mark_all-requires : goal.mark_all-requires
mark_all-requires c =
    let e : c.index-actions-a.result ≡ action_at c.args.task.now c.args.a = action_is c.args.task.now c.actions.result.now c.args.a c.index-actions-a.result c.requires.action c.actions.ensures.value c.index-actions-a.is in
    subst (λ (xs : List ℕ). AllBelow (length c.args.marks.now) xs) (sym (c.as_slice-then-are_marked.ensures.items ∙ ap (λ (x : Action). x.add) e))
    (add_below c.args.task.now (length c.args.marks.now) c.args.a c.actions.ensures.bounds c.requires.action c.requires.size)

pub returns-in_ok-mark_all : goal.returns-in_ok-mark_all
returns-in_ok-mark_all c =
    let e : c.index-actions-a.result ≡ action_at c.args.task.now c.args.a = action_is c.args.task.now c.actions.result.now c.args.a c.index-actions-a.result c.requires.action c.actions.ensures.value c.index-actions-a.is in
    settles_ready c.args.task.now c.args.a c.args.marks.now c.args.agenda.now.items c.mark_all.new.marks c.mark_all.new.agenda.items c.requires.action
    (subst (λ (xs : List ℕ). AreMarked c.args.marks.now xs) (c.as_slice.ensures.items ∙ ap (λ (x : Action). x.pre) e) c.if-are_marked.ensures)
    (subst (λ (xs : List ℕ). MarksAll xs c.args.marks.now c.args.agenda.now.items c.mark_all.new.marks c.mark_all.new.agenda.items) (c.as_slice-then-are_marked.ensures.items ∙ ap (λ (x : Action). x.add) e) c.in_ok-mark_all.ensures)
