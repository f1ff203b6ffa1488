use Rattle.std.proofs.Common.{true, List, ℕ, [], ◌∷◌, set, sym, subst}
use Rattle.cpt_reach.specs.Marking.{MarksAll}
use Rattle.cpt_reach.proofs.MarkLemmas.{marks_new}
use Rattle.cpt_reach.proofs.marking.mark.Goals as goal

pub returns-in_ok-push : goal.returns-in_ok-push
returns-in_ok-push c =
    subst (λ (g : List ℕ). MarksAll (c.args.p ∷ []) c.args.marks.now c.args.agenda.now.items (set c.args.marks.now c.args.p true) g) (sym c.in_ok-push.ensures.items)
    (marks_new c.args.marks.now c.args.agenda.now.items c.args.p c.requires c.if-not-marks-p.true)
