use Rattle.std.proofs.Common.{ℕ, List, length, sym, subst}
use Rattle.cpt_reach.specs.Marking.{AllBelow, MarksAll}
use Rattle.cpt_reach.proofs.MarkLemmas.{start_sound, reached_exactly}
use Rattle.cpt_reach.proofs.marking.mark_reached.Goals as goal

pub spread-requires-clause-sound : goal.spread-requires-clause-sound
spread-requires-clause-sound c =
    let marks = subst (λ (xs : List ℕ). MarksAll xs c.args.marks.now c.new-agenda.result.items c.mark_all.new.marks c.mark_all.new.agenda.items) c.init.ensures.value c.in_ok-mark_all.ensures in
    c.in_ok-visit_every.ensures.sound (start_sound c.args.task.now c.args.marks.now c.new-agenda.result.items c.mark_all.new.marks c.mark_all.new.agenda.items c.requires.clear marks)

pub spread-requires-clause-settled : goal.spread-requires-clause-settled
spread-requires-clause-settled c = c.in_ok-visit_every.ensures.settled

pub returns : goal.returns
returns c =
    let marks = subst (λ (xs : List ℕ). MarksAll xs c.args.marks.now c.new-agenda.result.items c.mark_all.new.marks c.mark_all.new.agenda.items) c.init.ensures.value c.in_ok-mark_all.ensures in
    reached_exactly c.args.task.now c.args.marks.now c.new-agenda.result.items c.mark_all.new.marks c.mark_all.new.agenda.items c.visit_every.new.marks c.visit_every.new.agenda.items c.spread.new.marks
    c.requires.size marks c.in_ok-visit_every.ensures c.in_ok-spread.ensures

pub mark_all-requires : goal.mark_all-requires
mark_all-requires c =
    subst (λ (xs : List ℕ). AllBelow (length c.args.marks.now) xs) (sym c.init.ensures.value) (subst (λ n. AllBelow n c.args.task.now.init) (sym c.requires.size) c.requires.bounds.init)
