use Rattle.std.proofs.Common.{◌∙◌, ◌∷◌, ap, refl}
use Rattle.cpt_sheet.specs.declared.data.Cand.{Cand}
use Rattle.cpt_agenda.proofs.MarkLemmas.{sound_took_token, sound_took_out}
use Rattle.cpt_agenda.proofs.agenda.Agenda.next.Goals as goal

pub invariant_of-self-in-Tok : goal.invariant_of-self-in-Tok
invariant_of-self-in-Tok c =
    sound_took_token c.self.inside _ c.in-Tok.x c.self.invariant (c.in_ok-c.ensures.items ∙ ap (λ (d : Cand). d ∷ c.pop_front.new.self.items) c.in-Tok.is) c.in_ok-c.ensures.cases c.in_ok-c.ensures.capacity
    c.set_mark.ensures refl

pub invariant_of-self-in-Out : goal.invariant_of-self-in-Out
invariant_of-self-in-Out c =
    sound_took_out c.self.inside _ c.in-Out.a c.self.invariant (c.in_ok-c.ensures.items ∙ ap (λ (d : Cand). d ∷ c.pop_front.new.self.items) c.in-Out.is) c.in_ok-c.ensures.cases c.in_ok-c.ensures.capacity
    refl c.set_mark-in-Out.ensures
