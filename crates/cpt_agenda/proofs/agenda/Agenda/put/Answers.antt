use Rattle.std.proofs.Common.{◌≡◌, ◌∙◌, ◌++◌, ◌∷◌, [], false, ap, refl, sym, subst}
use Rattle.cpt_sheet.specs.declared.data.Cand.{Cand}
use Rattle.cpt_sheet.specs.View.{has}
use Rattle.cpt_agenda.specs.Agendas.{AgendaShape, HasMark}
use Rattle.cpt_agenda.proofs.MarkLemmas.{sound_put_token, sound_put_out, room_for, token_in, act_in}
use Rattle.cpt_agenda.proofs.agenda.Agenda.put.Goals as goal

pub push_back_reserved-requires : goal.push_back_reserved-requires
push_back_reserved-requires c =
    room_for c.self.inside c.args.c c.self.invariant (ap (λ (a : AgendaShape). has c.args.c a.waiting) c.self.view_is ∙ (sym c.waits.ensures ∙ c.if-waits.false))
    (subst (λ (a : AgendaShape). HasMark a c.args.c) (sym c.self.view_is) c.requires)

pub invariant_of-self : goal.invariant_of-self
invariant_of-self c =
    sound_put_token c.self.inside _ c.in-Tok.x c.self.invariant
    (subst (λ (d : Cand). has d c.self.inside.queue.items ≡ false) c.in-Tok.is (ap (λ (a : AgendaShape). has c.args.c a.waiting) c.self.view_is ∙ (sym c.waits.ensures ∙ c.if-waits.false)))
    (token_in c.self.inside c.args.self.now c.args.c c.in-Tok.x c.self.view_is c.requires c.in-Tok.is)
    (c.push_back_reserved.ensures.items ∙ ap (λ (d : Cand). c.self.inside.queue.items ++ d ∷ []) c.in-Tok.is) c.push_back_reserved.ensures.len c.push_back_reserved.ensures.capacity c.set_mark.ensures refl

pub invariant_of-self-in-Out : goal.invariant_of-self-in-Out
invariant_of-self-in-Out c =
    sound_put_out c.self.inside _ c.in-Out.a c.self.invariant
    (subst (λ (d : Cand). has d c.self.inside.queue.items ≡ false) c.in-Out.is (ap (λ (a : AgendaShape). has c.args.c a.waiting) c.self.view_is ∙ (sym c.waits.ensures ∙ c.if-waits.false)))
    (act_in c.self.inside c.args.self.now c.args.c c.in-Out.a c.self.view_is c.requires c.in-Out.is)
    (c.push_back_reserved.ensures.items ∙ ap (λ (d : Cand). c.self.inside.queue.items ++ d ∷ []) c.in-Out.is) c.push_back_reserved.ensures.len c.push_back_reserved.ensures.capacity refl c.set_mark-in-Out.ensures
