use Rattle.std.proofs.Common.{◌≡◌, ◌+◌, true, false, [], ◌∷◌, ◌++◌, sym, ap, ◌∙◌, subst}
use Rattle.cpt_tighten.specs.Agenda.{event, HasEvents}
use Rattle.cpt_tighten.specs.declared.agenda.Event.{Event}
use Rattle.std.proofs.Common.{List}
use Rattle.cpt_tighten.proofs.Timing.{two_more}
use Rattle.cpt_tighten.proofs.agenda.all_events.Goals as goal

pub loop-place-preserved : goal.loop-place-preserved
loop-place-preserved c =
    let t = c.args.task.now in
    let plan = c.args.plan.now in
    let n = c.loop-place.place in
    let first : c.push.new.self.items ≡ c.loop-place.events.items ++ event t plan true n ∷ [] = c.in_ok-push.ensures.items in
    let second : c.push-in-loop-place.new.self.items ≡ c.push.new.self.items ++ event t plan false n ∷ [] = rw c.end_at.ensures at c.in_ok-push-2.ensures.items in
    subst (HasEvents t plan (n + 1)) (sym (second ∙ ap (λ (es : List Event). es ++ event t plan false n ∷ []) first)) (two_more t plan n c.loop-place.events.items c.loop-place-test.true c.loop-place.invariant)
