use Rattle.std.proofs.Common.{ℕ, ◌-◌, List, length, get_or, ap, ◌∙◌}
use Rattle.cpt_engine.proofs.EngineLemmas.{newest_steps, rest_of}
use Rattle.cpt_engine.proofs.engine.Engine.steps.Goals as goal

pub returns : goal.returns
returns g c =
    newest_steps _ _ c.args.self.now c.last_start-from.result _ c.self.invariant.stands c.self.view_is
    (c.last_start-from.ensures ∙ ap (λ (l : List ℕ). get_or l (length l - 1) 0) c.deref.ensures.value) (rest_of c.last_start-from.result _ _ c.deref-2.ensures.value)
