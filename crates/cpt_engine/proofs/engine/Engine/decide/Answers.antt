use Rattle.std.proofs.Common.{ℕ, ◌<◌, List, [], ◌∷◌, ◌++◌, length, sym, ap, ◌∙◌, subst, arith}
use Rattle.cpt_sheet.specs.declared.data.Decision.{Decision}
use Rattle.cpt_sheet.specs.declared.data.Sheet.{Sheet}
use Rattle.cpt_sheet.specs.Formed.{IsFormed}
use Rattle.cpt_calculus.specs.Decisions.{Fits}
use Rattle.cpt_engine.specs.Engines.{EngineShape}
use Rattle.cpt_engine.specs.Running.{IsSettledAs}
use Rattle.cpt_engine.specs.declared.state.State.TheVariants.{Alive}
use Rattle.cpt_engine.proofs.EngineLemmas.{stands_closed, stands_decided, decided_parts, grown_of, mark_from, led_applied}
use Rattle.cpt_engine.proofs.engine.Engine.decide.Goals as goal

pub invariant_of-self-2 : goal.invariant_of-self-2
invariant_of-self-2 g c = record {
  stands = stands_decided _ _ c.args.decision _ _ _ _ _ _ _ c.self.invariant.stands (ap (λ (e : EngineShape). e.state) c.self.view_is ∙ c.requires.alive)
      (subst (λ (e : EngineShape). Fits e.sheet c.args.decision) (sym c.self.view_is) c.requires.fits) (subst (λ (e : EngineShape). length e.sheet.tokens < 4200000000) (sym c.self.view_is) c.requires.few)
      (c.push_reserved.ensures.items ∙ ap (λ (l : List Decision). l ++ c.args.decision ∷ []) c.in_ok-reserve.ensures.items)
      (c.push_reserved-2.ensures.items ∙ (ap (λ (l : List ℕ). l ++ c.len-start.result ∷ []) c.in_ok-reserve-2.ensures.items
      ∙ ap (λ (n : ℕ). c.self.inside.starts.items ++ n ∷ []) (omega (arith, c.len-start.ensures, c.self.inside.steps.ok.0))))
      (mark_from _ _ _ _ _ c.in_ok-reserve-3.ensures.sheet c.in_ok-reserve-3.ensures.marks c.in_ok-state.ensures.marks)
      (led_applied _ _ _ _ _ _ c.args.decision _ _ c.in_ok-reserve-3.ensures.sheet c.in_ok-state.ensures.led) c.in_ok-state.ensures.settled;
  task = c.in_ok-state.ensures.task;
  users = c.self.invariant.users;
}

pub returns-clause-stands : goal.returns-clause-stands
returns-clause-stands g c =
    stands_decided _ _ c.args.decision _ _ _ _ _ _ _ c.self.invariant.stands (ap (λ (e : EngineShape). e.state) c.self.view_is ∙ c.requires.alive)
    (subst (λ (e : EngineShape). Fits e.sheet c.args.decision) (sym c.self.view_is) c.requires.fits) (subst (λ (e : EngineShape). length e.sheet.tokens < 4200000000) (sym c.self.view_is) c.requires.few)
    (c.push_reserved.ensures.items ∙ ap (λ (l : List Decision). l ++ c.args.decision ∷ []) c.in_ok-reserve.ensures.items)
    (c.push_reserved-2.ensures.items ∙ (ap (λ (l : List ℕ). l ++ c.len-start.result ∷ []) c.in_ok-reserve-2.ensures.items
    ∙ ap (λ (n : ℕ). c.self.inside.starts.items ++ n ∷ []) (omega (arith, c.len-start.ensures, c.self.inside.steps.ok.0))))
    (mark_from _ _ _ _ _ c.in_ok-reserve-3.ensures.sheet c.in_ok-reserve-3.ensures.marks c.in_ok-state.ensures.marks)
    (led_applied _ _ _ _ _ _ c.args.decision _ _ c.in_ok-reserve-3.ensures.sheet c.in_ok-state.ensures.led) c.in_ok-state.ensures.settled

pub returns-clause-ok : goal.returns-clause-ok
returns-clause-ok g c =
    decided_parts _ c.args.decision _ _ _ _ _ _ c.args.self.now c.self.view_is
    (c.push_reserved.ensures.items ∙ ap (λ (l : List Decision). l ++ c.args.decision ∷ []) c.in_ok-reserve.ensures.items)
    (c.push_reserved-2.ensures.items ∙ (ap (λ (l : List ℕ). l ++ c.len-start.result ∷ []) c.in_ok-reserve-2.ensures.items
    ∙ ap (λ (n : ℕ). c.self.inside.starts.items ++ n ∷ []) (omega (arith, c.len-start.ensures, c.self.inside.steps.ok.0))))
    (mark_from _ _ _ _ _ c.in_ok-reserve-3.ensures.sheet c.in_ok-reserve-3.ensures.marks c.in_ok-state.ensures.marks) (grown_of _ _ _ _ _ _ _ c.in_ok-state.ensures.led)

pub reserve-requires-3-clause-lent : goal.reserve-requires-3-clause-lent
reserve-requires-3-clause-lent g c = record { task = c.self.invariant.task; fits = c.self.invariant.stands.fits; formed = c.self.invariant.stands.reached.formed }

pub forward-requires-clause-lent : goal.forward-requires-clause-lent
forward-requires-clause-lent g c = record {
  task = c.in_ok-reserve-3.ensures.task ∙ c.self.invariant.task;
  fits = c.self.invariant.stands.fits;
  formed = subst (λ (z : Sheet). IsFormed c.self.inside.task.now z) (sym c.in_ok-reserve-3.ensures.sheet) c.self.invariant.stands.reached.formed;
}

pub forward-requires-clause-closed : goal.forward-requires-clause-closed
forward-requires-clause-closed g c =
    subst (λ (z : Sheet). IsSettledAs Alive g.R.Rule.covers c.self.inside.task.now c.self.inside.tables.now z) (sym c.in_ok-reserve-3.ensures.sheet)
    (stands_closed _ _ c.self.invariant.stands (ap (λ (e : EngineShape). e.state) c.self.view_is ∙ c.requires.alive))
