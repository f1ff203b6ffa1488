use Rattle.std.proofs.Common.{◌≡◌, refl, ℕ, ◌-◌, sym, ap, ◌∙◌, arith, length, take, vec_len}
use Rattle.cpt_engine.specs.Engines.{EngineShape}
use Rattle.cpt_engine.proofs.EngineLemmas.{none_standing, no_starts, unchanged, count_marks, stands_retracted, retracted_of}
use Rattle.cpt_engine.proofs.engine.Engine.retract.Goals as goal

pub undo_to-requires : goal.undo_to-requires
undo_to-requires g c = count_marks _ _ _ _ _ c.self.invariant.stands c.in-Some.ensures.items (omega (arith, c.len.ensures, c.pop.new.self.ok.0))

pub invariant_of-self-2 : goal.invariant_of-self-2
invariant_of-self-2 g c = record {
  stands = let n : vec_len c.self.inside.decisions ≡ length c.self.inside.decisions.items = omega (arith, c.self.inside.decisions.ok.0) in
      stands_retracted _ _ _ _ _ _ c.self.inside.store c.undo_to.new.self _ _ c.self.invariant.stands c.in-Some.ensures.items
      (c.pop-2.ensures.rest ∙ ap (λ (k : ℕ). take (k - 1) c.self.inside.decisions.items) n) c.truncate.ensures.items refl c.undo_to.ensures.back;
  task = c.undo_to.ensures.back.task ∙ c.self.invariant.task;
  users = c.self.invariant.users;
}

pub returns-clause-stands : goal.returns-clause-stands
returns-clause-stands g c =
    let n : vec_len c.self.inside.decisions ≡ length c.self.inside.decisions.items = omega (arith, c.self.inside.decisions.ok.0) in
    stands_retracted _ _ _ _ _ _ c.self.inside.store c.undo_to.new.self _ _ c.self.invariant.stands c.in-Some.ensures.items
    (c.pop-2.ensures.rest ∙ ap (λ (k : ℕ). take (k - 1) c.self.inside.decisions.items) n) c.truncate.ensures.items refl c.undo_to.ensures.back

pub returns-clause-some : goal.returns-clause-some
returns-clause-some g c =
    let n : vec_len c.self.inside.decisions ≡ length c.self.inside.decisions.items = omega (arith, c.self.inside.decisions.ok.0) in
    λ _. retracted_of _ _ _ _ _ _ _ c.self.inside.store c.undo_to.new.self _ _ c.self.invariant.stands c.in-Some.ensures.items c.self.view_is
    (c.pop-2.ensures.rest ∙ ap (λ (k : ℕ). take (k - 1) c.self.inside.decisions.items) n) c.truncate.ensures.items refl c.undo_to.ensures.back

pub returns-in-None-clause-none : goal.returns-in-None-clause-none
returns-in-None-clause-none g c =
    let p = no_starts c.self.inside.starts.items c.pop.new.self.items (vec_len c.self.inside.starts) c.in-None.ensures.items c.in-None.ensures.cases.0 (omega (arith, c.self.inside.starts.ok.0)) in
    λ _. (ap (λ (e : EngineShape). e.decisions) (sym c.self.view_is) ∙ none_standing _ _ c.self.invariant.stands p.0, unchanged _ c.args.self.now c.pop.new.self.items c.self.view_is p.1)
