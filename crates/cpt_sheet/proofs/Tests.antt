-- facts that tests give
use Rattle.std.proofs.Common.{◌≡◌, ℕ, Bool, true, false, IsTrue, ◌↔◌, MatchBool, refl, sym, subst}
use Rattle.cpt_task.specs.declared.task.Action.{Action}
use Rattle.cpt_task.specs.Interference.{Interferes}
use Rattle.cpt_task.specs.Shape.{TaskShape}
use Rattle.cpt_tables.specs.Admissible.{nth_action}
use Rattle.cpt_sheet.specs.declared.data.Kind.{Kind}
use Rattle.cpt_sheet.specs.Roles.{Clash, Interfere}

pub clash_match : (t : TaskShape) (i j : ℕ) (r : Bool) (a b : Action) → a ≡ nth_action t i → b ≡ nth_action t j → (IsTrue r ↔ Interferes a b) → MatchBool r (Interfere t i j) (Interfere t i j → ⊥)
clash_match t i j true a b e f h = record { interfere = subst (λ (z : Action). Interferes z (nth_action t j)) e (subst (λ (z : Action). Interferes a z) f (h.0 refl)) }
clash_match t i j false a b e f h = λ k. let w = h.1 (subst (λ (z : Action). Interferes z b) (sym e) (subst (λ (z : Action). Interferes (nth_action t i) z) (sym f) k.interfere)) in cc

pub clash_kinds : (t : TaskShape) (r : Bool) (j k m n : Kind) → m ≡ j → n ≡ k → MatchBool r (Clash t j k) (Clash t j k → ⊥) → MatchBool r (Clash t m n) (Clash t m n → ⊥)
clash_kinds t r j k m n e f h =
    subst (λ (z : Kind). MatchBool r (Clash t z n) (Clash t z n → ⊥)) (sym e) (subst (λ (z : Kind). MatchBool r (Clash t j z) (Clash t j z → ⊥)) (sym f) h)

-- a test of one fact is a test of another that comes to the same
pub match_more : (r : Bool) (P Q : Type 0) → (P → Q) → (Q → P) → MatchBool r P (P → ⊥) → MatchBool r Q (Q → ⊥)
match_more true P Q f g h = f h
match_more false P Q f g h = λ q. h (g q)

-- a test of a value is a test of an equal one
pub match_along : {X : Type 0} (P : X → Type 0) (r : Bool) (a b : X) → a ≡ b → MatchBool r (P a) (P a → ⊥) → MatchBool r (P b) (P b → ⊥)
match_along P r a b e h = subst (λ z. MatchBool r (P z) (P z → ⊥)) e h
