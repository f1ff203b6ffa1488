-- a token inserted behind the tokens of a list
use Rattle.std.proofs.Common.{◌≡◌, ℕ, suc, zero, ◌<◌, List, [], ◌∷◌, true, false, length, get_or, refl, ap, arith}
use Rattle.std.specs.Prelude.{insert}
use Rattle.cpt_sheet.specs.declared.data.Cand.{Cand}
use Rattle.cpt_sheet.specs.declared.data.Cand.TheVariants.{Tok, Out}
use Rattle.cpt_calculus.specs.Decisions.{behind_tokens}
use Rattle.cpt_calculus.specs.Places.{is_outside}

pub behind_at : (n : ℕ) (cs : List Cand) (i : ℕ) → i < length cs → ((k : ℕ) → k < i → is_outside (get_or cs k (Tok 0)) ≡ false) →
    is_outside (get_or cs i (Tok 0)) ≡ true → insert cs i (Tok n) ≡ behind_tokens n cs
behind_at n [] i l h e = absurd (omega arith)
behind_at n (Tok y ∷ cs) zero l h e = cc
behind_at n (Out a ∷ cs) zero l h e = refl
behind_at n (Tok y ∷ cs) (suc i) l h e = ap (λ z. Tok y ∷ z) (behind_at n cs i (omega arith) (λ k j. h (suc k) (omega arith)) e)
behind_at n (Out a ∷ cs) (suc i) l h e = let w = h 0 (omega arith) in cc

pub behind_end : (n : ℕ) (cs : List Cand) → ((k : ℕ) → k < length cs → is_outside (get_or cs k (Tok 0)) ≡ false) → insert cs (length cs) (Tok n) ≡ behind_tokens n cs
behind_end n [] h = refl
behind_end n (Tok y ∷ cs) h = ap (λ z. Tok y ∷ z) (behind_end n cs (λ k j. h (suc k) (omega arith)))
behind_end n (Out a ∷ cs) h = let w = h 0 (omega arith) in cc
