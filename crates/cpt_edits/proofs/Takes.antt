-- a candidate taken from the list at its place
use Rattle.std.proofs.Common.{◌≡◌, ℕ, suc, zero, ◌<◌, List, [], ◌∷◌, true, false, ◌==◌, if◌then◌else◌, length, set, get_or, slice_get, unwrap_or, refl, sym, ◌∙◌, ap, subst, arith}
use Rattle.cpt_sheet.specs.declared.data.Cand.{Cand}
use Rattle.cpt_sheet.specs.declared.data.Need.{Need}
use Rattle.cpt_sheet.specs.View.{no_need}
use Rattle.cpt_sheet.specs.Edits.{revised}

pub revised_at : (p : ℕ) (f : List Cand → List Cand) (ns : List Need) (i : ℕ) (n : Need) (cs : List Cand) → i < length ns →
    ((k : ℕ) → k < i → ((unwrap_or (slice_get ns k) no_need).atom == p) ≡ false) →
    n ≡ get_or ns i n → ((unwrap_or (slice_get ns i) no_need).atom == p) ≡ true → cs ≡ f n.cands →
    set ns i (record { atom = n.atom; cands = cs }) ≡ revised p f ns
revised_at p f [] i n cs l h e t w = absurd (omega arith)
revised_at p f (m ∷ ns) zero n cs l h e t w =
    let k : n ≡ m = e in
    let made : Need → List Cand → List Need = λ z y. record { atom = z.atom; cands = y } ∷ ns in
    ap (λ y. made n y) w ∙ (ap (λ z. made z (f z.cands)) k ∙
    sym (subst (λ b. (if b then (record m { cands = f m.cands } ∷ ns) else (m ∷ revised p f ns)) ≡ made m (f m.cands)) (sym t) refl))
revised_at p f (m ∷ ns) (suc i) n cs l h e t w =
    subst (λ b. (m ∷ set ns i (record { atom = n.atom; cands = cs })) ≡ (if b then (record m { cands = f m.cands } ∷ ns) else (m ∷ revised p f ns))) (sym (h 0 (omega arith)))
    (ap (λ z. m ∷ z) (revised_at p f ns i n cs (omega arith) (λ k j. h (suc k) (omega arith)) e t w))

pub not_there : (p : ℕ) (f : List Cand → List Cand) (ns : List Need) → ((k : ℕ) → k < length ns → ((unwrap_or (slice_get ns k) no_need).atom == p) ≡ false) → ns ≡ revised p f ns
not_there p f [] h = refl
not_there p f (m ∷ ns) h =
    subst (λ b. (m ∷ ns) ≡ (if b then (record m { cands = f m.cands } ∷ ns) else (m ∷ revised p f ns))) (sym (h 0 (omega arith)))
    (ap (λ z. m ∷ z) (not_there p f ns (λ k j. h (suc k) (omega arith))))
