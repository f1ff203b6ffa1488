-- What a cut at a byte says of the words of a line.
use Rattle.std.proofs.Common.{◌≡◌, ℕ, Bool, true, false, cond, List, [], ◌∷◌, Option, None, Some, option_map, eqb, refl, ap, ◌∙◌}
use Rattle.cpt_cert_read.specs.Reading.{glue, words_in, cut}

abbrev longer : ℕ → List ℕ × List ℕ → List ℕ × List ℕ
longer b p = (b ∷ p.0, p.1)

some_step : (b : ℕ) (bs w r : List ℕ) (t : Bool) (o : Option (List ℕ × List ℕ)) → ((v s : List ℕ) → o ≡ Some (v, s) → words_in bs ≡ v ∷ words_in s) → cond t (Some ([], bs)) (option_map (longer b) o) ≡ Some (w, r) → cond t ([] ∷ words_in bs) (glue (b ∷ []) (words_in bs)) ≡ w ∷ words_in r
some_step b bs w r true o more e =
    let p : ([], bs) ≡ (w, r) = cc in
    ap (λ (x : List ℕ × List ℕ). x.0 ∷ words_in x.1) p
some_step b bs w r false None more e = absurd cc
some_step b bs w r false (Some q) more e =
    let p : (b ∷ q.0, q.1) ≡ (w, r) = cc in
    ap (glue (b ∷ [])) (more q.0 q.1 refl) ∙ ap (λ (x : List ℕ × List ℕ). x.0 ∷ words_in x.1) p

-- a word before the first space, and the words behind it
pub cut_first : (bs w r : List ℕ) → cut 32 bs ≡ Some (w, r) → words_in bs ≡ w ∷ words_in r
cut_first [] w r e = absurd cc
cut_first (b ∷ bs) w r e = some_step b bs w r (eqb b 32) (cut 32 bs) (cut_first bs) e

none_step : (b : ℕ) (bs : List ℕ) (t : Bool) (o : Option (List ℕ × List ℕ)) → (o ≡ None → words_in bs ≡ bs ∷ []) → cond t (Some ([], bs)) (option_map (longer b) o) ≡ None → cond t ([] ∷ words_in bs) (glue (b ∷ []) (words_in bs)) ≡ (b ∷ bs) ∷ []
none_step b bs true o more e = absurd cc
none_step b bs false None more e = ap (glue (b ∷ [])) (more refl)
none_step b bs false (Some q) more e = absurd cc

-- one word, where there is no space
pub cut_none : (bs : List ℕ) → cut 32 bs ≡ None → words_in bs ≡ bs ∷ []
cut_none [] e = refl
cut_none (b ∷ bs) e = none_step b bs (eqb b 32) (cut 32 bs) (cut_none bs) e
