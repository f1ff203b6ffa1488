-- The words of a line, and the line of words.
use Rattle.std.proofs.Common.{◌≡◌, ℕ, Bool, true, false, not, ◌&&◌, cond, eqb, List, [], ◌∷◌, ◌++◌, refl, sym, ap, ◌∙◌, append_assoc}
use Rattle.std.specs.List.{flat_map}
use Rattle.std.proofs.lemmas.Bool.{and_parts, not-true, eqb-true}
use Rattle.std.proofs.lemmas.List.{append-nil}
use Rattle.cpt_cert_form.specs.Forms.{joined}
use Rattle.cpt_cert_read.specs.Reading.{glue, words_in}

-- no space stands in it
abbrev pub is_solid : List ℕ → Bool
is_solid [] = true
is_solid (b ∷ bs) = not (eqb b 32) && is_solid bs

abbrev pub are_solid : List (List ℕ) → Bool
are_solid [] = true
are_solid (w ∷ ws) = is_solid w && are_solid ws

abbrev spaced : List (List ℕ) → List ℕ
spaced ws = flat_map (λ w. 32 ∷ w) ws

-- there is a first word
abbrev HasFirst : List (List ℕ) → Type 0
HasFirst ws = (w : List ℕ) × (vs : List (List ℕ)) × (ws ≡ w ∷ vs)

glue_first : (front : List ℕ) (ws : List (List ℕ)) → HasFirst (glue front ws)
glue_first front [] = (front, [], refl)
glue_first front (w ∷ ws) = (front ++ w, ws, refl)

words_first : (bs : List ℕ) → HasFirst (words_in bs)
words_first [] = ([], [], refl)
words_first (b ∷ bs) = by_test (eqb b 32)
  where
    by_test : (t : Bool) → HasFirst (cond t ([] ∷ words_in bs) (glue (b ∷ []) (words_in bs)))
    by_test true = ([], words_in bs, refl)
    by_test false = glue_first (b ∷ []) (words_in bs)

joined_glue : (front : List ℕ) (ws : List (List ℕ)) → joined (glue front ws) ≡ front ++ joined ws
joined_glue front [] = refl
joined_glue front (w ∷ ws) = append_assoc front w (spaced ws)

spaced_joined : (ws : List (List ℕ)) → HasFirst ws → spaced ws ≡ 32 ∷ joined ws
spaced_joined [] h = let e : [] ≡ h.0 ∷ h.1 = h.2 in absurd cc
spaced_joined (w ∷ ws) h = refl

-- the words of a line, joined, are the line
pub joined_words : (bs : List ℕ) → joined (words_in bs) ≡ bs
joined_words [] = refl
joined_words (b ∷ bs) = by_test (joined_words bs) (eqb b 32) refl
  where
    by_test : joined (words_in bs) ≡ bs → (t : Bool) → eqb b 32 ≡ t → joined (cond t ([] ∷ words_in bs) (glue (b ∷ []) (words_in bs))) ≡ b ∷ bs
    by_test more true e = spaced_joined (words_in bs) (words_first bs) ∙ ap (λ (x : List ℕ). 32 ∷ x) more ∙ ap (λ (x : ℕ). x ∷ bs) (sym (eqb-true b 32 e))
    by_test more false e = joined_glue (b ∷ []) (words_in bs) ∙ ap (λ (x : List ℕ). b ∷ x) more

glue_nothing : (ws : List (List ℕ)) → HasFirst ws → ws ≡ glue [] ws
glue_nothing [] h = let e : [] ≡ h.0 ∷ h.1 = h.2 in absurd cc
glue_nothing (w ∷ ws) h = refl

glue_more : (b : ℕ) (bs : List ℕ) (ws : List (List ℕ)) → glue (b ∷ []) (glue bs ws) ≡ glue (b ∷ bs) ws
glue_more b bs [] = refl
glue_more b bs (w ∷ ws) = refl

words_solid : (w rest : List ℕ) → is_solid w ≡ true → words_in (w ++ rest) ≡ glue w (words_in rest)
words_solid [] rest h = glue_nothing (words_in rest) (words_first rest)
words_solid (b ∷ bs) rest h =
    let p = and_parts (not (eqb b 32)) (is_solid bs) h in
    let n : eqb b 32 ≡ false = not-true (eqb b 32) p.0 in
    rw (n, words_solid bs rest p.1) (glue_more b bs (words_in rest))

-- words without spaces, joined, are the words of the line
pub words_joined : (w : List ℕ) (ws : List (List ℕ)) → are_solid (w ∷ ws) ≡ true → words_in (joined (w ∷ ws)) ≡ w ∷ ws
words_joined w [] h = words_solid w [] (and_parts (is_solid w) true h).0 ∙ ap (λ (x : List ℕ). x ∷ []) (append-nil w)
words_joined w (v ∷ vs) h =
    let p = and_parts (is_solid w) (are_solid (v ∷ vs)) h in
    words_solid w (spaced (v ∷ vs)) p.0 ∙ ap (λ (x : List (List ℕ)). glue w ([] ∷ x)) (words_joined v vs p.1) ∙ ap (λ (x : List ℕ). x ∷ v ∷ vs) (append-nil w)
