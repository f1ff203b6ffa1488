-- lists by a test, with an element more
use Rattle.std.proofs.Common.{◌≡◌, ℕ, suc, zero, ◌+◌, ◌≤◌, ◌<◌, List, [], ◌∷◌, ◌++◌, Bool, true, false, if◌then◌else◌, length, get_or, refl, sym, ◌∙◌, ap, arith, inl, inr, append_assoc}
use Rattle.std.specs.Prelude.{map}
use Rattle.cpt_sheet.specs.declared.data.Cand.{Cand}
use Rattle.cpt_sheet.specs.declared.data.Cand.TheVariants.{Tok, Out}
use Rattle.cpt_calculus.specs.Decisions.{behind_tokens}
use Rattle.std.proofs.lemmas.List.{append-nil}
use Rattle.cpt_layout.specs.Places.{table, kept, all_pairs, In}
use Rattle.cpt_layout.proofs.Lists.{either, if_true, if_false, append_in, in_table, kept_same, table_snoc, when}

module _ {X : Type 0} where
  when_append : (b : Bool) (x : X) (xs ys : List X) → when b x (xs ++ ys) ≡ when b x xs ++ ys
  when_append true x xs ys = refl
  when_append false x xs ys = refl

  when_last : (b : Bool) (x : X) (ys : List X) → ys ++ when b x [] ≡ (if b then ys ++ x ∷ [] else ys)
  when_last true x ys = refl
  when_last false x ys = append-nil ys

  pub kept_append : (f : X → Bool) (xs ys : List X) → kept f (xs ++ ys) ≡ kept f xs ++ kept f ys
  kept_append f [] ys = refl
  kept_append f (x ∷ xs) ys = ap (λ (zs : List X). when (f x) x zs) (kept_append f xs ys) ∙ when_append (f x) x (kept f xs) (kept f ys)

  pub kept_none : (f : X → Bool) (xs : List X) → ((x : X) → In x xs → f x ≡ false) → kept f xs ≡ []
  kept_none f [] h = refl
  kept_none f (x ∷ xs) h = if_false (f x) (x ∷ kept f xs) (kept f xs) (h x (inl refl)) ∙ kept_none f xs (λ y r. h y (inr r))

  pub kept_snoc : (f : X → Bool) (xs : List X) (x : X) → kept f (xs ++ x ∷ []) ≡ (if f x then kept f xs ++ x ∷ [] else kept f xs)
  kept_snoc f xs x = kept_append f xs (x ∷ []) ∙ when_last (f x) x (kept f xs)

module _ {X Y : Type 0} where
  pub map_table : (g : X → Y) (f : ℕ → X) (i n : ℕ) → map g (table f i n) ≡ table (λ j. g (f j)) i n
  map_table g f i zero = refl
  map_table g f i (suc n) = ap (λ (ys : List Y). g (f i) ∷ ys) (map_table g f (suc i) n)

module _ {Y : Type 0} where
  pub table_shift : (f : ℕ → Y) (i n : ℕ) → table f (suc i) n ≡ table (λ j. f (suc j)) i n
  table_shift f i zero = refl
  table_shift f i (suc n) = ap (λ (ys : List Y). f (suc i) ∷ ys) (table_shift f (suc i) n)

  pub map_get : (g : ℕ → Y) (ps : List ℕ) → map g ps ≡ table (λ j. g (get_or ps j 0)) 0 (length ps)
  map_get g [] = refl
  map_get g (p ∷ ps) = ap (λ (ys : List Y). g p ∷ ys) (map_get g ps ∙ sym (table_shift (λ (j : ℕ). g (get_or (p ∷ ps) j 0)) 0 (length ps)))

-- a token behind the tokens
behind_outs : (f : Cand → Bool) (n : ℕ) (bs : List ℕ) → behind_tokens n (kept f (map Out bs)) ≡ Tok n ∷ kept f (map Out bs)
behind_outs f n [] = refl
behind_outs f n (b ∷ bs) =
    elim (either (f (Out b))) [
      | inl e ↦
          (let q : kept f (map Out (b ∷ bs)) ≡ Out b ∷ kept f (map Out bs) = if_true (f (Out b)) (Out b ∷ kept f (map Out bs)) (kept f (map Out bs)) e in
          ap (λ (cs : List Cand). behind_tokens n cs) q ∙ ap (λ (cs : List Cand). Tok n ∷ cs) (sym q))
      | inr e ↦
          (let q : kept f (map Out (b ∷ bs)) ≡ kept f (map Out bs) = if_false (f (Out b)) (Out b ∷ kept f (map Out bs)) (kept f (map Out bs)) e in
          ap (λ (cs : List Cand). behind_tokens n cs) q ∙ (behind_outs f n bs ∙ ap (λ (cs : List Cand). Tok n ∷ cs) (sym q)))
    ]

pull : (b : Bool) (i : ℕ) (xs ys : List Cand) → when b (Tok i) xs ++ ys ≡ when b (Tok i) (xs ++ ys)
pull true i xs ys = refl
pull false i xs ys = refl

through : (b : Bool) (n i : ℕ) (cs : List Cand) → behind_tokens n (when b (Tok i) cs) ≡ when b (Tok i) (behind_tokens n cs)
through true n i cs = refl
through false n i cs = refl

behind_toks : (f : Cand → Bool) (n i m : ℕ) (os : List Cand) → behind_tokens n (kept f (table Tok i m) ++ os) ≡ kept f (table Tok i m) ++ behind_tokens n os
behind_toks f n i zero os = refl
behind_toks f n i (suc m) os =
    let rest : List Cand = kept f (table Tok (suc i) m) in
    ap (λ (cs : List Cand). behind_tokens n cs) (pull (f (Tok i)) i rest os)
    ∙ (through (f (Tok i)) n i (rest ++ os)
    ∙ (ap (λ (cs : List Cand). when (f (Tok i)) (Tok i) cs) (behind_toks f n (suc i) m os)
    ∙ sym (pull (f (Tok i)) i rest (behind_tokens n os))))

more_by : (f : Cand → Bool) (n : ℕ) (bs : List ℕ) (b : Bool) → (if b then kept f (table Tok 0 n) ++ Tok n ∷ [] else kept f (table Tok 0 n)) ++ kept f (map Out bs) ≡ (if b then behind_tokens n (kept f (table Tok 0 n) ++ kept f (map Out bs)) else kept f (table Tok 0 n) ++ kept f (map Out bs))
more_by f n bs true = append_assoc (kept f (table Tok 0 n)) (Tok n ∷ []) (kept f (map Out bs)) ∙ sym (behind_toks f n 0 n (kept f (map Out bs)) ∙ ap (λ (cs : List Cand). kept f (table Tok 0 n) ++ cs) (behind_outs f n bs))
more_by f n bs false = refl

-- with a token more
pub kept_more : (f g : Cand → Bool) (n : ℕ) (bs : List ℕ) → ((c : Cand) → In c (table Tok 0 n ++ map Out bs) → g c ≡ f c) →
    kept g (table Tok 0 (suc n) ++ map Out bs) ≡ (if g (Tok n) then behind_tokens n (kept f (table Tok 0 n ++ map Out bs)) else kept f (table Tok 0 n ++ map Out bs))
kept_more f g n bs h =
    let toks : List Cand = table Tok 0 n in
    let outs : List Cand = map Out bs in
    let z : 0 + n ≡ n = omega arith in
    let a : kept g toks ≡ kept f toks = kept_same f g toks (λ c r. h c (append_in c toks outs (inl r))) in
    let b : kept g outs ≡ kept f outs = kept_same f g outs (λ c r. h c (append_in c toks outs (inr r))) in
    let s : table Tok 0 (suc n) ≡ toks ++ Tok n ∷ [] = table_snoc Tok 0 n ∙ ap (λ (i : ℕ). toks ++ Tok i ∷ []) z in
    let l : kept g (table Tok 0 (suc n)) ≡ (if g (Tok n) then kept g toks ++ Tok n ∷ [] else kept g toks) = ap (λ (cs : List Cand). kept g cs) s ∙ kept_snoc g toks (Tok n) in
    let m : (if g (Tok n) then kept g toks ++ Tok n ∷ [] else kept g toks) ≡ (if g (Tok n) then kept f toks ++ Tok n ∷ [] else kept f toks) = ap (λ (cs : List Cand). if g (Tok n) then cs ++ Tok n ∷ [] else cs) a in
    kept_append g (table Tok 0 (suc n)) outs
    ∙ (ap (λ (cs : List Cand). cs ++ kept g outs) (l ∙ m)
    ∙ (ap (λ (cs : List Cand). (if g (Tok n) then kept f toks ++ Tok n ∷ [] else kept f toks) ++ cs) b
    ∙ (more_by f n bs (g (Tok n))
    ∙ ap (λ (cs : List Cand). if g (Tok n) then behind_tokens n cs else cs) (sym (kept_append f toks outs)))))

-- pairs with one number more, of which none is kept
abbrev row_of : ℕ → ℕ → ℕ × ℕ
row_of i y = (i, y)

row_more : (f g : ℕ × ℕ → Bool) (n i : ℕ) → ((y : ℕ) → y < n → f (i, y) ≡ g (i, y)) → f (i, n) ≡ false → kept f (table (row_of i) 0 (suc n)) ≡ kept g (table (row_of i) 0 n)
row_more f g n i h z =
    let e : 0 + n ≡ n = omega arith in
    ap (λ (os : List (ℕ × ℕ)). kept f os) (table_snoc (row_of i) 0 n ∙ ap (λ (y : ℕ). table (row_of i) 0 n ++ row_of i y ∷ []) e)
    ∙ (kept_snoc f (table (row_of i) 0 n) (row_of i n)
    ∙ (if_false (f (row_of i n)) (kept f (table (row_of i) 0 n) ++ row_of i n ∷ []) (kept f (table (row_of i) 0 n)) z
    ∙ kept_same g f (table (row_of i) 0 n) (λ o r. (let q = in_table (row_of i) 0 n o r in let b = q.2 in
    ap (λ (p : ℕ × ℕ). f p) (sym q.3) ∙ (h q.0 (omega arith) ∙ ap (λ (p : ℕ × ℕ). g p) q.3)))))

abbrev joined_pairs : List (ℕ × ℕ) → List (ℕ × ℕ) → List (ℕ × ℕ)
joined_pairs xs ys = xs ++ ys

pub pairs_more : (f g : ℕ × ℕ → Bool) (n i m : ℕ) → i + m ≡ n → ((x y : ℕ) → x < n → y < n → f (x, y) ≡ g (x, y)) → ((x : ℕ) → x ≤ n → f (x, n) ≡ false) → ((y : ℕ) → y ≤ n → f (n, y) ≡ false) →
    kept f (all_pairs (suc n) i (suc m)) ≡ kept g (all_pairs n i m)
pairs_more f g n i zero e h a b =
    let q : i ≡ n = omega arith in
    kept_append f (table (row_of i) 0 (suc n)) []
    ∙ ap (λ (os : List (ℕ × ℕ)). joined_pairs os []) (kept_none f (table (row_of i) 0 (suc n)) (λ o r. (let z = in_table (row_of i) 0 (suc n) o r in let l = z.2 in
    ap (λ (p : ℕ × ℕ). f p) (sym z.3) ∙ (ap (λ (j : ℕ). f (j, z.0)) q ∙ b z.0 (omega arith)))))
pairs_more f g n i (suc m) e h a b =
    kept_append f (table (row_of i) 0 (suc n)) (all_pairs (suc n) (suc i) (suc m))
    ∙ (ap (λ (os : List (ℕ × ℕ)). joined_pairs os (kept f (all_pairs (suc n) (suc i) (suc m)))) (row_more f g n i (λ y l. h i y (omega arith) l) (a i (omega arith)))
    ∙ (ap (λ (os : List (ℕ × ℕ)). joined_pairs (kept g (table (row_of i) 0 n)) os) (pairs_more f g n (suc i) m (omega arith) h a b)
    ∙ sym (kept_append g (table (row_of i) 0 n) (all_pairs n (suc i) m))))
