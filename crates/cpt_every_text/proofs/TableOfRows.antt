-- rows of the right lengths are those of a table
use Rattle.std.proofs.Common.{◌≡◌, ℕ, zero, suc, ◌+◌, ◌-◌, ◌*◌, ◌<◌, ◌≤◌, ◌⊎◌, max, min, inl, inr, List, [], ◌∷◌, ◌++◌, length, map, get_or, replicate, All, refl, sym, ap, subst, ◌∙◌, arith, length-append}
use Rattle.std.specs.List.{range_with_len}
use Rattle.std.proofs.Math.Nat.{suc-mul}
use Rattle.std.proofs.lemmas.Bool.{cases_lt}
use Rattle.std.proofs.lemmas.List.{get_or_append_left, get_or-append_right, get_or_default, same_lists}
use Rattle.std.proofs.lemmas.List.Elements.{All-nil, All-head, All-tail, All-append, All-replicate}
use Rattle.std.proofs.lemmas.List.FromFn.{get_or-map-range_with_len, length-map-range_with_len}
use Rattle.cpt_task.specs.declared.span.Span.{Span}
use Rattle.cpt_task.specs.declared.span.Span.TheVariants.{At, Never}
use Rattle.cpt_task.specs.Shape.{TaskShape}
use Rattle.cpt_tables.specs.Spans.{IsBelow}
use Rattle.cpt_tables.specs.Shapes.{PairShape, DistShape, row_start, pair_at, dist_at, IsSmallPairs, IsSmallDists}
use Rattle.cpt_tables.proofs.PlaceLemmas.{row_before, row_next, pair_exchanged}
use Rattle.cpt_cert_form.specs.declared.forms.Run.{Run}
use Rattle.cpt_cert_form.specs.Forms.{IsRun, IsRowSpan}
use Rattle.cpt_cert_form.specs.Text.{pair_row, dist_row}
use Rattle.cpt_cert_accept.specs.Reading.{values_of, pair_rows, dist_rows, IsPairsOf, IsDistsOf}

-- a value of a row
abbrev pub IsSmall : Span → Type 0
IsSmall v = IsBelow 1000000000000000 v

row_span_small : (v : Span) → IsRowSpan v → IsSmall v
row_span_small (At n) h = omega (arith, h)
row_span_small Never h = tt

pub values_small : (runs : List Run) → All IsRun runs → All IsSmall (values_of runs)
values_small [] h = All-nil IsSmall
values_small (run ∷ runs) h =
    All-append IsSmall (replicate run.count run.value) (values_of runs) (All-replicate IsSmall run.count run.value (row_span_small run.value (All-head IsRun run runs h).value)) (values_small runs (All-tail IsRun run runs h))

small_at : (vs : List Span) → All IsSmall vs → (i : ℕ) → IsSmall (get_or vs i Never)
small_at [] h i = tt
small_at (v ∷ vs) h zero = All-head IsSmall v vs h
small_at (v ∷ vs) h (suc i) = small_at vs (All-tail IsSmall v vs h) i

-- rows of small values, each a value shorter than the one before it, and the last one with one value
abbrev pub IsTriangle : ℕ → List (List Span) → Type 0
IsTriangle zero [] = Unit {0}
IsTriangle zero (r ∷ rs) = ⊥
IsTriangle (suc k) [] = ⊥
IsTriangle (suc k) (r ∷ rs) = (length r ≡ suc k) × All IsSmall r × IsTriangle k rs

-- so many rows of small values, each of one length
abbrev pub IsSquare : ℕ → ℕ → List (List Span) → Type 0
IsSquare w zero [] = Unit {0}
IsSquare w zero (r ∷ rs) = ⊥
IsSquare w (suc k) [] = ⊥
IsSquare w (suc k) (r ∷ rs) = (length r ≡ w) × All IsSmall r × IsSquare w k rs

triangle_long : (k : ℕ) (rows : List (List Span)) → IsTriangle k rows → length rows ≡ k
triangle_long zero [] h = refl
triangle_long zero (r ∷ rs) h = absurd h
triangle_long (suc k) [] h = absurd h
triangle_long (suc k) (r ∷ rs) h = ap suc (triangle_long k rs h.2)

triangle_row : (k : ℕ) (rows : List (List Span)) (p : ℕ) (d : List Span) → IsTriangle k rows → p < k → length (get_or rows p d) ≡ k - p
triangle_row zero rows p d h lt = absurd (omega (arith, lt))
triangle_row (suc k) [] p d h lt = absurd h
triangle_row (suc k) (r ∷ rs) zero d h lt = h.0 ∙ omega arith
triangle_row (suc k) (r ∷ rs) (suc p) d h lt = triangle_row k rs p d h.2 (omega (arith, lt)) ∙ omega arith

triangle_small : (k : ℕ) (rows : List (List Span)) (p : ℕ) → IsTriangle k rows → All IsSmall (get_or rows p [])
triangle_small zero [] p h = All-nil IsSmall
triangle_small zero (r ∷ rs) p h = absurd h
triangle_small (suc k) [] p h = absurd h
triangle_small (suc k) (r ∷ rs) zero h = h.1
triangle_small (suc k) (r ∷ rs) (suc p) h = triangle_small k rs p h.2

square_long : (w k : ℕ) (rows : List (List Span)) → IsSquare w k rows → length rows ≡ k
square_long w zero [] h = refl
square_long w zero (r ∷ rs) h = absurd h
square_long w (suc k) [] h = absurd h
square_long w (suc k) (r ∷ rs) h = ap suc (square_long w k rs h.2)

square_row : (w k : ℕ) (rows : List (List Span)) (p : ℕ) (d : List Span) → IsSquare w k rows → p < k → length (get_or rows p d) ≡ w
square_row w zero rows p d h lt = absurd (omega (arith, lt))
square_row w (suc k) [] p d h lt = absurd h
square_row w (suc k) (r ∷ rs) zero d h lt = h.0
square_row w (suc k) (r ∷ rs) (suc p) d h lt = square_row w k rs p d h.2 (omega (arith, lt))

square_small : (w k : ℕ) (rows : List (List Span)) (p : ℕ) → IsSquare w k rows → All IsSmall (get_or rows p [])
square_small w zero [] p h = All-nil IsSmall
square_small w zero (r ∷ rs) p h = absurd h
square_small w (suc k) [] p h = absurd h
square_small w (suc k) (r ∷ rs) zero h = h.1
square_small w (suc k) (r ∷ rs) (suc p) h = square_small w k rs p h.2

-- the value of two atoms in rows, the lesser one first
cell : List (List Span) → ℕ → ℕ → Span
cell rows p q = get_or (get_or rows p []) (q - p) Never

-- the values of a table with these rows
columns : List (List Span) → ℕ → List Span
columns rows zero = []
columns rows (suc q) = columns rows q ++ map (λ p. cell rows p q) (range_with_len 0 (suc q))

columns_long : (rows : List (List Span)) (n : ℕ) → length (columns rows n) ≡ row_start n
unfolding columns
columns_long rows zero = refl
columns_long rows (suc q) =
    let next = row_next q in
    let both = length-append (columns rows q) (map (λ p. cell rows p q) (range_with_len 0 (suc q))) in
    let last = length-map-range_with_len (λ p. cell rows p q) 0 (suc q) in
    let first = columns_long rows q in
    omega (arith, next, both, last, first)

column_at : (rows : List (List Span)) (n p q : ℕ) → p ≤ q → q < n → get_or (columns rows n) (row_start q + p) Never ≡ cell rows p q
unfolding columns
column_at rows zero p q le lt = absurd (omega (arith, lt))
column_at rows (suc n) p q le lt = go (cases_lt q n) (λ l. column_at rows n p q le l)
  where
    last : List Span
    last = map (λ r. cell rows r n) (range_with_len 0 (suc n))

    go : ((q < n) ⊎ (n ≤ q)) → (q < n → get_or (columns rows n) (row_start q + p) Never ≡ cell rows p q) → get_or (columns rows n ++ last) (row_start q + p) Never ≡ cell rows p q
    go (inl l) earlier = get_or_append_left (columns rows n) last Never (row_start q + p) (let long = columns_long rows n in let before = row_before q n l in omega (arith, long, before, le)) ∙ earlier l
    go (inr m) earlier =
        let e : q ≡ n = omega (arith, m, lt) in
        let same : row_start q ≡ row_start n = ap row_start e in
        get_or-append_right (columns rows n) last (row_start n) (row_start q + p) Never (columns_long rows n) (omega (arith, same))
        ∙ get_or-map-range_with_len (λ r. cell rows r n) 0 (suc n) ((row_start q + p) - row_start n) p Never (omega (arith, same, le, e)) (omega (arith, same))
        ∙ ap (cell rows p) (sym e)

pair_in_order : (h : PairShape) (p q : ℕ) → p ≤ q → pair_at h p q ≡ get_or h.values (row_start q + p) Never
pair_in_order h p q le =
    let most : max p q ≡ q = omega (arith, le) in
    let least : min p q ≡ p = omega (arith, le) in
    ap (λ k. get_or h.values k Never) (ap (λ m. row_start m + min p q) most ∙ ap (λ m. row_start q + m) least)

module _ (n : ℕ) (rows : List (List Span)) (is : IsTriangle n rows) where
  pairs_from : PairShape
  pairs_from = record { atoms = n; values = columns rows n }

  pair_cell : (p q : ℕ) → p ≤ q → q < n → pair_at pairs_from p q ≡ cell rows p q
  unfolding pairs_from
  pair_cell p q le lt = pair_in_order pairs_from p q le ∙ column_at rows n p q le lt

  pair_row_is : (p : ℕ) (d : List Span) → p < n → pair_row pairs_from p ≡ get_or rows p d
  unfolding pairs_from cell
  pair_row_is p d lt = same_lists (pair_row pairs_from p) (get_or rows p d) (wide ∙ sym (triangle_row n rows p d is lt)) (λ i e l. at i e (omega (arith, l, wide)))
    where
      wide : length (pair_row pairs_from p) ≡ n - p
      wide = length-map-range_with_len (λ q. pair_at pairs_from p q) p (n - p)

      at : (i : ℕ) (e : Span) → i < n - p → get_or (pair_row pairs_from p) i e ≡ get_or (get_or rows p d) i e
      at i e l =
          get_or-map-range_with_len (λ q. pair_at pairs_from p q) p (n - p) i (p + i) e l refl
          ∙ pair_cell p (p + i) (omega arith) (omega (arith, l))
          ∙ ap (λ k. get_or (get_or rows p []) k Never) (let k : (p + i) - p ≡ i = omega arith in k)
          ∙ ap (λ r. get_or r i Never) (get_or_default rows p [] d (let long = triangle_long n rows is in omega (arith, long, lt)))
          ∙ get_or_default (get_or rows p d) i Never e (let long = triangle_row n rows p d is lt in omega (arith, long, l))

  pub pairs_of_rows : (t : TaskShape) → n ≡ length t.atoms → (h : PairShape) × IsPairsOf t rows h
  unfolding pairs_from cell
  pairs_of_rows t size = (pairs_from, record { whole = columns_long rows n; fits = record { size = size; small = small }; same = same })
    where
      sorted : (p q : ℕ) → p < n → q < n → ((p < q) ⊎ (q ≤ p)) → IsSmall (pair_at pairs_from p q)
      sorted p q lp lq (inl l) = subst IsSmall (sym (pair_cell p q (omega (arith, l)) lq)) (small_at (get_or rows p []) (triangle_small n rows p is) (q - p))
      sorted p q lp lq (inr m) = subst IsSmall (sym (pair_exchanged pairs_from p q ∙ pair_cell q p m lp)) (small_at (get_or rows q []) (triangle_small n rows q is) (p - q))

      small : IsSmallPairs pairs_from
      small p q lp lq = sorted p q lp lq (cases_lt p q)

      wide : length (pair_rows pairs_from) ≡ n
      wide = length-map-range_with_len (pair_row pairs_from) 0 n

      same : rows ≡ pair_rows pairs_from
      same = sym (same_lists (pair_rows pairs_from) rows (wide ∙ sym (triangle_long n rows is))
          (λ k d l. get_or-map-range_with_len (pair_row pairs_from) 0 n k k d (omega (arith, l, wide)) (omega arith) ∙ pair_row_is k d (omega (arith, l, wide))))

-- the values of rows, one row behind the other
laid : List (List Span) → List Span
laid [] = []
laid (r ∷ rs) = r ++ laid rs

laid_long : (w k : ℕ) (rows : List (List Span)) → IsSquare w k rows → length (laid rows) ≡ k * w
unfolding laid
laid_long w zero [] h = omega arith
laid_long w zero (r ∷ rs) h = absurd h
laid_long w (suc k) [] h = absurd h
laid_long w (suc k) (r ∷ rs) h =
    let both = length-append r (laid rs) in
    let one = h.0 in
    let more = laid_long w k rs h.2 in
    let next = suc-mul k w in
    omega (arith, both, one, more, next)

laid_at : (w k : ℕ) (rows : List (List Span)) → IsSquare w k rows → (a p : ℕ) → a < k → p < w → get_or (laid rows) (a * w + p) Never ≡ get_or (get_or rows a []) p Never
unfolding laid
laid_at w zero rows h a p la lp = absurd (omega (arith, la))
laid_at w (suc k) [] h a p la lp = absurd h
laid_at w (suc k) (r ∷ rs) h zero p la lp =
    let one = h.0 in ap (λ z. get_or (r ++ laid rs) z Never) (omega arith) ∙ get_or_append_left r (laid rs) Never p (omega (arith, one, lp))
laid_at w (suc k) (r ∷ rs) h (suc a) p la lp =
    let next = suc-mul a w in
    get_or-append_right r (laid rs) w (suc a * w + p) Never h.0 (omega (arith, next))
    ∙ ap (λ z. get_or (laid rs) z Never) (omega (arith, next))
    ∙ laid_at w k rs h.2 a p (omega (arith, la)) lp

module _ (w k : ℕ) (rows : List (List Span)) (is : IsSquare w k rows) where
  dists_from : DistShape
  dists_from = record { actions = k; atoms = w; values = laid rows }

  dist_row_is : (a : ℕ) (d : List Span) → a < k → dist_row dists_from a ≡ get_or rows a d
  unfolding dists_from
  dist_row_is a d lt = same_lists (dist_row dists_from a) (get_or rows a d) (wide ∙ sym (square_row w k rows a d is lt)) (λ i e l. at i e (omega (arith, l, wide)))
    where
      wide : length (dist_row dists_from a) ≡ w
      wide = length-map-range_with_len (λ p. dist_at dists_from a p) 0 w

      at : (i : ℕ) (e : Span) → i < w → get_or (dist_row dists_from a) i e ≡ get_or (get_or rows a d) i e
      at i e l =
          get_or-map-range_with_len (λ p. dist_at dists_from a p) 0 w i i e l (omega arith)
          ∙ laid_at w k rows is a i lt l
          ∙ ap (λ r. get_or r i Never) (get_or_default rows a [] d (let long = square_long w k rows is in omega (arith, long, lt)))
          ∙ get_or_default (get_or rows a d) i Never e (let long = square_row w k rows a d is lt in omega (arith, long, l))

  pub dists_of_rows : (t : TaskShape) → k ≡ length t.actions → w ≡ length t.atoms → (d : DistShape) × IsDistsOf t rows d
  unfolding dists_from
  dists_of_rows t actions atoms = (dists_from, record { whole = laid_long w k rows is; fits = record { actions = actions; atoms = atoms; small = small }; same = same })
    where
      small : IsSmallDists dists_from
      small a p la lp = subst IsSmall (sym (laid_at w k rows is a p la lp)) (small_at (get_or rows a []) (square_small w k rows a is) p)

      wide : length (dist_rows dists_from) ≡ k
      wide = length-map-range_with_len (dist_row dists_from) 0 k

      same : rows ≡ dist_rows dists_from
      same = sym (same_lists (dist_rows dists_from) rows (wide ∙ sym (square_long w k rows is))
          (λ a d l. get_or-map-range_with_len (dist_row dists_from) 0 k a a d (omega (arith, l, wide)) (omega arith) ∙ dist_row_is a d (omega (arith, l, wide))))
