-- a table into which a row is put
use Rattle.std.proofs.Common.{◌≡◌, ℕ, zero, suc, ◌+◌, ◌-◌, ◌<◌, ◌≤◌, ◌==◌, true, List, [], ◌∷◌, ◌++◌, length, map, get_or, refl, ap, ◌∙◌, arith}
use Rattle.std.specs.List.{range_with_len}
use Rattle.std.proofs.lemmas.Bool.{and_parts, eqb-true}
use Rattle.std.proofs.lemmas.List.{same_lists, get_or_default}
use Rattle.std.proofs.lemmas.List.FromFn.{get_or-map-range_with_len, length-map-range_with_len, map-range_with_len_more}
use Rattle.cpt_task.specs.declared.span.Span.{Span}
use Rattle.cpt_task.specs.declared.span.Span.TheVariants.{Never}
use Rattle.cpt_task.specs.Shape.{TaskShape}
use Rattle.cpt_tables.specs.Shapes.{PairShape, DistShape, FitsPairs, FitsDists, pair_at, dist_at}
use Rattle.cpt_cert_form.specs.declared.forms.Version.{Version}
use Rattle.cpt_cert_form.specs.declared.forms.Run.{Run}
use Rattle.cpt_cert_form.specs.Text.{pair_row, dist_row}
use Rattle.cpt_cert_accept.specs.Reading.{values_of, is_form, is_row}
use Rattle.cpt_walk.specs.Puts.{PutsPairs, PutsDists}
use Rattle.cpt_sections.specs.Sections.{first_pair_rows, first_dist_rows}

-- what agrees on a range has the same values there
pub same_map : {X : Type 0} (f g : ℕ → X) (a n : ℕ) → ((i : ℕ) → a ≤ i → i < a + n → f i ≡ g i) → map f (range_with_len a n) ≡ map g (range_with_len a n)
same_map f g a zero h = refl
same_map f g a (suc n) h =
    ap (λ x. x ∷ map f (range_with_len (a + 1) n)) (h a (omega arith) (omega arith))
    ∙ ap (λ xs. g a ∷ xs) (same_map f g (a + 1) n (λ i l k. h i (omega (arith, l)) (omega (arith, k))))

-- the rows before the row put stay, and it follows them
pub next_pair_row : (old new : PairShape) (k : ℕ) (vs : List Span) → PutsPairs old new k k vs → k + length vs ≡ old.atoms → first_pair_rows new (k + 1) ≡ first_pair_rows old k ++ vs ∷ []
next_pair_row old new k vs puts fits =
    map-range_with_len_more (pair_row new) 0 k k (omega arith)
    ∙ ap (λ rows. rows ++ pair_row new k ∷ []) (same_map (pair_row new) (pair_row old) 0 k (λ r _ lt. earlier r (omega (arith, lt))))
    ∙ ap (λ row. first_pair_rows old k ++ row ∷ []) here
  where
    earlier : (r : ℕ) → r < k → pair_row new r ≡ pair_row old r
    earlier r lt =
        ap (λ n. map (λ q. pair_at new r q) (range_with_len r (n - r))) puts.size
        ∙ same_map (λ q. pair_at new r q) (λ q. pair_at old r q) r (old.atoms - r) (λ s le below. puts.others r s le (omega (arith, fits, lt, le, below)) (λ e _ _. omega (arith, e, lt)))

    wide : length (pair_row new k) ≡ length vs
    wide = length-map-range_with_len (λ q. pair_at new k q) k (new.atoms - k) ∙ (let size = puts.size in omega (arith, size, fits))

    here : pair_row new k ≡ vs
    here = same_lists (pair_row new k) vs wide (λ i d lt. placed i d (omega (arith, lt, wide)))
      where
        placed : (i : ℕ) (d : Span) → i < length vs → get_or (pair_row new k) i d ≡ get_or vs i d
        placed i d lt =
            get_or-map-range_with_len (λ q. pair_at new k q) k (new.atoms - k) i (k + i) d (let size = puts.size in omega (arith, size, fits, lt)) refl
            ∙ puts.here i lt ∙ get_or_default vs i Never d lt

pub next_dist_row : (old new : DistShape) (k : ℕ) (vs : List Span) → PutsDists old new k 0 vs → k < old.actions → length vs ≡ old.atoms → first_dist_rows new (k + 1) ≡ first_dist_rows old k ++ vs ∷ []
next_dist_row old new k vs puts act fits =
    map-range_with_len_more (dist_row new) 0 k k (omega arith)
    ∙ ap (λ rows. rows ++ dist_row new k ∷ []) (same_map (dist_row new) (dist_row old) 0 k (λ r _ lt. earlier r (omega (arith, lt))))
    ∙ ap (λ row. first_dist_rows old k ++ row ∷ []) here
  where
    earlier : (r : ℕ) → r < k → dist_row new r ≡ dist_row old r
    earlier r lt =
        ap (λ n. map (λ q. dist_at new r q) (range_with_len 0 n)) puts.atoms
        ∙ same_map (λ q. dist_at new r q) (λ q. dist_at old r q) 0 old.atoms (λ s _ below. puts.others r s (omega (arith, act, lt)) (omega (arith, below)) (λ e _ _. omega (arith, e, lt)))

    wide : length (dist_row new k) ≡ length vs
    wide = length-map-range_with_len (λ q. dist_at new k q) 0 new.atoms ∙ (let size = puts.atoms in omega (arith, size, fits))

    here : dist_row new k ≡ vs
    here = same_lists (dist_row new k) vs wide (λ i d lt. placed i d (omega (arith, lt, wide)))
      where
        placed : (i : ℕ) (d : Span) → i < length vs → get_or (dist_row new k) i d ≡ get_or vs i d
        placed i d lt =
            get_or-map-range_with_len (λ q. dist_at new k q) 0 new.atoms i (0 + i) d (let size = puts.atoms in omega (arith, size, fits, lt)) refl
            ∙ puts.here i lt ∙ get_or_default vs i Never d lt

-- the table keeps its size, and its values stay small
pub pairs_fit : (t : TaskShape) (old new : PairShape) (k q : ℕ) (vs : List Span) → FitsPairs t old → PutsPairs old new k q vs → FitsPairs t new
pairs_fit t old new k q vs fits puts = record { size = puts.size ∙ fits.size; small = puts.small fits.small }

pub dists_fit : (t : TaskShape) (old new : DistShape) (k q : ℕ) (vs : List Span) → FitsDists t old → PutsDists old new k q vs → FitsDists t new
dists_fit t old new k q vs fits puts = record { actions = puts.actions ∙ fits.actions; atoms = puts.atoms ∙ fits.atoms; small = puts.small fits.small }

-- so many values does a row have
pub row_count : (v : Version) (k : ℕ) (runs : List Run) → is_row v k runs ≡ true → length (values_of runs) ≡ k
row_count v k runs h = eqb-true (length (values_of runs)) k (and_parts (is_form v runs) (length (values_of runs) == k) h).1
