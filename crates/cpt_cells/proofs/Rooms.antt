-- there is room for each entry
use Rattle.std.proofs.Common.{◌≡◌, ◌≢◌, ℕ, suc, ◌+◌, ◌≤◌, ◌<◌, List, [], ◌∷◌, ◌++◌, Bool, true, false, if◌then◌else◌, length, refl, sym, ◌∙◌, subst, arith, inl, inr}
use Rattle.std.specs.Prelude.{nat_eq, nat_lt, not, ◌&&◌, ◌||◌}
use Rattle.std.specs.List.{IsDistinct, AllByRecursion}
use Rattle.std.proofs.lemmas.Bool.{true≢false, false≢true, eqb-true, eqb-false, or_cases, ltb-true}
use Rattle.std.proofs.lemmas.List.{length-append}
use Rattle.std.proofs.lemmas.List.Folds.{list_any-append}
use Rattle.std.proofs.lemmas.Map.Steps.{length-le_from_distinct_below}
use Rattle.cpt_task.specs.Timeline.{is_in}
use Rattle.cpt_trail.specs.Trails.{Mark, is_unkept, keeps, with_kept, entries_of}
use Rattle.cpt_trail.proofs.Undoing.{entries_of-last}
use Rattle.cpt_layout.proofs.Lists.{either}
use Rattle.cpt_cells.specs.Marks.{IsOnce, AreOnce, HasRoom}

or_false : (a b : Bool) → (a || b) ≡ false → (a ≡ false) × (b ≡ false)
or_false true b h = absurd (true≢false h)
or_false false b h = (refl, h)

ne-eqb : (a b : ℕ) → a ≢ b → nat_eq a b ≡ false
ne-eqb a b h = elim (either (nat_eq a b)) [ inl t ↦ absurd (h (eqb-true a b t)) | inr f ↦ f ]

apart : (c : ℕ) (xs : List ℕ) → is_in c xs ≡ false → AllByRecursion (λ y. nat_eq c y ≡ false) xs
apart c [] h = tt
apart c (x ∷ xs) h = (let k = or_false (nat_eq c x) (is_in c xs) h in (k.0, apart c xs k.1))

apart_snoc : (x c : ℕ) (xs : List ℕ) → AllByRecursion (λ y. nat_eq x y ≡ false) xs → x ≢ c → AllByRecursion (λ y. nat_eq x y ≡ false) (xs ++ c ∷ [])
apart_snoc x c [] h d = (ne-eqb x c d, tt)
apart_snoc x c (y ∷ xs) h d = (h.0, apart_snoc x c xs h.1 d)

distinct_snoc : (c : ℕ) (xs : List ℕ) → IsDistinct nat_eq xs → is_in c xs ≡ false → IsDistinct nat_eq (xs ++ c ∷ [])
unfolding IsDistinct
distinct_snoc c [] h n = (tt, tt)
distinct_snoc c (x ∷ xs) h n = (let k = or_false (nat_eq c x) (is_in c xs) n in (apart_snoc x c xs h.0 (λ e. eqb-false c x k.0 (sym e)), distinct_snoc c xs h.1 k.1))

not_in : (a b : Bool) → (a && not b) ≡ true → (a ≡ true) × (b ≡ false)
not_in true true h = absurd (false≢true h)
not_in true false h = (refl, refl)
not_in false b h = absurd (false≢true h)

few : (c : ℕ) (m : Mark) → IsOnce m → is_unkept c m ≡ true → suc (length m.kept) ≤ length m.cells
unfolding IsDistinct
few c m h k =
    let d = not_in (nat_lt c (length m.cells)) (is_in c m.kept) k in
    let l : c < length m.cells = ltb-true c (length m.cells) d.0 in
    length-le_from_distinct_below (c ∷ m.kept) (length m.cells) (apart c m.kept d.1, h.0)
    (λ q r. elim (or_cases (nat_eq q c) (is_in q m.kept) r) [ inl e ↦ (let z : q ≡ c = eqb-true q c e in omega arith) | inr i ↦ h.1 q i ])

-- where a write keeps an entry, there is room for it
pub room_there : (r c : ℕ) (ms : List Mark) → AreOnce ms → HasRoom r ms → keeps c ms ≡ true → 0 < r
room_there r c [] h g k = absurd (false≢true k)
room_there r c (m ∷ []) h g k = (let f = few c m h.0 k in let l = g.0 in omega arith)
room_there r c (m ∷ (n ∷ ms)) h g k = room_there r c (n ∷ ms) h.1 g.1 k

or_none : (b : Bool) → (b || false) ≡ true → b ≡ true
or_none true h = refl
or_none false h = h

once_kept : (c : ℕ) (m : Mark) → IsOnce m → is_unkept c m ≡ true → IsOnce (record m { kept = m.kept ++ c ∷ [] })
once_kept c m h k =
    let d = not_in (nat_lt c (length m.cells)) (is_in c m.kept) k in
    let l : c < length m.cells = ltb-true c (length m.cells) d.0 in (
      distinct_snoc c m.kept h.0 d.1,
      λ q r. elim (or_cases (is_in q m.kept) (nat_eq q c || false) (sym (list_any-append (nat_eq q) m.kept (c ∷ [])) ∙ r)) [
        | inl i ↦ h.1 q i
        | inr e ↦ (let z : q ≡ c = eqb-true q c (or_none (nat_eq q c) e) in omega arith)
      ],
    )

once_with : (c : ℕ) (ms : List Mark) → AreOnce ms → keeps c ms ≡ true → AreOnce (with_kept c ms)
once_with c [] h k = tt
once_with c (m ∷ []) h k = (once_kept c m h.0 k, tt)
once_with c (m ∷ (n ∷ ms)) h k = (h.0, once_with c (n ∷ ms) h.1 k)

abbrev pub written_to : ℕ → Bool → List Mark → List Mark
written_to c b ms = if b then with_kept c ms else ms

pub once_if : (c : ℕ) (ms : List Mark) → AreOnce ms → AreOnce (if keeps c ms then with_kept c ms else ms)
once_if c ms h = elim (either (keeps c ms)) [
  | inl t ↦ subst (λ (b : Bool). AreOnce (written_to c b ms)) (sym t) (once_with c ms h t)
  | inr f ↦ subst (λ (b : Bool). AreOnce (written_to c b ms)) (sym f) h
]

entries_with : (c : ℕ) (ms : List Mark) → keeps c ms ≡ true → entries_of (with_kept c ms) ≡ entries_of ms + 1
entries_with c [] k = absurd (false≢true k)
entries_with c (m ∷ []) k = (let l = length-append m.kept (c ∷ []) in omega arith)
entries_with c (m ∷ (n ∷ ms)) k = (let e = entries_with c (n ∷ ms) k in omega arith)

room_with : (r r' c : ℕ) (ms : List Mark) → r' + 1 ≡ r → keeps c ms ≡ true → HasRoom r ms → HasRoom r' (with_kept c ms)
room_with r r' c [] e k h = tt
room_with r r' c (m ∷ []) e k h = ((let g = h.0 in let l = length-append m.kept (c ∷ []) in omega arith), tt)
room_with r r' c (m ∷ (n ∷ ms)) e k h = ((let g = h.0 in let l = entries_with c (n ∷ ms) k in omega arith), room_with r r' c (n ∷ ms) e k h.1)

pub room_if : (r r' c : ℕ) (ms : List Mark) → r' + (if keeps c ms then 1 else 0) ≡ r → HasRoom r ms → HasRoom r' (if keeps c ms then with_kept c ms else ms)
room_if r r' c ms e h = elim (either (keeps c ms)) [
  | inl t ↦
      (let k : r' + 1 ≡ r = subst (λ (b : Bool). r' + (if b then 1 else 0) ≡ r) t e in
      subst (λ (b : Bool). HasRoom r' (written_to c b ms)) (sym t) (room_with r r' c ms k t h))
  | inr f ↦
      (let k : r' + 0 ≡ r = subst (λ (b : Bool). r' + (if b then 1 else 0) ≡ r) f e in
      let z : r ≡ r' = omega arith in
      subst (λ (b : Bool). HasRoom r' (written_to c b ms)) (sym f) (subst (λ (i : ℕ). HasRoom i ms) z h))
]

pub once_rest : (us rest : List Mark) → AreOnce (us ++ rest) → AreOnce us
once_rest [] rest h = tt
once_rest (u ∷ us) rest h = (h.0, once_rest us rest h.1)

-- what going back frees is room again
pub room_rest : (r r' : ℕ) (us rest : List Mark) → r' + entries_of us ≡ r + entries_of (us ++ rest) → HasRoom r (us ++ rest) → HasRoom r' us
room_rest r r' [] rest e h = tt
room_rest r r' (u ∷ us) rest e h = ((let g = h.0 in omega arith), room_rest r r' us rest (omega arith) h.1)

pub more_room : (r r' : ℕ) (ms : List Mark) → r ≤ r' → HasRoom r ms → HasRoom r' ms
more_room r r' [] l h = tt
more_room r r' (m ∷ ms) l h = ((let g = h.0 in omega arith), more_room r r' ms l h.1)

-- a new mark
none_kept : (cells : List ℕ) → IsOnce (record { cells = cells; kept = [] })
unfolding IsDistinct
none_kept cells = (tt, λ q r. absurd (false≢true r))

pub once_mark : (cells : List ℕ) (ms : List Mark) → AreOnce ms → AreOnce (ms ++ record { cells = cells; kept = [] } ∷ [])
once_mark cells [] h = (none_kept cells, tt)
once_mark cells (m ∷ ms) h = (h.0, once_mark cells ms h.1)

pub room_mark : (r : ℕ) (cells : List ℕ) (ms : List Mark) → length cells ≤ r → HasRoom r ms → HasRoom r (ms ++ record { cells = cells; kept = [] } ∷ [])
room_mark r cells [] l h = (omega arith, tt)
room_mark r cells (m ∷ ms) l h = ((let g = h.0 in let e = entries_of-last ms (record { cells = cells; kept = [] }) in omega arith), room_mark r cells ms l h.1)
