-- what entries give back
use Rattle.std.proofs.Common.{◌≡◌, ℕ, suc, zero, ◌+◌, ◌≤◌, ◌<◌, List, [], ◌∷◌, ◌++◌, Bool, true, false, length, set, get_or, map, take, drop, refl, sym, ◌∙◌, ap, subst, arith, inl, inr, ◌⊎◌}
use Rattle.std.specs.Prelude.{nat_lt, nat_eq, ◌&&◌, not, reverse, All}
use Rattle.std.proofs.lemmas.List.{length-reverse, reverse-append, set-set, set_comm, set-get_or, length-set, take-append-le, drop-append-le, take-set-le, length-take-le, map-append, length-append, get_or-set_same, get_or-set_other}
use Rattle.std.proofs.lemmas.List.Folds.{list_any-append}
use Rattle.std.proofs.Math.Seq.{drop-length, take-length, get_or-append_seam}
use Rattle.std.proofs.Math.ListN.{get_or-append}
use Rattle.std.proofs.lemmas.List.Elements.{All-append}
use Rattle.std.proofs.lemmas.Bool.{cases_eq, ltb-true, lt-ltb, eqb-true, eqb-false, eq-eqb, true≢false, false≢true}
use Rattle.std.specs.Prelude.{◌||◌, ◌≢◌}
use Rattle.cpt_task.specs.Timeline.{is_in}
use Rattle.cpt_trail.specs.declared.entries.Entry.{Entry}
use Rattle.cpt_trail.specs.declared.entries.Level.{Level}
use Rattle.cpt_trail.specs.Trails.{Mark, is_unkept, keeps, with_kept, entries_of}
use Rattle.cpt_trail.specs.Undone.{undone}
use Rattle.cpt_trail.specs.Cells.{at_level, marks_of, IsStamped}

pub length-undone : (f : Entry → ℕ) (es : List Entry) (xs : List ℕ) → length (undone f es xs) ≡ length xs
length-undone f [] xs = refl
length-undone f (e ∷ es) xs = length-set (undone f es xs) e.cell (f e) ∙ length-undone f es xs

pub undone-append : (f : Entry → ℕ) (es gs : List Entry) (xs : List ℕ) → undone f (es ++ gs) xs ≡ undone f es (undone f gs xs)
undone-append f [] gs xs = refl
undone-append f (e ∷ es) gs xs = ap (λ (r : List ℕ). set r e.cell (f e)) (undone-append f es gs xs)

pub take-set : (n : ℕ) (xs : List ℕ) (i v : ℕ) → take n (set xs i v) ≡ set (take n xs) i v
take-set zero [] i v = refl
take-set zero (x ∷ xs) zero v = refl
take-set zero (x ∷ xs) (suc i) v = refl
take-set (suc n) [] i v = refl
take-set (suc n) (x ∷ xs) zero v = refl
take-set (suc n) (x ∷ xs) (suc i) v = ap (λ (r : List ℕ). x ∷ r) (take-set n xs i v)

pub take-undone : (f : Entry → ℕ) (n : ℕ) (es : List Entry) (xs : List ℕ) → take n (undone f es xs) ≡ undone f es (take n xs)
take-undone f n [] xs = refl
take-undone f n (e ∷ es) xs = take-set n (undone f es xs) e.cell (f e) ∙ ap (λ (r : List ℕ). set r e.cell (f e)) (take-undone f n es xs)

pub either : (b : Bool) → (b ≡ true) ⊎ (b ≡ false)
either true = inl refl
either false = inr refl

or_false : (a b : Bool) → (a || b) ≡ false → (a ≡ false) × (b ≡ false)
or_false true b h = absurd (true≢false h)
or_false false b h = (refl, h)

or_rest : (a b : Bool) → (a || b) ≡ true → b ≡ false → a ≡ true
or_rest true b h k = refl
or_rest false b h k = absurd (true≢false (sym h ∙ k))

abbrev pub cells_of : List Entry → List ℕ
cells_of es = map (λ e. e.cell) es

-- a write to a cell without an entry stays, and one to a cell with an entry is overwritten
pub undone-set_out : (f : Entry → ℕ) (es : List Entry) (xs : List ℕ) (c v : ℕ) → is_in c (cells_of es) ≡ false → undone f es (set xs c v) ≡ set (undone f es xs) c v
undone-set_out f [] xs c v h = refl
undone-set_out f (e ∷ es) xs c v h =
    let k = or_false (nat_eq c e.cell) (is_in c (cells_of es)) h in
    let ne : c ≢ e.cell = eqb-false c e.cell k.0 in
    ap (λ (r : List ℕ). set r e.cell (f e)) (undone-set_out f es xs c v k.1) ∙ set_comm (undone f es xs) c e.cell v (f e) ne

pub undone-set_in : (f : Entry → ℕ) (es : List Entry) (xs : List ℕ) (c v : ℕ) → is_in c (cells_of es) ≡ true → undone f es (set xs c v) ≡ undone f es xs
undone-set_in f [] xs c v h = absurd (false≢true h)
undone-set_in f (e ∷ es) xs c v h =
    elim (either (is_in c (cells_of es))) [
      | inl t ↦ ap (λ (r : List ℕ). set r e.cell (f e)) (undone-set_in f es xs c v t)
      | inr n ↦
          let k : c ≡ e.cell = eqb-true c e.cell (or_rest (nat_eq c e.cell) (is_in c (cells_of es)) h n) in
          ap (λ (r : List ℕ). set r e.cell (f e)) (undone-set_out f es xs c v n)
          ∙ (ap (λ (i : ℕ). set (set (undone f es xs) i v) e.cell (f e)) k ∙ set-set (undone f es xs) e.cell v (f e))
    ]

-- what was written comes back
pub set_back : (n : ℕ) (xs : List ℕ) (c v : ℕ) → set (take n (set xs c v)) c (get_or xs c 0) ≡ take n xs
set_back n xs c v = sym (take-set n (set xs c v) c (get_or xs c 0)) ∙ (ap (λ (r : List ℕ). take n r) (set-set xs c v (get_or xs c 0)) ∙ ap (λ (r : List ℕ). take n r) (set-get_or xs c 0))

pub length-marks_of : (ls : List Level) (es : List Entry) (xs : List ℕ) → length (marks_of ls es xs) ≡ length ls
length-marks_of [] es xs = refl
length-marks_of (l ∷ ls) es xs =
    let back : List ℕ = at_level (λ e. e.value) l es xs in
    let older : List Mark = marks_of ls (take l.entries es) back in
    let h : length older ≡ length ls = length-marks_of ls (take l.entries es) back in
    let k : length (older ++ record { cells = back; kept = map (λ (e : Entry). e.cell) (drop l.entries es) } ∷ []) ≡ length older + 1 = length-append older (record { cells = back; kept = map (λ (e : Entry). e.cell) (drop l.entries es) } ∷ []) in
    omega arith

-- what the newest mark decides
keeps-last : (c : ℕ) (ms : List Mark) (m : Mark) → keeps c (ms ++ m ∷ []) ≡ is_unkept c m
keeps-last c [] m = refl
keeps-last c (x ∷ []) m = refl
keeps-last c (x ∷ (y ∷ ms)) m = keeps-last c (y ∷ ms) m

with_kept-last : (c : ℕ) (ms : List Mark) (m : Mark) → with_kept c (ms ++ m ∷ []) ≡ ms ++ record m { kept = m.kept ++ c ∷ [] } ∷ []
with_kept-last c [] m = refl
with_kept-last c (x ∷ []) m = refl
with_kept-last c (x ∷ (y ∷ ms)) m = ap (λ (ns : List Mark). x ∷ ns) (with_kept-last c (y ∷ ms) m)

pub entries_of-last : (ms : List Mark) (m : Mark) → entries_of (ms ++ m ∷ []) ≡ entries_of ms + length m.kept
entries_of-last [] m = omega arith
entries_of-last (x ∷ ms) m = let h = entries_of-last ms m in omega arith

-- the marks of a level and of those below it: from the entries since it, those before it, and its cells now
abbrev pub marks_from : List Entry → List Entry → List Level → List ℕ → List Mark
marks_from ds ts ls ys = marks_of ls ts (undone (λ e. e.value) ds ys) ++ record { cells = undone (λ e. e.value) ds ys; kept = map (λ e. e.cell) ds } ∷ []

-- no stamp is above the number of levels
pub stamps_bound : (ls : List Level) (es : List Entry) (st : List ℕ) → IsStamped ls es st → (c : ℕ) → c < length st → get_or st c 0 ≤ length ls
stamps_bound [] es st h c l = h.1 c l
stamps_bound (m ∷ ls) es st h c l = h.1 c l

ltb_zero : (n : ℕ) → nat_lt n 0 ≡ false
ltb_zero n = elim (either (nat_lt n 0)) [ inl t ↦ (let k : n < 0 = ltb-true n 0 t in absurd (omega arith)) | inr f ↦ f ]

ltb_no : (m n : ℕ) → n ≤ m → nat_lt m n ≡ false
ltb_no m n h = elim (either (nat_lt m n)) [ inl t ↦ (let k : m < n = ltb-true m n t in absurd (omega arith)) | inr f ↦ f ]

ltb_above : (m n : ℕ) → nat_lt m n ≡ false → n ≤ m
ltb_above m n h = let k : (m < n) → ⊥ = λ l. false≢true (sym h ∙ lt-ltb m n l) in omega arith

-- the next write keeps an entry exactly where the stamp is below the number of levels
pub keeps_is : (ls : List Level) (es : List Entry) (st xs : List ℕ) (c : ℕ) → IsStamped ls es st → length st ≡ length xs → c < length st → keeps c (marks_of ls es xs) ≡ nat_lt (get_or st c 0) (length ls)
keeps_is [] es st xs c h e l = sym (ltb_zero (get_or st c 0))
keeps_is (m ∷ ls) es st xs c h e l =
    let k : length (at_level (λ e. e.value) m es xs) ≡ m.cells = length-undone (λ e. e.value) (drop m.entries es) (take m.cells xs) ∙ length-take-le m.cells xs (omega (arith, h.0.cells)) in
    let back : List ℕ = at_level (λ e. e.value) m es xs in
    keeps-last c (marks_of ls (take m.entries es) back) (record { cells = back; kept = cells_of (drop m.entries es) })
    ∙ (ap (λ (n : ℕ). nat_lt c n && not (is_in c (cells_of (drop m.entries es)))) k ∙ sym (h.0.fresh c l))

bound_more : (st : List ℕ) (n b : ℕ) → ((c : ℕ) → c < length st → get_or st c 0 ≤ b) → n ≤ b → (c : ℕ) → c < length (st ++ n ∷ []) → get_or (st ++ n ∷ []) c 0 ≤ b
bound_more st n b h k c l =
    elim (cases_eq c (length st)) [
      | inl e ↦ (let g : get_or (st ++ n ∷ []) c 0 ≡ n = ap (λ (i : ℕ). get_or (st ++ n ∷ []) i 0) e ∙ get_or-append_seam st n [] 0 in omega arith)
      | inr d ↦ (let w : c < length st = omega (arith, length-append st (n ∷ [])) in let g : get_or (st ++ n ∷ []) c 0 ≡ get_or st c 0 = get_or-append st (n ∷ []) 0 c w in let j = h c w in omega arith)
    ]

not_after : (a b : Bool) → a ≡ true → (a && not b) ≡ false → b ≡ true
not_after true true h k = refl
not_after true false h k = absurd (true≢false k)
not_after false b h k = absurd (false≢true h)

and_first : (a b : Bool) → (a && b) ≡ true → a ≡ true
and_first true b h = refl
and_first false b h = absurd (false≢true h)

-- a new cell
pub marks-append : (ls : List Level) (es : List Entry) (st xs : List ℕ) (v : ℕ) → IsStamped ls es st → length st ≡ length xs → marks_of ls es (xs ++ v ∷ []) ≡ marks_of ls es xs
marks-append [] es st xs v h e = refl
marks-append (m ∷ ls) es st xs v h e =
    let k : take m.cells (xs ++ v ∷ []) ≡ take m.cells xs = take-append-le m.cells xs (v ∷ []) (omega (arith, h.0.cells)) in
    ap (λ (ys : List ℕ). marks_from (drop m.entries es) (take m.entries es) ls ys) k

pub stamped-append : (ls : List Level) (es : List Entry) (st : List ℕ) → IsStamped ls es st → IsStamped ls es (st ++ length ls ∷ [])
stamped-append [] es st h = (h.0, λ c l. bound_more st 0 0 h.1 (omega arith) c l)
stamped-append (m ∷ ls) es st h =
    let n : ℕ = suc (length ls) in
    let k : take m.cells (st ++ n ∷ []) ≡ take m.cells st = take-append-le m.cells st (n ∷ []) (omega (arith, h.0.cells)) in
    let D : List ℕ = cells_of (drop m.entries es) in
    let T : List ℕ → ℕ → Type 0 = λ xs c. nat_lt (get_or xs c 0) n ≡ nat_lt c m.cells && not (is_in c D) in (
      record {
        cells = omega (arith, h.0.cells, length-append st (n ∷ []));
        entries = h.0.entries;
        within = h.0.within;
        fresh = λ c l. elim (cases_eq c (length st)) [
          | inl e ↦ ap (λ (i : ℕ). nat_lt i n) (ap (λ (i : ℕ). get_or (st ++ n ∷ []) i 0) e ∙ get_or-append_seam st n [] 0)
              ∙ (ltb_no n n (omega arith) ∙ sym (ap (λ (b : Bool). b && not (is_in c D)) (ltb_no c m.cells (omega (arith, h.0.cells)))))
          | inr d ↦
              let w : c < length st = omega (arith, length-append st (n ∷ [])) in
              ap (λ (i : ℕ). nat_lt i n) (get_or-append st (n ∷ []) 0 c w) ∙ h.0.fresh c w
        ];
      },
      λ c l. bound_more st n n h.1 (omega arith) c l,
      subst (λ (ys : List ℕ). IsStamped ls (take m.entries es) (undone (λ e. e.stamp) (drop m.entries es) ys)) (sym k) h.2,
    )

-- a write that keeps no entry
pub marks-write : (ls : List Level) (es : List Entry) (st xs : List ℕ) (c v : ℕ) → IsStamped ls es st → length st ≡ length xs → c < length st → nat_lt (get_or st c 0) (length ls) ≡ false → marks_of ls es (set xs c v) ≡ marks_of ls es xs
marks-write [] es st xs c v h e l f = refl
marks-write (m ∷ ls) es st xs c v h e l f =
    let D : List Entry = drop m.entries es in
    let made : List ℕ → List Mark = λ us. marks_of ls (take m.entries es) us ++ record { cells = us; kept = map (λ e. e.cell) D } ∷ [] in
    elim (either (nat_lt c m.cells)) [
      | inl t ↦
          let k : is_in c (cells_of D) ≡ true = not_after (nat_lt c m.cells) (is_in c (cells_of D)) t (sym (h.0.fresh c l) ∙ f) in
          ap made (ap (λ (ys : List ℕ). undone (λ e. e.value) D ys) (take-set m.cells xs c v) ∙ undone-set_in (λ e. e.value) D (take m.cells xs) c v k)
      | inr n ↦
          let w : m.cells ≤ c = ltb_above c m.cells n in
          ap made (ap (λ (ys : List ℕ). undone (λ e. e.value) D ys) (take-set-le m.cells xs c v w))
    ]

-- a write that keeps an entry
entry_back : (f : Entry → ℕ) (D : List Entry) (e : Entry) (n : ℕ) (xs : List ℕ) (v : ℕ) → f e ≡ get_or xs e.cell 0 → undone f (D ++ e ∷ []) (take n (set xs e.cell v)) ≡ undone f D (take n xs)
entry_back f D e n xs v h = undone-append f D (e ∷ []) (take n (set xs e.cell v)) ∙ ap (λ (ys : List ℕ). undone f D ys) (ap (λ (w : ℕ). set (take n (set xs e.cell v)) e.cell w) h ∙ set_back n xs e.cell v)

pub marks-entry : (ls : List Level) (es : List Entry) (st xs : List ℕ) (e : Entry) (v : ℕ) → IsStamped ls es st → e.value ≡ get_or xs e.cell 0 → marks_of ls (es ++ e ∷ []) (set xs e.cell v) ≡ with_kept e.cell (marks_of ls es xs)
marks-entry [] es st xs e v h q = refl
marks-entry (m ∷ ls) es st xs e v h q =
    let D : List Entry = drop m.entries es in
    let d : drop m.entries (es ++ e ∷ []) ≡ D ++ e ∷ [] = drop-append-le m.entries es (e ∷ []) h.0.entries in
    let t : take m.entries (es ++ e ∷ []) ≡ take m.entries es = take-append-le m.entries es (e ∷ []) h.0.entries in
    let u : undone (λ e. e.value) (D ++ e ∷ []) (take m.cells (set xs e.cell v)) ≡ undone (λ e. e.value) D (take m.cells xs) = entry_back (λ e. e.value) D e m.cells xs v q in
    let k : map (λ (e : Entry). e.cell) (D ++ e ∷ []) ≡ map (λ (e : Entry). e.cell) D ++ e.cell ∷ [] = map-append (λ (e : Entry). e.cell) D (e ∷ []) in
    let made : List ℕ → List ℕ → List Entry → List Mark = λ us ks ts. marks_of ls ts us ++ record { cells = us; kept = ks } ∷ [] in
    ap (λ (ds : List Entry). marks_from ds (take m.entries (es ++ e ∷ [])) ls (take m.cells (set xs e.cell v))) d
    ∙ (ap (λ (ts : List Entry). marks_from (D ++ e ∷ []) ts ls (take m.cells (set xs e.cell v))) t
    ∙ (ap (λ (us : List ℕ). made us (map (λ (e : Entry). e.cell) (D ++ e ∷ [])) (take m.entries es)) u
    ∙ (ap (λ (ks : List ℕ). made (undone (λ e. e.value) D (take m.cells xs)) ks (take m.entries es)) k
    ∙ sym (with_kept-last e.cell (marks_of ls (take m.entries es) (undone (λ e. e.value) D (take m.cells xs))) (record { cells = undone (λ e. e.value) D (take m.cells xs); kept = map (λ (e : Entry). e.cell) D })))))

and_not_or : (a b : Bool) → (a && not (b || (true || false))) ≡ false
and_not_or true true = refl
and_not_or true false = refl
and_not_or false b = refl

or_none : (b : Bool) → (b || (false || false)) ≡ b
or_none true = refl
or_none false = refl

ne-eqb : (a b : ℕ) → a ≢ b → nat_eq a b ≡ false
ne-eqb a b h = elim (either (nat_eq a b)) [ inl t ↦ absurd (h (eqb-true a b t)) | inr f ↦ f ]

pub stamped-entry : (ls : List Level) (es : List Entry) (st : List ℕ) (e : Entry) → IsStamped ls es st → e.cell < length st → e.stamp ≡ get_or st e.cell 0 → nat_lt (get_or st e.cell 0) (length ls) ≡ true → IsStamped ls (es ++ e ∷ []) (set st e.cell (length ls))
stamped-entry [] es st e h l q t = absurd (true≢false (sym t ∙ ltb_zero (get_or st e.cell 0)))
stamped-entry (m ∷ ls) es st e h l q t =
    let n : ℕ = suc (length ls) in
    let D : List Entry = drop m.entries es in
    let d : drop m.entries (es ++ e ∷ []) ≡ D ++ e ∷ [] = drop-append-le m.entries es (e ∷ []) h.0.entries in
    let a : take m.entries (es ++ e ∷ []) ≡ take m.entries es = take-append-le m.entries es (e ∷ []) h.0.entries in
    let k : map (λ (e : Entry). e.cell) (D ++ e ∷ []) ≡ map (λ (e : Entry). e.cell) D ++ e.cell ∷ [] = map-append (λ (e : Entry). e.cell) D (e ∷ []) in
    let u : undone (λ e. e.stamp) (D ++ e ∷ []) (take m.cells (set st e.cell n)) ≡ undone (λ e. e.stamp) D (take m.cells st) = entry_back (λ e. e.stamp) D e m.cells st n q in
    let here : nat_lt e.cell m.cells ≡ true = and_first (nat_lt e.cell m.cells) (not (is_in e.cell (cells_of D))) (sym (h.0.fresh e.cell l) ∙ t) in
    let low : e.cell < m.cells = ltb-true e.cell m.cells here in
    let more : (c : ℕ) → is_in c (cells_of (D ++ e ∷ [])) ≡ (is_in c (cells_of D) || (nat_eq c e.cell || false)) = λ c. ap (λ (ks : List ℕ). is_in c ks) k ∙ list_any-append (nat_eq c) (cells_of D) (e.cell ∷ []) in
    let found : (c : ℕ) → is_in c (cells_of (drop m.entries (es ++ e ∷ []))) ≡ (is_in c (cells_of D) || (nat_eq c e.cell || false)) = λ c. ap (λ (ds : List Entry). is_in c (cells_of ds)) d ∙ more c in (
      record {
        cells = omega (arith, h.0.cells, length-set st e.cell n);
        entries = omega (arith, h.0.entries, length-append es (e ∷ []));
        within = subst (λ (ds : List Entry). All (λ e. e.cell < m.cells) ds) (sym d) (All-append (λ (e : Entry). e.cell < m.cells) D (e ∷ []) h.0.within (λ k x r. (let z : k ≡ 0 = omega arith in subst (λ (i : ℕ). (get_or (e ∷ []) i x).cell < m.cells) (sym z) low)));
        fresh = λ c r. elim (cases_eq c e.cell) [
          | inl g ↦
              let same : get_or (set st e.cell n) c 0 ≡ n = ap (λ (i : ℕ). get_or (set st e.cell n) i 0) g ∙ get_or-set_same st e.cell n 0 l in
              let test : nat_eq c e.cell ≡ true = eq-eqb c e.cell g in
              ap (λ (i : ℕ). nat_lt i n) same ∙ (ltb_no n n (omega arith)
              ∙ sym (ap (λ (b : Bool). nat_lt c m.cells && not b) (found c) ∙ (ap (λ (b : Bool). nat_lt c m.cells && not (is_in c (cells_of D) || (b || false))) test ∙ and_not_or (nat_lt c m.cells) (is_in c (cells_of D)))))
          | inr g ↦
              let w : c < length st = omega (arith, length-set st e.cell n) in
              let other : get_or (set st e.cell n) c 0 ≡ get_or st c 0 = get_or-set_other st e.cell c n 0 g in
              let test : nat_eq c e.cell ≡ false = ne-eqb c e.cell g in
              ap (λ (i : ℕ). nat_lt i n) other ∙ (h.0.fresh c w
              ∙ sym (ap (λ (b : Bool). nat_lt c m.cells && not b) (found c) ∙ (ap (λ (b : Bool). nat_lt c m.cells && not (is_in c (cells_of D) || (b || false))) test ∙ ap (λ (b : Bool). nat_lt c m.cells && not b) (or_none (is_in c (cells_of D))))))
        ];
      },
      λ c r. elim (cases_eq c e.cell) [
        | inl g ↦ (let same : get_or (set st e.cell n) c 0 ≡ n = ap (λ (i : ℕ). get_or (set st e.cell n) i 0) g ∙ get_or-set_same st e.cell n 0 l in omega arith)
        | inr g ↦ (let w : c < length st = omega (arith, length-set st e.cell n) in let other : get_or (set st e.cell n) c 0 ≡ get_or st c 0 = get_or-set_other st e.cell c n 0 g in let b = h.1 c w in omega arith)
      ],
      subst (λ (ts : List Entry). IsStamped ls ts (undone (λ e. e.stamp) (drop m.entries (es ++ e ∷ [])) (take m.cells (set st e.cell n)))) (sym a)
          (subst (λ (ds : List Entry). IsStamped ls (take m.entries es) (undone (λ e. e.stamp) ds (take m.cells (set st e.cell n)))) (sym d)
          (subst (λ (us : List ℕ). IsStamped ls (take m.entries es) us) (sym u) h.2)),
    )

-- a new mark
pub marks-mark : (ls : List Level) (es : List Entry) (xs : List ℕ) (n : ℕ) → n ≡ length xs → marks_of (record { cells = n; entries = length es } ∷ ls) es xs ≡ marks_of ls es xs ++ record { cells = xs; kept = [] } ∷ []
marks-mark ls es xs n e =
    ap (λ (ds : List Entry). marks_from ds (take (length es) es) ls (take n xs)) (drop-length es)
    ∙ (ap (λ (ts : List Entry). marks_from [] ts ls (take n xs)) (take-length es)
    ∙ (ap (λ (i : ℕ). marks_from [] es ls (take i xs)) e ∙ ap (λ (ys : List ℕ). marks_from [] es ls ys) (take-length xs)))

stamped-mark_at : (ls : List Level) (es : List Entry) (st : List ℕ) (n : ℕ) → n ≡ length st → IsStamped ls es st → IsStamped (record { cells = n; entries = length es } ∷ ls) es st
stamped-mark_at ls es st n e h = (
  record {
    cells = omega arith;
    entries = omega arith;
    within = subst (λ (ds : List Entry). All (λ e. e.cell < n) ds) (sym (drop-length es)) (λ k x r. absurd (omega arith));
    fresh = λ c l.
        let b : get_or st c 0 ≤ length ls = stamps_bound ls es st h c l in
        let w : c < n = omega arith in
        lt-ltb (get_or st c 0) (suc (length ls)) (omega arith)
        ∙ sym (ap (λ (ds : List Entry). nat_lt c n && not (is_in c (cells_of ds))) (drop-length es) ∙ ap (λ (b : Bool). b && true) (lt-ltb c n w));
  },
  λ c l. (let b : get_or st c 0 ≤ length ls = stamps_bound ls es st h c l in omega arith),
  subst (λ (ds : List Entry). IsStamped ls (take (length es) es) (undone (λ e. e.stamp) ds (take n st))) (sym (drop-length es))
      (subst (λ (ts : List Entry). IsStamped ls ts (take n st)) (sym (take-length es))
      (subst (λ (i : ℕ). IsStamped ls es (take i st)) (sym e) (subst (λ (ys : List ℕ). IsStamped ls es ys) (sym (take-length st)) h))),
)

pub stamped-mark : (ls : List Level) (es : List Entry) (st : List ℕ) (n k : ℕ) → n ≡ length st → k ≡ length es → IsStamped ls es st → IsStamped (record { cells = n; entries = k } ∷ ls) es st
stamped-mark ls es st n k e g h = subst (λ (j : ℕ). IsStamped (record { cells = n; entries = j } ∷ ls) es st) (sym g) (stamped-mark_at ls es st n e h)

pub newest : {X : Type 0} (xs : List X) (x : X) → reverse (xs ++ x ∷ []) ≡ x ∷ reverse xs
newest xs x = reverse-append xs (x ∷ [])

pub length-marks : (ls : List Level) (es : List Entry) (xs : List ℕ) → length (marks_of (reverse ls) es xs) ≡ length ls
length-marks ls es xs = length-marks_of (reverse ls) es xs ∙ length-reverse ls
