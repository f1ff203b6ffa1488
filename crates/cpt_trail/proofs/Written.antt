-- a trail after a write and after going back
use Rattle.std.proofs.Common.{◌≡◌, ℕ, suc, zero, ◌+◌, ◌≤◌, ◌<◌, List, [], ◌∷◌, ◌++◌, Bool, true, false, length, set, get_or, take, drop, refl, sym, ◌∙◌, ap, subst, arith, inl, inr}
use Rattle.std.specs.Prelude.{nat_lt, if◌then◌else◌, map, min, ◌-◌}
use Rattle.std.proofs.lemmas.List.{length-set, length-append, length-take, length-take-le, length-map, length-drop}
use Rattle.cpt_trail.specs.declared.entries.Entry.{Entry}
use Rattle.cpt_trail.specs.declared.entries.Level.{Level}
use Rattle.cpt_trail.specs.Trails.{Mark, keeps, with_kept}
use Rattle.cpt_trail.specs.Undone.{undone, Keeps}
use Rattle.cpt_trail.specs.Cells.{marks_of, IsStamped}
use Rattle.cpt_trail.proofs.Undoing.{length-undone, either, keeps_is, marks-write, marks-entry, stamped-entry}

abbrev pub with_or : ℕ → List Mark → Bool → List Mark
with_or c ms b = if b then with_kept c ms else ms

pub record IsWritten (ls : List Level) (es es' : List Entry) (st st' xs : List ℕ) (c v : ℕ) : Type 0 where
  pub stamped : IsStamped ls es' st'
  pub lengths : length st' ≡ length st
  pub marks : marks_of ls es' (set xs c v) ≡ with_or c (marks_of ls es xs) (keeps c (marks_of ls es xs))
  pub entries : length es' ≡ length es + (if keeps c (marks_of ls es xs) then 1 else 0)

none : (n : ℕ) → n ≡ n + 0
none n = omega arith

pub after_write : (ls : List Level) (es es' : List Entry) (st st' xs : List ℕ) (c v : ℕ) → IsStamped ls es st → length st ≡ length xs → c < length st →
    Keeps (nat_lt (get_or st c 0) (length ls)) (record { cell = c; value = get_or xs c 0; stamp = get_or st c 0 }) (length ls) st st' es es' → IsWritten ls es es' st st' xs c v
after_write ls es es' st st' xs c v h e l k =
    let w : Entry = record { cell = c; value = get_or xs c 0; stamp = get_or st c 0 } in
    let n : ℕ = length ls in
    let test : keeps c (marks_of ls es xs) ≡ nat_lt (get_or st c 0) n = keeps_is ls es st xs c h e l in
    elim (either (nat_lt (get_or st c 0) n)) [
      | inl t ↦
          let g : (st' ≡ set st c n) × (es' ≡ es ++ w ∷ []) = subst (λ (b : Bool). Keeps b w n st st' es es') t k in
          let y : keeps c (marks_of ls es xs) ≡ true = test ∙ t in
          record {
            stamped = subst (λ (ss : List ℕ). IsStamped ls es' ss) (sym g.0) (subst (λ (gs : List Entry). IsStamped ls gs (set st c n)) (sym g.1) (stamped-entry ls es st w h l refl t));
            lengths = ap (λ (ss : List ℕ). length ss) g.0 ∙ length-set st c n;
            marks = ap (λ (gs : List Entry). marks_of ls gs (set xs c v)) g.1 ∙ (marks-entry ls es st xs w v h refl ∙ sym (ap (λ (b : Bool). with_or c (marks_of ls es xs) b) y));
            entries = ap (λ (gs : List Entry). length gs) g.1 ∙ (length-append es (w ∷ []) ∙ sym (ap (λ (b : Bool). length es + (if b then 1 else 0)) y));
          }
      | inr f ↦
          let g : (st' ≡ st) × (es' ≡ es) = subst (λ (b : Bool). Keeps b w n st st' es es') f k in
          let y : keeps c (marks_of ls es xs) ≡ false = test ∙ f in
          record {
            stamped = subst (λ (ss : List ℕ). IsStamped ls es' ss) (sym g.0) (subst (λ (gs : List Entry). IsStamped ls gs st) (sym g.1) h);
            lengths = ap (λ (ss : List ℕ). length ss) g.0;
            marks = ap (λ (gs : List Entry). marks_of ls gs (set xs c v)) g.1 ∙ (marks-write ls es st xs c v h e l f ∙ sym (ap (λ (b : Bool). with_or c (marks_of ls es xs) b) y));
            entries = ap (λ (gs : List Entry). length gs) g.1 ∙ (none (length es) ∙ sym (ap (λ (b : Bool). length es + (if b then 1 else 0)) y));
          }
    ]

abbrev pub shown : List ℕ → List ℕ → List Level → List Entry → List Mark
shown us ks ls gs = marks_of ls gs us ++ record { cells = us; kept = ks } ∷ []

-- going back to the newest level
pub record IsRewound (l : Level) (ls : List Level) (es es' : List Entry) (st st' xs xs' : List ℕ) : Type 0 where
  pub stamped : IsStamped ls es' st'
  pub lengths : length st' ≡ length xs'
  pub marks : marks_of (l ∷ ls) es xs ≡ marks_of ls es' xs' ++ record { cells = xs'; kept = map (λ e. e.cell) (drop l.entries es) } ∷ []
  pub shorter : length xs' ≤ length xs
  pub left : length es' ≡ l.entries
  pub entries : length es' + length (map (λ (e : Entry). e.cell) (drop l.entries es)) ≡ length es

pub rewound : (l : Level) (ls : List Level) (es es' : List Entry) (st st' xs xs' : List ℕ) → IsStamped (l ∷ ls) es st → length st ≡ length xs →
    es' ≡ take l.entries es → xs' ≡ undone (λ e. e.value) (drop l.entries es) (take l.cells xs) → st' ≡ undone (λ e. e.stamp) (drop l.entries es) (take l.cells st) → IsRewound l ls es es' st st' xs xs'
rewound l ls es es' st st' xs xs' h e p q r =
    let D : List Entry = drop l.entries es in
    record {
      stamped = subst (λ (gs : List Entry). IsStamped ls gs st') (sym p) (subst (λ (ss : List ℕ). IsStamped ls (take l.entries es) ss) (sym r) h.2);
      lengths = ap (λ (ss : List ℕ). length ss) r ∙ (length-undone (λ e. e.stamp) D (take l.cells st) ∙ (length-take l.cells st ∙ (ap (λ (n : ℕ). min l.cells n) e ∙ (sym (length-take l.cells xs) ∙ (sym (length-undone (λ e. e.value) D (take l.cells xs)) ∙ sym (ap (λ (ss : List ℕ). length ss) q))))));
      marks = ap (λ (us : List ℕ). shown us (map (λ (e : Entry). e.cell) D) ls (take l.entries es)) (sym q) ∙ ap (λ (gs : List Entry). shown xs' (map (λ (e : Entry). e.cell) D) ls gs) (sym p);
      shorter = (let a : length xs' ≡ length (undone (λ (e : Entry). e.value) D (take l.cells xs)) = ap (λ (ss : List ℕ). length ss) q in let b : length (undone (λ (e : Entry). e.value) D (take l.cells xs)) ≡ length (take l.cells xs) = length-undone (λ e. e.value) D (take l.cells xs) in let d : length (take l.cells xs) ≡ min l.cells (length xs) = length-take l.cells xs in omega arith);
      left = ap (λ (gs : List Entry). length gs) p ∙ length-take-le l.entries es h.0.entries;
      entries = (let a : length (map (λ (e : Entry). e.cell) D) ≡ length D = length-map D (λ (e : Entry). e.cell) in let b : length D ≡ length es - l.entries = length-drop l.entries es in let m : length es' ≡ l.entries = ap (λ (gs : List Entry). length gs) p ∙ length-take-le l.entries es h.0.entries in let w = h.0.entries in omega arith);
    }

-- what is read below the length does not depend on what is read past it
pub read_there : (xs : List ℕ) (i d : ℕ) → i < length xs → d ≡ get_or xs i d → d ≡ get_or xs i 0
read_there [] i d l h = absurd (omega arith)
read_there (x ∷ xs) zero d l h = h
read_there (x ∷ xs) (suc i) d l h = read_there xs i d (omega arith) h

-- room in numbers
pub room_back : (v s v' s' n n' cv cs : ℕ) → v ≡ n → s ≡ n → v' ≡ n' → s' ≡ n' → n' ≤ n → n ≤ cv → n ≤ cs → min (cv - v') (cs - s') + n' ≡ min (cv - v) (cs - s) + n
room_back v s v' s' n n' cv cs a b c d e f g = omega arith

pub room_kept : (b : Bool) (cap cap' len len' room : ℕ) → cap' ≡ cap → len' ≡ len + (if b then 1 else 0) → room ≡ cap - len → (b ≡ true → 0 < room) → (cap' - len') + (if b then 1 else 0) ≡ room
room_kept true cap cap' len len' room a e r h = (let k : 0 < room = h refl in omega arith)
room_kept false cap cap' len len' room a e r h = omega arith
