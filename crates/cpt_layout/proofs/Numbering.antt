-- no two places have one cell
use Rattle.std.proofs.Common.{◌≡◌, ◌≢◌, ℕ, suc, zero, ◌+◌, ◌-◌, ◌*◌, ◌≤◌, ◌<◌, ◌==◌, List, [], ◌∷◌, false, length, refl, sym, ◌∙◌, ap, subst, arith, inl, inr, ◌⊎◌}
use Rattle.std.specs.Prelude.{nat_lt, map}
use Rattle.std.proofs.lemmas.Bool.{cases_eq, false≢true, eqb-true, eqb-false, ltb-true, lt-ltb}
use Rattle.cpt_sheet.specs.declared.data.Cand.TheVariants.{Tok, Out}
use Rattle.cpt_layout.specs.Places.{Place, out_lo, out_hi, tok_lo, tok_hi, order, member, Frame, IsThere, table, all_cands, needs_at, atom_at, adders_at, In}
use Rattle.cpt_layout.specs.Places.{place_in}
use Rattle.cpt_layout.specs.Numbers.{needs_before, cells_before, size_of, base, head, cell_of}
use Rattle.cpt_layout.proofs.Lists.{either, if_true, if_false, in_table, in_append}
use Rattle.cpt_layout.proofs.Cands.{in_outs}

-- blocks one after the other: a number lies in one block only
pub record IsBlocks (b z : ℕ → ℕ) : Type 0 where
  pub next : (x : ℕ) → b (suc x) ≡ b x + z x

blocks_rise : (b z : ℕ → ℕ) → IsBlocks b z → (x d : ℕ) → b x + z x ≤ b (suc x + d)
blocks_rise b z h x zero = (let e = h.next x in let k : suc x ≡ suc x + 0 = omega arith in subst (λ (i : ℕ). b x + z x ≤ b i) k (omega arith))
blocks_rise b z h x (suc d) = (let e = h.next (suc x + d) in let r = blocks_rise b z h x d in let k : suc (suc x + d) ≡ suc x + suc d = omega arith in subst (λ (i : ℕ). b x + z x ≤ b i) k (omega arith))

pub one_block : (b z : ℕ → ℕ) → IsBlocks b z → (x y m n : ℕ) → m < z x → n < z y → b x + m ≡ b y + n → (x ≡ y) × (m ≡ n)
one_block b z h x y m n p q e =
    elim (cases_eq x y) [
      | inl k ↦ (k, (let f : b x ≡ b y = ap b k in omega arith))
      | inr k ↦ elim (either (nat_lt x y)) [
        | inl t ↦ (let l : x < y = ltb-true x y t in let r = blocks_rise b z h x (y - suc x) in let f : suc x + (y - suc x) ≡ y = omega arith in let g : b (suc x + (y - suc x)) ≡ b y = ap b f in absurd (omega arith))
        | inr t ↦ (let l : y < x = above x y k t in let r = blocks_rise b z h y (x - suc y) in let f : suc y + (x - suc y) ≡ x = omega arith in let g : b (suc y + (x - suc y)) ≡ b x = ap b f in absurd (omega arith))
      ]
    ]
  where
    above : (i j : ℕ) → i ≢ j → nat_lt i j ≡ false → j < i
    above i j d f = let g : (i < j) → ⊥ = λ l. false≢true (sym f ∙ lt-ltb i j l) in omega arith

base_blocks : (s : Frame) → IsBlocks (base s) (size_of s)
base_blocks s = record { next = λ x. refl }

needs_blocks : (s : Frame) → IsBlocks (needs_before s) (λ x. length (needs_at s x))
needs_blocks s = record { next = λ x. refl }

cells_blocks : (s : Frame) (x : ℕ) → IsBlocks (cells_before s x) (λ j. 2 + x + length (adders_at s (atom_at s x j)))
cells_blocks s x = record { next = λ j. refl }

-- the four regions of a token's cells: its interval, the orders, the older needs, its own needs
abbrev region_size : Frame → ℕ → ℕ → ℕ
region_size s x zero = 2
region_size s x (suc zero) = 2 * x
region_size s x (suc (suc zero)) = needs_before s x
region_size s x (suc (suc (suc g))) = cells_before s x (length (needs_at s x))

abbrev region : Frame → ℕ → ℕ → ℕ
region s x zero = 0
region s x (suc g) = region s x g + region_size s x g

region_blocks : (s : Frame) (x : ℕ) → IsBlocks (region s x) (region_size s x)
region_blocks s x = record { next = λ g. refl }

-- a cell is the i-th of region g of token x
record IsSpot (s : Frame) (c x g i : ℕ) : Type 0 where
  cell : c ≡ base s x + (region s x g + i)
  below : i < region_size s x g
  four : g < 4
  token : x < length s.kinds

in_token : (s : Frame) (x g i : ℕ) → g < 4 → i < region_size s x g → region s x g + i < size_of s x
in_token s x g i h l =
    let r = blocks_rise (region s x) (region_size s x) (region_blocks s x) g (3 - g) in
    let f : suc g + (3 - g) ≡ 4 = omega arith in
    let e : region s x (suc g + (3 - g)) ≡ region s x 4 = ap (λ (n : ℕ). region s x n) f in
    let k : region s x 4 ≡ size_of s x = omega arith in
    omega arith

one_spot : (s : Frame) (c x g i y h j : ℕ) → IsSpot s c x g i → IsSpot s c y h j → (x ≡ y) × (g ≡ h) × (i ≡ j)
one_spot s c x g i y h j p q =
    let t = one_block (base s) (size_of s) (base_blocks s) x y (region s x g + i) (region s y h + j) (in_token s x g i p.four p.below) (in_token s y h j q.four q.below) (sym p.cell ∙ q.cell) in
    let e : x ≡ y = t.0 in
    let w : j < region_size s x h = subst (λ (n : ℕ). j < region_size s n h) (sym e) q.below in
    let k : region s x g + i ≡ region s x h + j = t.1 ∙ ap (λ (n : ℕ). region s n h + j) (sym e) in
    let u = one_block (region s x) (region_size s x) (region_blocks s x) g h i j p.below w k in
    (e, u.0, u.1)

below_end : (s : Frame) (x o : ℕ) → x < length s.kinds → o < size_of s x → base s x + o < base s (length s.kinds)
below_end s x o h l =
    let r = blocks_rise (base s) (size_of s) (base_blocks s) x (length s.kinds - suc x) in
    let f : suc x + (length s.kinds - suc x) ≡ length s.kinds = omega arith in
    let e : base s (suc x + (length s.kinds - suc x)) ≡ base s (length s.kinds) = ap (λ (n : ℕ). base s n) f in
    omega arith

first_base : (s : Frame) (n : ℕ) → 2 * length s.pre + 1 ≤ base s n
first_base s zero = omega arith
first_base s (suc n) = (let r = first_base s n in omega arith)

spot_below : (s : Frame) (c x g i : ℕ) → IsSpot s c x g i → c < base s (length s.kinds)
spot_below s c x g i p = (let k = below_end s x (region s x g + i) p.token (in_token s x g i p.four p.below) in let e = p.cell in omega arith)

spot_above : (s : Frame) (c x g i : ℕ) → IsSpot s c x g i → 2 * length s.pre + 1 ≤ c
spot_above s c x g i p = (let k = first_base s x in let e = p.cell in omega arith)

-- a place of a token, in whose block it stands first: lo and hi; an order with an older token before it or behind it; as a
-- candidate of an older need; a candidate of a need of its own
data Spot : Type 0 where
  lo_spot : ℕ → Spot
  hi_spot : ℕ → Spot
  ahead : ℕ → ℕ → Spot
  behind : ℕ → ℕ → Spot
  old_spot : ℕ → ℕ → ℕ → Spot
  tok_spot : ℕ → ℕ → ℕ → Spot
  out_spot : ℕ → ℕ → ℕ → Spot

abbrev place_of : Spot → Place
place_of (lo_spot x) = tok_lo x
place_of (hi_spot x) = tok_hi x
place_of (ahead y f) = order f y
place_of (behind y f) = order y f
place_of (old_spot y x j) = member x j (Tok y)
place_of (tok_spot x j y) = member x j (Tok y)
place_of (out_spot x j a) = member x j (Out a)

abbrev own : Spot → ℕ
own (lo_spot x) = x
own (hi_spot x) = x
own (ahead y f) = y
own (behind y f) = y
own (old_spot y x j) = y
own (tok_spot x j y) = x
own (out_spot x j a) = x

abbrev reg : Spot → ℕ
reg (lo_spot x) = 0
reg (hi_spot x) = 0
reg (ahead y f) = 1
reg (behind y f) = 1
reg (old_spot y x j) = 2
reg (tok_spot x j y) = 3
reg (out_spot x j a) = 3

abbrev off : Frame → Spot → ℕ
off s (lo_spot x) = 0
off s (hi_spot x) = 1
off s (ahead y f) = 2 * f
off s (behind y f) = 1 + 2 * f
off s (old_spot y x j) = needs_before s x + j
off s (tok_spot x j y) = cells_before s x j + (2 + y)
off s (out_spot x j a) = cells_before s x j + (2 + x + place_in a (adders_at s (atom_at s x j)))

abbrev IsGood : Frame → Spot → Type 0
IsGood s (lo_spot x) = x < length s.kinds
IsGood s (hi_spot x) = x < length s.kinds
IsGood s (ahead y f) = (y < length s.kinds) × (f < y)
IsGood s (behind y f) = (y < length s.kinds) × (f < y)
IsGood s (old_spot y x j) = (y < length s.kinds) × (x < y) × (j < length (needs_at s x))
IsGood s (tok_spot x j y) = (x < length s.kinds) × (j < length (needs_at s x)) × (y < x)
IsGood s (out_spot x j a) = (x < length s.kinds) × (j < length (needs_at s x)) × In a (adders_at s (atom_at s x j))

place_below : (a : ℕ) (bs : List ℕ) → In a bs → place_in a bs < length bs
place_below a [] h = absurd h
place_below a (b ∷ bs) h = elim (either (b == a)) [
  | inl t ↦ (let e : place_in a (b ∷ bs) ≡ 0 = if_true (b == a) 0 (suc (place_in a bs)) t in omega arith)
  | inr n ↦ (let e : place_in a (b ∷ bs) ≡ suc (place_in a bs) = if_false (b == a) 0 (suc (place_in a bs)) n in let k : place_in a bs < length bs = place_below a bs (rest h n) in omega arith)
]
  where
    rest : (b ≡ a) ⊎ In a bs → (b == a) ≡ false → In a bs
    rest (inl e) n = absurd (eqb-false b a n e)
    rest (inr r) n = r

in_rest : (a b : ℕ) (bs : List ℕ) → (b ≡ a) ⊎ In a bs → (b == a) ≡ false → In a bs
in_rest a b bs (inl e) n = absurd (eqb-false b a n e)
in_rest a b bs (inr r) n = r

place_one : (a c : ℕ) (bs : List ℕ) → In a bs → In c bs → place_in a bs ≡ place_in c bs → a ≡ c
place_one a c [] h k e = absurd h
place_one a c (b ∷ bs) h k e = elim (either (b == a)) [
  | inl t ↦
      (let p : place_in a (b ∷ bs) ≡ 0 = if_true (b == a) 0 (suc (place_in a bs)) t in
      elim (either (b == c)) [
        | inl u ↦ sym (eqb-true b a t) ∙ eqb-true b c u
        | inr u ↦ (let q : place_in c (b ∷ bs) ≡ suc (place_in c bs) = if_false (b == c) 0 (suc (place_in c bs)) u in absurd (omega arith))
      ])
  | inr t ↦
      (let p : place_in a (b ∷ bs) ≡ suc (place_in a bs) = if_false (b == a) 0 (suc (place_in a bs)) t in
      elim (either (b == c)) [
        | inl u ↦ (let q : place_in c (b ∷ bs) ≡ 0 = if_true (b == c) 0 (suc (place_in c bs)) u in absurd (omega arith))
        | inr u ↦ (let q : place_in c (b ∷ bs) ≡ suc (place_in c bs) = if_false (b == c) 0 (suc (place_in c bs)) u in
            place_one a c bs (in_rest a b bs h t) (in_rest c b bs k u) (omega arith))
      ])
]

own_cells : (s : Frame) (x j : ℕ) → j < length (needs_at s x) → cells_before s x j + (2 + x + length (adders_at s (atom_at s x j))) ≤ cells_before s x (length (needs_at s x))
own_cells s x j h =
    let m : ℕ = length (needs_at s x) in
    let r = blocks_rise (cells_before s x) (λ i. 2 + x + length (adders_at s (atom_at s x i))) (cells_blocks s x) j (m - suc j) in
    let f : suc j + (m - suc j) ≡ m = omega arith in
    let e : cells_before s x (suc j + (m - suc j)) ≡ cells_before s x m = ap (λ (n : ℕ). cells_before s x n) f in
    omega arith

pub old_needs : (s : Frame) (x j y : ℕ) → j < length (needs_at s x) → x < y → needs_before s x + j < needs_before s y
old_needs s x j y h l =
    let r = blocks_rise (needs_before s) (λ i. length (needs_at s i)) (needs_blocks s) x (y - suc x) in
    let f : suc x + (y - suc x) ≡ y = omega arith in
    let e : needs_before s (suc x + (y - suc x)) ≡ needs_before s y = ap (λ (n : ℕ). needs_before s n) f in
    omega arith

pub lt_no : (m n : ℕ) → n ≤ m → nat_lt m n ≡ false
lt_no m n h = elim (either (nat_lt m n)) [ inl t ↦ (let k : m < n = ltb-true m n t in absurd (omega arith)) | inr f ↦ f ]

good_spot : (s : Frame) (p : Spot) → IsGood s p → IsSpot s (cell_of s (place_of p)) (own p) (reg p) (off s p)
good_spot s (lo_spot x) h = record { cell = omega arith; below = omega arith; four = omega arith; token = h }
good_spot s (hi_spot x) h = record { cell = omega arith; below = omega arith; four = omega arith; token = h }
good_spot s (ahead y f) h = record {
  cell = if_true (nat_lt f y) (base s y + (2 + 2 * f)) (base s f + (3 + 2 * y)) (lt-ltb f y h.1) ∙ (let e : base s y + (2 + 2 * f) ≡ base s y + (region s y 1 + 2 * f) = omega arith in e);
  below = (let k = h.1 in omega arith);
  four = omega arith;
  token = h.0;
}
good_spot s (behind y f) h = record {
  cell = if_false (nat_lt y f) (base s f + (2 + 2 * y)) (base s y + (3 + 2 * f)) (lt_no y f (let k = h.1 in omega arith)) ∙ (let e : base s y + (3 + 2 * f) ≡ base s y + (region s y 1 + (1 + 2 * f)) = omega arith in e);
  below = (let k = h.1 in omega arith);
  four = omega arith;
  token = h.0;
}
good_spot s (old_spot y x j) h = record {
  cell = if_false (nat_lt y x) (head s x j + (2 + y)) (base s y + (2 + 2 * y + (needs_before s x + j))) (lt_no y x (let k = h.1 in omega arith)) ∙ (let e : base s y + (2 + 2 * y + (needs_before s x + j)) ≡ base s y + (region s y 2 + (needs_before s x + j)) = omega arith in e);
  below = old_needs s x j y h.2 h.1;
  four = omega arith;
  token = h.0;
}
good_spot s (tok_spot x j y) h = record {
  cell = if_true (nat_lt y x) (head s x j + (2 + y)) (base s y + (2 + 2 * y + (needs_before s x + j))) (lt-ltb y x h.2) ∙ (let e : head s x j + (2 + y) ≡ base s x + (region s x 3 + (cells_before s x j + (2 + y))) = omega arith in e);
  below = (let k = own_cells s x j h.1 in let l = h.2 in omega arith);
  four = omega arith;
  token = h.0;
}
good_spot s (out_spot x j a) h = record {
  cell = (let n : ℕ = place_in a (adders_at s (atom_at s x j)) in let e : head s x j + (2 + x + n) ≡ base s x + (region s x 3 + (cells_before s x j + (2 + x + n))) = omega arith in e);
  below = (let k = own_cells s x j h.1 in let l = place_below a (adders_at s (atom_at s x j)) h.2 in omega arith);
  four = omega arith;
  token = h.0;
}

-- the needs of a token: the same cell among them is of the same need
one_need : (s : Frame) (x j m u k n : ℕ) → x ≡ u → m < 2 + x + length (adders_at s (atom_at s x j)) → n < 2 + u + length (adders_at s (atom_at s u k)) → cells_before s x j + m ≡ cells_before s u k + n → (j ≡ k) × (m ≡ n)
one_need s x j m u k n e l o c =
    one_block (cells_before s x) (λ i. 2 + x + length (adders_at s (atom_at s x i))) (cells_blocks s x) j k m n l
    (subst (λ (z : ℕ). n < 2 + z + length (adders_at s (atom_at s z k))) (sym e) o)
    (c ∙ ap (λ (z : ℕ). cells_before s z k + n) (sym e))

same_spot : (s : Frame) (p q : Spot) → IsGood s p → IsGood s q → own p ≡ own q → reg p ≡ reg q → off s p ≡ off s q → p ≡ q
same_spot s (lo_spot x) (lo_spot y) g h a b c = ap (λ (i : ℕ). lo_spot i) a
same_spot s (hi_spot x) (hi_spot y) g h a b c = ap (λ (i : ℕ). hi_spot i) a
same_spot s (ahead y f) (ahead z h) g k a b c = (let e : f ≡ h = omega arith in ap (λ (i : ℕ). ahead i f) a ∙ ap (λ (i : ℕ). ahead z i) e)
same_spot s (behind y f) (behind z h) g k a b c = (let e : f ≡ h = omega arith in ap (λ (i : ℕ). behind i f) a ∙ ap (λ (i : ℕ). behind z i) e)
same_spot s (old_spot y x j) (old_spot z u k) g h a b c =
    let t = one_block (needs_before s) (λ i. length (needs_at s i)) (needs_blocks s) x u j k g.2 h.2 c in
    ap (λ (i : ℕ). old_spot i x j) a ∙ (ap (λ (i : ℕ). old_spot z i j) t.0 ∙ ap (λ (i : ℕ). old_spot z u i) t.1)
same_spot s (tok_spot x j y) (tok_spot u k w) g h a b c =
    let l : y < x = g.2 in
    let o : w < u = h.2 in
    let t = one_need s x j (2 + y) u k (2 + w) a (omega arith) (omega arith) c in
    let e : y ≡ w = (let z = t.1 in omega arith) in
    ap (λ (i : ℕ). tok_spot i j y) a ∙ (ap (λ (i : ℕ). tok_spot u i y) t.0 ∙ ap (λ (i : ℕ). tok_spot u k i) e)
same_spot s (out_spot x j a) (out_spot u k d) g h e b c =
    let l = place_below a (adders_at s (atom_at s x j)) g.2 in
    let o = place_below d (adders_at s (atom_at s u k)) h.2 in
    let t = one_need s x j (2 + x + place_in a (adders_at s (atom_at s x j))) u k (2 + u + place_in d (adders_at s (atom_at s u k))) e (omega arith) (omega arith) c in
    let z : place_in a (adders_at s (atom_at s x j)) ≡ place_in d (adders_at s (atom_at s u k)) = (let y = t.1 in omega arith) in
    let w : adders_at s (atom_at s u k) ≡ adders_at s (atom_at s x j) = ap (λ (i : ℕ). adders_at s (atom_at s i k)) (sym e) ∙ ap (λ (i : ℕ). adders_at s (atom_at s x i)) (sym t.0) in
    let f : a ≡ d = place_one a d (adders_at s (atom_at s x j)) g.2 (subst (λ (bs : List ℕ). In d bs) w h.2) (z ∙ ap (λ (bs : List ℕ). place_in d bs) w) in
    ap (λ (i : ℕ). out_spot i j a) e ∙ (ap (λ (i : ℕ). out_spot u i a) t.0 ∙ ap (λ (i : ℕ). out_spot u k i) f)
same_spot s (tok_spot x j y) (out_spot u k d) g h a b c =
    let l : y < x = g.2 in
    let o = place_below d (adders_at s (atom_at s u k)) h.2 in
    let t = one_need s x j (2 + y) u k (2 + u + place_in d (adders_at s (atom_at s u k))) a (omega arith) (omega arith) c in
    absurd (let z = t.1 in omega arith)
same_spot s (out_spot x j d) (tok_spot u k y) g h a b c =
    let l : y < u = h.2 in
    let o = place_below d (adders_at s (atom_at s x j)) g.2 in
    let t = one_need s x j (2 + x + place_in d (adders_at s (atom_at s x j))) u k (2 + y) a (omega arith) (omega arith) c in
    absurd (let z = t.1 in omega arith)
same_spot s p q g h a b c = absurd (omega arith)

record IsFound (s : Frame) (q : Place) : Type 0 where
  spot : Spot
  good : IsGood s spot
  is : place_of spot ≡ q

record IsFlat (s : Frame) (q : Place) : Type 0 where
  act : ℕ
  there : act < length s.pre
  is : (q ≡ out_lo act) ⊎ (q ≡ out_hi act)

pub in_tokens : (s : Frame) (p y : ℕ) → In (Tok y) (all_cands s p) → y < length s.kinds
in_tokens s p y h = elim (in_append (Tok y) (table Tok 0 (length s.kinds)) (map Out (adders_at s p)) h) [
  | inl r ↦ (let t = in_table Tok 0 (length s.kinds) (Tok y) r in let e : t.0 ≡ y = (let q = t.3 in cc) in let a = t.2 in omega arith)
  | inr r ↦ (let t = in_outs (adders_at s p) (Tok y) r in let q : Tok y ≡ Out t.0 = t.2 in absurd (cc))
]

in_adders : (s : Frame) (p a : ℕ) → In (Out a) (all_cands s p) → In a (adders_at s p)
in_adders s p a h = elim (in_append (Out a) (table Tok 0 (length s.kinds)) (map Out (adders_at s p)) h) [
  | inl r ↦ (let t = in_table Tok 0 (length s.kinds) (Out a) r in let q : Tok t.0 ≡ Out a = t.3 in absurd (cc))
  | inr r ↦ (let t = in_outs (adders_at s p) (Out a) r in let e : t.0 ≡ a = (let q = t.2 in cc) in subst (λ (i : ℕ). In i (adders_at s p)) e t.1)
]

pub less : (x y : ℕ) → x ≢ y → (x < y) ⊎ (y < x)
less x y d = elim (either (nat_lt x y)) [ inl t ↦ inl (ltb-true x y t) | inr f ↦ inr (let g : (x < y) → ⊥ = λ l. false≢true (sym f ∙ lt-ltb x y l) in omega arith) ]

found : (s : Frame) (q : Place) → IsThere s q → IsFlat s q ⊎ IsFound s q
found s (out_lo a) h = inl (record { act = a; there = h; is = inl refl })
found s (out_hi a) h = inl (record { act = a; there = h; is = inr refl })
found s (tok_lo x) h = inr (record { spot = lo_spot x; good = h; is = refl })
found s (tok_hi x) h = inr (record { spot = hi_spot x; good = h; is = refl })
found s (order x y) h = elim (less x y h.2) [
  | inl l ↦ inr (record { spot = ahead y x; good = (h.1, l); is = refl })
  | inr l ↦ inr (record { spot = behind x y; good = (h.0, l); is = refl })
]
found s (member x j (Tok y)) h = elim (less y x (λ e. h.3 (ap (λ (i : ℕ). Tok i) e))) [
  | inl l ↦ inr (record { spot = tok_spot x j y; good = (h.0, h.1, l); is = refl })
  | inr l ↦ inr (record { spot = old_spot y x j; good = (in_tokens s (atom_at s x j) y h.2, l, h.1); is = refl })
]
found s (member x j (Out a)) h = inr (record { spot = out_spot x j a; good = (h.0, h.1, in_adders s (atom_at s x j) a h.2); is = refl })

flat_low : (s : Frame) (q : Place) → IsFlat s q → cell_of s q < 2 * length s.pre + 1
flat_low s q f = (let l = f.there in elim f.is [
  | inl e ↦ (let c : cell_of s q ≡ 2 * f.act = ap (λ (z : Place). cell_of s z) e in omega arith)
  | inr e ↦ (let c : cell_of s q ≡ 2 * f.act + 1 = ap (λ (z : Place). cell_of s z) e in omega arith)
])

found_spot : (s : Frame) (q : Place) (f : IsFound s q) → IsSpot s (cell_of s q) (own f.spot) (reg f.spot) (off s f.spot)
found_spot s q f = subst (λ (z : Place). IsSpot s (cell_of s z) (own f.spot) (reg f.spot) (off s f.spot)) f.is (good_spot s f.spot f.good)

flat_apart : (s : Frame) (q r : Place) → IsFlat s q → IsFlat s r → cell_of s q ≡ cell_of s r → q ≡ r
flat_apart s q r f g e = elim f.is [
  | inl a ↦ (let c : cell_of s q ≡ 2 * f.act = ap (λ (z : Place). cell_of s z) a in elim g.is [
    | inl b ↦ (let d : cell_of s r ≡ 2 * g.act = ap (λ (z : Place). cell_of s z) b in let k : f.act ≡ g.act = omega arith in a ∙ (ap (λ (i : ℕ). out_lo i) k ∙ sym b))
    | inr b ↦ (let d : cell_of s r ≡ 2 * g.act + 1 = ap (λ (z : Place). cell_of s z) b in absurd (omega arith))
  ])
  | inr a ↦ (let c : cell_of s q ≡ 2 * f.act + 1 = ap (λ (z : Place). cell_of s z) a in elim g.is [
    | inl b ↦ (let d : cell_of s r ≡ 2 * g.act = ap (λ (z : Place). cell_of s z) b in absurd (omega arith))
    | inr b ↦ (let d : cell_of s r ≡ 2 * g.act + 1 = ap (λ (z : Place). cell_of s z) b in let k : f.act ≡ g.act = omega arith in a ∙ (ap (λ (i : ℕ). out_hi i) k ∙ sym b))
  ])
]

-- each place has its cell before the end of the last token
pub cell_below : (s : Frame) (q : Place) → IsThere s q → cell_of s q < base s (length s.kinds)
cell_below s q h = elim (found s q h) [
  | inl f ↦ (let l = flat_low s q f in let b = first_base s (length s.kinds) in omega arith)
  | inr f ↦ spot_below s (cell_of s q) (own f.spot) (reg f.spot) (off s f.spot) (found_spot s q f)
]

-- no two places have one cell
pub cell_apart : (s : Frame) (q r : Place) → IsThere s q → IsThere s r → cell_of s q ≡ cell_of s r → q ≡ r
cell_apart s q r h k e = elim (found s q h) [
  | inl f ↦ elim (found s r k) [
    | inl g ↦ flat_apart s q r f g e
    | inr g ↦ (let l = flat_low s q f in let b = spot_above s (cell_of s r) (own g.spot) (reg g.spot) (off s g.spot) (found_spot s r g) in absurd (omega arith))
  ]
  | inr f ↦ elim (found s r k) [
    | inl g ↦ (let l = flat_low s r g in let b = spot_above s (cell_of s q) (own f.spot) (reg f.spot) (off s f.spot) (found_spot s q f) in absurd (omega arith))
    | inr g ↦
        (let p = found_spot s q f in
        let o = found_spot s r g in
        let t = one_spot s (cell_of s q) (own f.spot) (reg f.spot) (off s f.spot) (own g.spot) (reg g.spot) (off s g.spot) p (subst (λ (c : ℕ). IsSpot s c (own g.spot) (reg g.spot) (off s g.spot)) (sym e) o) in
        sym f.is ∙ (ap (λ (z : Spot). place_of z) (same_spot s f.spot g.spot f.good g.good t.0 t.1 t.2) ∙ g.is))
  ]
]

-- the number of a need is below the number of all needs
pub need_below : (s : Frame) (x j : ℕ) → x < length s.kinds → j < length (needs_at s x) → needs_before s x + j < needs_before s (length s.kinds)
need_below s x j h l = old_needs s x j (length s.kinds) l h
