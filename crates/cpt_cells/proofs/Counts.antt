-- the cell of the number of tokens
use Rattle.std.proofs.Common.{◌≡◌, ◌≢◌, ℕ, suc, zero, ◌+◌, ◌*◌, ◌≤◌, ◌<◌, ◌-◌, ◌^◌, Bool, true, false, if◌then◌else◌, length, ap, arith}
use Rattle.std.specs.Prelude.{nat_lt}
use Rattle.std.proofs.Math.Nat.{mul-le-mul_left}
use Rattle.cpt_sheet.specs.declared.data.Cand.TheVariants.{Tok, Out}
use Rattle.cpt_layout.specs.Places.{Place, out_lo, out_hi, tok_lo, tok_hi, order, member, Frame, IsThere}
use Rattle.cpt_layout.specs.Numbers.{base, head, cell_of, size_of, needs_before}

-- it lies before the cells of the tokens
pub count_below : (s : Frame) (n : ℕ) → 2 * length s.pre < base s n
count_below s zero = omega arith
count_below s (suc n) = (let h = count_below s n in omega arith)

base_rises : (s : Frame) (n m : ℕ) → base s n ≤ base s (n + m)
base_rises s n zero = (let q : base s (n + 0) ≡ base s n = ap (λ (i : ℕ). base s i) (let e : n + 0 ≡ n = omega arith in e) in omega arith)
base_rises s n (suc m) = (let q : base s (n + suc m) ≡ base s (n + m) + size_of s (n + m) = ap (λ (i : ℕ). base s i) (let e : n + suc m ≡ suc (n + m) = omega arith in e) in let r = base_rises s n m in omega arith)

pub base_most : (s : Frame) (n m : ℕ) → n ≤ m → base s n ≤ base s m
base_most s n m l = (let q : base s (n + (m - n)) ≡ base s m = ap (λ (i : ℕ). base s i) (let e : n + (m - n) ≡ m = omega arith in e) in let r = base_rises s n (m - n) in omega arith)

-- above both
either_above : (b : Bool) (c x y : ℕ) → c < x → c < y → (if b then x else y) ≢ c
either_above true c x y h k e = absurd (omega arith)
either_above false c x y h k e = absurd (omega arith)

-- no other place has it
pub count_apart : (s : Frame) (q : Place) → IsThere s q → cell_of s q ≢ 2 * length s.pre
count_apart s (out_lo a) h e = absurd (omega arith)
count_apart s (out_hi a) h e = absurd (omega arith)
count_apart s (tok_lo x) h e = (let b = count_below s x in absurd (omega arith))
count_apart s (tok_hi x) h e = (let b = count_below s x in absurd (omega arith))
count_apart s (order x y) h e =
    let a = count_below s x in
    let b = count_below s y in
    either_above (nat_lt x y) (2 * length s.pre) (base s y + (2 + 2 * x)) (base s x + (3 + 2 * y)) (omega arith) (omega arith) e
count_apart s (member x j (Tok y)) h e =
    let a = count_below s x in
    let b = count_below s y in
    either_above (nat_lt y x) (2 * length s.pre) (head s x j + (2 + y)) (base s y + (2 + 2 * y + (needs_before s x + j))) (omega arith) (omega arith) e
count_apart s (member x j (Out a)) h e = (let b = count_below s x in absurd (omega arith))

-- the tokens are few, since each has two cells for each older one
squares : (s : Frame) (n : ℕ) → n * n + n + 1 ≤ base s n
squares s zero = omega arith
squares s (suc n) = (let h = squares s n in omega arith)

pub few_tokens : (s : Frame) (n : ℕ) → base s n < 2 ^ 64 → n < 2 ^ 32
few_tokens s n l =
    let q = squares s n in
    let g : (2 ^ 32 ≤ n) → ⊥ = λ h. (let a = mul-le-mul_left n h in let b = mul-le-mul_left (2 ^ 32) h in omega arith) in
    omega arith
