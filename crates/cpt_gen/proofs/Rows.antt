-- texts in a row
use Rattle.std.proofs.Common.{◌≡◌, ℕ, zero, suc, ◌+◌, List, ◌++◌, sym, ◌∙◌, ap, arith, append_assoc}
use Rattle.std.proofs.lemmas.List.{append-nil}
use Rattle.std.specs.List.{flat_map, range_with_len}

-- one more of them
pub row-next : (f : ℕ → List ℕ) (first k : ℕ) → flat_map f (range_with_len first (k + 1)) ≡ flat_map f (range_with_len first k) ++ f (first + k)
row-next f first zero = append-nil (f first) ∙ ap f (let e : first ≡ first + 0 = omega arith in e)
row-next f first (suc k) =
    ap (λ (n : ℕ). flat_map f (range_with_len first n)) (let e : suc k + 1 ≡ suc (k + 1) = omega arith in e)
    ∙ (ap (λ (t : List ℕ). f first ++ t) (row-next f (first + 1) k ∙ ap (λ (i : ℕ). flat_map f (range_with_len (first + 1) k) ++ f i) (let e : first + 1 + k ≡ first + suc k = omega arith in e))
    ∙ sym (append_assoc (f first) (flat_map f (range_with_len (first + 1) k)) (f (first + suc k))))

-- a text with so many of them behind it, and one more
pub row-pushed : (f : ℕ → List ℕ) (first k : ℕ) (before text next : List ℕ) →
    text ≡ before ++ flat_map f (range_with_len first k) → next ≡ text ++ f (first + k) → next ≡ before ++ flat_map f (range_with_len first (k + 1))
row-pushed f first k before text next t n =
    n ∙ (ap (λ (x : List ℕ). x ++ f (first + k)) t ∙ (append_assoc before (flat_map f (range_with_len first k)) (f (first + k))
    ∙ ap (λ (x : List ℕ). before ++ x) (sym (row-next f first k))))

-- text behind text, three times and five times
pub pushed-three : (before a b c t u v : List ℕ) → t ≡ before ++ a → u ≡ t ++ b → v ≡ u ++ c → v ≡ before ++ (a ++ b ++ c)
pushed-three before a b c t u v h k l =
    l ∙ (ap (λ (x : List ℕ). x ++ c) (k ∙ (ap (λ (x : List ℕ). x ++ b) h ∙ append_assoc before a b)) ∙ append_assoc before (a ++ b) c)

pub pushed-five : (before a b c d e t u v w x : List ℕ) → t ≡ before ++ a → u ≡ t ++ b → v ≡ u ++ c → w ≡ v ++ d → x ≡ w ++ e → x ≡ before ++ (a ++ b ++ c ++ d ++ e)
pushed-five before a b c d e t u v w x h k l m n = pushed-three before (a ++ b ++ c) d e v w x (pushed-three before a b c t u v h k l) m n
