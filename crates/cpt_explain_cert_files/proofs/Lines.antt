-- the lines of counts
use Rattle.std.proofs.Common.{◌≡◌, ℕ, ◌+◌, ◌*◌, ◌<◌, ◌≤◌, List, [], ◌∷◌, ◌++◌, length, All, take, get_or, sym, ap, ◌∙◌, arith, append-nil, append_assoc}
use Rattle.std.specs.List.{sum}
use Rattle.std.proofs.lemmas.List.{take_more, length-take-le}
use Rattle.std.proofs.lemmas.List.Sums.{sum_by_more, sum_by_more_le, sum_by-le}
use Rattle.cpt_explain_cert_files.specs.Numbers.{rule_line, rule_lines}

rules_push : (k : ℕ) (ns : List ℕ) (n : ℕ) → rule_lines k (ns ++ n ∷ []) ≡ rule_lines k ns ++ rule_line (k + length ns) n
rules_push k [] n = let e : k ≡ k + 0 = omega arith in append-nil (rule_line k n) ∙ ap (λ z. rule_line z n) e
rules_push k (m ∷ ns) n =
    let at : k + 1 + length ns ≡ k + length (m ∷ ns) = omega arith in
    ap (λ z. rule_line k m ++ z) (rules_push (k + 1) ns n) ∙ sym (append_assoc (rule_line k m) (rule_lines (k + 1) ns) (rule_line (k + 1 + length ns) n)) ∙ ap (λ z. (rule_line k m ++ rule_lines (k + 1) ns) ++ rule_line z n) at

-- one rule more
pub rules_more : (ns : List ℕ) (i d : ℕ) → i < length ns → rule_lines 1 (take (i + 1) ns) ≡ rule_lines 1 (take i ns) ++ rule_line (i + 1) (get_or ns i d)
rules_more ns i d lt =
    let size = length-take-le i ns (omega (arith, lt)) in
    let e : 1 + length (take i ns) ≡ i + 1 = omega (arith, size) in
    ap (rule_lines 1) (take_more ns i d lt) ∙ rules_push 1 (take i ns) (get_or ns i d) ∙ ap (λ z. rule_lines 1 (take i ns) ++ rule_line z (get_or ns i d)) e

-- one number more of those that are added up
pub sum_more : (ns : List ℕ) (i d : ℕ) → i < length ns → sum (take (i + 1) ns) ≡ sum (take i ns) + get_or ns i d
sum_more ns i d lt = sum_by_more (λ (n : ℕ). n) ns i d lt

-- and what they come to at most
pub sum_bound : (ns : List ℕ) (i d : ℕ) → i < length ns → length ns ≤ 13 → All (λ n. n ≤ 16777216) ns → sum (take i ns) + get_or ns i d ≤ 218103808
sum_bound ns i d lt few all =
    let part : sum (take i ns) + get_or ns i d ≤ sum ns = sum_by_more_le (λ (n : ℕ). n) ns i d lt in
    let whole : sum ns ≤ length ns * 16777216 = sum_by-le (λ (n : ℕ). n) 16777216 ns all in
    omega (arith, part, whole, few)
