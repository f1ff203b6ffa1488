-- lines counted one after another
use Rattle.std.proofs.Common.{◌≡◌, ℕ, ◌+◌, Bool, true, false, cond, List, [], ◌∷◌, refl, sym, ap, ◌∙◌, count_by}
use Rattle.std.specs.Str.{bytes_eq}
use Rattle.std.proofs.lemmas.List.Sums.{sum_by-cons}
use Rattle.cpt_line.specs.Lines.{split, EndsLine}
use Rattle.cpt_counts.specs.Counting.{begins, heads_tree, behind_head, count_same, count_begun}

first_lines : (rest line after : List ℕ) → EndsLine rest line after → (split rest).0 ≡ line ∷ (split after).0
first_lines rest line after h = ap (λ (z : List (List ℕ) × List ℕ). z.0) h.first

no_lines : (rest : List ℕ) → split rest ≡ ([], rest) → (split rest).0 ≡ []
no_lines rest e = ap (λ (z : List (List ℕ) × List ℕ). z.0) e

count_first : (p : List ℕ → Bool) (rest line after : List ℕ) → EndsLine rest line after → count_by p (split rest).0 ≡ cond (p line) 1 0 + count_by p (split after).0
count_first p rest line after h = ap (count_by p) (first_lines rest line after h) ∙ sum_by-cons (λ l. cond (p l) 1 0) line (split after).0

pub same_first : (word rest line after : List ℕ) → EndsLine rest line after → count_same word (split rest).0 ≡ cond (bytes_eq line word) 1 0 + count_same word (split after).0
same_first word rest line after h = count_first (λ l. bytes_eq l word) rest line after h

pub begun_first : (front rest line after : List ℕ) → EndsLine rest line after → count_begun front (split rest).0 ≡ cond (begins front line) 1 0 + count_begun front (split after).0
begun_first front rest line after h = count_first (begins front) rest line after h

pub same_none : (word rest : List ℕ) → split rest ≡ ([], rest) → count_same word (split rest).0 ≡ 0
same_none word rest e = ap (count_same word) (no_lines rest e)

pub begun_none : (front rest : List ℕ) → split rest ≡ ([], rest) → count_begun front (split rest).0 ≡ 0
begun_none front rest e = ap (count_begun front) (no_lines rest e)

-- the head of a tree, another line, and no line
pub behind_first : (rest line after : List ℕ) → EndsLine rest line after → heads_tree line ≡ true → behind_head (split rest).0 ≡ (split after).0
behind_first rest line after h e = ap behind_head (first_lines rest line after h) ∙ rw e refl

pub behind_other : (rest line after : List ℕ) → EndsLine rest line after → heads_tree line ≡ false → behind_head (split rest).0 ≡ behind_head (split after).0
behind_other rest line after h e = ap behind_head (first_lines rest line after h) ∙ rw e refl

pub behind_none : (rest : List ℕ) → split rest ≡ ([], rest) → behind_head (split rest).0 ≡ (split rest).0
behind_none rest e = let none = no_lines rest e in ap behind_head none ∙ sym none
