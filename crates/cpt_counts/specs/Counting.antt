use Rattle.std.specs.Prelude.{◌≡◌, ◌≤◌, ℕ, All, Bool, ◌||◌, if◌then◌else◌, nat_eq, List, [], ◌∷◌, map, codes, count_by}
use Rattle.std.specs.List.{starts_with}
use Rattle.std.specs.Str.{bytes_eq}
use Rattle.cpt_line.specs.Lines.{split}
use Rattle.cpt_counts.specs.declared.kinds.Counts.{Counts}

-- the line begins with these bytes
abbrev pub begins : List ℕ → List ℕ → Bool
begins front line = starts_with nat_eq line front

-- the line is the head of a tree
abbrev pub heads_tree : List ℕ → Bool
heads_tree line = begins (codes "tree ") line || begins (codes "open-tree ") line

-- the lines behind the first head of a tree
abbrev pub behind_head : List (List ℕ) → List (List ℕ)
behind_head [] = []
behind_head (line ∷ lines) = if heads_tree line then lines else behind_head lines

-- the lines of the trees of a text, and those behind them, as far as they end
abbrev pub tree_lines : List ℕ → List (List ℕ)
tree_lines text = behind_head (split text).0

-- how many lines are this word
abbrev pub count_same : List ℕ → List (List ℕ) → ℕ
count_same word lines = count_by (λ line. bytes_eq line word) lines

-- how many lines begin with these bytes
abbrev pub count_begun : List ℕ → List (List ℕ) → ℕ
count_begun front lines = count_by (begins front) lines

-- the number of each rule, from 1 on, and a space
abbrev pub rule_fronts : List (List ℕ)
rule_fronts =
    codes "1 " ∷ codes "2 " ∷ codes "3 " ∷ codes "4 " ∷ codes "5 " ∷ codes "6 " ∷ codes "7 " ∷ codes "8 " ∷ codes "9 " ∷ codes "10 " ∷ codes "11 " ∷ codes "12 " ∷ codes "13 " ∷ []

-- how many lines behind the first head of a tree are close lines, branches, open lines, and steps of each rule
pub record AreCounts (text : List ℕ) (counts : Counts) : Type 0 where
  pub closed : counts.closed ≡ count_same (codes "close") (tree_lines text)
  pub branched : counts.branched ≡ count_begun (codes "branch ") (tree_lines text)
  pub left : counts.left ≡ count_same (codes "open") (tree_lines text)
  pub rules : counts.rules ≡ map (λ front. count_begun front (tree_lines text)) rule_fronts

-- no number is above the most
pub record AreFew (most : ℕ) (counts : Counts) : Type 0 where
  pub closed : counts.closed ≤ most
  pub branched : counts.branched ≤ most
  pub left : counts.left ≤ most
  pub rules : All (λ n. n ≤ most) counts.rules
