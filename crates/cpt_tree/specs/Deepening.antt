use Rattle.std.specs.Prelude.{ℕ, suc, ◌+◌, ◌<◌, ◌≤◌}
use Rattle.cpt_tree.specs.Trees.{Node, SearchTree, IsExhausted, IsFirstLeaf, IsOverBudget, IsReached}

-- how a search through the bounds ends: at the first leaf, in the tree of a bound; with all bounds exhausted; or with
-- the budget spent, in the tree of a bound
pub data Conclusion : Type 0 where
  solved : ℕ → Node → Conclusion
  exhausted : Conclusion
  spent : ℕ → Conclusion

-- each bound from the first on and below b has a tree of at most n nodes without a leaf
abbrev pub AreExhausted : (ℕ → SearchTree) → ℕ → ℕ → ℕ → Type 0
AreExhausted T n first b = (c : ℕ) → first ≤ c → c < b → IsExhausted (T c) n

-- How a search through the bounds from the first to the greatest ends, with a budget of n nodes for each bound. All
-- bounds are exhausted; or all below some bound are, and in the tree of that one the first leaf is among the first n
-- nodes, or it has more than n nodes, and no leaf among the first n.
abbrev pub Concludes : (ℕ → SearchTree) → ℕ → ℕ → ℕ → Conclusion → Type 0
Concludes T n first most (solved b ds) = (first ≤ b) × (b ≤ most) × AreExhausted T n first b × IsFirstLeaf (T b) n ds
Concludes T n first most exhausted = AreExhausted T n first (suc most)
Concludes T n first most (spent b) = (first ≤ b) × (b ≤ most) × AreExhausted T n first b × IsOverBudget (T b) n

-- So many nodes are visited at the bounds from the first on and below b: at each bound, where all before it are
-- exhausted, as many of the first n nodes of its tree as come before or at its first leaf, or fewer.
pub data AreVisited (T : ℕ → SearchTree) (n first : ℕ) : ℕ → ℕ → Type 0 where
  start : AreVisited T n first first 0
  further : (b sum here : ℕ) → AreExhausted T n first b → AreVisited T n first b sum → IsReached (T b) here → here ≤ n → AreVisited T n first (suc b) (sum + here)
