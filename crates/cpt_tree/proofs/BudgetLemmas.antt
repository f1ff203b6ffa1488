-- where a budget is spent
use Rattle.std.proofs.Common.{◌≡◌, ◌≢◌, ℕ, ◌+◌, ◌≤◌, ◌<◌, List, [], ◌∷◌, length, refl, arith}
use Rattle.cpt_tree.specs.Trees.{Node, SearchTree}
use Rattle.cpt_tree.specs.Deepening.{spent, Concludes}
use Rattle.cpt_tree.specs.Counts.{HasMoreNodes, HasAtMostNodes}

-- a search is spent only where the tree of that bound is larger, so not where each tree is small enough
pub spent-larger : (T : ℕ → SearchTree) (n first most b : ℕ) → Concludes T n first most (spent b) → HasMoreNodes (T b) n
spent-larger T n first most b (le, ge, below, (fs, frontier, begun, len, some)) = (fs, frontier, begun.traversal, len, some)

pub larger-below : (T : SearchTree) (n m : ℕ) → HasMoreNodes T n → HasAtMostNodes T m → n < m
larger-below T n m (fs, frontier, traversal, len, some) most = go frontier some (most fs frontier traversal)
  where
    go : (frontier : List Node) → frontier ≢ [] → length fs + length frontier ≤ m → n < m
    go [] some le = absurd (some refl)
    go (x ∷ xs) some le = omega (arith, len)
