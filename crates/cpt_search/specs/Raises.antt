use Rattle.std.specs.Prelude.{◌≡◌, ℕ, suc, ◌+◌, ◌≤◌, List}
use Rattle.cpt_sheet.specs.declared.data.NodeLine.{NodeLine}
use Rattle.cpt_search.specs.declared.raise.Raised.{Raised}
use Rattle.cpt_search.specs.declared.raise.Raised.TheVariants.{Found, Refuted, Spent}
use Rattle.cpt_tree.specs.Trees.{Node, SearchTree}
use Rattle.cpt_tree.specs.Texts.{NodeRuns, IsTextBelow, IsPartialText}
use Rattle.cpt_tree.specs.Deepening.{Concludes, solved, exhausted, spent, AreExhausted, AreVisited}

-- how a search through the bounds ends, with its trees, where these decisions stand at its end
abbrev pub Raises : (ℕ → SearchTree) → (ℕ → NodeRuns) → ℕ → ℕ → ℕ → Node → Raised → Type 0
Raises T Runs n first most ds (Found b below) = Concludes T n first most (solved b ds) × IsTextBelow T Runs n first b below.lines
Raises T Runs n first most ds (Refuted tree) = Concludes T n first most exhausted × IsTextBelow T Runs n first (suc most) tree.lines
Raises T Runs n first most ds (Spent refuted full partial) =
    Concludes T n first most (spent (suc refuted)) × IsTextBelow T Runs n first (suc refuted) full.lines × IsPartialText (T (suc refuted)) (Runs (suc refuted)) n partial.lines

-- the space stands at the bound of the leaf that was found
abbrev pub StandsAt : ℕ → Raised → Type 0
StandsAt at (Found b below) = at ≡ b
StandsAt at (Refuted tree) = Unit {0}
StandsAt at (Spent refuted full partial) = Unit {0}

-- what was used more is no more than the nodes that are visited
abbrev pub IsWithinVisited : (ℕ → SearchTree) → ℕ → ℕ → ℕ → ℕ → ℕ → Type 0
IsWithinVisited T n first most before now = (b : ℕ) × (sum : ℕ) × (b ≤ suc most) × AreVisited T n first b sum × (now ≤ before + sum)

-- The invariant of a search through the bounds: all below b are refuted, with the tree of the last one, and what was used
-- more is no more than the nodes that were visited.
pub record IsRaising (T : ℕ → SearchTree) (Runs : ℕ → NodeRuns) (n first b : ℕ) (ls : List NodeLine) (before now : ℕ) : Type 0 where
  pub refuted : AreExhausted T n first b
  pub tree : IsTextBelow T Runs n first b ls
  pub sum : ℕ
  pub visited : AreVisited T n first b sum
  pub used : now ≤ before + sum
