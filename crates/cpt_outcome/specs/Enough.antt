use Rattle.std.specs.Prelude.{◌≡◌, ℕ, zero, suc, ◌+◌, ◌*◌, ◌^◌, ◌<◌, ◌≤◌, true, ◌==◌, List, [], ◌∷◌, ◌++◌, length, All, Some, Contains}
use Rattle.std.specs.List.{list_any}
use Rattle.cpt_task.specs.declared.task.Action.{Action}
use Rattle.cpt_task.specs.Shape.{TaskShape, InBounds}
use Rattle.cpt_sheet.specs.declared.data.Decision.{Decision}
use Rattle.cpt_sheet.specs.declared.data.Decision.TheVariants.{Join, Bring, Before}
use Rattle.cpt_sheet.specs.declared.data.Sheet.{Sheet}
use Rattle.cpt_sheet.specs.View.{has_need, cands, before}
use Rattle.cpt_calculus.specs.Rules.{IsToken}
use Rattle.cpt_tree.specs.declared.expansion.Expansion.{Expansion}
use Rattle.cpt_tree.specs.Counts.{power_sum, HasAtMostNodes}
use Rattle.cpt_tree.specs.Trees.{Node, choices}
use Rattle.cpt_outcome.specs.Outcomes.{HasOutcome, budget_spent}
use Rattle.cpt_outcome.specs.Nodes.{SearchProblem, IsFreshAt, search_tree}

-- the greater of the two numbers
abbrev pub greater : ℕ → ℕ → ℕ
greater zero n = n
greater (suc m) zero = suc m
greater (suc m) (suc n) = suc (greater m n)

-- the greatest number of preconditions of these actions
abbrev pub most_preconditions : List Action → ℕ
most_preconditions [] = 0
most_preconditions (a ∷ more) = greater (length a.pre) (most_preconditions more)

-- the greatest number of preconditions of an action, or the number of goals where that is greater
abbrev pub most_needs : TaskShape → ℕ
most_needs t = greater (length t.goal) (most_preconditions t.actions)

-- no action and not the goal needs more than k atoms
pub record NeedsAtMost (t : TaskShape) (k : ℕ) : Type 0 where
  pub goal : length t.goal ≤ k
  pub actions : All (λ a. length a.pre ≤ k) t.actions

-- the sum of k ^ i for i from 1 to n
abbrev pub geometric : ℕ → ℕ → ℕ
geometric k zero = 0
geometric k (suc n) = geometric k n + k ^ suc n

-- the most tokens of a sheet, decisions of a node, and children of a node
abbrev pub most_tokens : ℕ → ℕ → ℕ
most_tokens k b = 2 + geometric k (suc b)

-- at most so many decisions on a way, where nothing needs more than k atoms, for the bound b
abbrev pub most_decisions : ℕ → ℕ → ℕ
most_decisions k b = let n = most_tokens k b in n * k + n * n * k + n * n

-- at most so many children of a flaw
abbrev pub most_children : TaskShape → ℕ → ℕ → ℕ
most_children t k b = most_tokens k b + length t.actions + 2

-- so many nodes are enough for a tree
abbrev pub enough_for : TaskShape → ℕ → ℕ → ℕ
enough_for t k b = power_sum (most_children t k b) (most_decisions k b)

-- a number of nodes that is enough for the tree of a bound
abbrev pub enough : TaskShape → ℕ → ℕ
enough t b = enough_for t (most_needs t) b

-- a token was brought for a need of an older one: it alone is in that list, and comes before that token
pub record IsBrought (u : Sheet) (x : ℕ) : Type 0 where
  pub consumer : ℕ
  pub atom : ℕ
  pub older : consumer < x
  pub need : has_need u consumer atom ≡ true
  pub sole : IsToken (cands u consumer atom) x
  pub order : before u x consumer ≡ true

-- each token but start and end was brought
abbrev pub AreBrought : Sheet → Type 0
AreBrought u = (x : ℕ) → 2 ≤ x → x < length u.tokens → IsBrought u x

-- what a decision commits to: a list that it fixes, or an order that it adds
pub data Commitment : Type 0 where
  on_list : ℕ → ℕ → Commitment
  on_order : ℕ → ℕ → Commitment

-- what a decision settles: a list, or an order
abbrev pub commitment_of : Decision → Commitment
commitment_of (Join x p y) = on_list x p
commitment_of (Bring x p a) = on_list x p
commitment_of (Before x y) = on_order x y

-- the list is one token, or the order stands
abbrev pub IsMade : Sheet → Commitment → Type 0
IsMade u (on_list x p) = (has_need u x p ≡ true) × ((z : ℕ) × IsToken (cands u x p) z)
IsMade u (on_order x y) = before u x y ≡ true

-- the list or the order is one of the sheet's
abbrev pub IsOfSheet : Sheet → Commitment → Type 0
IsOfSheet u (on_list x p) = (x < length u.tokens) × (has_need u x p ≡ true)
IsOfSheet u (on_order x y) = (x < length u.tokens) × (y < length u.tokens)

-- A decision that leads to a child is news: in the node's fresh sheet, which is there, its commitment is not made. And it
-- is made for good: in the fresh sheet of the child and of every node behind it.
abbrev pub ChoicesCommit : Type 0
ChoicesCommit =
    (w : SearchProblem) (b : ℕ) (ds : Node) (f : Expansion) (d : Decision) → search_tree w b ds f → Contains (choices f) d →
    ((s : Sheet) × IsFreshAt w b ds (Some s) × (IsMade s (commitment_of d) → ⊥)) × ((more : Node) (u : Sheet) → IsFreshAt w b (ds ++ d ∷ more) (Some u) → IsMade u (commitment_of d))

-- with rule 1 in use, the tree of a bound has at most enough nodes
abbrev pub TreesEnough : Type 0
TreesEnough = (w : SearchProblem) (b : ℕ) → InBounds w.task → list_any (λ n. n == 1) w.rules ≡ true → HasAtMostNodes (search_tree w b) (enough w.task b)

-- with rule 1 in use, a budget that is spent is below enough
abbrev pub SpentBelowEnough : Type 0
SpentBelowEnough =
    (w : SearchProblem) (most n refuted : ℕ) → InBounds w.task → list_any (λ r. r == 1) w.rules ≡ true → HasOutcome w most n (budget_spent refuted) → n < enough w.task (suc refuted)

-- A chain of so many brought tokens, each for a need of the one before it, from the end down to a token.
pub data IsChain (u : Sheet) : ℕ → ℕ → Type 0 where
  bottom : IsChain u 1 0
  link : (x d : ℕ) (w : IsBrought u x) → 2 ≤ x → x < length u.tokens → IsChain u w.consumer d → IsChain u x (suc d)

-- with rule 1 in use, a fresh sheet has no chain of more brought tokens than its bound
abbrev pub ChainsShort : Type 0
ChainsShort = (w : SearchProblem) (b : ℕ) (ds : Node) (u : Sheet) (x d : ℕ) → InBounds w.task → list_any (λ n. n == 1) w.rules ≡ true → IsFreshAt w b ds (Some u) → IsChain u x d → d ≤ b
