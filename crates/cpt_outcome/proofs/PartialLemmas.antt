-- how many lines of a partial tree close or branch a node
use Rattle.std.proofs.Common.{◌≡◌, ◌≢◌, ℕ, ◌+◌, Bool, true, false, ◌||◌, List, [], ◌∷◌, ◌++◌, length, map, count_by, refl, arith}
use Rattle.std.proofs.lemmas.List.Folds.{list_any-append}
use Rattle.std.specs.List.{list_any}
use Rattle.std.specs.Prelude.{cond}
use Rattle.std.proofs.lemmas.List.Sums.{sum_by-append}
use Rattle.cpt_sheet.specs.declared.data.NodeLine.{NodeLine}
use Rattle.cpt_sheet.specs.declared.data.NodeLine.TheVariants.{Narrow, OpenNode}
use Rattle.cpt_sheet.specs.declared.data.Step.{Step}
use Rattle.cpt_tree.specs.declared.expansion.Expansion.{Expansion}
use Rattle.cpt_tree.specs.declared.expansion.Expansion.TheVariants.{Closed, Leaf, Branched}
use Rattle.cpt_tree.specs.Trees.{Node, SearchTree, HaveNoLeaf, choices, children_of, root}
use Rattle.cpt_tree.specs.Texts.{NodeRuns, child_line, last_line, node_lines, open_lines, Writes, IsPartialText}
use Rattle.cpt_outcome.specs.Nodes.{search_tree, node_runs}
use Rattle.cpt_outcome.specs.Partial.{ends_visit, leaves_open, PartialTextsCount}

count_by-append : {A : Type 0} (p : A → Bool) (xs ys : List A) → count_by p (xs ++ ys) ≡ count_by p xs + count_by p ys
count_by-append p xs ys = sum_by-append (λ x. cond (p x) 1 0) xs ys

child-none : (ds : Node) → count_by ends_visit (child_line ds) ≡ 0
child-none [] = refl
child-none (d ∷ []) = refl
child-none (d ∷ e ∷ ds) = child-none (e ∷ ds)

steps-none : (steps : List Step) → count_by ends_visit (map Narrow steps) ≡ 0
steps-none [] = refl
steps-none (s ∷ steps) = steps-none steps

last-one : (f : Expansion) → HaveNoLeaf (f ∷ []) → count_by ends_visit (last_line f ∷ []) ≡ 1
last-one Closed n = refl
last-one Leaf n = absurd n
last-one (Branched flaw ks) n = refl

node-one : (ds : Node) (steps : List Step) (f : Expansion) → HaveNoLeaf (f ∷ []) → count_by ends_visit (node_lines ds steps f) ≡ 1
node-one ds steps f n =
    rw (count_by-append ends_visit (child_line ds) (map Narrow steps ++ last_line f ∷ []), count_by-append ends_visit (map Narrow steps) (last_line f ∷ []), child-none ds, steps-none steps, last-one f n) refl

open-none : (stack : List Node) → count_by ends_visit (open_lines stack) ≡ 0
open-none [] = refl
open-none (ds ∷ stack) = rw (count_by-append ends_visit (child_line ds) (OpenNode ∷ open_lines stack), child-none ds) (omega (arith, open-none stack))

leafless-first : (f : Expansion) (fs : List Expansion) → HaveNoLeaf (f ∷ fs) → HaveNoLeaf (f ∷ []) × HaveNoLeaf fs
leafless-first Closed fs h = (tt, h)
leafless-first Leaf fs h = absurd h
leafless-first (Branched flaw ks) fs h = (tt, h)

pub written-count : (Runs : NodeRuns) (stack : List Node) (fs : List Expansion) (ls : List NodeLine) → HaveNoLeaf fs → Writes Runs stack fs ls → count_by ends_visit ls ≡ length fs
written-count Runs stack [] ls n t = rw t refl
written-count Runs [] (f ∷ fs) ls n t = absurd t
written-count Runs (ds ∷ stack) (f ∷ fs) ls n (steps, more, r, e, t) =
    let h = leafless-first f fs n in
    let ih = written-count Runs (children_of ds (choices f) ++ stack) fs more h.1 t in
    rw (e, count_by-append ends_visit (node_lines ds steps f) more, node-one ds steps f h.0, ih) (omega arith)

open-some : (stack : List Node) → stack ≢ [] → list_any leaves_open (open_lines stack) ≡ true
open-some [] some = absurd (some refl)
open-some (ds ∷ stack) some = rw list_any-append (right (list_any leaves_open (child_line ds)))
  where
    right : (b : Bool) → (b || true) ≡ true
    right true = refl
    right false = refl

-- an open tree has as many closed or branched nodes as it says, and some open
pub open-counts : (T : SearchTree) (Runs : NodeRuns) (n : ℕ) (ls : List NodeLine) → IsPartialText T Runs n ls → (count_by ends_visit ls ≡ n) × (list_any leaves_open ls ≡ true)
open-counts T Runs n ls (fs, rest, begun, len, some, (done, written, e)) = (
  rw (e, count_by-append ends_visit done (open_lines rest), written-count Runs root fs done begun.leafless written, open-none rest) (omega (arith, len)),
  rw (e, list_any-append) (or_right (list_any leaves_open done) (list_any leaves_open (open_lines rest)) (open-some rest some)),
)
  where
    or_right : (a b : Bool) → b ≡ true → (a || b) ≡ true
    or_right true b e = refl
    or_right false b e = e

pub partial-texts-count : PartialTextsCount
partial-texts-count w b n ls h = open-counts (search_tree w b) (node_runs w b) n ls h
