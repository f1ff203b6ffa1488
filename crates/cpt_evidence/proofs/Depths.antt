-- no node has more decisions than nodes were visited before it, and so no plan of a leaf is too long for its list
use Rattle.std.proofs.Common.{◌≡◌, ℕ, suc, ◌+◌, ◌^◌, ◌<◌, ◌≤◌, max, List, [], ◌∷◌, ◌++◌, length, drop, All, inl, inr, ◌&&◌, true, sym, subst, arith, length-append}
use Rattle.std.specs.Prelude.{◌==◌, nat_lt, nat_le}
use Rattle.std.specs.List.{AllPairs}
use Rattle.std.proofs.lemmas.Bool.{le-leb, lt-ltb, eq-eqb, or_left, or_right, and_from}
use Rattle.std.proofs.lemmas.List.{length-map, length-drop}
use Rattle.std.proofs.lemmas.List.Elements.{All-nil, All-cons}
use Rattle.std.proofs.lemmas.List.Sorted.{length_permutation}
use Rattle.cpt_task.specs.declared.plan.Occ.{Occ}
use Rattle.cpt_task.specs.Shape.{TaskShape}
use Rattle.cpt_task.specs.Timeline.{end_of, makespan}
use Rattle.cpt_sheet.specs.declared.data.Decision.{Decision}
use Rattle.cpt_fresh.proofs.LastLemmas.{tokens_by_decisions}
use Rattle.cpt_tree.specs.declared.expansion.Expansion.{Expansion}
use Rattle.cpt_tree.specs.Trees.{Node, SearchTree, Traverses, IsFirstLeaf, choices, children_of, root}
use Rattle.cpt_tree.proofs.TraversalLemmas.{AreAll}
use Rattle.cpt_outcome.specs.Nodes.{SearchProblem, search_tree}
use Rattle.cpt_outcome.specs.Leaves.{occurrence_of, token_occurrences}
use Rattle.cpt_outcome.specs.Outcomes.{IsPlanOfNode}
use Rattle.cpt_cert_print.specs.Whole.{ComesBefore, IsListedPlan}
use Rattle.cpt_cert_accept.specs.Accepting.{is_no_sooner, IsInOrder}

-- none of them has more than n decisions
abbrev AreUpTo : ℕ → List Node → Type 0
AreUpTo n stack = AreAll (λ ds. length ds ≤ n) stack

both : (n : ℕ) (xs ys : List Node) → AreUpTo n xs → AreUpTo n ys → AreUpTo n (xs ++ ys)
both n [] ys h k = k
both n (x ∷ xs) ys h k = (h.0, both n xs ys h.1 k)

wider : (n : ℕ) (xs : List Node) → AreUpTo n xs → AreUpTo (suc n) xs
wider n [] h = tt
wider n (x ∷ xs) h = let le = h.0 in (omega (arith, le), wider n xs h.1)

deeper : (n : ℕ) (ds : Node) (ks : List Decision) → length ds ≤ n → AreUpTo (suc n) (children_of ds ks)
deeper n ds [] le = tt
deeper n ds (k ∷ ks) le = let e = length-append ds (k ∷ []) in (omega (arith, e, le), deeper n ds ks le)

frontier_up_to : (T : SearchTree) (n : ℕ) (stack : List Node) (fs : List Expansion) (frontier : List Node) → Traverses T stack fs frontier → AreUpTo n stack → AreUpTo (n + length fs) frontier
frontier_up_to T n stack [] frontier e h = subst (λ z. AreUpTo z frontier) (omega arith) (subst (AreUpTo n) (sym e) h)
frontier_up_to T n [] (f ∷ fs) frontier t h = absurd t
frontier_up_to T n (ds ∷ stack) (f ∷ fs) frontier t h =
    subst (λ z. AreUpTo z frontier) (omega arith)
    (frontier_up_to T (suc n) (children_of ds (choices f) ++ stack) fs frontier t.1 (both (suc n) (children_of ds (choices f)) stack (deeper n ds (choices f) h.0) (wider n stack h.1)))

-- a leaf among the first n nodes has fewer than n decisions
leaf_depth : (T : SearchTree) (n : ℕ) (ds : Node) → IsFirstLeaf T n ds → length ds < n
leaf_depth T n ds (fs, frontier, begun, leaf, lt) = let up = frontier_up_to T 0 root fs (ds ∷ frontier) begun.traversal (omega arith, tt) in let le = up.0 in omega (arith, le, lt)

-- each occurrence starts no later than the makespan
starts_by_makespan : (t : TaskShape) (plan : List Occ) → All (λ (o : Occ). o.start ≤ makespan t plan) plan
starts_by_makespan t [] = All-nil (λ (o : Occ). o.start ≤ 0)
starts_by_makespan t (o ∷ os) =
    let m = makespan t os in
    let more = starts_by_makespan t os in
    All-cons (λ (q : Occ). q.start ≤ max (end_of t o) m) o os (omega arith) (λ k d l. let le = more k d l in omega (arith, le))

-- the plan of a leaf can be listed
pub leaf_listed : (w : SearchProblem) (b n : ℕ) (ds : Node) (plan : List Occ) → IsFirstLeaf (search_tree w b) n ds → n ≤ 4000000000 → IsPlanOfNode w b ds plan → makespan w.task plan ≤ 1000000 → IsListedPlan plan
leaf_listed w b n ds plan leaf budget (u, fresh, p) short =
    let deep = leaf_depth (search_tree w b) n ds leaf in
    let tokens = tokens_by_decisions w.rules w.task w.tables b ds u fresh in
    let same = length_permutation (token_occurrences u) plan p.tokens in
    let map_of = length-map (drop 2 u.tokens) occurrence_of in
    let rest = length-drop 2 u.tokens in
    record {
      order = λ i j d l m. p.order i j d l m;
      few = omega (arith, deep, tokens, same, map_of, rest, budget);
      starts = λ k d l. let le = starts_by_makespan w.task plan k d l in omega (arith, le, short);
    }

-- the empty plan can be listed
pub nothing_listed : IsListedPlan []
nothing_listed = record { order = λ i j d l m. absurd (omega (arith, m)); few = omega arith; starts = All-nil (λ (o : Occ). o.start < 10 ^ 15) }

-- a plan in the order of the printer is in that of the checker
pub in_order : (plan : List Occ) → AllPairs ComesBefore plan → IsInOrder plan
in_order [] h = tt
in_order (o ∷ []) h = tt
in_order (o ∷ q ∷ os) h = (first (h 0 1 o (omega arith) (omega arith)), in_order (q ∷ os) (λ i j d l m. h (suc i) (suc j) d (omega (arith, l)) (omega (arith, m))))
  where
    first : ComesBefore o q → is_no_sooner o q ≡ true
    first (inl lt) = or_left (nat_lt o.start q.start) ((o.start == q.start) && nat_le o.act q.act) (lt-ltb o.start q.start lt)
    first (inr (e, le)) = or_right (nat_lt o.start q.start) ((o.start == q.start) && nat_le o.act q.act) (and_from (o.start == q.start) (nat_le o.act q.act) (eq-eqb o.start q.start e) (le-leb o.act q.act le))
