-- how many nodes a tree has, and that a traversal visits them all
use Rattle.std.proofs.Common.{◌≡◌, ℕ, zero, suc, ◌+◌, ◌*◌, ◌^◌, ◌-◌, ◌≤◌, ◌<◌, ◌⊎◌, inl, inr, List, [], ◌∷◌, ◌++◌, length, Contains, refl, sym, ap, ◌∙◌, subst, arith, length-append}
use native.Mathlib.Numerals.{unary_clauses}
use Rattle.std.proofs.Math.Nat.{mul-le-mul_right, pow-succ'}
use Rattle.std.proofs.lemmas.List.Elements.{Contains-append_left, Contains-append_right, Contains-append_cases}
use Rattle.cpt_sheet.specs.declared.data.Decision.{Decision}
use Rattle.cpt_tree.specs.declared.expansion.Expansion.{Expansion}
use Rattle.cpt_tree.specs.Trees.{Node, SearchTree, IsDeterministic, Traverses, choices, children_of, root, IsNode, top, child}
use Rattle.cpt_tree.specs.Counts.{power_sum, BranchesAtMost, IsAtMostDeep, LowersMeasure, HasAtMostNodes, visited_nodes}
use Rattle.cpt_tree.proofs.TraversalLemmas.{AreNodes, nodes-append, nodes-children}

pub power_sum-step : (w d : ℕ) → power_sum w (suc d) ≡ 1 + w * power_sum w d
power_sum-step w zero = ap (λ z. 1 + z) (first w)
  where
    first : (w : ℕ) → w ^ 1 ≡ w * 1
    first w = let e : w ^ 0 ≡ 1 = simp unary_clauses in pow-succ' w 0 ∙ ap (λ z. w * z) e
power_sum-step w (suc d) = let ih = power_sum-step w d in omega (arith, ih, pow-succ' w (suc d))

pub power_sum-some : (w d : ℕ) → 1 ≤ power_sum w d
power_sum-some w zero = omega arith
power_sum-some w (suc d) = let ih = power_sum-some w d in omega arith

-- each decision takes room: so no node has more decisions than there is room at the root
pub shallow-room : (T : SearchTree) (room : Node → ℕ) → LowersMeasure T room → (ds : Node) → IsNode T ds → length ds + room ds ≤ room []
shallow-room T room less ds top = omega arith
shallow-room T room less ds (child es f k n h c) = let ih = shallow-room T room less es n in omega (arith, length-append es (k ∷ []), less es f k n h c)

-- the most nodes that the trees below a stack can have
pub weigh : ℕ → ℕ → List Node → ℕ
weigh w d [] = 0
weigh w d (ds ∷ stack) = power_sum w (d - length ds) + weigh w d stack

weigh-append : (w d : ℕ) (xs ys : List Node) → weigh w d (xs ++ ys) ≡ weigh w d xs + weigh w d ys
unfolding weigh
weigh-append w d [] ys = omega arith
weigh-append w d (x ∷ xs) ys = let ih = weigh-append w d xs ys in omega arith

weigh-children : (w d : ℕ) (ds : Node) (ks : List Decision) → weigh w d (children_of ds ks) ≡ length ks * power_sum w (d - suc (length ds))
unfolding weigh
weigh-children w d ds [] = omega arith
weigh-children w d ds (k ∷ ks) = join (length (ds ++ k ∷ [])) (suc (length ds)) (weigh w d (children_of ds ks)) (length ks) (omega (arith, length-append ds (k ∷ []))) (weigh-children w d ds ks)
  where
    join : (a b r n : ℕ) → a ≡ b → r ≡ n * power_sum w (d - b) → power_sum w (d - a) + r ≡ suc n * power_sum w (d - b)
    join a b r n e f = rw e (omega (arith, f))

weigh-some : (w d : ℕ) (stack : List Node) → length stack ≤ weigh w d stack
unfolding weigh
weigh-some w d [] = omega arith
weigh-some w d (ds ∷ stack) = let ih = weigh-some w d stack in omega (arith, power_sum-some w (d - length ds))

-- a node that is visited weighs more than its children
pays : (T : SearchTree) (w d : ℕ) → BranchesAtMost T w → IsAtMostDeep T d → (ds : Node) (f : Expansion) → IsNode T ds → T ds f → weigh w d (children_of ds (choices f)) < power_sum w (d - length ds)
unfolding weigh
pays T w d narrow shallow ds f n h = go (choices f) (narrow ds f n h) (nodes-children T ds f [] (choices f) n h refl)
  where
    go : (ks : List Decision) → length ks ≤ w → AreNodes T (children_of ds ks) → weigh w d (children_of ds ks) < power_sum w (d - length ds)
    go [] le a = power_sum-some w (d - length ds)
    go (k ∷ ks) le a =
        let deep = shallow (ds ++ k ∷ []) a.0 in
        let e : d - length ds ≡ suc (d - suc (length ds)) = omega (arith, length-append ds (k ∷ [])) in
        rw (weigh-children w d ds (k ∷ ks), e, power_sum-step w (d - suc (length ds))) (omega (arith, mul-le-mul_right (power_sum w (d - suc (length ds))) le))

pub traverses-weigh : (T : SearchTree) (w d : ℕ) → BranchesAtMost T w → IsAtMostDeep T d → (stack : List Node) (fs : List Expansion) (frontier : List Node) → AreNodes T stack → Traverses T stack fs frontier → length fs + weigh w d frontier ≤ weigh w d stack
unfolding weigh
traverses-weigh T w d narrow shallow stack [] frontier n t = rw t (omega arith)
traverses-weigh T w d narrow shallow [] (f ∷ fs) frontier n t = absurd t
traverses-weigh T w d narrow shallow (ds ∷ stack) (f ∷ fs) frontier n t =
    let ih = traverses-weigh T w d narrow shallow (children_of ds (choices f) ++ stack) fs frontier (nodes-append T (children_of ds (choices f)) stack (nodes-children T ds f [] (choices f) n.0 t.0 refl) n.1) t.1 in
    omega (arith, ih, weigh-append w d (children_of ds (choices f)) stack, pays T w d narrow shallow ds f n.0 t.0)

-- a tree of so many decisions and so many children at each node
pub tree-bounded : (T : SearchTree) (w d : ℕ) → BranchesAtMost T w → IsAtMostDeep T d → HasAtMostNodes T (power_sum w d)
unfolding weigh
tree-bounded T w d narrow shallow fs frontier t = join (d - length {A = Decision} []) (omega arith) (traverses-weigh T w d narrow shallow root fs frontier (top, tt) t) (weigh-some w d frontier)
  where
    join : (e : ℕ) → e ≡ d → length fs + weigh w d frontier ≤ power_sum w e + 0 → length frontier ≤ weigh w d frontier → length fs + length frontier ≤ power_sum w d
    join e same a b = omega (arith, subst (λ z. length fs + weigh w d frontier ≤ power_sum w z + 0) same a, b)

single : {A : Type 0} (x p : A) → Contains (x ∷ []) p → x ≡ p
single x p (zero, lt, e) = e
single x p (suc i, lt, e) = absurd (omega arith)

first : {A : Type 0} (x : A) (xs : List A) → Contains (x ∷ xs) x
first x xs = (0, omega arith, refl)

child-there : (ds : Node) (ks : List Decision) (k : Decision) → Contains ks k → Contains (children_of ds ks) (ds ++ k ∷ [])
child-there ds [] k (i, lt, e) = absurd (omega arith)
child-there ds (j ∷ ks) k c = go (Contains-append_cases (j ∷ []) ks k c) (λ h. child-there ds ks k h)
  where
    go : Contains (j ∷ []) k ⊎ Contains ks k → (Contains ks k → Contains (children_of ds ks) (ds ++ k ∷ [])) → Contains ((ds ++ j ∷ []) ∷ children_of ds ks) (ds ++ k ∷ [])
    go (inl h) ih = subst (λ z. Contains ((ds ++ j ∷ []) ∷ children_of ds ks) (ds ++ z ∷ [])) (single j k h) (first (ds ++ j ∷ []) (children_of ds ks))
    go (inr h) ih = Contains-append_right ((ds ++ j ∷ []) ∷ []) (children_of ds ks) (ds ++ k ∷ []) (ih h)

-- every node on the stack of a traversal that leaves nothing is visited
pub stack-visited : (T : SearchTree) (stack : List Node) (fs : List Expansion) (p : Node) → Traverses T stack fs [] → Contains stack p → Contains (visited_nodes stack fs) p
stack-visited T stack [] p t c = subst (λ z. Contains z p) (sym t) c
stack-visited T [] (f ∷ fs) p t c = absurd t
stack-visited T (ds ∷ stack) (f ∷ fs) p t c =
    go (Contains-append_cases (ds ∷ []) stack p c) (λ h. stack-visited T (children_of ds (choices f) ++ stack) fs p t.1 (Contains-append_right (children_of ds (choices f)) stack p h))
  where
    go : Contains (ds ∷ []) p ⊎ Contains stack p → (Contains stack p → Contains (visited_nodes (children_of ds (choices f) ++ stack) fs) p) → Contains (ds ∷ visited_nodes (children_of ds (choices f) ++ stack) fs) p
    go (inl h) ih = Contains-append_left (ds ∷ []) (visited_nodes (children_of ds (choices f) ++ stack) fs) p h
    go (inr h) ih = Contains-append_right (ds ∷ []) (visited_nodes (children_of ds (choices f) ++ stack) fs) p (ih h)

-- with a node its children are visited
pub child-visited : (T : SearchTree) → IsDeterministic T → (stack : List Node) (fs : List Expansion) (p : Node) (f : Expansion) (k : Decision) → Traverses T stack fs [] → T p f → Contains (choices f) k → Contains (visited_nodes stack fs) p → Contains (visited_nodes stack fs) (p ++ k ∷ [])
child-visited T one stack [] p f k t h c v = absurd (omega (arith, v.1))
child-visited T one [] (g ∷ fs) p f k t h c v = absurd t
child-visited T one (ds ∷ stack) (g ∷ fs) p f k t h c v =
    go (Contains-append_cases (ds ∷ []) (visited_nodes (children_of ds (choices g) ++ stack) fs) p v) (λ u. child-visited T one (children_of ds (choices g) ++ stack) fs p f k t.1 h c u)
  where
    rest : List Node
    rest = visited_nodes (children_of ds (choices g) ++ stack) fs

    go : Contains (ds ∷ []) p ⊎ Contains (visited_nodes (children_of ds (choices g) ++ stack) fs) p → (Contains (visited_nodes (children_of ds (choices g) ++ stack) fs) p → Contains (visited_nodes (children_of ds (choices g) ++ stack) fs) (p ++ k ∷ [])) →
        Contains (ds ∷ visited_nodes (children_of ds (choices g) ++ stack) fs) (p ++ k ∷ [])
    go (inl u) ih =
        let e : ds ≡ p = single ds p u in
        let same : f ≡ g = one ds f g (subst (λ z. T z f) (sym e) h) t.0 in
        let there : Contains (children_of ds (choices g)) (ds ++ k ∷ []) = child-there ds (choices g) k (subst (λ z. Contains (choices z) k) same c) in
        let on : Contains (children_of ds (choices g) ++ stack) (ds ++ k ∷ []) = Contains-append_left (children_of ds (choices g)) stack (ds ++ k ∷ []) there in
        Contains-append_right (ds ∷ []) (visited_nodes (children_of ds (choices g) ++ stack) fs) (p ++ k ∷ [])
        (subst (λ z. Contains (visited_nodes (children_of ds (choices g) ++ stack) fs) (z ++ k ∷ [])) e (stack-visited T (children_of ds (choices g) ++ stack) fs (ds ++ k ∷ []) t.1 on))
    go (inr u) ih = Contains-append_right (ds ∷ []) (visited_nodes (children_of ds (choices g) ++ stack) fs) (p ++ k ∷ []) (ih u)

-- a finished traversal visits every node of the tree
pub node-visited : (T : SearchTree) → IsDeterministic T → (fs : List Expansion) → Traverses T root fs [] → (p : Node) → IsNode T p → Contains (visited_nodes root fs) p
node-visited T one fs t p top = stack-visited T root fs [] t (first [] [])
node-visited T one fs t p (child ds f k n h c) = child-visited T one root fs ds f k t h c (node-visited T one fs t ds n)

-- and no other
pub visited-node : (T : SearchTree) (stack : List Node) (fs : List Expansion) (frontier : List Node) → Traverses T stack fs frontier → AreNodes T stack → AreNodes T (visited_nodes stack fs)
visited-node T stack [] frontier t n = tt
visited-node T [] (f ∷ fs) frontier t n = absurd t
visited-node T (ds ∷ stack) (f ∷ fs) frontier t n =
    (n.0, visited-node T (children_of ds (choices f) ++ stack) fs frontier t.1 (nodes-append T (children_of ds (choices f)) stack (nodes-children T ds f [] (choices f) n.0 t.0 refl) n.1))

pub nodes-listed : (T : SearchTree) (xs : List Node) (p : Node) → AreNodes T xs → Contains xs p → IsNode T p
nodes-listed T [] p n c = absurd (omega (arith, c.1))
nodes-listed T (x ∷ xs) p n c = go (Contains-append_cases (x ∷ []) xs p c) (λ h. nodes-listed T xs p n.1 h)
  where
    go : Contains (x ∷ []) p ⊎ Contains xs p → (Contains xs p → IsNode T p) → IsNode T p
    go (inl h) ih = subst (IsNode T) (single x p h) n.0
    go (inr h) ih = ih h

pub bounded : (T : SearchTree) (w d : ℕ) (room : Node → ℕ) → LowersMeasure T room → room [] ≤ d → BranchesAtMost T w → HasAtMostNodes T (power_sum w d)
bounded T w d room takes le narrow = tree-bounded T w d narrow (λ ds n. omega (arith, shallow-room T room takes ds n))
