-- visits in depth-first order
use Rattle.std.proofs.Common.{◌≡◌, ◌≤◌, List, [], ◌∷◌, ◌++◌, length, Contains, refl, sym, subst, append_assoc, arith}
use Rattle.std.proofs.lemmas.List.{same_from_push}
use Rattle.std.proofs.lemmas.List.Elements.{Contains-append_right}
use Rattle.cpt_sheet.specs.declared.data.Decision.{Decision}
use Rattle.cpt_tree.specs.declared.expansion.Expansion.{Expansion}
use Rattle.cpt_tree.specs.declared.expansion.Expansion.TheVariants.{Closed, Leaf, Branched}
use Rattle.cpt_tree.specs.Trees.{Node, SearchTree, IsDeterministic, Traverses, choices, children_of, HaveNoLeaf, IsNode, top, child}

pub traverses-append : (T : SearchTree) (stack : List Node) (fs gs : List Expansion) (mid frontier : List Node) → Traverses T stack fs mid → Traverses T mid gs frontier → Traverses T stack (fs ++ gs) frontier
traverses-append T stack [] gs mid frontier e t = subst (λ z. Traverses T z gs frontier) e t
traverses-append T [] (f ∷ fs) gs mid frontier h t = absurd h
traverses-append T (ds ∷ stack) (f ∷ fs) gs mid frontier h t = (h.0, traverses-append T (children_of ds (choices f) ++ stack) fs gs mid frontier h.1 t)

-- one visit more
pub traverses-next : (T : SearchTree) (stack : List Node) (fs : List Expansion) (ds : Node) (f : Expansion) (frontier : List Node) → Traverses T stack fs (ds ∷ frontier) → T ds f → Traverses T stack (fs ++ f ∷ []) (children_of ds (choices f) ++ frontier)
traverses-next T stack fs ds f frontier t h = traverses-append T stack fs (f ∷ []) (ds ∷ frontier) (children_of ds (choices f) ++ frontier) t (h, refl)

pub leafless-append : (fs gs : List Expansion) → HaveNoLeaf fs → HaveNoLeaf gs → HaveNoLeaf (fs ++ gs)
leafless-append [] gs h k = k
leafless-append (Closed ∷ fs) gs h k = leafless-append fs gs h k
leafless-append (Leaf ∷ fs) gs h k = absurd h
leafless-append (Branched flaw ks ∷ fs) gs h k = leafless-append fs gs h k

pub leafless-right : (fs gs : List Expansion) → HaveNoLeaf (fs ++ gs) → HaveNoLeaf gs
leafless-right [] gs h = h
leafless-right (Closed ∷ fs) gs h = leafless-right fs gs h
leafless-right (Leaf ∷ fs) gs h = absurd h
leafless-right (Branched flaw ks ∷ fs) gs h = leafless-right fs gs h

-- of two tours from one stack the shorter one is the front of the longer one, which goes on from what the shorter leaves
pub one-traversal : (T : SearchTree) → IsDeterministic T → (stack : List Node) (fs gs : List Expansion) (frontier rest : List Node) → Traverses T stack fs frontier → Traverses T stack gs rest → length fs ≤ length gs →
    (hs : List Expansion) × (gs ≡ fs ++ hs) × Traverses T frontier hs rest
one-traversal T one stack [] gs frontier rest e t le = (gs, refl, subst (λ z. Traverses T z gs rest) (sym e) t)
one-traversal T one [] (f ∷ fs) gs frontier rest h t le = absurd h
one-traversal T one (ds ∷ stack) (f ∷ fs) [] frontier rest h t le = absurd (omega arith)
one-traversal T one (ds ∷ stack) (f ∷ fs) (g ∷ gs) frontier rest h t le =
    let e : g ≡ f = one ds g f t.0 h.0 in
    let P : Expansion → Type 0 = λ z. Traverses T (children_of ds (choices z) ++ stack) gs rest in
    let ih = one-traversal T one (children_of ds (choices f) ++ stack) fs gs frontier rest h.1 (subst P e t.1) (omega arith) in
    (ih.0, ends f g (fs ++ ih.0) gs e ih.1, ih.2)
  where
    ends : (f g : Expansion) (fs gs : List Expansion) → g ≡ f → gs ≡ fs → g ∷ gs ≡ f ∷ fs
    ends f g fs gs e k = cc

-- a traversal that leaves nothing is as long as any from its stack
pub traverses-whole : (T : SearchTree) → IsDeterministic T → (stack : List Node) (fs gs : List Expansion) (rest : List Node) → Traverses T stack fs [] → Traverses T stack gs rest → length gs ≤ length fs
traverses-whole T one stack fs [] rest t s = omega arith
traverses-whole T one [] fs (g ∷ gs) rest t s = absurd s
traverses-whole T one (ds ∷ stack) [] (g ∷ gs) rest t s = absurd (cc)
traverses-whole T one (ds ∷ stack) (f ∷ fs) (g ∷ gs) rest t s =
    let e : g ≡ f = one ds g f s.0 t.0 in
    let P : Expansion → Type 0 = λ z. Traverses T (children_of ds (choices z) ++ stack) gs rest in
    let ih = traverses-whole T one (children_of ds (choices f) ++ stack) fs gs rest t.1 (subst P e s.1) in
    omega arith

-- What is frontier behind the first visits of a traversal, where more are to come, is not nothing.
pub traverses-more : (T : SearchTree) (stack : List Node) (fs : List Expansion) (frontier : List Node) → Traverses T [] fs frontier → fs ≡ []
traverses-more T stack [] frontier t = refl
traverses-more T stack (f ∷ fs) frontier t = absurd t

-- each of them is a node of the tree
abbrev pub AreNodes : SearchTree → List Node → Type 0
AreNodes T [] = Unit {0}
AreNodes T (ds ∷ stack) = IsNode T ds × AreNodes T stack

pub nodes-append : (T : SearchTree) (xs ys : List Node) → AreNodes T xs → AreNodes T ys → AreNodes T (xs ++ ys)
nodes-append T [] ys a b = b
nodes-append T (x ∷ xs) ys a b = (a.0, nodes-append T xs ys a.1 b)

pub nodes-children : (T : SearchTree) (ds : Node) (f : Expansion) (before ks : List Decision) → IsNode T ds → T ds f → choices f ≡ before ++ ks → AreNodes T (children_of ds ks)
nodes-children T ds f before [] n h e = tt
nodes-children T ds f before (k ∷ ks) n h e = (
  child ds f k n h (subst (λ z. Contains z k) (sym e) (Contains-append_right before (k ∷ ks) k (first k ks))),
  nodes-children T ds f (before ++ k ∷ []) ks n h (shift (choices f) before k ks e),
)
  where
    first : (k : Decision) (ks : List Decision) → Contains (k ∷ ks) k
    first k ks = (0, omega arith, refl)

    shift : (all before : List Decision) (k : Decision) (ks : List Decision) → all ≡ before ++ k ∷ ks → all ≡ (before ++ k ∷ []) ++ ks
    shift all before k ks e = rw append_assoc e

pub traverses-nodes : (T : SearchTree) (stack : List Node) (fs : List Expansion) (frontier : List Node) → Traverses T stack fs frontier → AreNodes T stack → AreNodes T frontier
traverses-nodes T stack [] frontier e n = subst (λ z. AreNodes T z) (sym e) n
traverses-nodes T [] (f ∷ fs) frontier t n = absurd t
traverses-nodes T (ds ∷ stack) (f ∷ fs) frontier t n =
    traverses-nodes T (children_of ds (choices f) ++ stack) fs frontier t.1 (nodes-append T (children_of ds (choices f)) stack (nodes-children T ds f [] (choices f) n.0 t.0 refl) n.1)

-- a node that is not the root is a child of a branched one
pub node-child : (T : SearchTree) (p : Node) → IsNode T p → (ds : Node) (k : Decision) → p ≡ ds ++ k ∷ [] → (f : Expansion) × T ds f × Contains (choices f) k
node-child T p top ds k e = absurd (empty ds k e)
  where
    empty : (ds : Node) (k : Decision) → [] ≡ ds ++ k ∷ [] → ⊥
    empty [] k e = cc
    empty (d ∷ ds) k e = cc
node-child T p (child es f j n h c) ds k e =
    let same = same_from_push es ds j k e in
    (f, subst (λ z. T z f) same.0 h, subst (λ z. Contains (choices f) z) same.1 c)

-- What is so of each node that is closed, and of each branched one where it is so of all its children, is so of the root
-- of a finished tree without a leaf.
abbrev pub AreAll : (Node → Type 0) → List Node → Type 0
AreAll P [] = Unit {0}
AreAll P (ds ∷ stack) = P ds × AreAll P stack

pub all-append : (P : Node → Type 0) (xs ys : List Node) → AreAll P (xs ++ ys) → AreAll P xs × AreAll P ys
all-append P [] ys h = (tt, h)
all-append P (x ∷ xs) ys h = let ih = all-append P xs ys h.1 in ((h.0, ih.0), ih.1)

pub leafless-induction : (T : SearchTree) (P : Node → Type 0) → ((ds : Node) → T ds Closed → P ds) → ((ds : Node) (f : Expansion) → T ds f → HaveNoLeaf (f ∷ []) → AreAll P (children_of ds (choices f)) → P ds) →
    (stack : List Node) (fs : List Expansion) (frontier : List Node) → Traverses T stack fs frontier → HaveNoLeaf fs → AreAll P frontier → AreAll P stack
leafless-induction T P closed branched stack [] frontier e l a = subst (λ z. AreAll P z) e a
leafless-induction T P closed branched [] (f ∷ fs) frontier t l a = absurd t
leafless-induction T P closed branched (ds ∷ stack) (Closed ∷ fs) frontier t l a = (closed ds t.0, leafless-induction T P closed branched stack fs frontier t.1 l a)
leafless-induction T P closed branched (ds ∷ stack) (Leaf ∷ fs) frontier t l a = absurd l
leafless-induction T P closed branched (ds ∷ stack) (Branched flaw ks ∷ fs) frontier t l a =
    let ih = all-append P (children_of ds ks) stack (leafless-induction T P closed branched (children_of ds ks ++ stack) fs frontier t.1 l a) in
    (branched ds (Branched flaw ks) t.0 tt ih.0, ih.1)
