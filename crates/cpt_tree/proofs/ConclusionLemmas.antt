-- a search ends in one way
use Rattle.std.proofs.Common.{◌≡◌, ℕ, suc, ◌≤◌, ◌<◌, ◌⊎◌, inl, inr, List, [], ◌∷◌, ◌++◌, length, refl, sym, ap, subst, arith, length-append}
use Rattle.cpt_tree.specs.declared.expansion.Expansion.{Expansion}
use Rattle.cpt_tree.specs.declared.expansion.Expansion.TheVariants.{Leaf}
use Rattle.cpt_tree.specs.Trees.{Node, SearchTree, IsDeterministic, Traverses, root, HaveNoLeaf, IsLeafless, IsExhausted, IsFirstLeaf, IsOverBudget}
use Rattle.cpt_tree.specs.Deepening.{Conclusion, solved, exhausted, spent, AreExhausted, Concludes}
use Rattle.cpt_tree.proofs.TraversalLemmas.{one-traversal, traverses-whole, leafless-right}
use Rattle.std.proofs.lemmas.Bool.{cases_order}

-- a traversal that meets a leaf is not leafless
meets : (T : SearchTree) → IsDeterministic T → (ds : Node) (frontier : List Node) (hs : List Expansion) (rest : List Node) → T ds Leaf → Traverses T (ds ∷ frontier) hs rest → HaveNoLeaf hs → hs ≡ []
meets T one ds frontier [] rest leaf t n = refl
meets T one ds frontier (h ∷ hs) rest leaf t n = absurd (subst (λ z. HaveNoLeaf (z ∷ hs)) (one ds h Leaf t.0 leaf) n)

pub leafless-no-leaf : (T : SearchTree) (n : ℕ) (ds : Node) → IsDeterministic T → IsExhausted T n → IsFirstLeaf T n ds → ⊥
leafless-no-leaf T n ds one (fs, b, le) (gs, frontier, c, leaf, lt) =
    let whole = traverses-whole T one root fs gs (ds ∷ frontier) b.traversal c.traversal in
    let split = one-traversal T one root gs fs (ds ∷ frontier) [] c.traversal b.traversal whole in
    let e = meets T one ds frontier split.0 [] leaf split.2 (leafless-right gs split.0 (subst HaveNoLeaf split.1 b.leafless)) in
    let t : Traverses T (ds ∷ frontier) [] [] = subst (λ z. Traverses T (ds ∷ frontier) z []) e split.2 in
    cc

pub leafless-small : (T : SearchTree) (n : ℕ) → IsDeterministic T → IsExhausted T n → IsOverBudget T n → ⊥
leafless-small T n one (fs, b, le) (gs, frontier, c, len, more) =
    let whole = traverses-whole T one root fs gs frontier b.traversal c.traversal in
    let split = one-traversal T one root gs fs frontier [] c.traversal b.traversal whole in
    more (nothing fs gs split.0 frontier n split.1 len le split.2)
  where
    nothing : (fs gs hs : List Expansion) (frontier : List Node) (n : ℕ) → fs ≡ gs ++ hs → length gs ≡ n → length fs ≤ n → Traverses T frontier hs [] → frontier ≡ []
    nothing fs gs [] frontier n e len le t = sym t
    nothing fs gs (h ∷ hs) frontier n e len le t = absurd (omega (arith, ap length e, length-append gs (h ∷ hs)))

pub leaf-large : (T : SearchTree) (n : ℕ) (ds : Node) → IsDeterministic T → IsFirstLeaf T n ds → IsOverBudget T n → ⊥
leaf-large T n ds one (fs, frontier, b, leaf, lt) (gs, rest, c, len, more) =
    let split = one-traversal T one root fs gs (ds ∷ frontier) rest b.traversal c.traversal (omega arith) in
    let e = meets T one ds frontier split.0 rest leaf split.2 (leafless-right fs split.0 (subst HaveNoLeaf split.1 c.leafless)) in
    clash fs gs split.0 n split.1 e len lt
  where
    clash : (fs gs hs : List Expansion) (n : ℕ) → gs ≡ fs ++ hs → hs ≡ [] → length gs ≡ n → length fs < n → ⊥
    clash fs gs hs n e empty len lt = omega (arith, ap length e, length-append fs hs, ap length empty)

le_or : (a b : ℕ) → (a ≤ b) ⊎ (b ≤ a)
le_or a b = grind arith

-- a tree has one first leaf
pub one-leaf : (T : SearchTree) (n : ℕ) (ds es : Node) → IsDeterministic T → IsFirstLeaf T n ds → IsFirstLeaf T n es → ds ≡ es
one-leaf T n ds es one (fs, frontier, b, leaf, lt) (gs, rest, c, also, less) = go (le_or (length fs) (length gs))
  where
    same : (T : SearchTree) → IsDeterministic T → (ds es : Node) (frontier rest : List Node) (fs gs : List Expansion) → Traverses T root fs (ds ∷ frontier) → T ds Leaf → IsLeafless T gs (es ∷ rest) → length fs ≤ length gs → es ≡ ds
    same T one ds es frontier rest fs gs t leaf c le =
        let split = one-traversal T one root fs gs (ds ∷ frontier) (es ∷ rest) t c.traversal le in
        let e = meets T one ds frontier split.0 (es ∷ rest) leaf split.2 (leafless-right fs split.0 (subst HaveNoLeaf split.1 c.leafless)) in
        let u : Traverses T (ds ∷ frontier) [] (es ∷ rest) = subst (λ z. Traverses T (ds ∷ frontier) z (es ∷ rest)) e split.2 in
        cc

    go : (length fs ≤ length gs) ⊎ (length gs ≤ length fs) → ds ≡ es
    go (inl le) = sym (same T one ds es frontier rest fs gs b.traversal leaf c le)
    go (inr le) = same T one es ds rest frontier gs fs c.traversal also b le

-- below a bound with a leaf, or with too large a tree, all are leafless: so two ends are at one bound
apart-leaf : (T : ℕ → SearchTree) (n first b c : ℕ) (ds : Node) → ((x : ℕ) → IsDeterministic (T x)) → first ≤ b → b < c → AreExhausted T n first c → IsFirstLeaf (T b) n ds → ⊥
apart-leaf T n first b c ds one le lt below leaf = leafless-no-leaf (T b) n ds (one b) (below b le lt) leaf

apart-large : (T : ℕ → SearchTree) (n first b c : ℕ) → ((x : ℕ) → IsDeterministic (T x)) → first ≤ b → b < c → AreExhausted T n first c → IsOverBudget (T b) n → ⊥
apart-large T n first b c one le lt below large = leafless-small (T b) n (one b) (below b le lt) large

pub one-conclusion : (T : ℕ → SearchTree) → ((b : ℕ) → IsDeterministic (T b)) → (n first most : ℕ) (e f : Conclusion) → Concludes T n first most e → Concludes T n first most f → e ≡ f
one-conclusion T one n first most (solved b ds) (solved c es) h k = go (cases_order b c)
  where
    go : (b ≡ c) ⊎ ((b < c) ⊎ (c < b)) → solved b ds ≡ solved c es
    go (inl e) = let same = one-leaf (T b) n ds es (one b) h.3 (subst (λ z. IsFirstLeaf (T z) n es) (sym e) k.3) in cc
    go (inr (inl lt)) = absurd (apart-leaf T n first b c ds one h.0 lt k.2 h.3)
    go (inr (inr lt)) = absurd (apart-leaf T n first c b es one k.0 lt h.2 k.3)
one-conclusion T one n first most (solved b ds) exhausted h k = absurd (apart-leaf T n first b (suc most) ds one h.0 (omega arith) k h.3)
one-conclusion T one n first most (solved b ds) (spent c) h k = go (cases_order b c)
  where
    go : (b ≡ c) ⊎ ((b < c) ⊎ (c < b)) → solved b ds ≡ spent c
    go (inl e) = absurd (leaf-large (T b) n ds (one b) h.3 (subst (λ z. IsOverBudget (T z) n) (sym e) k.3))
    go (inr (inl lt)) = absurd (apart-leaf T n first b c ds one h.0 lt k.2 h.3)
    go (inr (inr lt)) = absurd (apart-large T n first c b one k.0 lt h.2 k.3)
one-conclusion T one n first most exhausted (solved c es) h k = absurd (apart-leaf T n first c (suc most) es one k.0 (omega arith) h k.3)
one-conclusion T one n first most exhausted exhausted h k = refl
one-conclusion T one n first most exhausted (spent c) h k = absurd (apart-large T n first c (suc most) one k.0 (omega arith) h k.3)
one-conclusion T one n first most (spent b) (solved c es) h k = go (cases_order b c)
  where
    go : (b ≡ c) ⊎ ((b < c) ⊎ (c < b)) → spent b ≡ solved c es
    go (inl e) = absurd (leaf-large (T c) n es (one c) k.3 (subst (λ z. IsOverBudget (T z) n) e h.3))
    go (inr (inl lt)) = absurd (apart-large T n first b c one h.0 lt k.2 h.3)
    go (inr (inr lt)) = absurd (apart-leaf T n first c b es one k.0 lt h.2 k.3)
one-conclusion T one n first most (spent b) exhausted h k = absurd (apart-large T n first b (suc most) one h.0 (omega arith) k h.3)
one-conclusion T one n first most (spent b) (spent c) h k = go (cases_order b c)
  where
    go : (b ≡ c) ⊎ ((b < c) ⊎ (c < b)) → spent b ≡ spent c
    go (inl e) = ap spent e
    go (inr (inl lt)) = absurd (apart-large T n first b c one h.0 lt k.2 h.3)
    go (inr (inr lt)) = absurd (apart-large T n first c b one k.0 lt h.2 k.3)
