-- a search through the bounds, in a space
use Rattle.std.proofs.Common.{◌≡◌, ℕ, suc, ◌+◌, ◌*◌, ◌^◌, ◌≤◌, ◌<◌, ◌⊎◌, inl, inr, List, [], ◌∷◌, refl, sym, subst, arith, add-one}
use Rattle.std.proofs.Math.Nat.{mul-le-mul_left}
use Rattle.std.proofs.lemmas.Bool.{cases_order}
use Rattle.cpt_sheet.specs.declared.data.NodeLine.{NodeLine}
use Rattle.cpt_sheet.specs.declared.data.NodeLine.TheVariants.{Close}
use Rattle.cpt_sheet.specs.declared.data.Step.{Step}
use Rattle.cpt_tree.specs.declared.expansion.Expansion.{Expansion}
use Rattle.cpt_tree.specs.Trees.{Node, SearchTree, IsExhausted}
use Rattle.cpt_tree.specs.Texts.{NodeRuns, IsFinishedText}
use Rattle.cpt_tree.specs.Deepening.{AreExhausted, AreVisited, start, further}
use Rattle.cpt_search.specs.Raises.{IsWithinVisited}
use Rattle.cpt_search.specs.Raises.{IsRaising}
use Rattle.cpt_search.specs.Traversals.{IsTraversal, IsWithinNodes}
use Rattle.cpt_search.specs.declared.walk.Traversal.{Traversal}
use Rattle.cpt_search.specs.declared.walk.Traversal.TheVariants.{Refuted}
use Rattle.cpt_sheet.specs.declared.data.Tree.{Tree}

pub raising-first : (T : ℕ → SearchTree) (Runs : ℕ → NodeRuns) (n first : ℕ) (ls : List NodeLine) (used : ℕ) → ls ≡ Close ∷ [] → IsRaising T Runs n first first ls used used
raising-first T Runs n first ls used e = record { refuted = λ c le lt. absurd (omega arith); tree = inl (refl, e); sum = 0; visited = start; used = omega arith }

pub visited-few : (T : ℕ → SearchTree) (n first b sum : ℕ) → AreVisited T n first b sum → (first ≤ b) × (sum ≤ b * n)
visited-few T n first b sum start = (omega arith, omega arith)
visited-few T n first b sum (further c s here below v reached le) = let ih = visited-few T n first c s v in (omega (arith, ih.0), omega (arith, ih.1, le))

pub raising-few : (T : ℕ → SearchTree) (Runs : ℕ → NodeRuns) (n first b : ℕ) (ls : List NodeLine) (before now : ℕ) → IsRaising T Runs n first b ls before now → b < 1000001 → n ≤ 4000000000 → before ≤ 2 ^ 63 → now + 4000000002 < 2 ^ 64
raising-few T Runs n first b ls before now r small few low =
    let v = visited-few T n first b r.sum r.visited in
    let product : b * n ≤ b * 4000000000 = mul-le-mul_left b few in
    omega (arith, v.1, product, r.used)

-- nothing is visited
pub visited-none : (T : ℕ → SearchTree) (n first most used : ℕ) → first ≤ most → IsWithinVisited T n first most used used
visited-none T n first most used le = (first, 0, omega arith, start, omega arith)

-- where a bound could not be opened
pub visited-same : (T : ℕ → SearchTree) (Runs : ℕ → NodeRuns) (n first b most : ℕ) (ls : List NodeLine) (before then now : ℕ) → IsRaising T Runs n first b ls before then → b < most + 1 → now ≡ then → IsWithinVisited T n first most before now
visited-same T Runs n first b most ls before then now r lt e = (b, r.sum, omega arith, r.visited, omega (arith, r.used, e))

-- the nodes of one bound more
pub visited-more : {W : Type 0} (has : W → ℕ → Node → Expansion → Type 0) (runs : W → ℕ → Node → List Step → Type 0) (w v : W) (n first b c most : ℕ) (ls : List NodeLine) (before then mid now : ℕ) →
    IsRaising (has w) (runs w) n first b ls before then → b < most + 1 → v ≡ w → c ≡ b → mid ≡ then + 1 → IsWithinNodes (has v c) n mid now →
    (sum : ℕ) × AreVisited (has w) n first (suc b) sum × (now ≤ before + sum)
visited-more has runs w v n first b c most ls before then mid now r lt ew ec em (m, reached, le, used) =
    (r.sum + m, further b r.sum m r.refuted r.visited (rw (← ew, ← ec) reached) le, omega (arith, r.used, em, used))

pub visited-walk : {W : Type 0} (has : W → ℕ → Node → Expansion → Type 0) (runs : W → ℕ → Node → List Step → Type 0) (w v : W) (n first b c most : ℕ) (ls : List NodeLine) (before then mid now : ℕ) →
    IsRaising (has w) (runs w) n first b ls before then → b < most + 1 → v ≡ w → c ≡ b → mid ≡ then + 1 → IsWithinNodes (has v c) n mid now → IsWithinVisited (has w) n first most before now
visited-walk has runs w v n first b c most ls before then mid now r lt ew ec em u =
    let k = visited-more has runs w v n first b c most ls before then mid now r lt ew ec em u in (suc b, k.0, omega arith, k.1, k.2)

-- one bound more is refuted
pub raising-more : {W : Type 0} (has : W → ℕ → Node → Expansion → Type 0) (runs : W → ℕ → Node → List Step → Type 0) (w v : W) (n first b c most : ℕ) (ls : List NodeLine) (before then mid now : ℕ) (ds : Node) (walked : Traversal) (tree : Tree) →
    IsRaising (has w) (runs w) n first b ls before then → b < most + 1 → v ≡ w → c ≡ b → mid ≡ then + 1 → IsWithinNodes (has v c) n mid now → IsTraversal (has v c) (runs v c) n ds walked → walked ≡ Refuted tree →
    IsRaising (has w) (runs w) n first (b + 1) tree.lines before now
raising-more has runs w v n first b c most ls before then mid now ds walked tree r lt ew ec em u walks is =
    let k = visited-more has runs w v n first b c most ls before then mid now r lt ew ec em u in
    rw add-one (record { refuted = below; tree = inr (b, refl, (visited-few (has w) n first b r.sum r.visited).0, moved); sum = k.0; visited = k.1; used = k.2 })
  where
    text : IsFinishedText (has v c) (runs v c) n tree.lines
    text = subst (IsTraversal (has v c) (runs v c) n ds) is walks

    moved : IsFinishedText (has w b) (runs w b) n tree.lines
    moved = rw (← ew, ← ec) text

    below : AreExhausted (has w) n first (suc b)
    below d le less = go (cases_order d b)
      where
        go : (d ≡ b) ⊎ ((d < b) ⊎ (b < d)) → IsExhausted (has w d) n
        go (inl e) = subst (λ z. IsExhausted (has w z) n) (sym e) (moved.0, moved.1, moved.2)
        go (inr (inl l)) = r.refuted d le l
        go (inr (inr l)) = absurd (omega arith)
