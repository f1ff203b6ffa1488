-- each tree is finite
use Rattle.std.proofs.Common.{◌≡◌, ◌≢◌, ℕ, zero, suc, ◌+◌, ◌*◌, ◌≤◌, ◌<◌, ◌==◌, ◌⊎◌, inl, inr, true, false, List, [], ◌∷◌, ◌++◌, length, map, Contains, slice_index_or, Some, refl, sym, ap, ◌∙◌, subst, arith, length-append}
use Rattle.std.specs.List.{list_any}
use Rattle.std.proofs.lemmas.Bool.{cases_lt, cases_order, or_left, or_right}
use Rattle.std.proofs.lemmas.List.{length-map, get_or_append_left}
use Rattle.std.proofs.lemmas.List.Elements.{Contains-append_right}
use Rattle.std.proofs.lemmas.Nat.{mul-add-lt}
use Rattle.std.proofs.Math.Seq.{get_or-append_seam}
use Rattle.cpt_task.specs.declared.task.Action.{Action}
use Rattle.cpt_task.specs.Shape.{TaskShape, InBounds}
use Rattle.cpt_sheet.specs.declared.data.Cand.{Cand}
use Rattle.cpt_sheet.specs.declared.data.Cand.TheVariants.{Tok, Out}
use Rattle.cpt_sheet.specs.declared.data.Decision.{Decision}
use Rattle.cpt_sheet.specs.declared.data.Decision.TheVariants.{Join, Bring, Before}
use Rattle.cpt_sheet.specs.declared.data.Flaw.{Flaw}
use Rattle.cpt_sheet.specs.declared.data.Flaw.TheVariants.{Threat, OpenNeed, Clash}
use Rattle.cpt_sheet.specs.declared.data.Sheet.{Sheet}
use Rattle.cpt_sheet.specs.declared.data.Step.TheVariants.{R1}
use Rattle.cpt_sheet.specs.Formed.{IsFormed, IsAscending, CanAdd, Precedes}
use Rattle.cpt_sheet.specs.Roles.{needs_of}
use Rattle.cpt_sheet.specs.View.{token_at, kind_of, same, has, cands, before}
use Rattle.cpt_calculus.specs.Decisions.{Fits}
use Rattle.cpt_calculus.specs.Flaws.{IsFlaw, children, choice}
use Rattle.cpt_calculus.specs.Rules.{only}
use Rattle.cpt_soundness.proofs.ActingLemmas.{atom_there}
use Rattle.cpt_soundness.proofs.FormedLemmas.{cand_there}
use Rattle.cpt_soundness.proofs.ViewLemmas.{same_self}
use Rattle.cpt_tree.specs.declared.expansion.Expansion.{Expansion}
use Rattle.cpt_tree.specs.declared.expansion.Expansion.TheVariants.{Closed, Leaf, Branched}
use Rattle.cpt_tree.specs.Trees.{Node, choices, IsNode, top, child}
use Rattle.cpt_tree.specs.Counts.{BranchesAtMost, IsAtMostDeep}
use Rattle.cpt_tree.proofs.CountLemmas.{tree-bounded}
use Rattle.cpt_outcome.specs.Nodes.{SearchProblem, IsFreshAt, search_tree}
use Rattle.cpt_outcome.specs.Enough.{geometric, NeedsAtMost, most_tokens, most_decisions, most_children, greater, most_preconditions, most_needs, Commitment, on_list, on_order, commitment_of, IsMade, IsOfSheet, ChoicesCommit, TreesEnough}
use Rattle.cpt_outcome.proofs.LeafLemmas.{index-same}
use Rattle.cpt_outcome.proofs.NodeLemmas.{fresh-closed, choice-fits}
use Rattle.cpt_outcome.proofs.BroughtLemmas.{fresh-brought}
use Rattle.cpt_fresh.specs.Extending.{Carries}
use Rattle.cpt_fresh.proofs.ExtendLemmas.{listed_need}
use Rattle.cpt_fresh.proofs.LastLemmas.{fresh_carries}
use Rattle.cpt_outcome.proofs.TokenLemmas.{pigeon-by, row-same, geometric-more, few-tokens}

-- what a sheet carries is made there
made-carried : (s : Sheet) (d : Decision) → Carries s d → IsMade s (commitment_of d)
made-carried s (Join x p y) c = (c.0, (y, c.1))
made-carried s (Bring x p a) c = (c.0, (c.1.0, c.1.3))
made-carried s (Before x y) c = c

-- a decision that fits is about the sheet
fits-of : (s : Sheet) (d : Decision) → Fits s d → IsOfSheet s (commitment_of d)
fits-of s (Join x p y) f = (cand_there s x p (Tok y) f, listed_need p (Tok y) (token_at s x).lists f)
fits-of s (Bring x p a) f = (cand_there s x p (Out a) f, listed_need p (Out a) (token_at s x).lists f)
fits-of s (Before x y) f = (f.first, f.second)

-- what is done is of the sheet
done-of : (t : TaskShape) (u : Sheet) (m : Commitment) → IsFormed t u → IsMade u m → IsOfSheet u m
done-of t u (on_list x p) f d = (cand_there u x p (Tok d.1.0) (subst (λ cs. has (Tok d.1.0) cs ≡ true) (sym d.1.1) (or_left (same (Tok d.1.0) (Tok d.1.0)) false (same_self (Tok d.1.0)))), d.0)
done-of t u (on_order x y) f d = ((f.orders x y d).first, (f.orders x y d).second)

-- a child of a flaw is about what is not done
choice-mark : (x p : ℕ) (cs : List Cand) (d : Decision) → Contains (map (choice x p) cs) d → commitment_of d ≡ on_list x p
choice-mark x p [] d (i, lt, e) = absurd (omega arith)
choice-mark x p (Tok y ∷ cs) d (zero, lt, e) = ap commitment_of (sym e)
choice-mark x p (Out a ∷ cs) d (zero, lt, e) = ap commitment_of (sym e)
choice-mark x p (Tok y ∷ cs) d (suc i, lt, e) = choice-mark x p cs d (i, omega arith, e)
choice-mark x p (Out a ∷ cs) d (suc i, lt, e) = choice-mark x p cs d (i, omega arith, e)

news : (t : TaskShape) (u : Sheet) (f : Flaw) (d : Decision) → IsFlaw t u f → Contains (children u f) d → IsMade u (commitment_of d) → ⊥
news t u (Threat x p e) d h (zero, lt, same) done =
    let k : before u e (only (cands u x p)) ≡ true = subst (λ z. IsMade u (commitment_of z)) (sym same) done in
    let one : only (cands u x p) ≡ h.0 = ap only h.1.one in
    clash (subst (λ z. before u e z ≡ true) one k) h.2
  where
    clash : before u e h.0 ≡ true → before u e h.0 ≡ false → ⊥
    clash a b = cc
news t u (Threat x p e) d h (suc zero, lt, same) done =
    let k : before u x e ≡ true = subst (λ z. IsMade u (commitment_of z)) (sym same) done in cc (h.3)
news t u (Threat x p e) d h (suc (suc i), lt, same) done = absurd (omega arith)
news t u (OpenNeed x p) d h c done = let k : IsMade u (on_list x p) = subst (IsMade u) (choice-mark x p (cands u x p) d c) done in h.1 k.1.0 k.1.1
news t u (Clash x y) d h (zero, lt, same) done = let k : before u x y ≡ true = subst (λ z. IsMade u (commitment_of z)) (sym same) done in cc (h.not_first)
news t u (Clash x y) d h (suc zero, lt, same) done = let k : before u y x ≡ true = subst (λ z. IsMade u (commitment_of z)) (sym same) done in cc (h.not_last)
news t u (Clash x y) d h (suc (suc i), lt, same) done = absurd (omega arith)

none-decided : Decision
none-decided = Before 0 0

-- what the decision at a place of a node is about
mark-at : Node → ℕ → Commitment
mark-at p i = commitment_of (slice_index_or p i none-decided)

at-old : (ds : Node) (k : Decision) (i : ℕ) → i < length ds → slice_index_or (ds ++ k ∷ []) i none-decided ≡ slice_index_or ds i none-decided
at-old ds k i lt = get_or_append_left ds (k ∷ []) none-decided i lt

at-new : (ds : Node) (k : Decision) → slice_index_or (ds ++ k ∷ []) (length ds) none-decided ≡ k
at-new ds k = get_or-append_seam ds k [] none-decided

-- in the fresh sheet of a node all commitments of its decisions are made
made-at : (w : SearchProblem) (b : ℕ) (p : Node) (u : Sheet) → IsFreshAt w b p (Some u) → (i : ℕ) → i < length p → IsMade u (mark-at p i)
unfolding mark-at
made-at w b p u f i lt =
    let there : Contains p (slice_index_or p i none-decided) = (i, lt, index-same p i (slice_index_or p i none-decided) none-decided lt) in
    made-carried u (slice_index_or p i none-decided) (fresh_carries w.rules w.task w.tables b p u (slice_index_or p i none-decided) f there)

-- a child's decision fits its parent's fresh sheet and is news there
child-fits : (w : SearchProblem) (b : ℕ) (ds : Node) (f : Expansion) (k : Decision) → search_tree w b ds f → Contains (choices f) k → (s : Sheet) × IsFreshAt w b ds (Some s) × Fits s k × (IsMade s (commitment_of k) → ⊥)
child-fits w b ds f k h c = let a = choice-fits w b ds f k h c in (a.0, a.1, a.2, news w.task a.0 a.3.0 k a.3.1 a.3.2)

pub choices-commit : ChoicesCommit
choices-commit w b ds f d h c =
    let a = child-fits w b ds f d h c in
    ((a.0, a.1, a.3), (λ more u fresh. made-carried u d (fresh_carries w.rules w.task w.tables b (ds ++ d ∷ more) u d fresh (Contains-append_right ds (d ∷ more) d (0, omega arith, refl)))))

-- no two decisions of a node make one commitment
AreApart : Node → Type 0
AreApart p = (i j : ℕ) → i < j → j < length p → mark-at p i ≢ mark-at p j

apart-child : (w : SearchProblem) (b : ℕ) (ds : Node) (k : Decision) (s : Sheet) → AreApart ds → IsFreshAt w b ds (Some s) → (IsMade s (commitment_of k) → ⊥) → AreApart (ds ++ k ∷ [])
unfolding mark-at AreApart
apart-child w b ds k s m fs new i j lt lj e = go (cases_lt j (length ds))
  where
    long : length (ds ++ k ∷ []) ≡ length ds + 1
    long = length-append ds (k ∷ [])

    li : i < length ds
    li = omega (arith, long)

    go : (j < length ds) ⊎ (length ds ≤ j) → ⊥
    go (inl l) = m i j lt l (ap commitment_of (sym (at-old ds k i li)) ∙ (e ∙ ap commitment_of (at-old ds k j l)))
    go (inr g) =
        let same : j ≡ length ds = omega (arith, long) in
        let f : commitment_of (slice_index_or ds i none-decided) ≡ commitment_of k = ap commitment_of (sym (at-old ds k i li)) ∙ (e ∙ (ap (λ z. commitment_of (slice_index_or (ds ++ k ∷ []) z none-decided)) same ∙ ap commitment_of (at-new ds k))) in
        new (subst (IsMade s) f (made-at w b ds s fs i li))

node-apart : (w : SearchProblem) (b : ℕ) (p : Node) → IsNode (search_tree w b) p → AreApart p
unfolding AreApart
node-apart w b p top = λ i j lt lj e. absurd (omega arith)
node-apart w b p (child ds f k n h c) = let a = child-fits w b ds f k h c in apart-child w b ds k a.0 (node-apart w b ds n) a.1 a.3

-- the number of what a decision is about, in a sheet of at most n tokens that need at most k atoms each
IsNumber : TaskShape → Sheet → ℕ → ℕ → Commitment → ℕ → Type 0
IsNumber t u n k (on_list x p) c = (i : ℕ) × (i < k) × (i < length (needs_of t (kind_of u (Tok x)))) × (slice_index_or (needs_of t (kind_of u (Tok x))) i p ≡ p) × (x < n) × (c ≡ x * k + i)
IsNumber t u n k (on_order x y) c = (y < n) × (x < n) × (c ≡ n * k + (x * n + y))

number-of : (t : TaskShape) (u : Sheet) (n k : ℕ) (m : Commitment) → IsFormed t u → length u.tokens ≤ n → ((x : ℕ) → x < length u.tokens → length (needs_of t (kind_of u (Tok x))) ≤ k) → IsOfSheet u m → (c : ℕ) × (c < n * k + n * n) × IsNumber t u n k m c
unfolding IsNumber
number-of t u n k (on_list x p) f le few (lx, need) =
    let place = subst (λ z. Contains z p) (f.needs x lx) (atom_there p (token_at u x).lists need) in
    let li : place.0 < k = omega (arith, place.1, few x lx) in
    (x * k + place.0, omega (arith, mul-add-lt x k place.0 n (omega arith) li), (place.0, li, place.1, place.2, omega arith, refl))
number-of t u n k (on_order x y) f le few (lx, ly) = (n * k + (x * n + y), omega (arith, mul-add-lt x n y n (omega arith) (omega arith)), (omega arith, omega arith, refl))

one-number : (t : TaskShape) (u : Sheet) (n k : ℕ) (l m : Commitment) (c : ℕ) → IsNumber t u n k l c → IsNumber t u n k m c → l ≡ m
unfolding IsNumber
one-number t u n k (on_list x p) (on_list y q) c (i, li, mi, e, lx, f) (j, lj, mj, g, ly, h) =
    let rows = row-same x i y j k li lj (sym f ∙ h) in
    join x y i j p q rows.0 rows.1 e g mi
  where
    join : (x y i j p q : ℕ) → x ≡ y → i ≡ j → slice_index_or (needs_of t (kind_of u (Tok x))) i p ≡ p → slice_index_or (needs_of t (kind_of u (Tok y))) j q ≡ q → i < length (needs_of t (kind_of u (Tok x))) → on_list x p ≡ on_list y q
    join x y i j p q a b e g lt =
        let same : slice_index_or (needs_of t (kind_of u (Tok x))) i q ≡ q = subst (λ z. slice_index_or (needs_of t (kind_of u (Tok z))) i q ≡ q) (sym a) (subst (λ z. slice_index_or (needs_of t (kind_of u (Tok y))) z q ≡ q) (sym b) g) in
        let atoms : p ≡ q = sym e ∙ (index-same (needs_of t (kind_of u (Tok x))) i p q lt ∙ same) in
        cc
one-number t u n k (on_list x p) (on_order y z) c (i, li, mi, e, lx, f) (lz, ly, h) = absurd (omega (arith, mul-add-lt x k i n lx li, f, h))
one-number t u n k (on_order y z) (on_list x p) c (lz, ly, h) (i, li, mi, e, lx, f) = absurd (omega (arith, mul-add-lt x k i n lx li, f, h))
one-number t u n k (on_order x y) (on_order v z) c (ly, lx, h) (lz, lv, g) = let rows = row-same x y v z n ly lz (omega (arith, h, g)) in cc

-- candidates by their numbers, the tokens first
number : ℕ → Cand → ℕ
number n (Tok y) = y
number n (Out a) = n + a

IsSmall : ℕ → Cand → Type 0
IsSmall n (Tok y) = y < n
IsSmall n (Out a) = Unit {0}

rises : (n : ℕ) (c d : Cand) → IsSmall n c → Precedes c d → number n c < number n d
unfolding number IsSmall
rises n (Tok x) (Tok y) s p = p
rises n (Tok x) (Out a) s p = omega arith
rises n (Out a) (Tok y) s p = absurd p
rises n (Out a) (Out c) s p = omega arith

ascending-few : (n l m : ℕ) (cs : List Cand) → l ≤ m → ((c : Cand) → has c cs ≡ true → (l ≤ number n c) × (number n c < m) × IsSmall n c) → IsAscending cs → length cs + l ≤ m
ascending-few n l m [] le all up = omega arith
ascending-few n l m (c ∷ cs) le all up =
    let h = all c (or_left (same c c) (has c cs) (same_self c)) in
    let ih = ascending-few n (suc (number n c)) m cs (omega (arith, h.1)) (λ d there. later d there (all d (or_right (same c d) (has d cs) there)) (rises n c d h.2 (up.0 d there))) up.1 in
    omega (arith, ih, h.0)
  where
    later : (d : Cand) → has d cs ≡ true → (l ≤ number n d) × (number n d < m) × IsSmall n d → number n c < number n d → (suc (number n c) ≤ number n d) × (number n d < m) × IsSmall n d
    later d there h lt = (lt, h.1, h.2)

candidates-few : (t : TaskShape) (s : Sheet) (n x p : ℕ) → IsFormed t s → length s.tokens ≤ n → length (cands s x p) ≤ n + length t.actions
unfolding number IsSmall
candidates-few t s n x p f le = let h = ascending-few n 0 (n + length t.actions) (cands s x p) (omega arith) (λ c there. (omega arith, small c (f.supply x p c there), tok c (f.supply x p c there))) (f.ascending x p) in omega (arith, h)
  where
    small : (c : Cand) → CanAdd t s x p c → number n c < n + length t.actions
    small (Tok y) a = omega (arith, a.0)
    small (Out o) a = omega (arith, a.0)

    tok : (c : Cand) → CanAdd t s x p c → IsSmall n c
    tok (Tok y) a = omega (arith, a.0)
    tok (Out o) a = tt

module _ (w : SearchProblem) (b k : ℕ) (inside : InBounds w.task) (few : NeedsAtMost w.task k) (first-rule : list_any (λ n. n == 1) w.rules ≡ true) where
  tokens-few : (ds : Node) (u : Sheet) → IsFreshAt w b ds (Some u) → length u.tokens ≤ 2 + geometric k b
  tokens-few ds u f =
      let h = fresh-closed w b ds u f in
      subst (λ z. length u.tokens ≤ 2 + geometric k z) h.bound
      (few-tokens w.task w.tables u k inside h.formed h.live (λ x y v l. h.closed (R1 x y v) first-rule l) (fresh-brought w.rules w.task w.tables b ds (Some u) u refl f) few)

  within : (ds : Node) (u : Sheet) → IsFreshAt w b ds (Some u) → length u.tokens ≤ most_tokens k b
  within ds u f = let h = tokens-few ds u f in let g = geometric-more k b (suc b) (omega arith) in omega (arith, h, g)

  few-needs : (u : Sheet) → IsFormed w.task u → (x : ℕ) → x < length u.tokens → length (needs_of w.task (kind_of u (Tok x))) ≤ k
  few-needs u f zero lt = rw f.start (omega arith)
  few-needs u f (suc zero) lt = rw f.end few.goal
  few-needs u f (suc (suc x)) lt = let a = f.actions (suc (suc x)) (omega arith) lt in rw a.1 (few.actions a.0 _ a.2)

  shallow : IsAtMostDeep (search_tree w b) (most_decisions k b)
  unfolding mark-at AreApart
  shallow p top = omega arith
  shallow p (child ds f d n h c) = more (most_tokens k b) (length (ds ++ d ∷ [])) (pigeon-by (most_tokens k b * k + most_tokens k b * most_tokens k b) (length (ds ++ d ∷ [])) (λ i e. IsNumber w.task s (most_tokens k b) k (mark-at (ds ++ d ∷ []) i) e) has one)
    where
      a : (u : Sheet) × IsFreshAt w b ds (Some u) × Fits u d × (IsMade u (commitment_of d) → ⊥)
      a = child-fits w b ds f d h c

      s : Sheet
      s = a.0

      formed : IsFormed w.task s
      formed = (fresh-closed w b ds s a.1).formed

      apart : AreApart (ds ++ d ∷ [])
      apart = node-apart w b (ds ++ d ∷ []) (child ds f d n h c)

      of : (i : ℕ) → i < length (ds ++ d ∷ []) → IsOfSheet s (commitment_of (slice_index_or (ds ++ d ∷ []) i none-decided))
      of i lt = go (cases_lt i (length ds))
        where
          go : (i < length ds) ⊎ (length ds ≤ i) → IsOfSheet s (commitment_of (slice_index_or (ds ++ d ∷ []) i none-decided))
          go (inl l) = subst (λ z. IsOfSheet s (commitment_of z)) (sym (at-old ds d i l)) (done-of w.task s (commitment_of (slice_index_or ds i none-decided)) formed (made-at w b ds s a.1 i l))
          go (inr g) =
              let same : i ≡ length ds = omega (arith, length-append ds (d ∷ [])) in
              subst (λ z. IsOfSheet s (commitment_of (slice_index_or (ds ++ d ∷ []) z none-decided))) (sym same) (subst (λ z. IsOfSheet s (commitment_of z)) (sym (at-new ds d)) (fits-of s d a.2))

      has : (i : ℕ) → i < length (ds ++ d ∷ []) → (e : ℕ) × (e < most_tokens k b * k + most_tokens k b * most_tokens k b) × IsNumber w.task s (most_tokens k b) k (commitment_of (slice_index_or (ds ++ d ∷ []) i none-decided)) e
      has i lt = number-of w.task s (most_tokens k b) k (commitment_of (slice_index_or (ds ++ d ∷ []) i none-decided)) formed (within ds s a.1) (few-needs s formed) (of i lt)

      one : (i j e : ℕ) → i < length (ds ++ d ∷ []) → j < length (ds ++ d ∷ []) → IsNumber w.task s (most_tokens k b) k (commitment_of (slice_index_or (ds ++ d ∷ []) i none-decided)) e →
          IsNumber w.task s (most_tokens k b) k (commitment_of (slice_index_or (ds ++ d ∷ []) j none-decided)) e → i ≡ j
      one i j e li lj p q = go (cases_order i j)
        where
          same : commitment_of (slice_index_or (ds ++ d ∷ []) i none-decided) ≡ commitment_of (slice_index_or (ds ++ d ∷ []) j none-decided)
          same = one-number w.task s (most_tokens k b) k (commitment_of (slice_index_or (ds ++ d ∷ []) i none-decided)) (commitment_of (slice_index_or (ds ++ d ∷ []) j none-decided)) e p q

          go : (i ≡ j) ⊎ ((i < j) ⊎ (j < i)) → i ≡ j
          go (inl x) = x
          go (inr (inl x)) = absurd (apart i j x lj same)
          go (inr (inr x)) = absurd (apart j i x li (sym same))

      more : (m l : ℕ) → l ≤ m * k + m * m → l ≤ m * k + m * m * k + m * m
      more m l le = omega arith

  narrow : BranchesAtMost (search_tree w b) (most_children w.task k b)
  narrow ds Closed n h = omega arith
  narrow ds Leaf n h = omega arith
  narrow ds (Branched flaw ks) n (s, fresh, chosen, same) = subst (λ z. length z ≤ most_children w.task k b) (sym same) (go flaw)
    where
      go : (f : Flaw) → length (children s f) ≤ most_children w.task k b
      go (Threat x p d) = two (most_tokens k b + length w.task.actions)
        where
          two : (m : ℕ) → 2 ≤ m + 2
          two m = omega arith
      go (OpenNeed x p) = wide (most_tokens k b) (length (map (choice x p) (cands s x p))) (rw length-map (candidates-few w.task s (most_tokens k b) x p (fresh-closed w b ds s fresh).formed (within ds s fresh)))
        where
          wide : (m l : ℕ) → l ≤ m + length w.task.actions → l ≤ m + length w.task.actions + 2
          wide m l le = omega arith
      go (Clash x y) = two (most_tokens k b + length w.task.actions)
        where
          two : (m : ℕ) → 2 ≤ m + 2
          two m = omega arith

-- the greater number is at least either
greater-left : (m n : ℕ) → m ≤ greater m n
greater-left zero n = omega arith
greater-left (suc m) zero = omega arith
greater-left (suc m) (suc n) = let ih = greater-left m n in omega arith

greater-right : (m n : ℕ) → n ≤ greater m n
greater-right zero n = omega arith
greater-right (suc m) zero = omega arith
greater-right (suc m) (suc n) = let ih = greater-right m n in omega arith

preconditions-few : (xs : List Action) (k i : ℕ) (d : Action) → most_preconditions xs ≤ k → i < length xs → length (slice_index_or xs i d).pre ≤ k
preconditions-few [] k i d le lt = absurd (omega arith)
preconditions-few (a ∷ xs) k zero d le lt = let h = greater-left (length a.pre) (most_preconditions xs) in omega arith
preconditions-few (a ∷ xs) k (suc i) d le lt = let h = greater-right (length a.pre) (most_preconditions xs) in preconditions-few xs k i d (omega arith) (omega arith)

needs-at-most : (t : TaskShape) → NeedsAtMost t (most_needs t)
needs-at-most t = record {
  goal = greater-left (length t.goal) (most_preconditions t.actions);
  actions = λ i d lt. preconditions-few t.actions (most_needs t) i d (greater-right (length t.goal) (most_preconditions t.actions)) lt;
}

pub trees-enough : TreesEnough
trees-enough w b inside first-rule =
    let k = most_needs w.task in
    tree-bounded (search_tree w b) (most_children w.task k b) (most_decisions k b) (narrow w b k inside (needs-at-most w.task) first-rule) (shallow w b k inside (needs-at-most w.task) first-rule)
