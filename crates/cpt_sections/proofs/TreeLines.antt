-- the trees of a certificate, line by line, and its end
use Rattle.std.proofs.Common.{◌≡◌, ◌≢◌, ℕ, ◌+◌, ◌<◌, ◌==◌, ◌&&◌, ◌||◌, ◌⊎◌, inl, inr, true, false, Bool, if◌then◌else◌, List, [], ◌∷◌, ◌++◌, refl, sym, ap, ◌∙◌, subst, arith, cond, eq-eqb, add-zero}
use Rattle.std.proofs.lemmas.Bool.{ne_eqb}
use Rattle.std.proofs.lemmas.List.{append-nil}
use Rattle.std.proofs.lemmas.List.Sums.{sum_by-cons}
use Rattle.std.proofs.Math.Bool.{or_assoc, or-false}
use Rattle.std.specs.List.{list_any, count_by}
use Rattle.cpt_task.specs.Shape.{TaskShape}
use Rattle.cpt_tables.specs.declared.tables.Tables.{Tables}
use Rattle.cpt_sheet.specs.declared.data.Decision.{Decision}
use Rattle.cpt_sheet.specs.declared.data.NodeLine.{NodeLine}
use Rattle.cpt_sheet.specs.Gaps.{FitsTask}
use Rattle.cpt_calculus.specs.Root.{root_of}
use Rattle.cpt_cert_form.specs.declared.forms.Version.{Version}
use Rattle.cpt_cert_form.specs.declared.forms.CertLine.{CertLine}
use Rattle.cpt_cert_form.specs.declared.forms.CertLine.TheVariants as lines
use Rattle.cpt_cert_accept.specs.declared.faults.Why.{Why}
use Rattle.cpt_cert_accept.specs.declared.faults.Why.TheVariants as whys
use Rattle.cpt_cert_accept.specs.Accepting.{is_done, is_left}
use Rattle.cpt_cert_accept.specs.Trees.{Part, bring_of}
use Rattle.cpt_cert_accept.specs.Trees.Part.{node, branches}
use Rattle.cpt_cert_accept.specs.Reading.{Outcome, After, Then, behind, take_tree, take_open_tree, take_end}
use Rattle.cpt_cert_accept.specs.Reading.Outcome.{went, faulted}
use Rattle.cpt_cert_accept.specs.Descent.{Reads, ReadsTree, begins_left, begins_work, begins_child, is_counted, take_counted_end}
use Rattle.cpt_walk.specs.declared.walk.Frame.{Frame}
use Rattle.cpt_walk.specs.declared.walk.Place.{Place}
use Rattle.cpt_walk.specs.declared.walk.Place.TheVariants.{Node, Worked, Behind}
use Rattle.cpt_walk.specs.declared.walk.Walk.{Walk}
use Rattle.cpt_walk.specs.Walks.{ReadsParts, Leads, FailsAt, AreFew, IsUnread, IsUnreadAt, parts_left, parts_at, stacked, still}
use Rattle.cpt_walk.proofs.Moves.{node_works, strange_fails, childless_fails}
use Rattle.cpt_walk.proofs.Turning.{stack_push, last_frame}
use Rattle.cpt_sections.specs.declared.section.Trees.{Trees}
use Rattle.cpt_sections.specs.declared.section.Trees.TheVariants as trees
use Rattle.cpt_sections.specs.declared.section.Section.{Section}
use Rattle.cpt_sections.specs.declared.section.Section.TheVariants as sections
use Rattle.cpt_sections.specs.declared.section.Next.TheVariants as nexts
use Rattle.cpt_sections.specs.Behind.{first_bound, behind_tree}
use Rattle.cpt_sections.specs.Sections.{AreTrees, AreNodesLeft, BehindTree, EndsEarly, IsNothing, IsSection, HasFew, Left, Moves, ReadsTrees, is_tallied, take_tallied_end}

-- where nothing comes no line begins the text but a strange one
no_line : (ls rest : List CertLine) (line : CertLine) → IsNothing ls → line ≢ lines.Strange → ls ≢ line ∷ rest
no_line [] rest line h ne e = cc
no_line (lines.Strange ∷ ls) rest line h ne e = ne (cc)
no_line (l ∷ ls) rest line h ne e = absurd h

-- the first line is no head of a tree
no_tree : (bound n : ℕ) (ls : List CertLine) → ((c : ℕ) (rest : List CertLine) → ls ≢ lines.Tree c ∷ rest) → take_tree bound n ls ≡ faulted n whys.Grammar
no_tree bound n [] h = refl
no_tree bound n (lines.Tree c ∷ ls) h = absurd (h c ls refl)
no_tree bound n (l ∷ ls) h = refl

no_open_tree : (bound n : ℕ) (ls : List CertLine) → ((c : ℕ) (rest : List CertLine) → ls ≢ lines.OpenTree c ∷ rest) → take_open_tree bound n ls ≡ faulted n whys.Grammar
no_open_tree bound n [] h = refl
no_open_tree bound n (lines.OpenTree c ∷ ls) h = absurd (h c ls refl)
no_open_tree bound n (l ∷ ls) h = refl

-- the head of another tree
other_tree : (bound c n : ℕ) (ls : List CertLine) → c ≢ bound → take_tree bound n (lines.Tree c ∷ ls) ≡ faulted n whys.Bound
other_tree bound c n ls ne = ap (λ z. if z then went tt ls (n + 1) else faulted n whys.Bound) (ne_eqb c bound ne)

other_open_tree : (bound c n : ℕ) (ls : List CertLine) → c ≢ bound → take_open_tree bound n (lines.OpenTree c ∷ ls) ≡ faulted n whys.Bound
other_open_tree bound c n ls ne = ap (λ z. if z then went tt ls (n + 1) else faulted n whys.Bound) (ne_eqb c bound ne)

this_tree : (bound c n : ℕ) (ls : List CertLine) → c ≡ bound → take_tree bound n (lines.Tree c ∷ ls) ≡ went tt ls (n + 1)
this_tree bound c n ls e = ap (λ z. if z then went tt ls (n + 1) else faulted n whys.Bound) (eq-eqb c bound e)

this_open_tree : (bound c n : ℕ) (ls : List CertLine) → c ≡ bound → take_open_tree bound n (lines.OpenTree c ∷ ls) ≡ went tt ls (n + 1)
this_open_tree bound c n ls e = ap (λ z. if z then went tt ls (n + 1) else faulted n whys.Bound) (eq-eqb c bound e)

-- the first line is no line of a tree
abbrev IsNoNode : List CertLine → Type 0
IsNoNode ls = (l : NodeLine) (rest : List CertLine) → ls ≢ lines.Node l ∷ rest

no_left : (mo : Bool) (ls : List CertLine) → IsNoNode ls → begins_left mo ls ≡ false
no_left mo [] h = refl
no_left mo (lines.Node l ∷ ls) h = absurd (h l ls refl)
no_left mo (l ∷ ls) h = refl

no_work : (ls : List CertLine) → IsNoNode ls → begins_work ls ≡ false
no_work [] h = refl
no_work (lines.Node l ∷ ls) h = absurd (h l ls refl)
no_work (l ∷ ls) h = refl

no_child : (ls : List CertLine) → IsNoNode ls → begins_child ls ≡ false
no_child [] h = refl
no_child (lines.Node l ∷ ls) h = absurd (h l ls refl)
no_child (l ∷ ls) h = refl

-- a list that is not empty has a last item
last_of : (fs : List Frame) → fs ≢ [] → (gs : List Frame) × (f : Frame) × (fs ≡ gs ++ f ∷ [])
last_of [] h = absurd (h refl)
last_of (f ∷ []) h = ([], f, refl)
last_of (f ∷ g ∷ fs) h = more (last_of (g ∷ fs) (λ e. cc))
  where
    more : ((gs : List Frame) × (z : Frame) × (g ∷ fs ≡ gs ++ z ∷ [])) → (gs : List Frame) × (z : Frame) × (f ∷ g ∷ fs ≡ gs ++ z ∷ [])
    more r = (f ∷ r.0, r.1, ap (λ z. f ∷ z) r.2)

-- the end behind a tree with open nodes, where it is known whether they are counted right
tallied_end : (nodes : ℕ) (f : List NodeLine) (c : Bool) (n : ℕ) (ls : List CertLine) → c ≡ is_counted nodes f → take_tallied_end c n ls ≡ take_counted_end nodes f n ls
tallied_end nodes f c n [] e = refl
tallied_end nodes f c n (lines.End ∷ ls) e = ap (λ z. if z then take_end n (lines.End ∷ ls) else faulted n whys.Count) e
tallied_end nodes f c n (l ∷ ls) e = refl

-- the counts before a line, and behind it
tallied_more : (nodes done was : ℕ) (left open_yet : Bool) (l : NodeLine) (f : List NodeLine) → done ≡ was + (if is_done l then 1 else 0) → left ≡ (open_yet || is_left l) →
    is_tallied nodes done left f ≡ is_tallied nodes was open_yet (l ∷ f)
tallied_more nodes done was left open_yet l f e k =
    let p : done + count_by is_done f ≡ was + count_by is_done (l ∷ f) = omega (arith, e, sum_by-cons (λ x. cond (is_done x) 1 0) l f) in
    let q : (left || list_any is_left f) ≡ (open_yet || (is_left l || list_any is_left f)) = ap (λ z. z || list_any is_left f) k ∙ or_assoc open_yet (is_left l) (list_any is_left f) in
    ap (λ z. (z == nodes) && (left || list_any is_left f)) p ∙ ap (λ z. (was + count_by is_done (l ∷ f) == nodes) && z) q

-- the counts behind the last line
tallied_all : (nodes done : ℕ) (left : Bool) → is_tallied nodes done left [] ≡ ((done == nodes) && left)
tallied_all nodes done left = ap (λ z. (z == nodes) && (left || false)) (add-zero done) ∙ ap (λ z. (done == nodes) && z) (or-false left)

-- the counts before the first line
tallied_none : (nodes done : ℕ) (left : Bool) (f : List NodeLine) → done ≡ 0 → left ≡ false → is_tallied nodes done left f ≡ is_counted nodes f
tallied_none nodes done left f e k =
    let p : done + count_by is_done f ≡ count_by is_done f = omega (arith, e) in
    ap (λ z. (z == nodes) && (left || list_any is_left f)) p ∙ ap (λ z. (count_by is_done f == nodes) && (z || list_any is_left f)) k

module _ (t : TaskShape) (b : Tables) where
  -- a part alone
  one_part : (mo : Bool) (p : Part) (n : ℕ) (ls : List CertLine) (o : Outcome (List NodeLine)) → ReadsParts t b mo (p ∷ []) n ls o → Reads t b mo p n ls o
  one_part mo p n ls o (x, reads, after) = subst (Reads t b mo p n ls) (sym (go x after)) reads
    where
      go : (x : Outcome (List NodeLine)) → After (λ f m rest z. (y : Outcome (List NodeLine)) × ReadsParts t b mo [] m rest y × (z ≡ behind (λ g. f ++ g) y)) x o → o ≡ x
      go (went f rest m) (y, e, k) = k ∙ ap (behind (λ g. f ++ g)) e ∙ ap (λ z. went z rest m) (append-nil f)
      go (faulted line why) e = e

  -- a tree of which nothing is left
  all_read : (mo : Bool) (w : Walk) (n : ℕ) (ls : List CertLine) → parts_left w ≡ [] → ReadsParts t b mo (parts_left w) n ls (went [] ls n)
  all_read mo w n ls e = subst (λ ps. ReadsParts t b mo ps n ls (went [] ls n)) (sym e) refl

  -- where something of a tree is left and no line of a tree comes
  no_node_fails : (n : ℕ) (mo : Bool) (w : Walk) (ls : List CertLine) → AreNodesLeft t n mo w → IsNoNode ls → ReadsParts t b mo (parts_left w) n ls (faulted n whys.Grammar)
  no_node_fails n mo w ls h lacks = go w.place h.unread
    where
      at_last : ((gs : List Frame) × (f : Frame) × (w.past.frames.items ≡ gs ++ f ∷ [])) → ReadsParts t b mo (stacked w.past.frames.items []) n ls (faulted n whys.Grammar)
      at_last (gs, f, e) = subst (λ ps. ReadsParts t b mo ps n ls (faulted n whys.Grammar)) (sym (ap (λ z. stacked z []) e ∙ stack_push gs f [])) (split (still f) refl)
        where
          split : (ds : List Decision) → still f ≡ ds → ReadsParts t b mo (branches f.sheet (still f) ∷ stacked gs []) n ls (faulted n whys.Grammar)
          split [] k = absurd ((last_frame t b w.past gs f e h.walk.frames).1.some k)
          split (d ∷ ds) k =
              subst (λ z. ReadsParts t b mo (branches f.sheet z ∷ stacked gs []) n ls (faulted n whys.Grammar)) (sym k) (childless_fails t b mo f.sheet d ds (stacked gs []) n ls (no_child ls lacks))

      go : (p : Place) → IsUnreadAt p w.past → ReadsParts t b mo (parts_at p (stacked w.past.frames.items [])) n ls (faulted n whys.Grammar)
      go (Node s) some = node_works t b mo s (stacked w.past.frames.items []) n ls (faulted n whys.Grammar) (no_left mo ls lacks) (strange_fails t b mo s (stacked w.past.frames.items []) n ls (no_work ls lacks))
      go (Worked s) some = strange_fails t b mo s (stacked w.past.frames.items []) n ls (no_work ls lacks)
      go Behind some = at_last (last_of w.past.frames.items some)

  -- the closed tree, and what is read behind it
  trees_at : (ts : Trees) (n : ℕ) (ls : List CertLine) (o : Outcome (Unit {0})) → Then (ReadsTree t b (first_bound ts)) (λ _. BehindTree t ts b) n ls o → ReadsTrees t ts b n ls o
  trees_at (trees.Closed bound) n ls o h = h
  trees_at (trees.Open refuted nodes) n ls o h = h

  behind_at : (v : Version) (ts : Trees) (n : ℕ) (ls : List CertLine) (o : Outcome (Unit {0})) → Left t v (behind_tree ts b) n ls o → BehindTree t ts b n ls o
  behind_at v (trees.Closed bound) n ls o h = h
  behind_at v (trees.Open refuted nodes) n ls o h = h

  behind_formed : (ts : Trees) (n : ℕ) → AreTrees ts → FitsTask t b → IsSection t n (behind_tree ts b)
  behind_formed (trees.Closed bound) n small fits = tt
  behind_formed (trees.Open refuted nodes) n small fits = (small, fits)

  behind_few : (ts : Trees) (k : ℕ) → HasFew k (behind_tree ts b)
  behind_few (trees.Closed bound) k = tt
  behind_few (trees.Open refuted nodes) k = tt

  -- the head of a tree is at fault
  tree_fails : (ts : Trees) (n : ℕ) (ls : List CertLine) (why : Why) → take_tree (first_bound ts) n ls ≡ faulted n why → ReadsTrees t ts b n ls (faulted n why)
  tree_fails ts n ls why e = trees_at ts n ls (faulted n why) (faulted n why, (faulted n why, sym e, refl), refl)

  open_tree_fails : (refuted nodes n : ℕ) (ls : List CertLine) (why : Why) → take_open_tree (refuted + 1) n ls ≡ faulted n why → BehindTree t (trees.Open refuted nodes) b n ls (faulted n why)
  open_tree_fails refuted nodes n ls why e = (faulted n why, (faulted n why, sym e, refl), refl)

  -- the line of a closed tree's bound
  pub strange_at_tree : (v : Version) (ts : Trees) (n : ℕ) (line : CertLine) → ((c : ℕ) → line ≢ lines.Tree c) → Moves t v (sections.Tree ts b) n line (nexts.Fault n whys.Grammar)
  strange_at_tree v ts n line ne = (omega arith, λ ls. tree_fails ts n (line ∷ ls) whys.Grammar (no_tree (first_bound ts) n (line ∷ ls) (λ c rest e. ne c (cc))))

  pub other_at_tree : (v : Version) (ts : Trees) (n c : ℕ) → c ≢ first_bound ts → Moves t v (sections.Tree ts b) n (lines.Tree c) (nexts.Fault n whys.Bound)
  other_at_tree v ts n c ne = (omega arith, λ ls. tree_fails ts n (lines.Tree c ∷ ls) whys.Bound (other_tree (first_bound ts) c n ls ne))

  pub tree_begins : (v : Version) (ts : Trees) (n c : ℕ) (w : Walk) → AreTrees ts → FitsTask t b → c ≡ first_bound ts → parts_left w ≡ node (root_of t b c) ∷ [] → AreNodesLeft t (n + 1) false w → ((k : ℕ) → AreFew k w) →
      Moves t v (sections.Tree ts b) n (lines.Tree c) (nexts.On (sections.Nodes ts b w))
  tree_begins v ts n c w small fits e root left few = ((small, fits, left), (λ k h. few (k + 0)), λ ls o h. reads ls o h)
    where
      reads : (ls : List CertLine) (o : Outcome (Unit {0})) → Then (ReadsParts t b false (parts_left w)) (λ _. BehindTree t ts b) (n + 1) ls o → ReadsTrees t ts b n (lines.Tree c ∷ ls) o
      reads ls o (x, parts, after) =
          let alone : Reads t b false (node (root_of t b c)) (n + 1) ls x = one_part false (node (root_of t b c)) (n + 1) ls x (subst (λ ps. ReadsParts t b false ps (n + 1) ls x) root parts) in
          trees_at ts n (lines.Tree c ∷ ls) o
          (x, (went tt ls (n + 1), sym (this_tree (first_bound ts) c n ls e), subst (λ z. Reads t b false (node (root_of t b z)) (n + 1) ls x) e alone), after)

  -- the line of the bound of a tree with open nodes
  pub strange_at_open_tree : (v : Version) (refuted nodes n : ℕ) (line : CertLine) → ((c : ℕ) → line ≢ lines.OpenTree c) → Moves t v (sections.OpenTree refuted nodes b) n line (nexts.Fault n whys.Grammar)
  strange_at_open_tree v refuted nodes n line ne = (omega arith, λ ls. open_tree_fails refuted nodes n (line ∷ ls) whys.Grammar (no_open_tree (refuted + 1) n (line ∷ ls) (λ c rest e. ne c (cc))))

  pub other_at_open_tree : (v : Version) (refuted nodes n c : ℕ) → c ≢ refuted + 1 → Moves t v (sections.OpenTree refuted nodes b) n (lines.OpenTree c) (nexts.Fault n whys.Bound)
  other_at_open_tree v refuted nodes n c ne = (omega arith, λ ls. open_tree_fails refuted nodes n (lines.OpenTree c ∷ ls) whys.Bound (other_open_tree (refuted + 1) c n ls ne))

  pub open_tree_begins : (v : Version) (refuted nodes n c : ℕ) (w : Walk) → FitsTask t b → c ≡ refuted + 1 → parts_left w ≡ node (root_of t b c) ∷ [] → AreNodesLeft t (n + 1) true w → w.past.done ≡ 0 → w.past.left ≡ false → ((k : ℕ) → AreFew k w) →
      Moves t v (sections.OpenTree refuted nodes b) n (lines.OpenTree c) (nexts.On (sections.OpenNodes nodes b w))
  open_tree_begins v refuted nodes n c w fits e root left none shut few = ((fits, left), (λ k h. few (k + 0)), λ ls o h. reads ls o h)
    where
      reads : (ls : List CertLine) (o : Outcome (Unit {0})) → Left t v (sections.OpenNodes nodes b w) (n + 1) ls o → BehindTree t (trees.Open refuted nodes) b n (lines.OpenTree c ∷ ls) o
      reads ls o (x, parts, after) =
          let alone : Reads t b true (node (root_of t b c)) (n + 1) ls x = one_part true (node (root_of t b c)) (n + 1) ls x (subst (λ ps. ReadsParts t b true ps (n + 1) ls x) root parts) in
          (x, (went tt ls (n + 1), sym (this_open_tree (refuted + 1) c n ls e), subst (λ z. Reads t b true (node (root_of t b z)) (n + 1) ls x) e alone), go x after)
        where
          go : (x : Outcome (List NodeLine)) → After (λ f n ls o. o ≡ take_tallied_end (is_tallied nodes w.past.done w.past.left f) n ls) x o → After (λ f n ls o. o ≡ take_counted_end nodes f n ls) x o
          go (went f rest m) k = k ∙ tallied_end nodes f (is_tallied nodes w.past.done w.past.left f) m rest (tallied_none nodes w.past.done w.past.left f none shut)
          go (faulted line why) k = k

  -- a line of a tree is read
  node_reads : (mo : Bool) (w u : Walk) (l : NodeLine) (n : ℕ) (ls : List CertLine) (x : Outcome (List NodeLine)) → w.past.may_open ≡ mo → Leads t b w l u →
      ReadsParts t b mo (parts_left u) (n + 1) ls x → ReadsParts t b mo (parts_left w) n (lines.Node l ∷ ls) (behind (λ f. l ∷ f) x)
  node_reads mo w u l n ls x e h =
      subst (λ m. ReadsParts t b m (parts_left u) (n + 1) ls x → ReadsParts t b m (parts_left w) n (lines.Node l ∷ ls) (behind (λ f. l ∷ f) x)) e (h.reads n ls x)

  still_left : (n : ℕ) (mo : Bool) (w u : Walk) (l : NodeLine) → AreNodesLeft t n mo w → Leads t b w l u → IsUnread u → AreNodesLeft t (n + 1) mo u
  still_left n mo w u l k h some = record { walk = h.walk; unread = some; opens = h.may_open ∙ k.opens; done = go (is_done l) h.done }
    where
      go : (z : Bool) → u.past.done ≡ w.past.done + (if z then 1 else 0) → u.past.done < n + 1
      go true e = omega (arith, e, k.done)
      go false e = omega (arith, e, k.done)

  -- a line of a closed tree
  pub strange_at_node : (v : Version) (ts : Trees) (w : Walk) (n : ℕ) (line : CertLine) → AreNodesLeft t n false w → ((l : NodeLine) → line ≢ lines.Node l) → Moves t v (sections.Nodes ts b w) n line (nexts.Fault n whys.Grammar)
  strange_at_node v ts w n line left ne = (omega arith, λ ls. (faulted n whys.Grammar, no_node_fails n false w (line ∷ ls) left (λ l rest e. ne l (cc)), refl))

  pub node_fails : (v : Version) (ts : Trees) (w : Walk) (n : ℕ) (l : NodeLine) (why : Why) → w.past.may_open ≡ false → FailsAt t b w l why → Moves t v (sections.Nodes ts b w) n (lines.Node l) (nexts.Fault n why)
  node_fails v ts w n l why e h = (omega arith, λ ls. (faulted n why, subst (λ m. ReadsParts t b m (parts_left w) n (lines.Node l ∷ ls) (faulted n why)) e (h n ls), refl))

  node_then : (ts : Trees) (w u : Walk) (l : NodeLine) (n : ℕ) (ls : List CertLine) (o : Outcome (Unit {0})) → w.past.may_open ≡ false → Leads t b w l u →
      Then (ReadsParts t b false (parts_left u)) (λ _. BehindTree t ts b) (n + 1) ls o → Then (ReadsParts t b false (parts_left w)) (λ _. BehindTree t ts b) n (lines.Node l ∷ ls) o
  node_then ts w u l n ls o e h (x, parts, after) = (behind (λ f. l ∷ f) x, node_reads false w u l n ls x e h parts, go x after)
    where
      go : (x : Outcome (List NodeLine)) → After (λ _. BehindTree t ts b) x o → After (λ _. BehindTree t ts b) (behind (λ f. l ∷ f) x) o
      go (went f rest m) k = k
      go (faulted line why) k = k

  pub node_moves : (v : Version) (ts : Trees) (w u : Walk) (n : ℕ) (l : NodeLine) (s : Section) → IsSection t n (sections.Nodes ts b w) → Leads t b w l u →
      ((parts_left u ≡ []) × (s ≡ behind_tree ts b)) ⊎ (IsUnread u × (s ≡ sections.Nodes ts b u)) → Moves t v (sections.Nodes ts b w) n (lines.Node l) (nexts.On s)
  node_moves v ts w u n l s (small, fits, left) h (inl (e, k)) =
      subst (λ z. Moves t v (sections.Nodes ts b w) n (lines.Node l) (nexts.On z)) (sym k) (
        behind_formed ts (n + 1) small fits,
        λ m few. behind_few ts (m + bring_of l),
        λ ls o read. node_then ts w u l n ls o left.opens h (went [] ls (n + 1), all_read false u (n + 1) ls e, behind_at v ts (n + 1) ls o read),
      )
  node_moves v ts w u n l s (small, fits, left) h (inr (some, k)) =
      subst (λ z. Moves t v (sections.Nodes ts b w) n (lines.Node l) (nexts.On z)) (sym k) ((small, fits, still_left n false w u l left h some), h.few, λ ls o read. node_then ts w u l n ls o left.opens h read)

  -- a line of a tree with open nodes
  pub strange_at_open_node : (v : Version) (nodes : ℕ) (w : Walk) (n : ℕ) (line : CertLine) → AreNodesLeft t n true w → ((l : NodeLine) → line ≢ lines.Node l) → Moves t v (sections.OpenNodes nodes b w) n line (nexts.Fault n whys.Grammar)
  strange_at_open_node v nodes w n line left ne = (omega arith, λ ls. (faulted n whys.Grammar, no_node_fails n true w (line ∷ ls) left (λ l rest e. ne l (cc)), refl))

  pub open_node_fails : (v : Version) (nodes : ℕ) (w : Walk) (n : ℕ) (l : NodeLine) (why : Why) → w.past.may_open ≡ true → FailsAt t b w l why → Moves t v (sections.OpenNodes nodes b w) n (lines.Node l) (nexts.Fault n why)
  open_node_fails v nodes w n l why e h = (omega arith, λ ls. (faulted n why, subst (λ m. ReadsParts t b m (parts_left w) n (lines.Node l ∷ ls) (faulted n why)) e (h n ls), refl))

  open_node_then : (v : Version) (nodes : ℕ) (w u : Walk) (l : NodeLine) (n : ℕ) (ls : List CertLine) (o : Outcome (Unit {0})) → w.past.may_open ≡ true → Leads t b w l u →
      Left t v (sections.OpenNodes nodes b u) (n + 1) ls o → Left t v (sections.OpenNodes nodes b w) n (lines.Node l ∷ ls) o
  open_node_then v nodes w u l n ls o e h (x, parts, after) = (behind (λ f. l ∷ f) x, node_reads true w u l n ls x e h parts, go x after)
    where
      go : (x : Outcome (List NodeLine)) → After (λ f n ls o. o ≡ take_tallied_end (is_tallied nodes u.past.done u.past.left f) n ls) x o →
          After (λ f n ls o. o ≡ take_tallied_end (is_tallied nodes w.past.done w.past.left f) n ls) (behind (λ f. l ∷ f) x) o
      go (went f rest m) k = k ∙ ap (λ z. take_tallied_end z m rest) (tallied_more nodes u.past.done w.past.done u.past.left w.past.left l f h.done h.left)
      go (faulted line why) k = k

  pub open_node_moves : (v : Version) (nodes : ℕ) (w u : Walk) (n : ℕ) (l : NodeLine) (s : Section) → IsSection t n (sections.OpenNodes nodes b w) → Leads t b w l u →
      ((parts_left u ≡ []) × (s ≡ sections.CountedEnd ((u.past.done == nodes) && u.past.left))) ⊎ (IsUnread u × (s ≡ sections.OpenNodes nodes b u)) → Moves t v (sections.OpenNodes nodes b w) n (lines.Node l) (nexts.On s)
  open_node_moves v nodes w u n l s (fits, left) h (inl (e, k)) =
      subst (λ z. Moves t v (sections.OpenNodes nodes b w) n (lines.Node l) (nexts.On z)) (sym k) (
        tt,
        λ m few. tt,
        λ ls o read. open_node_then v nodes w u l n ls o left.opens h (
          went [] ls (n + 1),
          all_read true u (n + 1) ls e,
          read ∙ ap (λ z. take_tallied_end z (n + 1) ls) (sym (tallied_all nodes u.past.done u.past.left)),
        ),
      )
  open_node_moves v nodes w u n l s (fits, left) h (inr (some, k)) =
      subst (λ z. Moves t v (sections.OpenNodes nodes b w) n (lines.Node l) (nexts.On z)) (sym k) ((fits, still_left n true w u l left h some), h.few, λ ls o read. open_node_then v nodes w u l n ls o left.opens h read)

-- a tree that is not read whole ends too early
pub ends_tree : (t : TaskShape) (v : Version) (n : ℕ) (ts : Trees) (b : Tables) → IsSection t n (sections.Tree ts b) → EndsEarly t v (sections.Tree ts b) n
ends_tree t v n ts b h ls none = tree_fails t b ts n ls whys.Grammar (no_tree (first_bound ts) n ls (λ c rest. no_line ls rest (lines.Tree c) none (λ e. cc)))

pub ends_nodes : (t : TaskShape) (v : Version) (n : ℕ) (ts : Trees) (b : Tables) (w : Walk) → IsSection t n (sections.Nodes ts b w) → EndsEarly t v (sections.Nodes ts b w) n
ends_nodes t v n ts b w h ls none = (faulted n whys.Grammar, no_node_fails t b n false w ls h.2 (λ l rest. no_line ls rest (lines.Node l) none (λ e. cc)), refl)

pub ends_open_tree : (t : TaskShape) (v : Version) (n refuted nodes : ℕ) (b : Tables) → IsSection t n (sections.OpenTree refuted nodes b) → EndsEarly t v (sections.OpenTree refuted nodes b) n
ends_open_tree t v n refuted nodes b h ls none = open_tree_fails t b refuted nodes n ls whys.Grammar (no_open_tree (refuted + 1) n ls (λ c rest. no_line ls rest (lines.OpenTree c) none (λ e. cc)))

pub ends_open_nodes : (t : TaskShape) (v : Version) (n nodes : ℕ) (b : Tables) (w : Walk) → IsSection t n (sections.OpenNodes nodes b w) → EndsEarly t v (sections.OpenNodes nodes b w) n
ends_open_nodes t v n nodes b w h ls none = (faulted n whys.Grammar, no_node_fails t b n true w ls h.1 (λ l rest. no_line ls rest (lines.Node l) none (λ e. cc)), refl)
