-- two certificates that tell one outcome differ in their steps alone
use Rattle.std.proofs.Common.{◌≡◌, ℕ, zero, suc, ◌+◌, Bool, not, inl, inr, List, [], ◌∷◌, ◌++◌, length, map, refl, sym, ap, ◌∙◌, subst, arith, length-append}
use Rattle.std.proofs.lemmas.List.{append-nil}
use Rattle.std.proofs.lemmas.List.Elements.{filter-append}
use Rattle.cpt_task.specs.declared.plan.Occ.{Occ}
use Rattle.cpt_task.specs.declared.span.Span.TheVariants.{At}
use Rattle.cpt_sheet.specs.declared.data.NodeLine.{NodeLine}
use Rattle.cpt_sheet.specs.declared.data.NodeLine.TheVariants.{Child, Narrow, Close, Branch, OpenNode}
use Rattle.cpt_sheet.specs.declared.data.Step.{Step}
use Rattle.cpt_tree.specs.declared.expansion.Expansion.{Expansion}
use Rattle.cpt_tree.specs.Trees.{Node, SearchTree, IsDeterministic, Traverses, choices, children_of, root}
use Rattle.cpt_tree.specs.Texts.{NodeRuns, child_line, last_line, node_lines, open_lines as lines_left, Writes, IsFinishedText, IsPartialText, IsTextBelow}
use Rattle.cpt_tree.proofs.TraversalLemmas.{one-traversal, traverses-whole, traverses-more}
use Rattle.cpt_outcome.specs.Nodes.{SearchProblem, search_tree, node_runs}
use Rattle.cpt_outcome.specs.Outcomes.{SearchOutcome, never, optimal, none_up_to, budget_spent, goal_span}
use Rattle.cpt_outcome.proofs.NodeLemmas.{one-expansion}
use Rattle.cpt_cert_form.specs.declared.forms.Version.{Version}
use Rattle.cpt_cert_form.specs.declared.forms.Claim.{Claim}
use Rattle.cpt_cert_form.specs.declared.forms.CertLine.{CertLine}
use Rattle.cpt_cert_form.specs.declared.forms.CertLine.TheVariants as lines
use Rattle.cpt_cert_form.specs.Text.{Parts, plan_lines, pair_lines, table_lines, tree_lines, open_lines, sections}
use Rattle.cpt_evidence.specs.Evidence.{claim_of, HasTexts, is_step, without_steps}
use Rattle.cpt_evidence.specs.Laws.{OneEvidence}

-- the lines of a tree but its steps
abbrev bare : List NodeLine → List CertLine
bare ls = without_steps (map (λ l. lines.Node l) ls)

bare_append : (xs ys : List NodeLine) → bare (xs ++ ys) ≡ bare xs ++ bare ys
bare_append [] ys = refl
bare_append (Child d ∷ xs) ys = ap (λ z. lines.Node (Child d) ∷ z) (bare_append xs ys)
bare_append (Narrow step ∷ xs) ys = bare_append xs ys
bare_append (Close ∷ xs) ys = ap (λ z. lines.Node Close ∷ z) (bare_append xs ys)
bare_append (Branch flaw ∷ xs) ys = ap (λ z. lines.Node (Branch flaw) ∷ z) (bare_append xs ys)
bare_append (OpenNode ∷ xs) ys = ap (λ z. lines.Node OpenNode ∷ z) (bare_append xs ys)

bare_steps : (steps : List Step) (ls : List NodeLine) → bare (map Narrow steps ++ ls) ≡ bare ls
bare_steps [] ls = refl
bare_steps (step ∷ steps) ls = bare_steps steps ls

bare_node : (ds : Node) (steps : List Step) (f : Expansion) → bare (node_lines ds steps f) ≡ bare (child_line ds) ++ bare (last_line f ∷ [])
bare_node ds steps f = bare_append (child_line ds) (map Narrow steps ++ last_line f ∷ []) ∙ ap (λ z. bare (child_line ds) ++ z) (bare_steps steps (last_line f ∷ []))

-- the same visits have the same lines but for the steps
written_same : (Runs : NodeRuns) (stack : List Node) (fs : List Expansion) (ls more : List NodeLine) → Writes Runs stack fs ls → Writes Runs stack fs more → bare ls ≡ bare more
written_same Runs stack [] ls more h k = ap bare (h ∙ sym k)
written_same Runs [] (f ∷ fs) ls more h k = absurd h
written_same Runs (ds ∷ stack) (f ∷ fs) ls more (steps, rest, r, e, h) (others, tail, q, g, k) =
    let ih = written_same Runs (children_of ds (choices f) ++ stack) fs rest tail h k in
    ap bare e ∙ (bare_append (node_lines ds steps f) rest ∙ (ap (λ z. z ++ bare rest) (bare_node ds steps f ∙ sym (bare_node ds others f)) ∙ (ap (λ z. bare (node_lines ds others f) ++ z) ih
    ∙ (sym (bare_append (node_lines ds others f) tail) ∙ ap bare (sym g)))))

module _ (T : SearchTree) (one : IsDeterministic T) (Runs : NodeRuns) (n : ℕ) where
  -- a tree is visited whole in one way
  whole_same : (fs gs : List Expansion) → Traverses T root fs [] → Traverses T root gs [] → gs ≡ fs
  whole_same fs gs t s =
      let le = traverses-whole T one root gs fs [] s t in
      let ih = one-traversal T one root fs gs [] [] t s le in ih.1 ∙ (ap (λ z. fs ++ z) (traverses-more T [] ih.0 [] ih.2) ∙ append-nil fs)

  -- its first nodes are visited in one way
  first_same : (fs gs : List Expansion) (frontier rest : List Node) → Traverses T root fs frontier → Traverses T root gs rest → length fs ≡ n → length gs ≡ n → (gs ≡ fs) × (rest ≡ frontier)
  first_same fs gs frontier rest t s a c = let ih = one-traversal T one root fs gs frontier rest t s (omega (arith, a, c)) in go ih.0 ih.1 ih.2
    where
      go : (hs : List Expansion) → gs ≡ fs ++ hs → Traverses T frontier hs rest → (gs ≡ fs) × (rest ≡ frontier)
      go [] e h = (e ∙ append-nil fs, h)
      go (x ∷ hs) e h = let k = ap length e ∙ length-append fs (x ∷ hs) in absurd (omega (arith, k, a, c))

  finished_same : (ls more : List NodeLine) → IsFinishedText T Runs n ls → IsFinishedText T Runs n more → bare ls ≡ bare more
  finished_same ls more (fs, begun, few, (done, written, e)) (gs, again, less, (front, also, f)) =
      let same = whole_same fs gs begun.traversal again.traversal in
      let text = written_same Runs root fs done front written (subst (λ z. Writes Runs root z front) same also) in ap bare (e ∙ append-nil done) ∙ (text ∙ ap bare (sym (f ∙ append-nil front)))

  partial_same : (ls more : List NodeLine) → IsPartialText T Runs n ls → IsPartialText T Runs n more → bare ls ≡ bare more
  partial_same ls more (fs, frontier, begun, count, some, (done, written, e)) (gs, rest, again, also, none, (front, lines_too, f)) =
      let same = first_same fs gs frontier rest begun.traversal again.traversal count also in
      let text = written_same Runs root fs done front written (subst (λ z. Writes Runs root z front) same.0 lines_too) in
      ap bare e ∙ (bare_append done (lines_left frontier) ∙ (ap (λ z. z ++ bare (lines_left frontier)) text ∙ (ap (λ z. bare front ++ bare (lines_left z)) (sym same.1) ∙ (sym (bare_append front (lines_left rest)) ∙ ap bare (sym f)))))

module _ (w : SearchProblem) (most n : ℕ) where
  at_one : (a b : ℕ) → goal_span w ≡ At a → goal_span w ≡ At b → a ≡ b
  at_one a b e f = let g : At a ≡ At b = sym e ∙ f in cc

  below_same : (first b : ℕ) (ls more : List NodeLine) → IsTextBelow (search_tree w) (node_runs w) n first b ls → IsTextBelow (search_tree w) (node_runs w) n first b more → bare ls ≡ bare more
  below_same first b ls more (inl (e, x)) (inl (f, y)) = ap bare (x ∙ sym y)
  below_same first b ls more (inl (e, x)) (inr (c, f, le, text)) = absurd (omega (arith, e, f, le))
  below_same first b ls more (inr (c, e, le, text)) (inl (f, y)) = absurd (omega (arith, e, f, le))
  below_same first b ls more (inr (c, e, le, text)) (inr (d, f, ge, also)) =
      let same : d ≡ c = omega (arith, e, f) in
      finished_same (search_tree w c) (one-expansion w c) (node_runs w c) n ls more text (subst (λ z. IsFinishedText (search_tree w z) (node_runs w z) n more) same also)

  -- the text below a bound, from whichever first bound
  text_same : (first other b : ℕ) (ls more : List NodeLine) → goal_span w ≡ At first → goal_span w ≡ At other → IsTextBelow (search_tree w) (node_runs w) n first b ls → IsTextBelow (search_tree w) (node_runs w) n other b more → bare ls ≡ bare more
  text_same first other b ls more e f h k = below_same first b ls more h (subst (λ z. IsTextBelow (search_tree w) (node_runs w) n z b more) (sym (at_one first other e f)) k)

  optimal_same : (m : ℕ) (plan : List Occ) (tree partial also other : List NodeLine) → HasTexts w most n (optimal m plan) tree partial → HasTexts w most n (optimal m plan) also other → bare tree ≡ bare also
  optimal_same m plan tree partial also other (inl (e, x)) (inl (f, y)) = ap bare (x ∙ sym y)
  optimal_same m plan tree partial also other (inl (e, x)) (inr (first, f, le, text)) = let z = at_one 0 first e f in absurd (omega (arith, z, le))
  optimal_same m plan tree partial also other (inr (first, f, le, text)) (inl (e, x)) = let z = at_one 0 first e f in absurd (omega (arith, z, le))
  optimal_same m plan tree partial also other (inr (first, e, le, text)) (inr (second, f, ge, more)) = text_same first second m tree also e f text more

  none_same : (tree partial also other : List NodeLine) → HasTexts w most n none_up_to tree partial → HasTexts w most n none_up_to also other → bare tree ≡ bare also
  none_same tree partial also other (first, e, inl (lt, x)) (second, f, inl (gt, y)) = ap bare (x ∙ sym y)
  none_same tree partial also other (first, e, inl (lt, x)) (second, f, inr (le, text)) = let z = at_one first second e f in absurd (omega (arith, z, lt, le))
  none_same tree partial also other (first, e, inr (le, text)) (second, f, inl (lt, x)) = let z = at_one first second e f in absurd (omega (arith, z, lt, le))
  none_same tree partial also other (first, e, inr (le, text)) (second, f, inr (ge, more)) = text_same first second (suc most) tree also e f text more

  -- a tree with its head
  tree_same : (bound : ℕ) (tree also : List NodeLine) → bare tree ≡ bare also → without_steps (tree_lines bound tree) ≡ without_steps (tree_lines bound also)
  tree_same bound tree also h = ap (λ z. lines.Tree bound ∷ z) h

  open_same : (bound : ℕ) (tree also : List NodeLine) → bare tree ≡ bare also → without_steps (open_lines bound tree) ≡ without_steps (open_lines bound also)
  open_same bound tree also h = ap (λ z. lines.OpenTree bound ∷ z) h

  -- two lists of lines, part by part
  join_same : (xs bs cs ds : List CertLine) → without_steps xs ≡ without_steps cs → without_steps bs ≡ without_steps ds → without_steps (xs ++ bs) ≡ without_steps (cs ++ ds)
  join_same xs bs cs ds h k =
      let p : CertLine → Bool = λ l. not (is_step l) in filter-append p xs bs ∙ (ap (λ z. z ++ without_steps bs) h ∙ (ap (λ z. without_steps cs ++ z) k ∙ sym (filter-append p cs ds)))

  sections_same : (v : Version) (o : SearchOutcome) (c d : Parts) → c.plan ≡ d.plan → c.tables ≡ d.tables → HasTexts w most n o c.tree c.partial → HasTexts w most n o d.tree d.partial →
      without_steps (sections v (claim_of most n o) c) ≡ without_steps (sections v (claim_of most n o) d)
  sections_same v never c d p b h k = ap (λ z. without_steps (pair_lines v z.pairs)) b
  sections_same v (optimal zero plan) c d p b h k = ap (λ z. without_steps (plan_lines z)) p
  sections_same v (optimal (suc m) plan) c d p b h k =
      join_same (plan_lines c.plan) (table_lines v c.tables ++ tree_lines m c.tree) (plan_lines d.plan) (table_lines v d.tables ++ tree_lines m d.tree) (ap (λ z. without_steps (plan_lines z)) p)
      (join_same (table_lines v c.tables) (tree_lines m c.tree) (table_lines v d.tables) (tree_lines m d.tree) (ap (λ z. without_steps (table_lines v z)) b) (tree_same m c.tree d.tree (optimal_same (suc m) plan c.tree c.partial d.tree d.partial h k)))
  sections_same v none_up_to c d p b h k =
      join_same (table_lines v c.tables) (tree_lines most c.tree) (table_lines v d.tables) (tree_lines most d.tree) (ap (λ z. without_steps (table_lines v z)) b) (tree_same most c.tree d.tree (none_same c.tree c.partial d.tree d.partial h k))
  sections_same v (budget_spent refuted) c d p b (first, e, text, part) (second, f, more, left) =
      join_same (table_lines v c.tables) (tree_lines refuted c.tree ++ open_lines (refuted + 1) c.partial) (table_lines v d.tables) (tree_lines refuted d.tree ++ open_lines (refuted + 1) d.partial) (ap (λ z. without_steps (table_lines v z)) b)
      (join_same (tree_lines refuted c.tree) (open_lines (refuted + 1) c.partial) (tree_lines refuted d.tree) (open_lines (refuted + 1) d.partial)
      (tree_same refuted c.tree d.tree (text_same first second (suc refuted) c.tree d.tree e f text more))
      (open_same (refuted + 1) c.partial d.partial (partial_same (search_tree w (suc refuted)) (one-expansion w (suc refuted)) (node_runs w (suc refuted)) n c.partial d.partial part left)))

  -- the lines of a certificate with this claim
  abbrev lines_with : Version → Claim → Parts → List CertLine
  lines_with v claim c = lines.First v ∷ lines.Claimed claim ∷ lines.Sizes (length w.task.atoms) (length w.task.actions) ∷ (sections v claim c ++ lines.End ∷ [])

  lines_same : (v : Version) (claim : Claim) (c d : Parts) → without_steps (sections v claim c) ≡ without_steps (sections v claim d) → without_steps (lines_with v claim c) ≡ without_steps (lines_with v claim d)
  lines_same v claim c d h =
      let sizes = lines.Sizes (length w.task.atoms) (length w.task.actions) in
      ap (λ z. lines.First v ∷ lines.Claimed claim ∷ sizes ∷ z) (join_same (sections v claim c) (lines.End ∷ []) (sections v claim d) (lines.End ∷ []) h refl)

pub one_evidence : OneEvidence
one_evidence w most n o c d v h k =
    let claim = claim_of most n o in
    ap (λ z. without_steps (lines_with w most n v z c)) h.claim
    ∙ (lines_same w most n v claim c d (sections_same w most n v o c d (h.plan ∙ sym k.plan) (h.tables ∙ sym k.tables) h.trees k.trees) ∙ ap (λ z. without_steps (lines_with w most n v z d)) (sym k.claim))
