-- the texts of the trees of a search are trees over the roots of their bounds
use Rattle.std.proofs.Common.{◌≡◌, ℕ, suc, Bool, true, false, List, [], ◌∷◌, ◌++◌, map, Contains, Option, Some, None, refl, sym, ap, ◌∙◌, subst, arith, append_assoc}
use Rattle.std.proofs.lemmas.List.{append-nil}
use Rattle.cpt_task.specs.Shape.{TaskShape}
use Rattle.cpt_tables.specs.declared.tables.Tables.{Tables}
use Rattle.cpt_sheet.specs.declared.data.Sheet.{Sheet}
use Rattle.cpt_sheet.specs.declared.data.Step.{Step}
use Rattle.cpt_sheet.specs.declared.data.Decision.{Decision}
use Rattle.cpt_sheet.specs.declared.data.NodeLine.{NodeLine}
use Rattle.cpt_sheet.specs.declared.data.NodeLine.TheVariants.{Child, Narrow, Close, Branch, OpenNode}
use Rattle.cpt_sheet.specs.Live.{IsDead}
use Rattle.cpt_calculus.specs.Decisions.{Fits, applied}
use Rattle.cpt_calculus.specs.Flaws.{children}
use Rattle.cpt_calculus.specs.Root.{root_of}
use Rattle.cpt_calculus.specs.Rules.{narrowed}
use Rattle.cpt_soundness.proofs.FitLemmas.{children_fit}
use Rattle.cpt_steps.specs.Tight.{RunsTight}
use Rattle.cpt_fresh.specs.Fresh.{IsBeginning}
use Rattle.cpt_fresh.specs.Fresh.IsBeginning.{here, after}
use Rattle.cpt_fresh.proofs.FreshLemmas.{one_beginning}
use Rattle.cpt_tree.specs.declared.expansion.Expansion.{Expansion}
use Rattle.cpt_tree.specs.declared.expansion.Expansion.TheVariants.{Closed, Leaf, Branched}
use Rattle.cpt_tree.specs.Trees.{Node, Traverses, HaveNoLeaf, choices, children_of, root}
use Rattle.cpt_tree.specs.Texts.{child_line, last_line, open_lines as lines_left, Writes, IsFinishedText, IsPartialText}
use Rattle.cpt_tree.proofs.TextLemmas.{child_line-push}
use Rattle.cpt_outcome.specs.Nodes.{SearchProblem, IsFreshAt, IsNodeEnd, search_tree, node_runs}
use Rattle.cpt_outcome.proofs.NodeLemmas.{fresh-same, fresh-dead, fresh-closed}
use Rattle.cpt_cert_accept.specs.Trees.{IsPart, IsTreeOver}
use Rattle.cpt_cert_accept.specs.Trees.Part.{node, worked, branches}
use Rattle.cpt_cert_accept.specs.Trees.IsPart.{left, whole, step, close, branch, none, child}

first_leafless : (f : Expansion) (fs : List Expansion) → HaveNoLeaf (f ∷ fs) → HaveNoLeaf (f ∷ []) × HaveNoLeaf fs
first_leafless Closed fs h = (tt, h)
first_leafless Leaf fs h = absurd h
first_leafless (Branched flaw ks) fs h = (tt, h)

-- legal steps before what is left of a node
steps_part : (rules : List ℕ) (t : TaskShape) (b : Tables) (mo : Bool) (s u : Sheet) (steps : List Step) (last : List NodeLine) →
    RunsTight rules t b s steps u → IsPart t b mo (worked u) last → IsPart t b mo (worked s) (map Narrow steps ++ last)
steps_part rules t b mo s u [] last h k = subst (λ z. IsPart t b mo (worked z) last) h k
steps_part rules t b mo s u (rule ∷ steps) last h k = step s rule (map Narrow steps ++ last) h.1 (steps_part rules t b mo (narrowed s rule) u steps last h.3 k)

-- a node's lines before those of its children
regroup : (cs ms : List NodeLine) (l : NodeLine) (more rest kids tail ls : List NodeLine) → ls ≡ (cs ++ (ms ++ l ∷ [])) ++ more → more ++ rest ≡ kids ++ tail → ls ++ rest ≡ cs ++ ((ms ++ l ∷ kids) ++ tail)
regroup cs ms l more rest kids tail ls e f =
    ap (λ z. z ++ rest) e ∙ (append_assoc (cs ++ (ms ++ l ∷ [])) more rest ∙ (ap (λ z. (cs ++ (ms ++ l ∷ [])) ++ z) f ∙ (append_assoc cs (ms ++ l ∷ []) (kids ++ tail)
    ∙ ap (λ z. cs ++ z) (append_assoc ms (l ∷ []) (kids ++ tail) ∙ sym (append_assoc ms (l ∷ kids) tail)))))

module _ (w : SearchProblem) (b : ℕ) (mo : Bool) where
  -- the lines of a node: a tree over the sheet at which its steps begin
  abbrev IsOver : Node → List NodeLine → Type 0
  IsOver ds own = (s : Sheet) → IsBeginning w.rules w.task w.tables b ds s → IsPart w.task w.tables mo (node s) own

  -- the lines of the nodes of a stack, each behind the line of its decision
  abbrev AreOver : List Node → List NodeLine → Type 0
  AreOver [] ls = ls ≡ []
  AreOver (ds ∷ stack) ls = (own : List NodeLine) × (more : List NodeLine) × (ls ≡ child_line ds ++ (own ++ more)) × IsOver ds own × AreOver stack more

  over_append : (xs ys : List Node) (ls : List NodeLine) → AreOver (xs ++ ys) ls → (front : List NodeLine) × (tail : List NodeLine) × (ls ≡ front ++ tail) × AreOver xs front × AreOver ys tail
  over_append [] ys ls h = ([], ls, refl, refl, h)
  over_append (ds ∷ xs) ys ls (own, more, e, over, h) =
      let (front, tail, f, a, c) = over_append xs ys more h in (
        child_line ds ++ (own ++ front),
        tail,
        e ∙ (ap (λ z. child_line ds ++ (own ++ z)) f ∙ (ap (λ z. child_line ds ++ z) (sym (append_assoc own front tail)) ∙ sym (append_assoc (child_line ds) (own ++ front) tail))),
        (own, front, refl, over, a),
        c,
      )

  -- the children of a branched node
  kids_part : (ds : Node) (u : Sheet) (ks : List Decision) (kids : List NodeLine) → IsFreshAt w b ds (Some u) → ((d : Decision) → Contains ks d → Fits u d) → AreOver (children_of ds ks) kids →
      IsPart w.task w.tables mo (branches u ks) kids
  kids_part ds u [] kids fresh fits h = subst (λ z. IsPart w.task w.tables mo (branches u []) z) (sym h) (none u)
  kids_part ds u (k ∷ ks) kids fresh fits (own, more, e, over, h) =
      let fit : Fits u k = fits k (0, omega arith, refl) in
      let lines : kids ≡ Child k ∷ (own ++ more) = e ∙ ap (λ z. z ++ (own ++ more)) (child_line-push ds k) in
      subst (λ z. IsPart w.task w.tables mo (branches u (k ∷ ks)) z) (sym lines)
      (child u k ks own more (own ++ more) (over (applied w.task u k) (after ds k u refl fresh fit refl))
      (kids_part ds u ks more fresh (λ d m. fits d (suc m.0, (let q = m.1 in omega (arith, q)), m.2)) h) refl)

  -- the last line of a node and its children's
  end_part : (ds : Node) (f : Expansion) (r : Option Sheet) (u : Sheet) (kids : List NodeLine) → search_tree w b ds f → HaveNoLeaf (f ∷ []) → IsFreshAt w b ds r → IsNodeEnd r u →
      AreOver (children_of ds (choices f)) kids → IsPart w.task w.tables mo (worked u) (last_line f ∷ kids)
  end_part ds Closed r u kids h n fresh e k = subst (λ z. IsPart w.task w.tables mo (worked u) (Close ∷ z)) (sym k) (close u (dead r fresh e))
    where
      dead : (r : Option Sheet) → IsFreshAt w b ds r → IsNodeEnd r u → IsDead u
      dead None f e = e
      dead (Some v) f e = absurd (fresh-dead w b ds v f h)
  end_part ds Leaf r u kids h n fresh e k = absurd n
  end_part ds (Branched flaw ks) r u kids (v, f, chosen, same) n fresh e k =
      let sheet = fresh-closed w b ds v f in
      let part : IsPart w.task w.tables mo (branches v (children v flaw)) kids = kids_part ds v (children v flaw) kids f (children_fit w.task v flaw sheet.formed chosen.stands) (subst (λ z. AreOver (children_of ds z) kids) same k) in
      subst (λ z. IsPart w.task w.tables mo (worked z) (Branch flaw ∷ kids)) (sym (there r fresh e)) (branch v flaw kids sheet.live chosen.stands part)
    where
      there : (r : Option Sheet) → IsFreshAt w b ds r → IsNodeEnd r u → u ≡ v
      there None g e = absurd (fresh-dead w b ds v f g)
      there (Some x) g e = e ∙ fresh-same w b ds x v g f

  node_over : (ds : Node) (f : Expansion) (steps : List Step) (kids : List NodeLine) → search_tree w b ds f → HaveNoLeaf (f ∷ []) → node_runs w b ds steps → AreOver (children_of ds (choices f)) kids →
      IsOver ds (map Narrow steps ++ last_line f ∷ kids)
  node_over ds f steps kids h n k over s at =
      let part = end_part ds f k.fresh k.to kids h n k.is_fresh k.ends over in
      let all = steps_part w.rules w.task w.tables mo k.from k.to steps (last_line f ∷ kids) k.leads part in
      whole s (map Narrow steps ++ last_line f ∷ kids) (subst (λ z. IsPart w.task w.tables mo (worked z) (map Narrow steps ++ last_line f ∷ kids)) (one_beginning w.rules w.task w.tables b ds k.from s k.starts at) all)

  -- the lines of visited nodes, before those of the frontier
  stack_over : (stack : List Node) (fs : List Expansion) (frontier : List Node) (ls rest : List NodeLine) → Traverses (search_tree w b) stack fs frontier → HaveNoLeaf fs → Writes (node_runs w b) stack fs ls →
      AreOver frontier rest → AreOver stack (ls ++ rest)
  stack_over stack [] frontier ls rest e l h k = subst (λ z. AreOver stack (z ++ rest)) (sym h) (subst (λ z. AreOver z rest) e k)
  stack_over [] (f ∷ fs) frontier ls rest t l h k = absurd t
  stack_over (ds ∷ stack) (f ∷ fs) frontier ls rest t l (steps, more, runs, e, h) k =
      let n = first_leafless f fs l in
      let (kids, tail, g, a, c) = over_append (children_of ds (choices f)) stack (more ++ rest) (stack_over (children_of ds (choices f) ++ stack) fs frontier more rest t.1 n.1 h k) in (
        map Narrow steps ++ last_line f ∷ kids,
        tail,
        regroup (child_line ds) (map Narrow steps) (last_line f) more rest kids tail ls e g,
        node_over ds f steps kids t.0 n.0 runs a,
        c,
      )

  -- the lines of a stack that is the root alone
  root_over : (ls : List NodeLine) → AreOver root ls → IsTreeOver w.task w.tables mo (root_of w.task w.tables b) ls
  root_over ls (own, more, e, over, h) = subst (λ z. IsTreeOver w.task w.tables mo (root_of w.task w.tables b) z) (sym (e ∙ (ap (λ z. own ++ z) h ∙ append-nil own))) (over (root_of w.task w.tables b) (here refl refl))

-- nodes that are not visited
frontier_over : (w : SearchProblem) (b : ℕ) (stack : List Node) → AreOver w b true stack (lines_left stack)
frontier_over w b [] = refl
frontier_over w b (ds ∷ stack) = (OpenNode ∷ [], lines_left stack, refl, (λ s at. left s refl), frontier_over w b stack)

-- the text of a finished tree is a tree over the root, in which each node is closed or branched
pub finished_tree : (w : SearchProblem) (b n : ℕ) (ls : List NodeLine) → IsFinishedText (search_tree w b) (node_runs w b) n ls → IsTreeOver w.task w.tables false (root_of w.task w.tables b) ls
finished_tree w b n ls (fs, begun, few, (done, written, e)) =
    subst (λ z. IsTreeOver w.task w.tables false (root_of w.task w.tables b) z) (sym e) (root_over w b false (done ++ []) (stack_over w b false root fs [] done [] begun.traversal begun.leafless written refl))

-- the text of a partial tree is a tree over the root
pub partial_tree : (w : SearchProblem) (b n : ℕ) (ls : List NodeLine) → IsPartialText (search_tree w b) (node_runs w b) n ls → IsTreeOver w.task w.tables true (root_of w.task w.tables b) ls
partial_tree w b n ls (fs, rest, begun, count, some, (done, written, e)) =
    subst (λ z. IsTreeOver w.task w.tables true (root_of w.task w.tables b) z) (sym e)
    (root_over w b true (done ++ lines_left rest) (stack_over w b true root fs rest done (lines_left rest) begun.traversal begun.leafless written (frontier_over w b rest)))
