-- the texts of an outcome's trees close the roots of the bounds that it refutes
use Rattle.std.proofs.Common.{◌≡◌, ℕ, suc, ◌+◌, ◌<◌, ◌≤◌, true, inl, inr, cond, List, [], ◌∷◌, map, count_by, refl, sym, ap, ◌∙◌, subst, arith}
use Rattle.std.specs.List.{list_any}
use Rattle.std.proofs.lemmas.List.{append-nil}
use Rattle.std.proofs.lemmas.List.Sums.{sum_by-append}
use Rattle.cpt_task.specs.declared.span.Span.TheVariants.{At}
use Rattle.cpt_tables.specs.Spans.{◌<ˢ◌}
use Rattle.cpt_sheet.specs.declared.data.NodeLine.{NodeLine}
use Rattle.cpt_sheet.specs.declared.data.NodeLine.TheVariants.{Child, Narrow, Close, Branch, OpenNode}
use Rattle.cpt_sheet.specs.declared.data.Token.{Token}
use Rattle.cpt_sheet.specs.Live.{IsDead}
use Rattle.cpt_calculus.specs.Decisions.{need_for}
use Rattle.cpt_calculus.specs.Root.{root_of, end_token, bare_root}
use Rattle.cpt_tree.specs.Texts.{IsFinishedText, IsPartialText, IsTextBelow}
use Rattle.cpt_outcome.specs.Nodes.{SearchProblem, search_tree, node_runs}
use Rattle.cpt_outcome.specs.Outcomes.{goal_span}
use Rattle.cpt_outcome.specs.Partial.{ends_visit, leaves_open}
use Rattle.cpt_outcome.proofs.PartialLemmas.{written-count, open-counts}
use Rattle.cpt_cert_accept.specs.Accepting.{is_done, is_left, IsClosedAt, IsOpenAt}
use Rattle.cpt_cert_accept.specs.Trees.IsPart.{whole, close}
use Rattle.cpt_evidence.proofs.TreeTexts.{finished_tree, partial_tree}

-- a closed tree at a bound, with no more nodes than a budget allows
pub record IsRefutation (w : SearchProblem) (bound : ℕ) (ls : List NodeLine) : Type 0 where
  pub tree : IsClosedAt w.task w.tables bound ls
  pub few : count_by is_done ls ≤ 4000000000

one_more : (l : NodeLine) (ls : List NodeLine) → is_done l ≡ true → ends_visit l ≡ true → count_by is_done ls ≡ count_by ends_visit ls → count_by is_done (l ∷ ls) ≡ count_by ends_visit (l ∷ ls)
one_more l ls d v e =
    let a : count_by is_done (l ∷ ls) ≡ (0 + cond (is_done l) 1 0) + count_by is_done ls = sum_by-append (λ x. cond (is_done x) 1 0) (l ∷ []) ls in
    let c : count_by ends_visit (l ∷ ls) ≡ (0 + cond (ends_visit l) 1 0) + count_by ends_visit ls = sum_by-append (λ x. cond (ends_visit x) 1 0) (l ∷ []) ls in
    a ∙ (ap (λ b. (0 + cond b 1 0) + count_by is_done ls) d ∙ (ap (λ m. 1 + m) e ∙ (ap (λ b. (0 + cond b 1 0) + count_by ends_visit ls) (sym v) ∙ sym c)))

-- the same lines are counted
same_done : (ls : List NodeLine) → count_by is_done ls ≡ count_by ends_visit ls
same_done [] = refl
same_done (Child d ∷ ls) = same_done ls
same_done (Narrow step ∷ ls) = same_done ls
same_done (Close ∷ ls) = one_more Close ls refl refl (same_done ls)
same_done (Branch flaw ∷ ls) = one_more (Branch flaw) ls refl refl (same_done ls)
same_done (OpenNode ∷ ls) = same_done ls

same_left : (ls : List NodeLine) → list_any is_left ls ≡ list_any leaves_open ls
same_left [] = refl
same_left (Child d ∷ ls) = same_left ls
same_left (Narrow step ∷ ls) = same_left ls
same_left (Close ∷ ls) = same_left ls
same_left (Branch flaw ∷ ls) = same_left ls
same_left (OpenNode ∷ ls) = refl

module _ (w : SearchProblem) where
  -- below the first moment of the goal the root is dead
  root_dead : (first b : ℕ) → goal_span w ≡ At first → b < first → IsDead (root_of w.task w.tables b)
  root_dead first b e lt =
      let z : Token = record (end_token w.task w.tables b) { lists = map (need_for w.task (bare_root w.task w.tables b)) w.task.goal } in (z, (1, omega arith, refl), inl (subst (λ v. At b <ˢ v) (sym e) lt))

  -- the close line alone
  pub early_refutation : (first b : ℕ) (ls : List NodeLine) → goal_span w ≡ At first → b < first → ls ≡ Close ∷ [] → IsRefutation w b ls
  early_refutation first b ls e lt alone =
      subst (IsRefutation w b) (sym alone) (record { tree = whole (root_of w.task w.tables b) (Close ∷ []) (close (root_of w.task w.tables b) (root_dead first b e lt)); few = omega arith })

  finished_refutation : (b n : ℕ) (ls : List NodeLine) → n ≤ 4000000000 → IsFinishedText (search_tree w b) (node_runs w b) n ls → IsRefutation w b ls
  finished_refutation b n ls budget h = record { tree = finished_tree w b n ls h; few = count h }
    where
      count : IsFinishedText (search_tree w b) (node_runs w b) n ls → count_by is_done ls ≤ 4000000000
      count (fs, begun, few, (done, written, e)) =
          let c = written-count (node_runs w b) ([] ∷ []) fs done begun.leafless written in
          let s = same_done ls ∙ ap (count_by ends_visit) (e ∙ append-nil done) in omega (arith, c, s, few, budget)

  -- the text of the tree below a bound refutes the bound before it
  pub below_refutation : (n first b : ℕ) (ls : List NodeLine) → goal_span w ≡ At first → n ≤ 4000000000 → IsTextBelow (search_tree w) (node_runs w) n first (suc b) ls → IsRefutation w b ls
  below_refutation n first b ls e budget (inl (same, alone)) = early_refutation first b ls e (omega (arith, same)) alone
  below_refutation n first b ls e budget (inr (c, same, le, text)) = let k : c ≡ b = omega (arith, same) in subst (λ z. IsRefutation w z ls) k (finished_refutation c n ls budget text)

  -- the text of a partial tree is a tree in which n nodes are closed or branched, and some are open
  pub partial_open : (b n : ℕ) (ls : List NodeLine) → IsPartialText (search_tree w b) (node_runs w b) n ls → IsOpenAt w.task w.tables b n ls
  partial_open b n ls h =
      let c = open-counts (search_tree w b) (node_runs w b) n ls h in
      record { tree = partial_tree w b n ls h; count = same_done ls ∙ c.0; some = same_left ls ∙ c.1 }
