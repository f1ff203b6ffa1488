-- certificates that tell outcomes are whole and accepted
use Rattle.std.proofs.Common.{◌≡◌, ℕ, zero, suc, ◌+◌, ◌<◌, ◌≤◌, Bool, true, false, inl, inr, List, Option, Some, None, IsSome, Bor, refl, sym, ◌∙◌, subst, arith}
use Rattle.cpt_task.specs.declared.span.Span.TheVariants.{At}
use Rattle.cpt_task.specs.Timeline.{IsPlan}
use Rattle.cpt_tables.specs.declared.tables.Tables.{Tables}
use Rattle.cpt_sheet.specs.declared.data.NodeLine.{NodeLine}
use Rattle.cpt_sheet.specs.declared.data.Tree.{Tree}
use Rattle.cpt_sheet.specs.Gaps.{FitsTask}
use Rattle.cpt_outcome.specs.Nodes.{SearchProblem}
use Rattle.cpt_outcome.specs.Outcomes.{SearchOutcome, never, optimal, none_up_to, budget_spent, goal_span, HasOutcome}
use Rattle.cpt_outcome.proofs.OutcomeLemmas.{outcomes-hold}
use Rattle.cpt_cert_form.specs.declared.forms.Claim.TheVariants as claims
use Rattle.cpt_cert_form.specs.Forms.{IsClaim}
use Rattle.cpt_cert_form.specs.Text.{Parts}
use Rattle.cpt_cert_print.specs.Whole.{AsksTree, AsksPartial, HasTables as HasTableParts, HasTree, IsTree, IsListedPlan, tables_in, lines_in, parts_of}
use Rattle.cpt_cert_laws.proofs.LineForms.{HasParts, part_forms}
use Rattle.cpt_cert_laws.proofs.TreeForms.{trees_are_short}
use Rattle.cpt_cert_accept.specs.Accepting.{IsClosedAt, IsOpenAt, IsPlanOf, HasPairs, HasTables, Proves}
use Rattle.cpt_evidence.specs.Evidence.{IsProvable, claim_of, plan_of, HasTexts, Tells}
use Rattle.cpt_evidence.specs.Laws.{EvidenceIsWhole, EvidenceIsAccepted}
use Rattle.cpt_evidence.proofs.Depths.{leaf_listed, nothing_listed, in_order}
use Rattle.cpt_evidence.proofs.Refutations.{IsRefutation, early_refutation, below_refutation, partial_open}

module _ (w : SearchProblem) (most n : ℕ) (ok : IsProvable w most n) where
  fits : FitsTask w.task w.tables
  fits = ok.searchable.sound.fits

  has_pairs : HasPairs w.task w.tables.pairs
  has_pairs = record { whole = ok.searchable.whole; fits = fits.pairs; admissible = ok.searchable.sound.admissible.pairs }

  has_tables : HasTables w.task w.tables
  has_tables = record { whole_pairs = ok.searchable.whole; whole_dists = ok.dists; fits = fits; pairs = ok.searchable.sound.admissible.pairs; dists = ok.searchable.sound.admissible.dists }

  -- trees as the printer takes them
  closed_tree : (b : ℕ) (ls : List NodeLine) → b ≤ 1000000 → IsRefutation w b ls → IsTree false ls
  closed_tree b ls le h = let few = h.few in trees_are_short w.task w.tables false b ls ok.searchable.bounds fits le (omega (arith, few)) h.tree

  open_tree : (b : ℕ) (ls : List NodeLine) → b ≤ 1000000 → IsOpenAt w.task w.tables b n ls → IsTree true ls
  open_tree b ls le h = let count = h.count in let budget = ok.budget in trees_are_short w.task w.tables true b ls ok.searchable.bounds fits le (omega (arith, count, budget)) h.tree

  -- the numbers of a claim keep their limits
  claim_is : (o : SearchOutcome) → HasOutcome w most n o → IsClaim (claim_of most n o)
  claim_is never h = tt
  claim_is (optimal m plan) (inl (e, z, nil)) = omega (arith, z)
  claim_is (optimal m plan) (inr (first, e, le, (ds, c, p))) = let high = c.1 in let small = ok.small in omega (arith, high, small)
  claim_is none_up_to h = ok.small
  claim_is (budget_spent refuted) (first, e, le, c) =
      let high = c.1 in let small = ok.small in let budget = ok.budget in (omega (arith, high, small), ok.some, omega (arith, budget))

  -- the plan of an outcome can be listed
  plan_listed : (o : SearchOutcome) → HasOutcome w most n o → IsListedPlan (plan_of o)
  plan_listed never h = nothing_listed
  plan_listed (optimal m plan) (inl (e, z, nil)) = subst IsListedPlan (sym nil) nothing_listed
  plan_listed (optimal m plan) (inr (first, e, le, (ds, c, p))) =
      let same = (outcomes-hold w most n (optimal m plan) ok.searchable ok.small (inr (first, e, le, (ds, c, p)))).1 in
      let high = c.1 in let small = ok.small in leaf_listed w m n ds plan c.3 ok.budget p (omega (arith, same, high, small))
  plan_listed none_up_to h = nothing_listed
  plan_listed (budget_spent refuted) h = nothing_listed

  plan_of_task : (o : SearchOutcome) → HasOutcome w most n o → IsPlan w.task (plan_of o)
  plan_of_task never h = λ k d l. absurd (omega (arith, l))
  plan_of_task (optimal m plan) h = (outcomes-hold w most n (optimal m plan) ok.searchable ok.small h).0.valid.of_task
  plan_of_task none_up_to h = λ k d l. absurd (omega (arith, l))
  plan_of_task (budget_spent refuted) h = λ k d l. absurd (omega (arith, l))

  -- the closed tree of an outcome: it refutes the bound below the makespan, the greatest bound, or the last bound below the
  -- one at which the budget was spent
  abbrev Closes : SearchOutcome → List NodeLine → Type 0
  Closes never ls = Unit {0}
  Closes (optimal zero plan) ls = Unit {0}
  Closes (optimal (suc m) plan) ls = (m ≤ 1000000) × IsRefutation w m ls
  Closes none_up_to ls = IsRefutation w most ls
  Closes (budget_spent refuted) ls = (refuted < 1000000) × IsRefutation w refuted ls

  at_one : (a b : ℕ) → goal_span w ≡ At a → goal_span w ≡ At b → a ≡ b
  at_one a b e f = let g : At a ≡ At b = sym e ∙ f in cc

  closes : (o : SearchOutcome) (tree partial : List NodeLine) → HasOutcome w most n o → HasTexts w most n o tree partial → Closes o tree
  closes never tree partial h k = tt
  closes (optimal zero plan) tree partial h k = tt
  closes (optimal (suc m) plan) tree partial (inl (e, z, nil)) k = absurd (omega (arith, z))
  closes (optimal (suc m) plan) tree partial (inr (first, e, le, (ds, c, p))) (inl at) = let z = at_one 0 first at.0 e in absurd (omega (arith, z, le))
  closes (optimal (suc m) plan) tree partial (inr (first, e, le, (ds, c, p))) (inr (other, f, ge, text)) =
      let high = c.1 in let small = ok.small in (omega (arith, high, small), below_refutation w n other m tree f ok.budget text)
  closes none_up_to tree partial h (first, e, inl (lt, alone)) = early_refutation w first most tree e lt alone
  closes none_up_to tree partial h (first, e, inr (le, text)) = below_refutation w n first most tree e ok.budget text
  closes (budget_spent refuted) tree partial (first, e, le, c) (other, f, text, part) =
      let high = c.1 in let small = ok.small in (omega (arith, high, small), below_refutation w n other refuted tree f ok.budget text)

  -- the tree that the claim asks for
  tree_is : (o : SearchOutcome) (tree : List NodeLine) → Closes o tree → AsksTree (claim_of most n o) → IsTree false tree
  tree_is never tree h a = absurd a
  tree_is (optimal zero plan) tree h a = absurd a
  tree_is (optimal (suc m) plan) tree h a = closed_tree m tree h.0 h.1
  tree_is none_up_to tree h a = closed_tree most tree ok.small h
  tree_is (budget_spent refuted) tree h a = let lt = h.0 in closed_tree refuted tree (omega (arith, lt)) h.1

  partial_is : (o : SearchOutcome) (tree partial : List NodeLine) → HasOutcome w most n o → HasTexts w most n o tree partial → AsksPartial (claim_of most n o) → IsTree true partial
  partial_is never tree partial h k a = absurd a
  partial_is (optimal m plan) tree partial h k a = absurd a
  partial_is none_up_to tree partial h k a = absurd a
  partial_is (budget_spent refuted) tree partial (first, e, le, c) (other, f, text, part) a =
      let high = c.1 in let small = ok.small in open_tree (suc refuted) partial (omega (arith, high, small)) (partial_open w (suc refuted) n partial part)

  -- the parts that tell an outcome are in their forms
  parts_are : (o : SearchOutcome) (c : Parts) → HasOutcome w most n o → Tells w most n o c → HasParts w.task c.claim c
  parts_are o c h k = record {
    claimed = subst IsClaim (sym k.claim) (claim_is o h);
    of_task = subst (IsPlan w.task) (sym k.plan) (plan_of_task o h);
    listed = subst IsListedPlan (sym k.plan) (plan_listed o h);
    tables = λ a. subst (FitsTask w.task) (sym k.tables) fits;
    tree = λ a. (tree_is o c.tree (closes o c.tree c.partial h k.trees) (subst AsksTree k.claim a)).short;
    partial = λ a. (partial_is o c.tree c.partial h k.trees (subst AsksPartial k.claim a)).short;
  }

  -- parts over the tables of the search make its claim good
  good : (o : SearchOutcome) (c : Parts) → HasOutcome w most n o → HasTexts w most n o c.tree c.partial → c.plan ≡ plan_of o → c.tables ≡ w.tables → Proves w.task (claim_of most n o) c
  good never c h k p b = subst (λ z. Proves w.task claims.Never (record c { tables = z })) (sym b) (has_pairs, h)
  good (optimal zero plan) c h k p b =
      let says = outcomes-hold w most n (optimal zero plan) ok.searchable ok.small h in
      subst (IsPlanOf w.task 0) (sym p) (record { valid = says.0.valid; makespan = says.1 })
  good (optimal (suc m) plan) c h k p b =
      let says = outcomes-hold w most n (optimal (suc m) plan) ok.searchable ok.small h in (
        subst (IsPlanOf w.task (suc m)) (sym p) (record { valid = says.0.valid; makespan = says.1 }),
        subst (HasTables w.task) (sym b) has_tables,
        subst (λ z. IsClosedAt w.task z m c.tree) (sym b) (closes (optimal (suc m) plan) c.tree c.partial h k).1.tree,
      )
  good none_up_to c h k p b = (
    subst (HasTables w.task) (sym b) has_tables,
    subst (λ z. IsClosedAt w.task z most c.tree) (sym b) (closes none_up_to c.tree c.partial h k).tree,
  )
  good (budget_spent refuted) c h (first, e, text, part) p b =
      let after : suc refuted ≡ refuted + 1 = omega arith in (
        subst (HasTables w.task) (sym b) has_tables,
        subst (λ z. IsClosedAt w.task z refuted c.tree) (sym b) (closes (budget_spent refuted) c.tree c.partial h (first, e, text, part)).1.tree,
        subst (λ z. IsOpenAt w.task z (refuted + 1) n c.partial) (sym b) (subst (λ z. IsOpenAt w.task w.tables z n c.partial) after (partial_open w (suc refuted) n c.partial part)),
      )

  -- what there is where something is given
  tables_given : (o : Option (Bor Tables)) → IsSome o → tables_in o ≡ w.tables → HasTableParts w.task o
  tables_given None some e = absurd (cc)
  tables_given (Some b) some e = subst (FitsTask w.task) (sym e) fits

  tree_given : (mo : Bool) (o : Option (Bor Tree)) → IsSome o → IsTree mo (lines_in o) → HasTree mo o
  tree_given mo None some h = absurd (cc)
  tree_given mo (Some tree) some h = h

pub evidence_is_whole : EvidenceIsWhole
evidence_is_whole w most n o c ok h k =
    let tells = k.tells in
    let p = parts_of c in
    record {
      claim = subst IsClaim (sym tells.claim) (claim_is w most n ok o h);
      plan = subst IsListedPlan (sym tells.plan) (plan_listed w most n ok o h);
      tables = λ a. tables_given w most n ok c.tables k.tables tells.tables;
      tree = λ a. tree_given w most n ok false c.tree (k.tree a) (tree_is w most n ok o p.tree (closes w most n ok o p.tree p.partial h tells.trees) (subst AsksTree tells.claim a));
      partial = λ a. tree_given w most n ok true c.partial (k.partial a) (partial_is w most n ok o p.tree p.partial h tells.trees (subst AsksPartial tells.claim a));
    }

pub evidence_is_accepted : EvidenceIsAccepted
evidence_is_accepted w most n o c v ok h k = record {
  claims = k.claim;
  spelled = refl;
  written = part_forms w.task v ok.searchable.bounds ok.few c (parts_are w most n ok o c h k);
  ordered = in_order c.plan (parts_are w most n ok o c h k).listed.order;
  proves = good w most n ok o c h k.trees k.plan k.tables;
}
