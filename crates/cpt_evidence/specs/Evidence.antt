use Rattle.std.specs.Prelude.{◌≡◌, ℕ, suc, ◌<◌, ◌≤◌, ◌⊎◌, Bool, true, false, not, List, [], ◌∷◌, length, filter, IsSome}
use Rattle.cpt_task.specs.declared.plan.Occ.{Occ}
use Rattle.cpt_task.specs.declared.span.Span.TheVariants.{At}
use Rattle.cpt_tables.specs.Shapes.{IsWholeDists}
use Rattle.cpt_sheet.specs.declared.data.NodeLine.{NodeLine}
use Rattle.cpt_sheet.specs.declared.data.NodeLine.TheVariants.{Narrow, Close}
use Rattle.cpt_tree.specs.Texts.{IsPartialText, IsTextBelow}
use Rattle.cpt_outcome.specs.Nodes.{SearchProblem, search_tree, node_runs}
use Rattle.cpt_outcome.specs.Outcomes.{SearchOutcome, never, optimal, none_up_to, budget_spent, goal_span, IsSearchable}
use Rattle.cpt_cert_form.specs.declared.forms.Claim.{Claim}
use Rattle.cpt_cert_form.specs.declared.forms.Claim.TheVariants as claims
use Rattle.cpt_cert_form.specs.declared.forms.CertLine.{CertLine}
use Rattle.cpt_cert_form.specs.declared.forms.CertLine.TheVariants as lines
use Rattle.cpt_cert_form.specs.Text.{Parts}
use Rattle.cpt_cert_print.specs.declared.cert.Cert.{Cert}
use Rattle.cpt_cert_print.specs.Whole.{AsksTree, AsksPartial, parts_of}

-- The conditions of a certificate: those of a search, with a value for each action and atom, no more atoms than a row
-- can list, a greatest bound of at most a million, and a budget of 1 to 4,000,000,000 nodes.
pub record IsProvable (w : SearchProblem) (most n : ℕ) : Type 0 where
  pub searchable : IsSearchable w
  pub dists : IsWholeDists w.tables.dists
  pub few : length w.task.atoms ≤ 2048
  pub small : most ≤ 1000000
  pub some : 1 ≤ n
  pub budget : n ≤ 4000000000

-- what is claimed where a search up to a greatest bound, with a budget of n nodes, has this outcome
abbrev pub claim_of : ℕ → ℕ → SearchOutcome → Claim
claim_of most n never = claims.Never
claim_of most n (optimal m plan) = claims.Optimal m
claim_of most n none_up_to = claims.NoneUpTo most
claim_of most n (budget_spent refuted) = claims.Spent refuted n

-- the plan of an outcome; an outcome without a plan has the empty list
abbrev pub plan_of : SearchOutcome → List Occ
plan_of never = []
plan_of (optimal m plan) = plan
plan_of none_up_to = []
plan_of (budget_spent refuted) = []

-- The texts of an outcome's trees. A plan that is not the empty one comes with that of the tree below its makespan. Where
-- there is none up to the greatest bound, that bound has a finished tree, or the close line alone where the goal can hold
-- only later. Where the budget is spent, the refuted bound has a finished tree, and the next one a partial tree.
abbrev pub HasTexts : SearchProblem → ℕ → ℕ → SearchOutcome → List NodeLine → List NodeLine → Type 0
HasTexts w most n never tree partial = Unit {0}
HasTexts w most n (optimal m plan) tree partial =
    ((goal_span w ≡ At 0) × (tree ≡ [])) ⊎ ((first : ℕ) × (goal_span w ≡ At first) × (1 ≤ first) × IsTextBelow (search_tree w) (node_runs w) n first m tree)
HasTexts w most n none_up_to tree partial =
    (first : ℕ) × (goal_span w ≡ At first) × (((most < first) × (tree ≡ Close ∷ [])) ⊎ ((first ≤ most) × IsTextBelow (search_tree w) (node_runs w) n first (suc most) tree))
HasTexts w most n (budget_spent refuted) tree partial =
    (first : ℕ) × (goal_span w ≡ At first) × IsTextBelow (search_tree w) (node_runs w) n first (suc refuted) tree × IsPartialText (search_tree w (suc refuted)) (node_runs w (suc refuted)) n partial

-- the parts of a certificate tell an outcome: they have its claim, its plan, the tables and the texts of its trees
pub record Tells (w : SearchProblem) (most n : ℕ) (o : SearchOutcome) (c : Parts) : Type 0 where
  pub claim : c.claim ≡ claim_of most n o
  pub plan : c.plan ≡ plan_of o
  pub tables : c.tables ≡ w.tables
  pub trees : HasTexts w most n o c.tree c.partial

-- a certificate tells an outcome, and has the parts that its claim asks for
pub record IsEvidence (w : SearchProblem) (most n : ℕ) (o : SearchOutcome) (c : Cert) : Type 0 where
  pub tells : Tells w most n o (parts_of c)
  pub tables : IsSome c.tables
  pub tree : AsksTree c.claim → IsSome c.tree
  pub partial : AsksPartial c.claim → IsSome c.partial

-- the line is a step
abbrev pub is_step : CertLine → Bool
is_step (lines.Node (Narrow step)) = true
is_step _ = false

-- all lines but the steps
abbrev pub without_steps : List CertLine → List CertLine
without_steps ls = filter (λ l. not (is_step l)) ls
