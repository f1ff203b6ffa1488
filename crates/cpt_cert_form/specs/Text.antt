use Rattle.std.specs.Prelude.{ℕ, ◌+◌, ◌-◌, ◌==◌, zero, suc, Bool, true, false, if◌then◌else◌, List, [], ◌∷◌, ◌++◌, length, map}
use Rattle.std.specs.List.{flat_map, range_with_len}
use Rattle.cpt_task.specs.declared.span.Span.{Span}
use Rattle.cpt_task.specs.declared.span.Span.TheVariants.{At, Never}
use Rattle.cpt_task.specs.declared.plan.Occ.{Occ}
use Rattle.cpt_task.specs.Shape.{TaskShape}
use Rattle.cpt_tables.specs.declared.tables.Tables.{Tables}
use Rattle.cpt_tables.specs.Shapes.{PairShape, DistShape, pair_at, dist_at}
use Rattle.cpt_sheet.specs.declared.data.NodeLine.{NodeLine}
use Rattle.cpt_cert_form.specs.declared.forms.Version.{Version}
use Rattle.cpt_cert_form.specs.declared.forms.Version.TheVariants.{One, Two}
use Rattle.cpt_cert_form.specs.declared.forms.Claim.{Claim}
use Rattle.cpt_cert_form.specs.declared.forms.Claim.TheVariants as claims
use Rattle.cpt_cert_form.specs.declared.forms.Run.{Run}
use Rattle.cpt_cert_form.specs.declared.forms.CertLine.{CertLine}
use Rattle.cpt_cert_form.specs.declared.forms.CertLine.TheVariants as lines
use Rattle.cpt_cert_form.specs.Forms.{spelled}

-- a certificate by its parts; those that its claim does not ask for say nothing
pub record Parts : Type 0 where
  pub claim : Claim
  pub plan : List Occ
  pub tables : Tables
  pub tree : List NodeLine
  pub partial : List NodeLine

-- a value that stands once
abbrev pub once : Span → Run
once v = record { value = v; count = 1 }

-- two values are one
abbrev pub same_span : Span → Span → Bool
same_span (At m) (At n) = m == n
same_span (At m) Never = false
same_span Never (At n) = false
same_span Never Never = true

-- a value put before runs: it makes the first run longer, or a run of its own
abbrev pub run_before : Span → List Run → List Run
run_before v [] = once v ∷ []
run_before v (run ∷ runs) = if same_span v run.value then record { value = v; count = run.count + 1 } ∷ runs else once v ∷ run ∷ runs

-- the values as runs, each as long as it can be
abbrev pub runs_of : List Span → List Run
runs_of [] = []
runs_of (v ∷ vs) = run_before v (runs_of vs)

-- a row of values, as the version writes it
abbrev pub row_runs : Version → List Span → List Run
row_runs One vs = map once vs
row_runs Two vs = runs_of vs

-- the values of an atom and each atom from it on
abbrev pub pair_row : PairShape → ℕ → List Span
pair_row h p = map (λ q. pair_at h p q) (range_with_len p (h.atoms - p))

-- the values of an action and each atom
abbrev pub dist_row : DistShape → ℕ → List Span
dist_row d a = map (λ p. dist_at d a p) (range_with_len 0 d.atoms)

-- the head of a plan with its length, and a line an occurrence
abbrev pub plan_lines : List Occ → List CertLine
plan_lines plan = lines.Plan (length plan) ∷ map (λ (o : Occ). lines.Item o.start o.act) plan

-- the head of a pair table, and a row for each atom
abbrev pub pair_lines : Version → PairShape → List CertLine
pair_lines v h = lines.Pairs ∷ map (λ p. lines.PairRow (row_runs v (pair_row h p))) (range_with_len 0 h.atoms)

-- the head of a distance table, and a row for each action
abbrev pub dist_lines : Version → DistShape → List CertLine
dist_lines v d = lines.Dists ∷ map (λ a. lines.DistRow (row_runs v (dist_row d a))) (range_with_len 0 d.actions)

-- the two tables
abbrev pub table_lines : Version → Tables → List CertLine
table_lines v b = pair_lines v b.pairs ++ dist_lines v b.dists

-- the head of a closed tree with its bound, and its lines
abbrev pub tree_lines : ℕ → List NodeLine → List CertLine
tree_lines bound tree = lines.Tree bound ∷ map (λ l. lines.Node l) tree

-- the head of a tree with open nodes, with its bound, and its lines
abbrev pub open_lines : ℕ → List NodeLine → List CertLine
open_lines bound tree = lines.OpenTree bound ∷ map (λ l. lines.Node l) tree

-- the sections that the claim asks for
abbrev pub optimal_sections : Version → ℕ → Parts → List CertLine
optimal_sections v zero c = plan_lines c.plan
optimal_sections v (suc m) c = plan_lines c.plan ++ (table_lines v c.tables ++ tree_lines m c.tree)

-- what stands behind the claim and the sizes, by the claim: plan, tables, trees
abbrev pub sections : Version → Claim → Parts → List CertLine
sections v (claims.Optimal m) c = optimal_sections v m c
sections v (claims.NoneUpTo m) c = table_lines v c.tables ++ tree_lines m c.tree
sections v claims.Never c = pair_lines v c.tables.pairs
sections v (claims.Spent refuted nodes) c = table_lines v c.tables ++ (tree_lines refuted c.tree ++ open_lines (refuted + 1) c.partial)

-- all lines of a certificate of a task
abbrev pub cert_lines : Version → TaskShape → Parts → List CertLine
cert_lines v t c =
    lines.First v ∷ lines.Claimed c.claim ∷ lines.Sizes (length t.atoms) (length t.actions) ∷ (sections v c.claim c ++ lines.End ∷ [])

-- lines, each with its line feed
abbrev pub text_of : List CertLine → List ℕ
text_of ls = flat_map (λ l. spelled l ++ 10 ∷ []) ls

-- the text of a certificate of a task
abbrev pub cert_text : Version → TaskShape → Parts → List ℕ
cert_text v t c = text_of (cert_lines v t c)
