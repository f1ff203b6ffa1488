use Rattle.std.specs.Prelude.{◌≡◌, ◌<◌, ◌≤◌, ◌^◌, ◌⊎◌, zero, suc, Bool, true, false, List, [], ◌∷◌, ◌++◌, length, All, Option, None, Some}
use Rattle.std.proofs.Common.{Bor}
use Rattle.std.specs.List.{AllPairs}
use Rattle.cpt_task.specs.declared.plan.Occ.{Occ}
use Rattle.cpt_task.specs.Shape.{TaskShape}
use Rattle.cpt_tables.specs.declared.tables.Tables.{Tables}
use Rattle.cpt_sheet.specs.declared.data.Step.{Step}
use Rattle.cpt_sheet.specs.declared.data.Flaw.{Flaw}
use Rattle.cpt_sheet.specs.declared.data.Decision.{Decision}
use Rattle.cpt_sheet.specs.declared.data.NodeLine.{NodeLine}
use Rattle.cpt_sheet.specs.declared.data.NodeLine.TheVariants.{Child, Narrow, Close, Branch, OpenNode}
use Rattle.cpt_sheet.specs.declared.data.Tree.{Tree}
use Rattle.cpt_sheet.specs.Gaps.{FitsTask}
use Rattle.cpt_cert_form.specs.declared.forms.Claim.{Claim}
use Rattle.cpt_cert_form.specs.declared.forms.Claim.TheVariants.{Optimal, NoneUpTo, Never, Spent}
use Rattle.cpt_cert_print.specs.declared.cert.Cert.{Cert}
use Rattle.cpt_cert_form.specs.Forms.{IsClaim, IsShortNode}
use Rattle.cpt_cert_form.specs.Text.{Parts}

-- tables of no atoms and no actions
abbrev pub no_tables : Tables
no_tables = record { pairs = record { atoms = 0; values = [] }; dists = record { actions = 0; atoms = 0; values = [] } }

-- the tables, where there are some
abbrev pub tables_in : Option (Bor Tables) → Tables
tables_in None = no_tables
tables_in (Some b) = b.now

-- the lines of the tree, where there is one
abbrev pub lines_in : Option (Bor Tree) → List NodeLine
lines_in None = []
lines_in (Some tree) = tree.now.lines

-- what a certificate says
abbrev pub parts_of : Cert → Parts
parts_of c = record { claim = c.claim; plan = c.plan.now; tables = tables_in c.tables; tree = lines_in c.tree; partial = lines_in c.partial }

-- the claim asks for tables
abbrev pub AsksTables : Claim → Type 0
AsksTables (Optimal zero) = ⊥
AsksTables (Optimal (suc m)) = Unit {0}
AsksTables (NoneUpTo m) = Unit {0}
AsksTables Never = Unit {0}
AsksTables (Spent refuted nodes) = Unit {0}

-- the claim asks for a closed tree
abbrev pub AsksTree : Claim → Type 0
AsksTree (Optimal zero) = ⊥
AsksTree (Optimal (suc m)) = Unit {0}
AsksTree (NoneUpTo m) = Unit {0}
AsksTree Never = ⊥
AsksTree (Spent refuted nodes) = Unit {0}

-- the claim asks for a tree that may have open nodes
abbrev pub AsksPartial : Claim → Type 0
AsksPartial (Optimal m) = ⊥
AsksPartial (NoneUpTo m) = ⊥
AsksPartial Never = ⊥
AsksPartial (Spent refuted nodes) = Unit {0}

-- Lines that are one node (false): step lines, and then `close`, or `open` where that may stand, or `branch` and its
-- children; or that are children (true), each a `child` line and a node.
pub data AreNodes (may_open : Bool) : Bool → List NodeLine → Type 0 where
  closed : AreNodes may_open false (Close ∷ [])
  opened : may_open ≡ true → AreNodes may_open false (OpenNode ∷ [])
  stepped : (step : Step) (ls : List NodeLine) → AreNodes may_open false ls → AreNodes may_open false (Narrow step ∷ ls)
  branched : (flaw : Flaw) (ls : List NodeLine) → AreNodes may_open true ls → AreNodes may_open false (Branch flaw ∷ ls)
  childless : AreNodes may_open true []
  parent : (d : Decision) (ls rest : List NodeLine) → AreNodes may_open false ls → AreNodes may_open true rest → AreNodes may_open true (Child d ∷ (ls ++ rest))

-- the lines are one node, and their numbers keep their limits
pub record IsTree (may_open : Bool) (ls : List NodeLine) : Type 0 where
  pub node : AreNodes may_open false ls
  pub short : All IsShortNode ls

-- there are tables of the task's sizes, with finite values below 10^15
abbrev pub HasTables : TaskShape → Option (Bor Tables) → Type 0
HasTables t None = ⊥
HasTables t (Some b) = FitsTask t b.now

-- there is a tree of one node
abbrev pub HasTree : Bool → Option (Bor Tree) → Type 0
HasTree may_open None = ⊥
HasTree may_open (Some tree) = IsTree may_open tree.now.lines

-- the one starts earlier than the other, or then and its action has no greater number
abbrev pub ComesBefore : Occ → Occ → Type 0
ComesBefore o q = (o.start < q.start) ⊎ ((o.start ≡ q.start) × (o.act ≤ q.act))

-- by start and then by action number, fewer than 2^32 and each start below 10^15
pub record IsListedPlan (plan : List Occ) : Type 0 where
  pub order : AllPairs ComesBefore plan
  pub few : length plan < 2 ^ 32
  pub starts : All (λ (o : Occ). o.start < 10 ^ 15) plan

-- a certificate has the parts that its claim asks for, each in its form
pub record IsWhole (t : TaskShape) (c : Cert) : Type 0 where
  pub claim : IsClaim c.claim
  pub plan : IsListedPlan c.plan.now
  pub tables : AsksTables c.claim → HasTables t c.tables
  pub tree : AsksTree c.claim → HasTree false c.tree
  pub partial : AsksPartial c.claim → HasTree true c.partial
