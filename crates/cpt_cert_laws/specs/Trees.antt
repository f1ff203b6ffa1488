use Rattle.std.specs.Prelude.{ℕ, ◌+◌, ◌<◌, ◌≤◌, ◌^◌, Bool, false, List, length, count_by}
use Rattle.cpt_task.specs.Shape.{TaskShape, InBounds}
use Rattle.cpt_tables.specs.declared.tables.Tables.{Tables}
use Rattle.cpt_sheet.specs.declared.data.Sheet.{Sheet}
use Rattle.cpt_sheet.specs.declared.data.Step.{Step}
use Rattle.cpt_sheet.specs.declared.data.NodeLine.{NodeLine}
use Rattle.cpt_sheet.specs.Formed.{IsFormed}
use Rattle.cpt_sheet.specs.Gaps.{FitsTask}
use Rattle.cpt_calculus.specs.Rules.{IsLegal}
use Rattle.cpt_calculus.specs.Root.{root_of}
use Rattle.cpt_cert_form.specs.Forms.{IsShortStep}
use Rattle.cpt_cert_print.specs.Whole.{AreNodes, IsTree}
use Rattle.cpt_cert_accept.specs.Accepting.{is_done}
use Rattle.cpt_cert_accept.specs.Trees.{IsTreeOver}

-- the lines of a tree over a sheet are those of one node
abbrev pub TreesAreNodes : Type 0
TreesAreNodes = (t : TaskShape) (b : Tables) (may_open : Bool) (s : Sheet) (ls : List NodeLine) → IsTreeOver t b may_open s ls → AreNodes may_open false ls

-- each number of a legal step has at most 16 digits, its value too
abbrev pub StepsAreShort : Type 0
StepsAreShort =
    (t : TaskShape) (b : Tables) (s : Sheet) (step : Step) → InBounds t → IsFormed t s → length s.tokens < 2 ^ 32 → IsLegal t b s step → IsShortStep step

-- A tree over the root of a bound is a node whose numbers have at most 16 digits, as the printer of certificates asks,
-- where fewer than 2^32 - 2 nodes are closed or branched, however many are open. For each decision on the way to a node
-- is one of a branched node.
abbrev pub TreesAreShort : Type 0
TreesAreShort =
    (t : TaskShape) (b : Tables) (may_open : Bool) (bound : ℕ) (ls : List NodeLine) → InBounds t → FitsTask t b → bound ≤ 1000000 → 2 + count_by is_done ls < 2 ^ 32 →
    IsTreeOver t b may_open (root_of t b bound) ls → IsTree may_open ls
