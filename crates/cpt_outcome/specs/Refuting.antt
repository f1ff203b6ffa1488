use Rattle.std.specs.Prelude.{◌≡◌, ℕ, ◌<◌, ◌≤◌, List}
use Rattle.cpt_task.specs.Optimal.{IsRefuted}
use Rattle.cpt_task.specs.declared.span.Span.TheVariants.{At}
use Rattle.cpt_tables.specs.Shapes.{set_span_of}
use Rattle.cpt_sheet.specs.declared.data.NodeLine.{NodeLine}
use Rattle.cpt_sheet.specs.Gaps.{FitsTask}
use Rattle.cpt_soundness.specs.Acting.{IsAdmissible}
use Rattle.cpt_soundness.specs.Sets.{HasSets}
use Rattle.cpt_tree.specs.Trees.{IsExhausted}
use Rattle.cpt_tree.specs.Texts.{IsFinishedText, IsTextBelow}
use Rattle.cpt_outcome.specs.Nodes.{SearchProblem, search_tree, node_runs}

-- the tables are admissible and have the task's sizes
pub record IsSound (w : SearchProblem) : Type 0 where
  pub sets : HasSets w.task
  pub admissible : IsAdmissible w.task w.tables
  pub fits : FitsTask w.task w.tables

-- the text of a finished tree without a leaf refutes its bound
abbrev pub FinishedTextsRefute : Type 0
FinishedTextsRefute =
    (w : SearchProblem) (b n : ℕ) (ls : List NodeLine) → IsSound w → b ≤ 1000000 → IsFinishedText (search_tree w b) (node_runs w b) n ls → IsRefuted w.task b

-- where the goal can hold at the first bound at the earliest, the text of the tree below a bound refutes all below it
abbrev pub TextsBelowRefute : Type 0
TextsBelowRefute =
    (w : SearchProblem) (n first b c : ℕ) (ls : List NodeLine) → IsSound w → set_span_of w.tables.pairs w.task.goal ≡ At first → b ≤ 1000001 →
    IsTextBelow (search_tree w) (node_runs w) n first b ls → c < b → IsRefuted w.task c

-- a finished tree without a leaf refutes its bound, whatever steps are or are not written down
abbrev pub ExhaustedTreesRefute : Type 0
ExhaustedTreesRefute = (w : SearchProblem) (b n : ℕ) → IsSound w → b ≤ 1000000 → IsExhausted (search_tree w b) n → IsRefuted w.task b
