use Rattle.std.proofs.Common.{◌≡◌, ◌++◌}
use Rattle.cpt_task.specs.Timeline.{is_in}
use Rattle.cpt_sheet.specs.declared.data.Cand.TheVariants.{Tok}
use Rattle.cpt_sheet.specs.Roles.{adds_of}
use Rattle.cpt_sheet.specs.View.{kind_of}
use Rattle.cpt_layout.specs.Places.{table}
use Rattle.cpt_block.specs.Blocks.{bit}
use Rattle.cpt_cells.proofs.rows.push_tokens.Given as goal

abbrev pub invariant-loop-y : goal.invariant-loop-y
invariant-loop-y l = l.found.items ≡ l.fn.found.items ++ table (λ y. bit (is_in l.fn.p (adds_of l.task (kind_of l.cells.sheet (Tok y))))) 0 l.y
