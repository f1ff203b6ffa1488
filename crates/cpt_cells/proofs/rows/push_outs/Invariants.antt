use Rattle.std.proofs.Common.{◌≡◌, ◌++◌, take}
use Rattle.std.specs.Prelude.{map}
use Rattle.cpt_sheet.specs.declared.data.Cand.TheVariants.{Out}
use Rattle.cpt_sheet.specs.Live.{is_open}
use Rattle.cpt_sheet.specs.View.{span_of}
use Rattle.cpt_layout.specs.Places.{adders_at}
use Rattle.cpt_block.specs.Blocks.{bit}
use Rattle.cpt_cells.proofs.rows.push_outs.Given as goal

abbrev pub invariant-loop-a : goal.invariant-loop-a
invariant-loop-a l = l.found.items ≡ l.fn.found.items ++ map (λ a. bit (is_open (span_of l.cells.sheet (Out a)))) (take l.a-index (adders_at l.cells.frame l.fn.p))
