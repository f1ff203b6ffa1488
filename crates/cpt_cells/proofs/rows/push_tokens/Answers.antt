use Rattle.std.proofs.Common.{ℕ, ◌∙◌, ap}
use Rattle.cpt_task.specs.Timeline.{is_in}
use Rattle.cpt_sheet.specs.declared.data.Cand.TheVariants.{Tok}
use Rattle.cpt_sheet.specs.declared.data.Kind.{Kind}
use Rattle.cpt_sheet.specs.Roles.{adds_of}
use Rattle.cpt_sheet.specs.View.{kind_of}
use Rattle.cpt_layout.proofs.Laying.{row_next}
use Rattle.cpt_block.specs.Blocks.{bit}
use Rattle.cpt_cells.proofs.rows.push_tokens.Goals as goal

pub loop-y-preserved : goal.loop-y-preserved
loop-y-preserved c =
    row_next (λ (y : ℕ). bit (is_in c.args.p (adds_of c.args.task.now (kind_of c.args.cells.now.sheet (Tok y))))) c.args.found.now.items c.loop-y.found.items _ c.loop-y.y _ c.loop-y.invariant c.in_ok-push.ensures.items
    (c.bit.ensures ∙ (ap bit c.is_adder.ensures ∙ ap (λ (k : Kind). bit (is_in c.args.p (adds_of c.args.task.now k))) c.kind-kind.ensures))
