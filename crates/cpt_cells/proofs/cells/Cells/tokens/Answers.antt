use Rattle.std.proofs.Common.{arith, ◌<◌, ◌^◌, ◌∙◌, length, ap, sym}
use Rattle.cpt_layout.specs.Places.{Frame}
use Rattle.cpt_layout.specs.Numbers.{base}
use Rattle.cpt_cells.specs.Shapes.{CellsShape}
use Rattle.cpt_layout.specs.Sheets.{number_at}
use Rattle.cpt_layout.proofs.Views.{tokens_are}
use Rattle.cpt_cells.proofs.Counts.{few_tokens}
use Rattle.cpt_cells.proofs.cells.Cells.tokens.Goals as goal

pub returns-clause-value : goal.returns-clause-value
returns-clause-value c = c.tokens.ensures ∙ (sym (tokens_are c.self.inside.layout.frame (number_at c.self.inside.layout.frame c.self.inside.trail.cells)) ∙ ap (λ (t : CellsShape). length t.sheet.tokens) c.self.view_is)

pub returns-clause-kinds : goal.returns-clause-kinds
returns-clause-kinds c = c.tokens.ensures ∙ ap (λ (t : CellsShape). length t.frame.kinds) c.self.view_is

pub returns-clause-few : goal.returns-clause-few
returns-clause-few c =
    let s : Frame = c.self.inside.layout.frame in
    let h : base s (length s.kinds) < 2 ^ 64 = omega (arith, c.self.invariant.cells, c.self.invariant.fits) in
    let k = few_tokens s (length s.kinds) h in
    omega (arith, c.tokens.ensures)
