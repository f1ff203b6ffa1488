use Rattle.std.proofs.Common.{arith, sym, subst}
use Rattle.cpt_sheet.specs.declared.data.Cand.{Cand}
use Rattle.cpt_sheet.specs.declared.data.Cand.TheVariants.{Tok, Out}
use Rattle.cpt_layout.specs.Places.{Frame, IsThere, tok_hi}
use Rattle.cpt_cells.specs.Shapes.{CellsShape}
use Rattle.cpt_layout.specs.Puts.{lo_of, hi_of, IsSpanOf}
use Rattle.cpt_layout.specs.Sheets.{number_at}
use Rattle.cpt_layout.proofs.Numbering.{cell_below}
use Rattle.cpt_layout.proofs.There.{lo_there, hi_there}
use Rattle.cpt_cells.proofs.cells.Cells.span_cell.Goals as goal

pub tok_cell-requires : goal.tok_cell-requires
tok_cell-requires c = lo_there c.self.inside.layout.frame (number_at c.self.inside.layout.frame c.self.inside.trail.cells) (Tok c.in-Tok.x) (subst (λ (t : CellsShape). IsSpanOf t.sheet (Tok c.in-Tok.x)) (sym c.self.view_is) (subst (λ (d : Cand). IsSpanOf c.args.self.now.sheet d) c.in-Tok.is c.requires))

pub out_cell-requires : goal.out_cell-requires
out_cell-requires c = lo_there c.self.inside.layout.frame (number_at c.self.inside.layout.frame c.self.inside.trail.cells) (Out c.in-Out.a) (subst (λ (t : CellsShape). IsSpanOf t.sheet (Out c.in-Out.a)) (sym c.self.view_is) (subst (λ (d : Cand). IsSpanOf c.args.self.now.sheet d) c.in-Out.is c.requires))

pub returns-in-Tok-clause-there : goal.returns-in-Tok-clause-there
returns-in-Tok-clause-there c = subst (λ (t : CellsShape). IsThere t.frame (hi_of c.args.at)) c.self.view_is (hi_there c.self.inside.layout.frame (number_at c.self.inside.layout.frame c.self.inside.trail.cells) c.args.at (subst (λ (t : CellsShape). IsSpanOf t.sheet c.args.at) (sym c.self.view_is) c.requires))

pub returns-in-Out-clause-there : goal.returns-in-Out-clause-there
returns-in-Out-clause-there c = subst (λ (t : CellsShape). IsThere t.frame (hi_of c.args.at)) c.self.view_is (hi_there c.self.inside.layout.frame (number_at c.self.inside.layout.frame c.self.inside.trail.cells) c.args.at (subst (λ (t : CellsShape). IsSpanOf t.sheet c.args.at) (sym c.self.view_is) c.requires))

pub returns-in-Tok-clause-lo_there : goal.returns-in-Tok-clause-lo_there
returns-in-Tok-clause-lo_there c = subst (λ (t : CellsShape). IsThere t.frame (lo_of c.args.at)) c.self.view_is (lo_there c.self.inside.layout.frame (number_at c.self.inside.layout.frame c.self.inside.trail.cells) c.args.at (subst (λ (t : CellsShape). IsSpanOf t.sheet c.args.at) (sym c.self.view_is) c.requires))

pub returns-in-Out-clause-lo_there : goal.returns-in-Out-clause-lo_there
returns-in-Out-clause-lo_there c = subst (λ (t : CellsShape). IsThere t.frame (lo_of c.args.at)) c.self.view_is (lo_there c.self.inside.layout.frame (number_at c.self.inside.layout.frame c.self.inside.trail.cells) c.args.at (subst (λ (t : CellsShape). IsSpanOf t.sheet c.args.at) (sym c.self.view_is) c.requires))

pub returns-in-Tok-clause-fits : goal.returns-in-Tok-clause-fits
returns-in-Tok-clause-fits c =
    let s : Frame = c.self.inside.layout.frame in
    let b = cell_below s (tok_hi c.in-Tok.x) (hi_there s (number_at s c.self.inside.trail.cells) (Tok c.in-Tok.x) (subst (λ (t : CellsShape). IsSpanOf t.sheet (Tok c.in-Tok.x)) (sym c.self.view_is) (subst (λ (d : Cand). IsSpanOf c.args.self.now.sheet d) c.in-Tok.is c.requires))) in
    omega (arith, c.tok_cell.ensures.hi, c.self.invariant.cells, c.self.invariant.fits)
