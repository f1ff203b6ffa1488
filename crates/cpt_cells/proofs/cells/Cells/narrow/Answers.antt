use Rattle.std.proofs.Common.{◌∙◌, ap, sym, subst}
use Rattle.cpt_sheet.specs.declared.data.Change.{Change}
use Rattle.cpt_sheet.specs.Edits.{changed}
use Rattle.cpt_layout.specs.Puts.{CanMake}
use Rattle.cpt_cells.proofs.Making.{can_make}
use Rattle.cpt_cells.proofs.cells.Cells.narrow.Goals as goal

pub make-requires : goal.make-requires
make-requires g c =
    let h = c.requires in
    subst (λ (d : Change). CanMake c.args.self.now.sheet d) (sym c.change-change.ensures) (can_make h.task h.tables c.args.self.now.sheet c.args.step.now h.formed h.legal)

pub returns-clause-sheet : goal.returns-clause-sheet
returns-clause-sheet g c = c.make.ensures.sheet ∙ ap (λ (d : Change). changed c.args.self.now.sheet d) c.change-change.ensures
