use Rattle.std.proofs.Common.{◌∙◌, ap, sym, subst}
use Rattle.cpt_sheet.specs.declared.data.Sheet.{Sheet}
use Rattle.cpt_sheet.specs.Edits.{with_posted}
use Rattle.cpt_sheet.specs.Formed.{IsFormed}
use Rattle.cpt_calculus.proofs.RootFormed.{root_formed}
use Rattle.cpt_cells.proofs.root.rooted.Goals as goal

pub returns-clause-formed : goal.returns-clause-formed
returns-clause-formed g c =
    let e = c.decide_before.ensures.sheet ∙ ap (λ (s : Sheet). with_posted s 0 1) c.in_ok-cells.ensures.sheet in
    subst (λ (s : Sheet). IsFormed c.args.task.now s) (sym e) (root_formed c.args.task.now c.args.tables.now c.args.bound c.in_ok-cells.ensures.bounds c.requires.tables c.requires.bound)
