use Rattle.cpt_sheet.specs.Formed.{IsFormed}
use Rattle.cpt_scan.proofs.closing.close.Given as goal

abbrev pub invariant-loop : goal.invariant-loop
invariant-loop l = IsFormed l.ctx.task.now l.sheet
