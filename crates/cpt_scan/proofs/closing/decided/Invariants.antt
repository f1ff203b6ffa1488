use Rattle.cpt_sheet.specs.Formed.{IsFormed}
use Rattle.cpt_scan.proofs.closing.decided.Given as goal

abbrev pub invariant-loop-decision : goal.invariant-loop-decision
invariant-loop-decision l = IsFormed l.ctx.task.now l.sheet
