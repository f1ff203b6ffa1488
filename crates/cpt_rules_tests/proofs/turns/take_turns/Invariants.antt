use Rattle.cpt_sheet.specs.Formed.{IsFormed}
use Rattle.cpt_rules_tests.proofs.turns.take_turns.Given as goal

abbrev pub invariant-loop : goal.invariant-loop
invariant-loop g l = record {
  stands : g.T.Turns.stands l.it l.ctx.task.now l.ctx.tables.now;
  formed : IsFormed l.ctx.task.now l.sheet;
}
