use Rattle.cpt_sheet.specs.Formed.{IsFormed}
use Rattle.cpt_store.specs.Stores.{IsLent, KeepsMarks}
use Rattle.cpt_rules_tests.proofs.walks.go_on_both.Given as goal

abbrev pub invariant-loop : goal.invariant-loop
invariant-loop g l = record {
  lent : IsLent l.ctx.task.now l.ctx.tables.now l.store;
  formed : IsFormed l.ctx.task.now l.sheet;
  marks : KeepsMarks l.initial.store.marks l.store.marks;
}
