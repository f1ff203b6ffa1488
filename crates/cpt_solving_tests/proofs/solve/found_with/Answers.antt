use Rattle.std.proofs.Common.{subst, sym}
use Rattle.cpt_task.specs.Shape.{TaskShape}
use Rattle.cpt_tables.specs.declared.tables.Tables.{Tables}
use Rattle.cpt_tables.specs.Greatest.{IsBest}
use Rattle.cpt_solving_tests.proofs.solve.found_with.Goals as goal

-- the engine stands over the task and the tables that it was opened with
pub found_in-requires-clause-best : goal.found_in-requires-clause-best
found_in-requires-clause-best g c =
    subst (λ (t : TaskShape). IsBest t c.in_ok-engine.engine.tables) (sym c.in_ok-engine.ensures.task)
    (subst (λ (s : Tables). IsBest c.args.task.now s) (sym c.in_ok-engine.ensures.tables) c.requires.best)
