use Rattle.cpt_answer.proofs.Giving.{on_ok}
use Rattle.cpt_solve.proofs.Keeping.{solved_files}
use Rattle.cpt_solve.proofs.solving.solve_files.Goals as goal

pub returns-clause-answer : goal.returns-clause-answer
returns-clause-answer g c =
    solved_files (g.L.Library.holds c.args.lib.now) (g.L.Library.steady c.args.lib.now) c.args.domain_name.now c.args.problem_name.now c.args.budget c.in-Ok.accepted c.solve_task.result c.in-Ok.ensures.answer
    (c.solve_task.ensures.answer (g.L.Library.steady c.args.lib.now))

pub returns-clause-end : goal.returns-clause-end
returns-clause-end g c = on_ok _ c.solve_task.result c.in-Ok.ensures.end
