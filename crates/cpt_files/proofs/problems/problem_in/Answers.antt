use Rattle.cpt_files.proofs.Stages.{problem_under}
use Rattle.cpt_files.proofs.problems.problem_in.Goals as goal

pub returns-clause-answer : goal.returns-clause-answer
returns-clause-answer g c =
    problem_under (g.L.Library.holds c.args.lib.now) (g.L.Library.steady c.args.lib.now) c.args.domain.now c.args.name.now c.deref.result.now c.in-Ok.text.items c.problem_in_text.result c.deref.ensures.value
    c.in-Ok.ensures.answer (c.problem_in_text.ensures.answer (g.L.Library.steady c.args.lib.now))
