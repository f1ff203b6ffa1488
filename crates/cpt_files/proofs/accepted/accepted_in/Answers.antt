use Rattle.cpt_files.proofs.Stages.{accepted_failed, accepted_given}
use Rattle.std.proofs.Common.{true}
use Rattle.cpt_files.proofs.accepted.accepted_in.Goals as goal

pub returns-in-Ok-kept_part-clause-answer : goal.returns-in-Ok-kept_part-clause-answer
returns-in-Ok-kept_part-clause-answer g c =
    accepted_given (g.L.Library.holds c.args.lib.now) (g.L.Library.holds c.domain_in.new.lib) c.args.domain_name.now c.args.problem_name.now c.in-Ok.domain c.in-Ok-problem_in.problem c.in-Ok-kept_part.kept
    c.in-Ok.ensures.same c.in-Ok.ensures.answer c.in-Ok-problem_in.ensures.answer (c.in-Ok-kept_part.ensures.answer true)

pub returns-in-Err-kept_part-clause-answer : goal.returns-in-Err-kept_part-clause-answer
returns-in-Err-kept_part-clause-answer g c =
    accepted_failed (g.L.Library.holds c.args.lib.now) (g.L.Library.holds c.domain_in.new.lib) (g.L.Library.steady c.args.lib.now) c.args.domain_name.now c.args.problem_name.now c.in-Ok.domain c.in-Ok-problem_in.problem c.in-Err-kept_part.ending
    c.in-Ok.ensures.same c.in-Ok.ensures.answer c.in-Ok-problem_in.ensures.answer (c.in-Err-kept_part.ensures.answer (g.L.Library.steady c.args.lib.now))
