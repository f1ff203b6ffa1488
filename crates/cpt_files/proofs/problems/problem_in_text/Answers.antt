use Rattle.std.proofs.Common.{Err, sym, subst, true}
use Rattle.cpt_facts.specs.declared.problem.Problem.{Problem}
use Rattle.cpt_answer.specs.declared.ending.Ending.{Ending}
use Rattle.cpt_answer.specs.Giving.{Gives}
use Rattle.cpt_files.specs.Texts.{ProblemText}
use Rattle.cpt_files.proofs.Stages.{problem_faulty, problem_given, problem_unparsed}
use Rattle.cpt_files.proofs.problems.problem_in_text.Goals as goal

pub returns-in-Err-clause-answer : goal.returns-in-Err-clause-answer
returns-in-Err-clause-answer c = λ steady. problem_unparsed steady c.args.domain.now c.args.text.now c.in-Err.ending (c.in-Err.ensures.answer steady)

pub returns-in-Ok-read_problem-clause-answer : goal.returns-in-Ok-read_problem-clause-answer
returns-in-Ok-read_problem-clause-answer c =
    λ steady. problem_given c.args.domain.now c.args.text.now c.in-Ok.forest c.in-Ok-read_problem.problem (c.in-Ok.ensures.answer true) c.in-Ok-read_problem.ensures.exact c.in-Ok-read_problem.ensures.fits

pub returns-clause-answer : goal.returns-clause-answer
returns-clause-answer c =
    λ steady. subst (λ (e : Ending). Gives steady (λ (p : Problem). p) (Err e) (ProblemText c.args.domain.now c.args.text.now)) (sym c.from_problem.ensures.value)
    (problem_faulty steady c.args.domain.now c.args.text.now c.in-Ok.forest c.in-Err-read_problem.e (c.in-Ok.ensures.answer true) c.in-Err-read_problem.ensures.exact)
