use Rattle.std.proofs.Common.{◌≡◌, Bool, Result, Ok, Err, ap}
use Rattle.cpt_domain.specs.declared.domain.Domain.{Domain}
use Rattle.cpt_domain.specs.declared.error.DomainError.{DomainError}
use Rattle.cpt_domain.specs.declared.error.DomainError.TheVariants as domain_errors
use Rattle.cpt_domain.specs.Errors.{Answers}
use Rattle.cpt_facts.specs.declared.problem.Problem.{Problem}
use Rattle.cpt_problem.specs.declared.error.ProblemError.{ProblemError}
use Rattle.cpt_problem.specs.declared.error.ProblemError.TheVariants as problem_errors
use Rattle.cpt_problem.specs.Errors as problems
use Rattle.cpt_answer.specs.Giving.{Gives, ended}
use Rattle.cpt_files.specs.Texts.{domain_ending, problem_ending}

-- a domain that is read, or its fault, is what the text says
pub domain_read : (steady : Bool) (result read : Result Domain DomainError) → Answers result read → Gives steady (λ (d : Domain). d) (ended domain_ending result) (λ r. ended domain_ending read ≡ r)
domain_read steady (Ok d) read h = ap (ended domain_ending) h
domain_read steady (Err (domain_errors.Shape at)) read h = ap (ended domain_ending) h
domain_read steady (Err (domain_errors.BadName at)) read h = ap (ended domain_ending) h
domain_read steady (Err (domain_errors.Twice at)) read h = ap (ended domain_ending) h
domain_read steady (Err (domain_errors.BadType at)) read h = ap (ended domain_ending) h
domain_read steady (Err (domain_errors.Arity at)) read h = ap (ended domain_ending) h
domain_read steady (Err (domain_errors.Feature which at)) read h = ap (ended domain_ending) h
domain_read steady (Err (domain_errors.Window at)) read h = ap (ended domain_ending) h
domain_read steady (Err (domain_errors.Duration at)) read h = ap (ended domain_ending) h
domain_read steady (Err (domain_errors.Limit which at)) read h = ap (ended domain_ending) h
domain_read steady (Err domain_errors.Memory) read h = tt

-- a problem that is read, or its fault, is what the text says
pub problem_read : (steady : Bool) (result read : Result Problem ProblemError) → problems.Answers result read → Gives steady (λ (p : Problem). p) (ended problem_ending result) (λ r. ended problem_ending read ≡ r)
problem_read steady (Ok p) read h = ap (ended problem_ending) h
problem_read steady (Err (problem_errors.Shape at)) read h = ap (ended problem_ending) h
problem_read steady (Err (problem_errors.BadName at)) read h = ap (ended problem_ending) h
problem_read steady (Err (problem_errors.Twice at)) read h = ap (ended problem_ending) h
problem_read steady (Err (problem_errors.BadType at)) read h = ap (ended problem_ending) h
problem_read steady (Err (problem_errors.Arity at)) read h = ap (ended problem_ending) h
problem_read steady (Err (problem_errors.Feature which at)) read h = ap (ended problem_ending) h
problem_read steady (Err (problem_errors.Duration at)) read h = ap (ended problem_ending) h
problem_read steady (Err (problem_errors.Limit which at)) read h = ap (ended problem_ending) h
problem_read steady (Err (problem_errors.OtherDomain at)) read h = ap (ended problem_ending) h
problem_read steady (Err problem_errors.Memory) read h = tt
