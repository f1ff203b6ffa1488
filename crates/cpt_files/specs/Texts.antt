use Rattle.std.specs.Prelude.{◌≡◌, ◌≢◌, ℕ, List, Result, Err, IfOk}
use Rattle.cpt_io.specs.Meaning.{Files}
use Rattle.cpt_task.specs.declared.memory.Limit.TheVariants.{Nesting}
use Rattle.cpt_sexp.specs.declared.item.SexpError.{SexpError}
use Rattle.cpt_sexp.specs.declared.item.SexpError.TheVariants as sexp_errors
use Rattle.cpt_sexp.specs.Grammar.{ForestShape}
use Rattle.cpt_sexp.specs.Parsing.{Parses}
use Rattle.cpt_domain.specs.declared.domain.Domain.{Domain}
use Rattle.cpt_domain.specs.declared.error.DomainError.{DomainError}
use Rattle.cpt_domain.specs.declared.error.DomainError.TheVariants as domain_errors
use Rattle.cpt_domain.specs.Reading.{domain_of}
use Rattle.cpt_domain.specs.Sound.{IsSound}
use Rattle.cpt_facts.specs.declared.problem.Problem.{Problem}
use Rattle.cpt_facts.specs.Fitting.{Fits}
use Rattle.cpt_problem.specs.declared.error.ProblemError.{ProblemError}
use Rattle.cpt_problem.specs.declared.error.ProblemError.TheVariants as problem_errors
use Rattle.cpt_problem.specs.Reading.{problem_of}
use Rattle.cpt_answer.specs.declared.ending.ByteFault.{ByteFault}
use Rattle.cpt_answer.specs.declared.ending.ByteFault.TheVariants as faults
use Rattle.cpt_answer.specs.declared.ending.Ending.{Ending}
use Rattle.cpt_answer.specs.declared.ending.Cause.TheVariants.{Passed, DomainByte, ProblemByte}
use Rattle.cpt_answer.specs.declared.ending.Ending.TheVariants.{Because, Memory}
use Rattle.cpt_files.specs.declared.problems.Source.{Source}
use Rattle.cpt_files.specs.declared.problems.Source.TheVariants.{OfDomain, OfProblem}
use Rattle.cpt_answer.specs.Giving.{Then, ThenBy, ended}
use Rattle.cpt_files.specs.Files.{text_under}

-- the ending at a fault at a byte of the domain text, or of the problem text
abbrev pub at_byte : Source → ℕ → ByteFault → Ending
at_byte OfDomain at fault = Because (DomainByte at fault)
at_byte OfProblem at fault = Because (ProblemByte at fault)

-- the ending at a fault of a text's bytes and parentheses
abbrev pub sexp_ending : Source → SexpError → Ending
sexp_ending source (sexp_errors.BadByte at) = at_byte source at faults.BadByte
sexp_ending source (sexp_errors.Unopened at) = at_byte source at faults.Unopened
sexp_ending source (sexp_errors.Unclosed at) = at_byte source at faults.Unclosed
sexp_ending source (sexp_errors.Deep at) = Because (Passed Nesting)
sexp_ending source sexp_errors.Memory = Memory

-- the ending at a fault of a domain text
abbrev pub domain_ending : DomainError → Ending
domain_ending (domain_errors.Shape at) = Because (DomainByte at faults.Shape)
domain_ending (domain_errors.BadName at) = Because (DomainByte at faults.BadName)
domain_ending (domain_errors.Twice at) = Because (DomainByte at faults.Twice)
domain_ending (domain_errors.BadType at) = Because (DomainByte at faults.BadType)
domain_ending (domain_errors.Arity at) = Because (DomainByte at faults.Arity)
domain_ending (domain_errors.Feature which at) = Because (DomainByte at (faults.Feature which))
domain_ending (domain_errors.Window at) = Because (DomainByte at faults.Window)
domain_ending (domain_errors.Duration at) = Because (DomainByte at faults.Duration)
domain_ending (domain_errors.Limit which at) = Because (Passed which)
domain_ending domain_errors.Memory = Memory

-- the ending at a fault of a problem text
abbrev pub problem_ending : ProblemError → Ending
problem_ending (problem_errors.Shape at) = Because (ProblemByte at faults.Shape)
problem_ending (problem_errors.BadName at) = Because (ProblemByte at faults.BadName)
problem_ending (problem_errors.Twice at) = Because (ProblemByte at faults.Twice)
problem_ending (problem_errors.BadType at) = Because (ProblemByte at faults.BadType)
problem_ending (problem_errors.Arity at) = Because (ProblemByte at faults.Arity)
problem_ending (problem_errors.Feature which at) = Because (ProblemByte at (faults.Feature which))
problem_ending (problem_errors.Duration at) = Because (ProblemByte at faults.Duration)
problem_ending (problem_errors.Limit which at) = Because (Passed which)
problem_ending (problem_errors.OtherDomain at) = Because (ProblemByte at faults.OtherDomain)
problem_ending problem_errors.Memory = Memory

-- the words and groups of a text, or its first fault
abbrev pub ParsesTo : Source → List ℕ → Result ForestShape Ending → Type 0
ParsesTo source text r =
    (x : Result ForestShape SexpError) × Parses text x × (x ≢ Err sexp_errors.Memory) × (ended (sexp_ending source) x ≡ r)

-- the domain that a text is, or its first fault; what is read is sound
abbrev pub DomainText : List ℕ → Result Domain Ending → Type 0
DomainText text r = ThenBy (ParsesTo OfDomain text) (λ forest r. ended domain_ending (domain_of forest) ≡ r) r × IfOk r IsSound

-- the problem of a domain that a text is, or its first fault; what is read fits the domain
abbrev pub ProblemText : Domain → List ℕ → Result Problem Ending → Type 0
ProblemText d text r = ThenBy (ParsesTo OfProblem text) (λ forest r. ended problem_ending (problem_of d forest) ≡ r) r × IfOk r (Fits d)

-- the domain in a file, and the problem of a domain in a file
abbrev pub DomainUnder : Files → List ℕ → Result Domain Ending → Type 0
DomainUnder files name = Then (text_under files name) DomainText

-- the problem in a file
abbrev pub ProblemUnder : Files → Domain → List ℕ → Result Problem Ending → Type 0
ProblemUnder files d name = Then (text_under files name) (ProblemText d)
