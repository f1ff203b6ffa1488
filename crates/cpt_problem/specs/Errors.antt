use Rattle.std.specs.Prelude.{◌≡◌, Result, Ok, Err, ⊤}
use Rattle.cpt_problem.specs.declared.error.ProblemError.{ProblemError}
use Rattle.cpt_problem.specs.declared.error.ProblemError.TheVariants as errors
use Rattle.cpt_pddl.specs.declared.fault.Fault.{Fault}
use Rattle.cpt_pddl.specs.declared.fault.Fault.TheVariants as faults

-- a fault of a problem text; no problem text has an effect
abbrev pub problem_error : Fault → ProblemError
problem_error (faults.Shape at) = errors.Shape at
problem_error (faults.BadName at) = errors.BadName at
problem_error (faults.Twice at) = errors.Twice at
problem_error (faults.BadType at) = errors.BadType at
problem_error (faults.Arity at) = errors.Arity at
problem_error (faults.Feature which at) = errors.Feature which at
problem_error (faults.Window at) = errors.Shape at
problem_error (faults.Duration at) = errors.Duration at
problem_error (faults.Limit which at) = errors.Limit which at
problem_error (faults.OtherDomain at) = errors.OtherDomain at
problem_error faults.Memory = errors.Memory

-- what was read, with its fault as one of a problem text
abbrev pub of_problem : {A : Type 0} → Result A Fault → Result A ProblemError
of_problem (Ok x) = Ok x
of_problem (Err fault) = Err (problem_error fault)

-- reading fails with this error, unless memory ran out
abbrev pub Fails : {Y : Type 0} → ProblemError → Result Y ProblemError → Type 0
Fails errors.Memory read = ⊤
Fails (errors.Shape at) read = read ≡ Err (errors.Shape at)
Fails (errors.BadName at) read = read ≡ Err (errors.BadName at)
Fails (errors.Twice at) read = read ≡ Err (errors.Twice at)
Fails (errors.BadType at) read = read ≡ Err (errors.BadType at)
Fails (errors.Arity at) read = read ≡ Err (errors.Arity at)
Fails (errors.Feature which at) read = read ≡ Err (errors.Feature which at)
Fails (errors.OtherDomain at) read = read ≡ Err (errors.OtherDomain at)
Fails (errors.Duration at) read = read ≡ Err (errors.Duration at)
Fails (errors.Limit which at) read = read ≡ Err (errors.Limit which at)

-- what a function returned is what reading gives, unless memory ran out
abbrev pub Answers : {Y : Type 0} → Result Y ProblemError → Result Y ProblemError → Type 0
Answers (Ok x) read = read ≡ Ok x
Answers (Err e) read = Fails e read
