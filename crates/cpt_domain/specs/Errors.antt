use Rattle.std.specs.Prelude.{◌≡◌, Result, Ok, Err, ⊤}
use Rattle.cpt_domain.specs.declared.error.DomainError.{DomainError}
use Rattle.cpt_domain.specs.declared.error.DomainError.TheVariants as errors
use Rattle.cpt_pddl.specs.declared.fault.Fault.{Fault}
use Rattle.cpt_pddl.specs.declared.fault.Fault.TheVariants as faults

-- a fault of a domain text; no domain text names another domain
abbrev pub domain_error : Fault → DomainError
domain_error (faults.Shape at) = errors.Shape at
domain_error (faults.BadName at) = errors.BadName at
domain_error (faults.Twice at) = errors.Twice at
domain_error (faults.BadType at) = errors.BadType at
domain_error (faults.Arity at) = errors.Arity at
domain_error (faults.Feature which at) = errors.Feature which at
domain_error (faults.Window at) = errors.Window at
domain_error (faults.Duration at) = errors.Duration at
domain_error (faults.Limit which at) = errors.Limit which at
domain_error (faults.OtherDomain at) = errors.Shape at
domain_error faults.Memory = errors.Memory

-- what was read, with its fault as one of a domain text
abbrev pub of_domain : {A : Type 0} → Result A Fault → Result A DomainError
of_domain (Ok x) = Ok x
of_domain (Err fault) = Err (domain_error fault)

-- reading fails with this error, unless memory ran out
abbrev pub Fails : {Y : Type 0} → DomainError → Result Y DomainError → Type 0
Fails errors.Memory read = ⊤
Fails (errors.Shape at) read = read ≡ Err (errors.Shape at)
Fails (errors.BadName at) read = read ≡ Err (errors.BadName at)
Fails (errors.Twice at) read = read ≡ Err (errors.Twice at)
Fails (errors.BadType at) read = read ≡ Err (errors.BadType at)
Fails (errors.Arity at) read = read ≡ Err (errors.Arity at)
Fails (errors.Feature which at) read = read ≡ Err (errors.Feature which at)
Fails (errors.Window at) read = read ≡ Err (errors.Window at)
Fails (errors.Duration at) read = read ≡ Err (errors.Duration at)
Fails (errors.Limit which at) read = read ≡ Err (errors.Limit which at)

-- what a function returned is what reading gives, unless memory ran out
abbrev pub Answers : {Y : Type 0} → Result Y DomainError → Result Y DomainError → Type 0
Answers (Ok x) read = read ≡ Ok x
Answers (Err e) read = Fails e read
