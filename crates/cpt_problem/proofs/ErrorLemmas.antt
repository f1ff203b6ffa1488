use Rattle.std.proofs.Common.{ap}
use Rattle.std.specs.Prelude.{Result}
use Rattle.cpt_pddl.specs.declared.fault.Fault.{Fault}
use Rattle.cpt_pddl.specs.declared.fault.Fault.TheVariants as faults
use Rattle.cpt_pddl.specs.Faults as pddl
use Rattle.cpt_problem.specs.Errors.{Fails, problem_error, of_problem}

-- a fault that reading has is the error of reading a problem
pub answers_of : {A : Type 0} → (fault : Fault) (read : Result A Fault) → pddl.Fails fault read → Fails (problem_error fault) (of_problem read)
answers_of (faults.Shape at) read h = ap of_problem h
answers_of (faults.BadName at) read h = ap of_problem h
answers_of (faults.Twice at) read h = ap of_problem h
answers_of (faults.BadType at) read h = ap of_problem h
answers_of (faults.Arity at) read h = ap of_problem h
answers_of (faults.Feature which at) read h = ap of_problem h
answers_of (faults.Window at) read h = ap of_problem h
answers_of (faults.Duration at) read h = ap of_problem h
answers_of (faults.Limit which at) read h = ap of_problem h
answers_of (faults.OtherDomain at) read h = ap of_problem h
answers_of faults.Memory read h = tt
