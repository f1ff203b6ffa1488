use Rattle.std.specs.Prelude.{◌≡◌, Result, Ok, Err, Option, None, Some, ⊤}
use Rattle.cpt_pddl.specs.declared.fault.Fault.{Fault}
use Rattle.cpt_pddl.specs.declared.fault.Fault.TheVariants as faults

infixl 10 ◌>>=◌
-- one reading after another, up to the first fault
abbrev pub ◌>>=◌ : {A B : Type 0} → Result A Fault → (A → Result B Fault) → Result B Fault
(Ok x) >>= f = f x
(Err e) >>= f = Err e

-- the value that there is, or else this fault
abbrev pub or_fault : {A : Type 0} → Fault → Option A → Result A Fault
or_fault fault None = Err fault
or_fault fault (Some x) = Ok x

-- reading fails with this fault, unless memory ran out
abbrev pub Fails : {Y : Type 0} → Fault → Result Y Fault → Type 0
Fails faults.Memory read = ⊤
Fails (faults.Shape at) read = read ≡ Err (faults.Shape at)
Fails (faults.BadName at) read = read ≡ Err (faults.BadName at)
Fails (faults.Twice at) read = read ≡ Err (faults.Twice at)
Fails (faults.BadType at) read = read ≡ Err (faults.BadType at)
Fails (faults.Arity at) read = read ≡ Err (faults.Arity at)
Fails (faults.Feature which at) read = read ≡ Err (faults.Feature which at)
Fails (faults.Window at) read = read ≡ Err (faults.Window at)
Fails (faults.Duration at) read = read ≡ Err (faults.Duration at)
Fails (faults.Limit which at) read = read ≡ Err (faults.Limit which at)
Fails (faults.OtherDomain at) read = read ≡ Err (faults.OtherDomain at)

-- what a function returned, seen by view, is what reading gives, unless memory ran out
abbrev pub Gives : {X Y : Type 0} → (X → Y) → Result X Fault → Result Y Fault → Type 0
Gives view (Ok x) read = read ≡ Ok (view x)
Gives view (Err e) read = Fails e read
