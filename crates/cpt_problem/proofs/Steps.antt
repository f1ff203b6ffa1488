use Rattle.std.proofs.Common.{◌≡◌, Bool, true, false, refl}
use Rattle.std.specs.Prelude.{if◌then◌else◌, Option, None, Some, Result, Ok, Err, IfOk, IfSome}
use Rattle.cpt_pddl.specs.declared.fault.Fault.{Fault}
use Rattle.cpt_pddl.specs.Faults.{◌>>=◌, or_fault}

-- what follows a step has this, where what the step gives has that
pub ok_then : {A B : Type 0} (r : Result A Fault) (f : A → Result B Fault) (P : A → Type 0) (Q : B → Type 0)
    → IfOk r P → ((x : A) → P x → IfOk (f x) Q) → IfOk (r >>= f) Q
ok_then (Ok x) f P Q h k = k x h
ok_then (Err e) f P Q h k = tt

-- what follows a step has this, whatever the step gives
pub ok_next : {A B : Type 0} (r : Result A Fault) (f : A → Result B Fault) (Q : B → Type 0) → ((x : A) → IfOk (f x) Q) → IfOk (r >>= f) Q
ok_next (Ok x) f Q k = k x
ok_next (Err e) f Q k = tt

-- each of two branches has this
pub if_ok : {A : Type 0} (b : Bool) (x y : Result A Fault) (P : A → Type 0) → (b ≡ true → IfOk x P) → (b ≡ false → IfOk y P) → IfOk (if b then x else y) P
if_ok true x y P h k = h refl
if_ok false x y P h k = k refl

pub if_some : {A : Type 0} (b : Bool) (x y : Option A) (P : A → Type 0) → IfSome x P → IfSome y P → IfSome (if b then x else y) P
if_some true x y P h k = h
if_some false x y P h k = k

-- a value that is there has this
pub or_ok : {A : Type 0} (fault : Fault) (o : Option A) (P : A → Type 0) → IfSome o P → IfOk (or_fault fault o) P
or_ok fault None P h = tt
or_ok fault (Some x) P h = h
