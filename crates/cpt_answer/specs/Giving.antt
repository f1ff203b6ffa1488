use Rattle.std.specs.Prelude.{◌≡◌, Bool, IsTrue, Result, Ok, Err, ⊤}
use Rattle.cpt_answer.specs.declared.ending.Ending.{Ending}
use Rattle.cpt_answer.specs.declared.ending.Ending.TheVariants.{Because, Read, Memory}

infixl 10 ◌>>=◌
-- one stage after another, up to the first ending
abbrev pub ◌>>=◌ : {A B : Type 0} → Result A Ending → (A → Result B Ending) → Result B Ending
(Ok x) >>= f = f x
(Err e) >>= f = Err e

-- a result with its error as an ending
abbrev pub ended : {A E : Type 0} → (E → Ending) → Result A E → Result A Ending
ended ending (Ok x) = Ok x
ended ending (Err e) = Err (ending e)

-- a read value is as P says, or its ending is the result
abbrev pub Then : {A B : Type 0} → Result A Ending → (A → Result B Ending → Type 0) → Result B Ending → Type 0
Then (Ok x) P r = P x r
Then (Err e) P r = r ≡ Err e

-- two stages, one after the other: what the first comes to is as the second says, or its ending is the result
abbrev pub ThenBy : {A B : Type 0} → (Result A Ending → Type 0) → (A → Result B Ending → Type 0) → Result B Ending → Type 0
ThenBy {A} P Q r = (x : Result A Ending) × P x × Then x Q r

-- What a call that reads returned is right: it is what P says. Memory may run out, and a reading may fail: over a steady library only
-- where P says so.
abbrev pub Gives : {X Y : Type 0} → Bool → (X → Y) → Result X Ending → (Result Y Ending → Type 0) → Type 0
Gives steady view (Ok x) P = P (Ok (view x))
Gives steady view (Err (Because cause)) P = P (Err (Because cause))
Gives steady view (Err Read) P = IsTrue steady → P (Err Read)
Gives steady view (Err Memory) P = ⊤
