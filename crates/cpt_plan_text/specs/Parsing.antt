use Rattle.std.specs.Prelude.{◌≡◌, Option, None, Some, Result, Ok, Err, ⊤}
use Rattle.cpt_plan_text.specs.declared.line.LineError.{LineError}
use Rattle.cpt_plan_text.specs.declared.line.LineError.TheVariants.{Form, Memory}

-- what a function returned, seen by view, is what the grammar gives, unless memory ran out
abbrev pub Parses : {X Y : Type 0} → (X → Y) → Result X LineError → Option Y → Type 0
Parses view (Ok x) read = read ≡ Some (view x)
Parses view (Err Form) read = read ≡ None
Parses view (Err Memory) read = ⊤
