use Rattle.std.specs.Prelude.{◌≤◌, ◌^◌, ◌⊎◌, ℕ, List}
use Rattle.cpt_task.specs.Shape.{TaskShape, InBounds}
use Rattle.cpt_check.specs.declared.judged.Judged.{Judged}
use Rattle.cpt_check.specs.Judging.{RulesOf, IsTooLong}

-- each text, of which at most so many bytes are taken, is accepted or rejected, or it is too long
abbrev pub EachTextHasARuling : Type 0
EachTextHasARuling = (t : TaskShape) (most : ℕ) (text : List ℕ) → InBounds t → most ≤ 2 ^ 36 → ((judged : Judged) × RulesOf t most text judged.version judged.ruling) ⊎ IsTooLong t most text
