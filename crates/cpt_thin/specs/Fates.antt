use Rattle.std.specs.Prelude.{Bool, true, false}
use Rattle.cpt_thin.specs.declared.fates.Fate.{Fate}
use Rattle.cpt_thin.specs.declared.fates.Fate.TheVariants.{Fixed, Kept, Dropped}

-- whether the line is a step line that is dropped
abbrev pub is_dropped : Fate → Bool
is_dropped Fixed = false
is_dropped Kept = false
is_dropped Dropped = true
