use Rattle.cpt_declared.specs.declared.kind_run.Reading.{Reading}
use Rattle.cpt_declared.specs.Kinds.{KindRun}

-- what has been read of a list of types
abbrev pub run_of : Reading → KindRun
run_of r = record { names = r.names; parents = r.parents.items; entered = r.entered.items; parented = r.parented; dash = r.dash }
