use Rattle.cpt_pddl.specs.declared.typed.Reading.{Reading}
use Rattle.cpt_pddl.specs.Typed.{Run}

-- what has been read of a typed list
abbrev pub run_of : Reading → Run
run_of r = record { names = r.names; kinds = r.kinds.items; dash = r.dash }
