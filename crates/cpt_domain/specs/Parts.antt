use Rattle.cpt_domain.specs.declared.reading.State.{State}
use Rattle.cpt_domain.specs.Reading.{Part}

-- what has been read of a domain
abbrev pub part_of : State → Part
part_of s = record { declared = s.declared; seen = s.seen; names = s.names; schemas = s.schemas.items; acting = s.acting }
