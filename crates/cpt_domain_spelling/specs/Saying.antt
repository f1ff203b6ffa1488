use Rattle.cpt_sexp.specs.Printing.{Nest}
use Rattle.cpt_sexp.specs.Printing as nest
use Rattle.cpt_pddl.specs.Items.{Items, end, word, group}

-- what items say, wherever they stand
abbrev pub says : Items → Nest
says (end close) = nest.nothing
says (word at bytes rest) = nest.name bytes (says rest)
says (group at inside rest) = nest.list (says inside) (says rest)
