use Rattle.cpt_problem.specs.declared.goals.Goals.{Goals}
use Rattle.cpt_problem.specs.declared.inits.Inits.{Inits}
use Rattle.cpt_problem.specs.Goals.{Aims}
use Rattle.cpt_problem.specs.Inits.{Beginning}

-- what holds at first, by its lists
abbrev pub begun_of : Inits → Beginning
begun_of i = record { facts = i.facts.items; values = i.values.items.items }

-- a goal by its lists
abbrev pub aims_of : Goals → Aims
aims_of g = record { present = g.present.items; absent = g.absent.items }
