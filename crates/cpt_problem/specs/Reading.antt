use Rattle.std.specs.Prelude.{length, Result, Ok, codes}
use Rattle.cpt_sexp.specs.Grammar.{ForestShape}
use Rattle.cpt_pddl.specs.declared.fault.Fault.{Fault}
use Rattle.cpt_pddl.specs.Faults.{◌>>=◌}
use Rattle.cpt_pddl.specs.Items.{Items, said_by}
use Rattle.cpt_pddl.specs.Reading.{after_word, group_at, nothing}
use Rattle.cpt_declared.specs.declared.declared.Declared.{Declared}
use Rattle.cpt_domain.specs.declared.domain.Domain.{Domain}
use Rattle.cpt_facts.specs.declared.problem.Problem.{Problem}
use Rattle.cpt_problem.specs.declared.error.ProblemError.{ProblemError}
use Rattle.cpt_problem.specs.Errors.{of_problem}
use Rattle.cpt_problem.specs.Goals.{Aims, goal_part}
use Rattle.cpt_problem.specs.Inits.{Beginning, inits_in, nothing_begun}
use Rattle.cpt_problem.specs.Sections.{after_objects, after_requirements, metric_end, name_in, same_domain, section}
use Rattle.cpt_problem.specs.Tables.{declared_of, objects_after}

-- a problem of its parts
abbrev pub assembled : Domain → Declared → Beginning → Aims → Problem
assembled d declared begun aims =
    record {
      objects = objects_after (length d.constants) declared.constants;
      init = begun.facts;
      goal = aims.present;
      values = begun.values;
      absent = aims.absent;
    }

-- the initial state, the goal and the metric, where so much is declared
unfoldable pub state_in : Domain → Declared → Items → Result Problem Fault
state_in d declared items = do
  start ← section (codes ":init") items
  begun ← inits_in d.schemas declared nothing_begun start.0
  aim ← section (codes ":goal") start.1
  aims ← goal_part declared aim.0
  _ ← metric_end aim.1
  Ok (assembled d declared begun aims)

-- the sections of a problem
unfoldable pub sections_in : Domain → Items → Result Problem Fault
sections_in d items = do
  named ← section (codes ":domain") items
  _ ← same_domain d.name named.0
  rest ← after_requirements named.1
  found ← after_objects (declared_of d) rest
  state_in d found.0 found.1

-- what is in the group of a problem
unfoldable pub definition : Domain → Items → Result Problem Fault
definition d items = do
  rest ← after_word (codes "define") items
  head ← group_at rest
  _ ← name_in head.1
  sections_in d head.2

-- a text that is one problem
unfoldable pub problem_in : Domain → Items → Result Problem Fault
problem_in d items = do
  found ← group_at items
  problem ← definition d found.1
  _ ← nothing found.2
  Ok problem

-- the problem of a domain that a parsed text is, or its first fault from left to right
unfoldable pub problem_of : Domain → ForestShape → Result Problem ProblemError
problem_of d forest = of_problem (problem_in d (said_by forest))
