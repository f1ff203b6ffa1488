use Rattle.std.specs.Prelude.{ℕ, List, [], ◌∷◌, ◌++◌, codes}
use Rattle.std.specs.Fmt.{decimal}
use Rattle.cpt_task.specs.declared.memory.Limit.{Limit}
use Rattle.cpt_task.specs.declared.memory.Limit.TheVariants.{File, Certificate, Nesting, Objects, Parameters, LongList, Instances, Atoms, Actions, Start}

-- a line: its text and a line feed
abbrev pub line_of : List ℕ → List ℕ
line_of text = text ++ 10 ∷ []

-- the name of a limit
abbrev pub limit_name : Limit → List ℕ
limit_name File = codes "file"
limit_name Certificate = codes "certificate"
limit_name Nesting = codes "nesting"
limit_name Objects = codes "objects"
limit_name Parameters = codes "parameters"
limit_name LongList = codes "list"
limit_name Instances = codes "instances"
limit_name Atoms = codes "atoms"
limit_name Actions = codes "actions"
limit_name Start = codes "start"

-- a fault line
abbrev pub fault_line : List ℕ → List ℕ
fault_line what = line_of (codes "fault: " ++ what)

-- the line of a reading that failed
abbrev pub read_line : List ℕ
read_line = fault_line (codes "read")

-- the line of want of memory
abbrev pub memory_line : List ℕ
memory_line = fault_line (codes "memory")

-- the plan is valid with this makespan
abbrev pub valid_line : ℕ → List ℕ
valid_line makespan = line_of (codes "valid " ++ decimal makespan)

-- a line that says why a plan is invalid
abbrev pub invalid_line : List ℕ → List ℕ
invalid_line cause = line_of (codes "invalid: " ++ cause)

-- a cause that concerns one line of the plan text
abbrev pub of_line : ℕ → List ℕ → List ℕ
of_line line cause = codes "line " ++ decimal line ++ cause

-- the line where two lines of a plan overlap
abbrev pub overlap_line : ℕ → ℕ → List ℕ
overlap_line first second = invalid_line (codes "lines " ++ decimal first ++ codes " and " ++ decimal second ++ codes " overlap")

-- the line where the action of a line lacks an atom at a moment
abbrev pub lacks_line : ℕ → List ℕ → ℕ → List ℕ
lacks_line line atom time = invalid_line (of_line line (codes " lacks " ++ atom ++ codes " at " ++ decimal time))

-- the line where an atom of the goal is missing
abbrev pub missing_line : List ℕ → List ℕ
missing_line atom = invalid_line (codes "goal " ++ atom ++ codes " is missing")

-- the line where the words ask for no command
abbrev pub usage_line : List ℕ
usage_line = fault_line (codes "usage")
