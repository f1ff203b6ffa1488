use Rattle.std.specs.Prelude.{ℕ, List, [], ◌∷◌, ◌++◌, length, map, codes}
use Rattle.std.specs.List.{flat_map}
use Rattle.std.specs.Fmt.{decimal}
use Rattle.cpt_task.specs.declared.task.Action.{Action}
use Rattle.cpt_task.specs.Shape.{TaskShape}

-- a line with its line feed
abbrev pub ended : List ℕ → List ℕ
ended line = line ++ 10 ∷ []

-- the first line: how many atoms and actions there are
abbrev pub count_line : ℕ → ℕ → List ℕ
count_line atoms actions = codes "task " ++ (decimal atoms ++ 32 ∷ decimal actions)

-- the line of an atom
abbrev pub atom_line : List ℕ → List ℕ
atom_line name = codes "atom " ++ name

-- the first line of an action
abbrev pub head_line : List ℕ → ℕ → List ℕ
head_line name dur = codes "action " ++ (name ++ 32 ∷ decimal dur)

-- numbers, each after one space
abbrev pub spaced : List ℕ → List ℕ
spaced ids = flat_map (λ id. 32 ∷ decimal id) ids

-- a line with a list of numbers
abbrev pub list_line : List ℕ → List ℕ → List ℕ
list_line keyword ids = keyword ++ spaced ids

-- the four lines of an action
abbrev pub action_lines : Action → List (List ℕ)
action_lines a = head_line a.name a.dur ∷ list_line (codes "pre") a.pre ∷ list_line (codes "add") a.add ∷ list_line (codes "del") a.dele ∷ []

-- the last two lines
abbrev pub last_lines : TaskShape → List (List ℕ)
last_lines t = list_line (codes "init") t.init ∷ list_line (codes "goal") t.goal ∷ []

-- all lines of a task
abbrev pub lines_of : TaskShape → List (List ℕ)
lines_of t = count_line (length t.atoms) (length t.actions) ∷ map atom_line t.atoms ++ (flat_map action_lines t.actions ++ last_lines t)

-- the one spelling of a task
abbrev pub spelling : TaskShape → List ℕ
spelling t = flat_map ended (lines_of t)
