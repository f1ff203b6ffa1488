-- The JSON values that are tasks, plans and reports.
use Rattle.std.specs.Prelude.{ℕ, ◌<◌, length, ⊤, List, [], Bool, true, false, Option, None, Some, codes, map, slice_index_or}
use Rattle.serde_json.specs.Data.{Data, number, unsigned, boolean, string, array, object, Members, no_members, member}
use Rattle.serde_json.specs.View.{items_of}
use Rattle.cpt_task.specs.declared.task.Action.{Action}
use Rattle.cpt_task.specs.declared.plan.Verdict.{Verdict}
use Rattle.cpt_task.specs.declared.plan.Verdict.TheVariants.{Valid, Overlap, Unmet, GoalMissing}
use Rattle.cpt_task.specs.Shape.{TaskShape}
use Rattle.cpt_json_form.specs.declared.item.PlanItem.{PlanItem}

-- a whole number
abbrev pub number_value : ℕ → Data
number_value n = number (unsigned n)

-- a list of values
abbrev pub list_value : {A : Type 0} → (A → Data) → List A → Data
list_value value xs = array (items_of (map value xs))

-- a list of whole numbers, and of names
abbrev pub numbers_value : List ℕ → Data
numbers_value ns = list_value number_value ns

-- names: an array of strings
abbrev pub names_value : List (List ℕ) → Data
names_value names = list_value string names

-- ---- objects, whose keys stand in the order of their bytes

-- an action: an object of these five members
abbrev pub action_object : (add del dur name pre : Data) → Data
action_object add del dur name pre = object (member (codes "add") add (member (codes "del") del (member (codes "dur") dur (member (codes "name") name (member (codes "pre") pre no_members)))))

-- a task: an object of these four members
abbrev pub task_object : (actions atoms goal init : Data) → Data
task_object actions atoms goal init = object (member (codes "actions") actions (member (codes "atoms") atoms (member (codes "goal") goal (member (codes "init") init no_members))))

-- an item of a plan that says its duration, and one that does not
abbrev pub timed_object : (dur name start : Data) → Data
timed_object dur name start = object (member (codes "dur") dur (member (codes "name") name (member (codes "start") start no_members)))

-- an item of a plan: an object of a name and a start
abbrev pub item_object : (name start : Data) → Data
item_object name start = object (member (codes "name") name (member (codes "start") start no_members))

-- ---- tasks and plans

-- the value of an action
abbrev pub action_value : Action → Data
action_value a = action_object (numbers_value a.add) (numbers_value a.dele) (number_value a.dur) (string a.name) (numbers_value a.pre)

-- the value of a task
abbrev pub task_value : TaskShape → Data
task_value t = task_object (list_value action_value t.actions) (names_value t.atoms) (numbers_value t.goal) (numbers_value t.init)

-- an item that has this duration, or none
abbrev pub item_with : Option ℕ → (name start : Data) → Data
item_with None name start = item_object name start
item_with (Some dur) name start = timed_object (number_value dur) name start

-- the value of an item of a plan, with its duration where it has one
abbrev pub item_value : PlanItem → Data
item_value i = item_with i.dur (string i.name) (number_value i.start)

-- the value of a plan: an array of its items
abbrev pub plan_value : List PlanItem → Data
plan_value items = list_value item_value items

-- ---- reports

-- the name of an atom
abbrev pub atom_name : TaskShape → ℕ → List ℕ
atom_name t atom = slice_index_or t.atoms atom []

-- the plan is not valid
abbrev pub not_valid : Members
not_valid = member (codes "valid") (boolean false) no_members

-- what is said of a verdict; places count from 0
abbrev pub report_value : TaskShape → Verdict → Data
report_value t (Valid makespan) = object (member (codes "makespan") (number_value makespan) (member (codes "valid") (boolean true) no_members))
report_value t (Overlap first second) = object (member (codes "fault") (string (codes "overlap")) (member (codes "first") (number_value first) (member (codes "second") (number_value second) not_valid)))
report_value t (Unmet place atom time) =
    object (member (codes "atom") (string (atom_name t atom)) (member (codes "fault") (string (codes "unmet")) (member (codes "item") (number_value place) (member (codes "time") (number_value time) not_valid))))
report_value t (GoalMissing atom) = object (member (codes "atom") (string (atom_name t atom)) (member (codes "fault") (string (codes "goal")) not_valid))

-- the atoms of a verdict are those of a task
abbrev pub HasAtomsOf : TaskShape → Verdict → Type 0
HasAtomsOf t (Valid makespan) = ⊤
HasAtomsOf t (Overlap first second) = ⊤
HasAtomsOf t (Unmet place atom time) = atom < length t.atoms
HasAtomsOf t (GoalMissing atom) = atom < length t.atoms

-- what is said where the item at a place has another duration than its action, which lasts so long
abbrev pub duration_value : ℕ → ℕ → Data
duration_value place dur = object (member (codes "dur") (number_value dur) (member (codes "fault") (string (codes "duration")) (member (codes "item") (number_value place) not_valid)))
