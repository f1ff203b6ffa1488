use Rattle.std.specs.Prelude.{ℕ, List, [], ◌∷◌, ◌++◌, length}
use Rattle.cpt_task.specs.Shape.{TaskShape}
use Rattle.cpt_tables.specs.declared.tables.Tables.{Tables}
use Rattle.cpt_tables.specs.Admissible.{nth_action}
use Rattle.cpt_sheet.specs.declared.data.Interval.{Interval}
use Rattle.cpt_sheet.specs.declared.data.Sheet.{Sheet}
use Rattle.cpt_calculus.specs.Root.{out_at_root, outs_at_root, root_of}
use Rattle.cpt_layout.specs.Places.{Frame, table}
use Rattle.cpt_layout.specs.Sheets.{number_of}
use Rattle.cpt_block.specs.Blocks.{action_adders, flat}

-- what each action of the task needs, and who adds each of its atoms
abbrev pub pre_lists : TaskShape → List (List ℕ)
pre_lists t = table (λ a. (nth_action t a).pre) 0 (length t.actions)

-- for each atom the actions that add it
abbrev pub adder_lists : TaskShape → List (List ℕ)
adder_lists t = table (λ p. action_adders t p (length t.actions)) 0 (length t.atoms)

-- the lists of the task, and no token
abbrev pub frame_for : TaskShape → ℕ → Frame
frame_for t b = record { bound = b; pre = pre_lists t; goal = t.goal; adders = adder_lists t; kinds = [] }

-- the two numbers of an interval
abbrev pub numbers_of : Interval → List ℕ
numbers_of i = number_of i.lo ∷ (i.hi ∷ [])

-- the outside intervals in cells, and behind them that there is no token
abbrev pub bare_cells : TaskShape → Tables → ℕ → List ℕ
bare_cells t tables b = flat (λ a. numbers_of (out_at_root t tables b a)) (length t.actions) ++ 0 ∷ []

-- the outside intervals of the root, and no token
abbrev pub outs_alone : TaskShape → Tables → ℕ → Sheet
outs_alone t tables b = record { bound = b; tokens = []; outs = outs_at_root t tables b (length t.actions); orders = [] }

-- the root without its order
abbrev pub unordered_root : TaskShape → Tables → ℕ → Sheet
unordered_root t tables b = record (root_of t tables b) { orders = [] }
