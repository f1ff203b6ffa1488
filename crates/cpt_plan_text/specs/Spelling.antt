use Rattle.std.specs.Prelude.{◌≡◌, ℕ, ◌<◌, ◌≤◌, ◌⊎◌, List, ◌++◌, length, codes, Option, Result, Ok, Err}
use Rattle.std.specs.Fmt.{decimal}
use Rattle.std.specs.Io.KnownBytes.{append_known}
use Rattle.std.specs.List.{AllPairs, flat_map, range_with_len}
use Rattle.std.specs.List.Sorted.{IsPermutation}
use Rattle.cpt_io.specs.declared.library.PrintError.{PrintError}
use Rattle.cpt_io.specs.declared.library.PrintError.TheVariants.{Failed, Memory}
use Rattle.cpt_io.specs.Meaning.{AppendsFront}
use Rattle.cpt_task.specs.declared.plan.Occ.{Occ}
use Rattle.cpt_task.specs.Shape.{TaskShape}
use Rattle.cpt_task.specs.Timeline.{action_of}
use Rattle.cpt_plan_text.specs.declared.reading.PlanText.{PlanText}

-- the line of an occurrence, without its line feed: its start, its name, its duration
abbrev pub spelled_line : TaskShape → Occ → List ℕ
spelled_line t o = decimal o.start ++ codes ": " ++ (action_of t o).name ++ codes " [" ++ decimal (action_of t o).dur ++ codes "]"

-- the text of occurrences in this order: a line for each
abbrev pub plan_spelling : TaskShape → List Occ → List ℕ
plan_spelling t plan = flat_map (λ o. spelled_line t o ++ codes "\n") plan

-- the one starts earlier than the other, or then and its action has no greater number
abbrev pub ComesBefore : Occ → Occ → Type 0
ComesBefore o q = (o.start < q.start) ⊎ ((o.start ≡ q.start) × (o.act ≤ q.act))

-- by start, then by action number
abbrev pub IsInPrintOrder : List Occ → Type 0
IsInPrintOrder plan = AllPairs ComesBefore plan

-- the text of the plan's occurrences, by start and then by action number
abbrev pub IsTextOf : TaskShape → List Occ → List ℕ → Type 0
IsTextOf t plan text = (sorted : List Occ) × IsPermutation plan sorted × IsInPrintOrder sorted × (text ≡ plan_spelling t sorted)

-- What was written grew by the text of the plan. After `Failed` it grew by a front of that text, and after
-- `Memory` by nothing.
abbrev pub Prints : {T : Type 0} → TaskShape → List Occ → Option (List ℕ) → Option (List ℕ) → Result T PrintError → Type 0
Prints t plan old new (Ok x) = (text : List ℕ) × IsTextOf t plan text × (new ≡ append_known old text)
Prints t plan old new (Err Failed) = (text : List ℕ) × IsTextOf t plan text × AppendsFront old new text
Prints t plan old new (Err Memory) = new ≡ old

-- the count of faults rose exactly where the answer is `Failed`
abbrev pub CountsFaults : {T : Type 0} → ℕ → ℕ → Result T PrintError → Type 0
CountsFaults before now (Ok x) = now ≡ before
CountsFaults before now (Err Failed) = before < now
CountsFaults before now (Err Memory) = now ≡ before

-- the plan as its own text gives it, where the occurrences are printed in this order: they stand in lines 1, 2, 3 and so on
abbrev pub in_lines : List Occ → PlanText
in_lines plan = record { occs = plan; lines = range_with_len 1 (length plan) }
