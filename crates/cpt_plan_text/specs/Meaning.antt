use Rattle.std.specs.Prelude.{◌≡◌, ℕ, ◌+◌, ◌==◌, nat_lt, not, Bool, false, if◌then◌else◌, List, [], ◌∷◌, ◌++◌, Option, None, Some, Result, Ok, Err, slice_index_or, option_to_list, ⊤}
use Rattle.cpt_task.specs.declared.plan.Occ.{Occ}
use Rattle.cpt_task.specs.declared.memory.Limit.TheVariants.{Start}
use Rattle.cpt_task.specs.Shape.{TaskShape}
use Rattle.cpt_task.specs.Timeline.{idle}
use Rattle.cpt_line.specs.Lines.{split}
use Rattle.cpt_plan_text.specs.declared.roster.Found.{Found}
use Rattle.cpt_plan_text.specs.declared.roster.Found.TheVariants.{Known, Unreachable, Unknown}
use Rattle.cpt_plan_text.specs.declared.line.Entry.{Entry}
use Rattle.cpt_plan_text.specs.declared.reading.Item.{Item}
use Rattle.cpt_plan_text.specs.declared.reading.PlanText.{PlanText}
use Rattle.cpt_plan_text.specs.declared.reading.PlanTextError.{PlanTextError}
use Rattle.cpt_plan_text.specs.declared.reading.PlanTextError.TheVariants as errors
use Rattle.cpt_plan_text.specs.Grammar.{line_in}

infixl 10 ◌>>=◌
-- one reading after another, up to the first fault
abbrev pub ◌>>=◌ : {A B : Type 0} → Result A PlanTextError → (A → Result B PlanTextError) → Result B PlanTextError
(Ok x) >>= f = f x
(Err e) >>= f = Err e

-- reading fails with this error, unless memory ran out
abbrev pub Fails : {Y : Type 0} → PlanTextError → Result Y PlanTextError → Type 0
Fails errors.Memory read = ⊤
Fails (errors.Line n) read = read ≡ Err (errors.Line n)
Fails (errors.Unknown n) read = read ≡ Err (errors.Unknown n)
Fails (errors.Limit which) read = read ≡ Err (errors.Limit which)
Fails (errors.Duration n right) read = read ≡ Err (errors.Duration n right)
Fails (errors.Unreachable n) read = read ≡ Err (errors.Unreachable n)

-- what a function returned, seen by view, is what reading gives, unless memory ran out
abbrev pub Gives : {X Y : Type 0} → (X → Y) → Result X PlanTextError → Result Y PlanTextError → Type 0
Gives view (Ok x) read = read ≡ Ok (view x)
Gives view (Err e) read = Fails e read

-- the lines of a text: the pieces between its line feeds, of which the last says nothing where it is empty
abbrev pub lines_of : List ℕ → List (List ℕ)
lines_of text = (split text).0 ++ (split text).1 ∷ []

-- the duration of an action
abbrev pub duration_of : TaskShape → ℕ → ℕ
duration_of t act = (slice_index_or t.actions act idle).dur

-- the entry of line n, for this action where it is reachable, which has to last so long
abbrev pub timed : ℕ → Entry → Option ℕ → ℕ → Result Item PlanTextError
timed n e act right =
    if nat_lt 1000000000 e.start then Err (errors.Limit Start)
    else Ok (record { line = n; start = e.start; act = act; right = right; dur = e.dur })

-- the entry of line n, by what is known of its name
abbrev pub looked_up : TaskShape → ℕ → Entry → Found → Result Item PlanTextError
looked_up t n e (Known act) = timed n e (Some act) (duration_of t act)
looked_up t n e (Unreachable d) = timed n e None d
looked_up t n e Unknown = Err (errors.Unknown n)

-- what line n says, by what is known of names
abbrev pub said_at : (List ℕ → Found) → TaskShape → ℕ → Option (Option Entry) → Result (Option Item) PlanTextError
said_at finds t n None = Err (errors.Line n)
said_at finds t n (Some None) = Ok None
said_at finds t n (Some (Some e)) = looked_up t n e (finds e.name) >>= (λ item. Ok (Some item))

-- the entry of line n, where it has one
unfoldable pub item_at : (List ℕ → Found) → TaskShape → ℕ → List ℕ → Result (Option Item) PlanTextError
item_at finds t n line = said_at finds t n (line_in line)

-- the entries so far, and that of one more line
abbrev pub with_item : List Item → Result (Option Item) PlanTextError → Result (List Item) PlanTextError
with_item front read = read >>= (λ item. Ok (front ++ option_to_list item))

-- The first pass: the entries of the lines from number n on, or the first line that is not in the grammar, has
-- an unknown name or starts too late.
abbrev pub items_in : (List ℕ → Found) → TaskShape → ℕ → List (List ℕ) → Result (List Item) PlanTextError
items_in finds t n [] = Ok []
items_in finds t n (line ∷ lines) = do
  first ← item_at finds t n line
  others ← items_in finds t (n + 1) lines
  Ok (option_to_list first ++ others)

-- a duration is written, and it is not the right one
abbrev pub is_wrong : Option ℕ → ℕ → Bool
is_wrong None right = false
is_wrong (Some d) right = not (d == right)

-- the occurrence of an action in line n, where it is reachable
abbrev pub reachable : ℕ → ℕ → Option ℕ → Result Occ PlanTextError
reachable n start (Some act) = Ok (record { act = act; start = start })
reachable n start None = Err (errors.Unreachable n)

-- the occurrence of an entry
unfoldable pub occ_at : Item → Result Occ PlanTextError
occ_at item = if is_wrong item.dur item.right then Err (errors.Duration item.line item.right) else reachable item.line item.start item.act

-- an occurrence and its line before others
abbrev pub put_first : Item → Occ → PlanText → PlanText
put_first item occ others = record { occs = occ ∷ others.occs; lines = item.line ∷ others.lines }

-- The second pass: the occurrences of the entries with their lines, or the first entry that has a wrong duration
-- or an unreachable action.
abbrev pub occs_of : List Item → Result PlanText PlanTextError
occs_of [] = Ok (record { occs = []; lines = [] })
occs_of (item ∷ items) = do
  first ← occ_at item
  others ← occs_of items
  Ok (put_first item first others)

-- the plan that a text spells, or its first fault: one of the second pass only where the first has none
unfoldable pub plan_of : (List ℕ → Found) → TaskShape → List ℕ → Result PlanText PlanTextError
plan_of finds t text = do
  items ← items_in finds t 1 (lines_of text)
  occs_of items
