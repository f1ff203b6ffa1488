-- Reading a task line by line, with the first fault.
use Rattle.std.specs.Prelude.{◌≡◌, ℕ, zero, suc, ◌+◌, ◌*◌, ◌==◌, nat_lt, not, Bool, true, ◌&&◌, if◌then◌else◌, List, [], ◌∷◌, ◌++◌, length, take, drop, Result, Ok, Err, Option, Some, None, codes, ⊤}
use Rattle.std.specs.List.{list_any}
use Rattle.std.specs.Str.{bytes_eq}
use Rattle.cpt_task.specs.declared.memory.Limit.{Limit}
use Rattle.cpt_task.specs.declared.memory.Limit.TheVariants.{Atoms, Actions, LongList}
use Rattle.cpt_task.specs.declared.task.Action.{Action}
use Rattle.cpt_task.specs.Shape.{TaskShape}
use Rattle.cpt_line.specs.Digits.{number_in}
use Rattle.cpt_line.specs.Lines.{split}
use Rattle.cpt_line.specs.Names.{is_name}
use Rattle.cpt_task_text.specs.declared.error.TaskTextError.{TaskTextError}
use Rattle.cpt_task_text.specs.declared.error.TaskTextError.TheVariants as errors
use Rattle.cpt_task_text.specs.Plain.{names_of}

infixl 10 ◌>>=◌
-- one step of reading after another
abbrev pub ◌>>=◌ : {A B : Type 0} → Result A TaskTextError → (A → Result B TaskTextError) → Result B TaskTextError
(Ok x) >>= f = f x
(Err e) >>= f = Err e

-- an error is what reading gives, unless memory ran out
abbrev pub Fails : {Y : Type 0} → TaskTextError → Result Y TaskTextError → Type 0
Fails errors.Memory read = ⊤
Fails (errors.Line n) read = read ≡ Err (errors.Line n)
Fails (errors.Limit which) read = read ≡ Err (errors.Limit which)

-- what a function returned, seen by view, is what reading gives, unless memory ran out
abbrev pub Gives : {X Y : Type 0} → (X → Y) → Result X TaskTextError → Result Y TaskTextError → Type 0
Gives view (Ok x) read = read ≡ Ok (view x)
Gives view (Err e) read = Fails e read

-- the lines of a text that are left, and the bytes behind the last line feed
abbrev pub Rest : Type 0
Rest = List (List ℕ) × List ℕ

-- line n, and what follows it
abbrev pub line_at : ℕ → Rest → Result (List ℕ × Rest) TaskTextError
line_at n ([], tail) = Err (errors.Line n)
line_at n (line ∷ lines, tail) = Ok (line, (lines, tail))

-- nothing is left where line n would stand
abbrev pub ends_at : ℕ → Rest → Result Bool TaskTextError
ends_at n ([], []) = Ok true
ends_at n ([], b ∷ bs) = Err (errors.Line n)
ends_at n (line ∷ lines, tail) = Err (errors.Line n)

-- what follows a front in line n
abbrev pub past : List ℕ → ℕ → List ℕ → Result (List ℕ) TaskTextError
past front n bytes = if bytes_eq (take (length front) bytes) front then Ok (drop (length front) bytes) else Err (errors.Line n)

-- a test of line n
abbrev pub checked : Bool → ℕ → Result Bool TaskTextError
checked good n = if good then Ok true else Err (errors.Line n)

-- what was found in line n
abbrev pub found_at : ℕ → Option (ℕ × List ℕ) → Result (ℕ × List ℕ) TaskTextError
found_at n None = Err (errors.Line n)
found_at n (Some x) = Ok x

-- a number of line n, or 1,000,000,001 where it is above 1,000,000,000, and what follows it
abbrev pub number_at : ℕ → List ℕ → Result (ℕ × List ℕ) TaskTextError
number_at n bytes = found_at n (number_in bytes)

-- a count is at most its limit
abbrev pub within : ℕ → Limit → ℕ → Result Bool TaskTextError
within most which count = if nat_lt most count then Err (errors.Limit which) else Ok true

-- the counts of atoms and of actions in the first line
unfoldable pub counts_in : List ℕ → Result (ℕ × ℕ) TaskTextError
counts_in line = do
  digits ← past (codes "task ") 1 line
  atoms ← number_at 1 digits
  more ← past (32 ∷ []) 1 atoms.1
  actions ← number_at 1 more
  nothing ← checked (length actions.1 == 0) 1
  few ← within 2048 Atoms atoms.0
  few ← within 4096 Actions actions.0
  Ok (atoms.0, actions.0)

-- a name stands among others
abbrev pub is_among : List (List ℕ) → List ℕ → Bool
is_among names name = list_any (bytes_eq name) names

-- a name in line n is none of those before it
abbrev pub new_at : ℕ → List (List ℕ) → List ℕ → Result Bool TaskTextError
new_at n names name = checked (not (is_among names name)) n

-- the name of an atom in line n
unfoldable pub atom_at : ℕ → Rest → Result (List ℕ × Rest) TaskTextError
atom_at n rest = do
  line ← line_at n rest
  name ← past (codes "atom ") n line.0
  legal ← checked (is_name name) n
  Ok (name, line.1)

-- so many atoms from line n on, behind those before them
unfoldable pub atoms_at : ℕ → ℕ → List (List ℕ) → Rest → Result (List (List ℕ) × Rest) TaskTextError
atoms_at zero n names rest = Ok (names, rest)
atoms_at (suc count) n names rest = do
  name ← atom_at n rest
  new ← new_at n names name.0
  atoms_at count (n + 1) (names ++ name.0 ∷ []) name.1

-- a number of a list in line n, after a space, from least to below count
unfoldable pub id_at : ℕ → ℕ → ℕ → List ℕ → Result (ℕ × List ℕ) TaskTextError
id_at n count least bytes = do
  digits ← past (32 ∷ []) n bytes
  number ← number_at n digits
  fit ← checked (not (nat_lt number.0 least) && nat_lt number.0 count) n
  Ok number

-- at most so many numbers of a list in line n, behind those before them
unfoldable pub ids_in : ℕ → ℕ → ℕ → ℕ → List ℕ → List ℕ → Result (List ℕ) TaskTextError
ids_in most n count least ids [] = Ok ids
ids_in zero n count least ids (b ∷ bytes) = Err (errors.Line n)
ids_in (suc most) n count least ids (b ∷ bytes) = do
  id ← id_at n count least (b ∷ bytes)
  ids_in most n count (id.0 + 1) (ids ++ id.0 ∷ []) id.1

-- line n: a keyword and strictly increasing numbers below count, of which each takes more than one byte
unfoldable pub ids_at : ℕ → List ℕ → ℕ → Rest → Result (List ℕ × Rest) TaskTextError
ids_at n keyword count rest = do
  line ← line_at n rest
  bytes ← past keyword n line.0
  ids ← ids_in (length bytes) n count 0 [] bytes
  Ok (ids, line.1)

-- the same, with a limit on how many numbers there are
unfoldable pub short_ids_at : ℕ → List ℕ → ℕ → ℕ → Rest → Result (List ℕ × Rest) TaskTextError
short_ids_at n keyword most count rest = do
  ids ← ids_at n keyword count rest
  few ← within most LongList (length ids.0)
  Ok ids

-- how many bytes there are up to the first closing parenthesis, and with it
abbrev pub name_length : List ℕ → ℕ
name_length [] = 0
name_length (b ∷ bytes) = if b == 41 then 1 else name_length bytes + 1

-- the name and the duration in the first line of an action, which is line n
unfoldable pub head_in : ℕ → List ℕ → Result (List ℕ × ℕ) TaskTextError
head_in n line = do
  bytes ← past (codes "action ") n line
  legal ← checked (is_name (take (name_length bytes) bytes)) n
  digits ← past (32 ∷ []) n (drop (name_length bytes) bytes)
  dur ← number_at n digits
  fit ← checked ((length dur.1 == 0) && nat_lt 0 dur.0 && nat_lt dur.0 100001) n
  Ok (take (name_length bytes) bytes, dur.0)

-- the first line of an action, and what follows it
unfoldable pub head_at : ℕ → Rest → Result ((List ℕ × ℕ) × Rest) TaskTextError
head_at n rest = do
  line ← line_at n rest
  head ← head_in n line.0
  Ok (head, line.1)

-- the action of this name and duration, with the three lists behind its first line, which is line n
unfoldable pub action_at : ℕ → ℕ → List ℕ × ℕ → Rest → Result (Action × Rest) TaskTextError
action_at n count head rest = do
  pre ← short_ids_at (n + 1) (codes "pre") 64 count rest
  add ← short_ids_at (n + 2) (codes "add") 128 count pre.1
  dele ← short_ids_at (n + 3) (codes "del") 128 count add.1
  Ok (record { name = head.0; dur = head.1; pre = pre.0; add = add.0; dele = dele.0 }, dele.1)

-- so many actions from line n on, four lines each, behind those before them
unfoldable pub actions_at : ℕ → ℕ → ℕ → List Action → Rest → Result (List Action × Rest) TaskTextError
actions_at zero n count actions rest = Ok (actions, rest)
actions_at (suc more) n count actions rest = do
  head ← head_at n rest
  new ← new_at n (names_of actions) head.0.0
  action ← action_at n count head.0 head.1
  actions_at more (n + 4) count (actions ++ action.0 ∷ []) action.1

-- the number of the line of the initial list
abbrev pub init_line : ℕ × ℕ → ℕ
init_line counts = counts.0 + 4 * counts.1 + 2

-- the task that a text spells, or its first fault
unfoldable pub task_of : List ℕ → Result TaskShape TaskTextError
task_of text = do
  line ← line_at 1 (split text)
  counts ← counts_in line.0
  atoms ← atoms_at counts.0 2 [] line.1
  actions ← actions_at counts.1 (counts.0 + 2) counts.0 [] atoms.1
  init ← ids_at (init_line counts) (codes "init") counts.0 actions.1
  goal ← ids_at (init_line counts + 1) (codes "goal") counts.0 init.1
  nothing ← ends_at (init_line counts + 2) goal.1
  Ok (record { atoms = atoms.0; actions = actions.0; init = init.0; goal = goal.0 })
