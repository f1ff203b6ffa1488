-- What a fault says of a text, in words of its lines and of the spellings of plain tasks.
use Rattle.std.specs.Prelude.{◌≡◌, ℕ, ◌-◌, ◌<◌, ◌≤◌, ◌⊎◌, List, ◌∷◌, ◌++◌, length, take, All, slice_get, slice_index, Some, codes, true}
use Rattle.std.specs.List.Sorted.{IsStrictlyIncreasing}
use Rattle.std.specs.Str.{all_ascii_digits}
use Rattle.std.specs.Str.Parse.{digits_value}
use Rattle.cpt_task.specs.declared.memory.Limit.{Limit}
use Rattle.cpt_task.specs.declared.memory.Limit.TheVariants.{File, Certificate, Nesting, Objects, Parameters, LongList, Instances, Atoms, Actions, Start}
use Rattle.cpt_task.specs.Shape.{TaskShape}
use Rattle.cpt_line.specs.Lines.{split}
use Rattle.cpt_task_text.specs.Plain.{IsPlain}
use Rattle.cpt_task_text.specs.Spelling.{list_line, lines_of, spelling}

-- the first k lines of the text are the first k lines of the spelling of this plain task
pub record BeginsAs (text : List ℕ) (k : ℕ) (t : TaskShape) : Type 0 where
  pub plain : IsPlain t
  pub there : k ≤ length (split text).0
  pub same : take k (split text).0 ≡ take k (lines_of t)

-- the first k lines of the text are those of some plain task
abbrev pub Begins : List ℕ → ℕ → Type 0
Begins text k = (t : TaskShape) × BeginsAs text k t

-- digits without a leading zero, as many as there are, and their value
pub record IsNumeral (digits : List ℕ) (value : ℕ) : Type 0 where
  pub decimal : all_ascii_digits digits ≡ true
  pub some : 0 < length digits
  pub short_zero : slice_index digits 0 ≡ 48 → length digits ≡ 1
  pub worth : digits_value 10 digits ≡ value

-- a line of two counts
pub record IsCountLine (line : List ℕ) (atoms actions : ℕ) : Type 0 where
  pub first : List ℕ
  pub second : List ℕ
  pub first_worth : IsNumeral first atoms
  pub second_worth : IsNumeral second actions
  pub spelled : line ≡ codes "task " ++ (first ++ 32 ∷ second)

-- a list of an action, and how many numbers it has at most
abbrev pub HasMost : List ℕ → ℕ → Type 0
HasMost keyword most = ((keyword ≡ codes "pre") × (most ≡ 64)) ⊎ ((keyword ≡ codes "add") × (most ≡ 128)) ⊎ ((keyword ≡ codes "del") × (most ≡ 128))

-- a list of atoms in order, longer than it may be, where the task has a list of this kind in its line n
pub record IsLongerList (n : ℕ) (t : TaskShape) (line : List ℕ) : Type 0 where
  pub keyword : List ℕ
  pub most : ℕ
  pub kind : HasMost keyword most
  pub ids : List ℕ
  pub increasing : IsStrictlyIncreasing ids
  pub below : All (λ id. id < length t.atoms) ids
  pub longer : most < length ids
  pub spelled : line ≡ list_line keyword ids
  pub place : (short : List ℕ) × (slice_get (lines_of t) (n - 1) ≡ Some (list_line keyword short))

-- line n is well formed and passes this limit, where the lines before it are those of the task
abbrev pub Passes : Limit → ℕ → TaskShape → List ℕ → Type 0
Passes Atoms n t line = (n ≡ 1) × (atoms : ℕ) × (actions : ℕ) × IsCountLine line atoms actions × (2048 < atoms)
Passes Actions n t line = (n ≡ 1) × (atoms : ℕ) × (actions : ℕ) × IsCountLine line atoms actions × (atoms ≤ 2048) × (4096 < actions)
Passes LongList n t line = IsLongerList n t line
Passes File n t line = ⊥
Passes Certificate n t line = ⊥
Passes Nesting n t line = ⊥
Passes Objects n t line = ⊥
Passes Parameters n t line = ⊥
Passes Instances n t line = ⊥
Passes Start n t line = ⊥

-- line n passes this limit, and the lines before it are those of a plain task
pub record IsAtLimit (text : List ℕ) (which : Limit) (n : ℕ) : Type 0 where
  pub counted : 1 ≤ n
  pub task : TaskShape
  pub before : BeginsAs text (n - 1) task
  pub line : List ℕ
  pub there : slice_get (split text).0 (n - 1) ≡ Some line
  pub passed : Passes which n task line

-- line n is the first with which the text is not the beginning of a plain task's spelling; it passes no limit, and the text is no such spelling
pub record IsFirstFaulty (text : List ℕ) (n : ℕ) : Type 0 where
  pub counted : 1 ≤ n
  pub before : Begins text (n - 1)
  pub here : Begins text n → ⊥
  pub within : (which : Limit) → IsAtLimit text which n → ⊥
  pub no_task : (t : TaskShape) → IsPlain t → text ≡ spelling t → ⊥
