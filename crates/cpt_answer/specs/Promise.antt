use Rattle.std.specs.Prelude.{◌≡◌, ◌≢◌, ℕ, ◌<◌, ◌⊎◌, Bool, IsTrue, List, Option, Result, IfSome}
use Rattle.cpt_io.specs.Meaning.{Files}
use Rattle.cpt_answer.specs.declared.ending.Ending.{Ending}
use Rattle.cpt_answer.specs.Endings.{Answer, answer_of, memory_answer, read_answer}
use Rattle.cpt_answer.specs.Lines.{memory_line, read_line}
use Rattle.cpt_answer.specs.Writing.{Output, Writes}

-- a call over a library and an output: whether the library was steady, how many of its calls had failed before and after, the output
-- before and after, and the status
pub record Call : Type 0 where
  pub steady : Bool
  pub before : ℕ
  pub now : ℕ
  pub old : Output
  pub new : Output
  pub status : ℕ

-- a call: whether its library is steady, its counts of failed calls, its output before and after, its status
abbrev pub call : Bool → (before now : ℕ) → (old new : Output) → ℕ → Call
call steady before now old new status = record { steady = steady; before = before; now = now; old = old; new = new; status = status }

-- What a call did, of which these are the answers: it wrote one of them; or a read failed, over a steady library only where that is
-- an answer; or memory was refused. In each case a write may have failed.
pub data Performs (A : Answer → Type 0) (x : Call) : Type 0 where
  answers : (a : Answer) → A a → a.status < 7 → x.now ≡ x.before → Writes x.old x.new a x.status → Performs A x
  cannot_read : (IsTrue x.steady → A read_answer) → x.before < x.now → Writes x.old x.new read_answer x.status → Performs A x
  wants_memory : x.now ≡ x.before → Writes x.old x.new memory_answer x.status → Performs A x

-- no write failed, and no read did either, or none can but where a name is not held
pub record IsUndisturbed (x : Call) : Type 0 where
  pub output : x.new.faults ≡ x.old.faults
  pub library : (x.now ≡ x.before) ⊎ IsTrue x.steady

-- no write failed, and no read did either, or none could: the library is steady, and the files are held
pub record IsQuiet (held : Type 0) (x : Call) : Type 0 where
  pub output : x.new.faults ≡ x.old.faults
  pub library : (x.now ≡ x.before) ⊎ (IsTrue x.steady × held)

-- an answer of what is come to
abbrev pub IsAnswerOf : (Result Answer Ending → Type 0) → Answer → Type 0
IsAnswerOf P a = (r : Result Answer Ending) × P r × (a ≡ answer_of r)

-- an answer over the files, where they are told; that no command is asked for is none
pub record AnswersOver (o : Option Files) (P : Files → Result Answer Ending → Type 0) (a : Answer) : Type 0 where
  pub over : IfSome o (λ files. IsAnswerOf (P files) a)
  pub asked : a.status ≢ 5

-- a text that may be written: that of an answer, or that a file cannot be read or memory was refused
abbrev pub MayWrite : (Answer → Type 0) → List ℕ → Type 0
MayWrite A text = ((a : Answer) × A a × (text ≡ a.text)) ⊎ (text ≡ read_line) ⊎ (text ≡ memory_line)
