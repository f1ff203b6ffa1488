use Rattle.std.specs.Prelude.{◌≡◌, ℕ, ◌<◌, ◌⊎◌, List, Option, Result, Ok, Err}
use Rattle.std.specs.Io.KnownBytes.{append_known}
use Rattle.cpt_io.specs.Meaning.{AppendsFront}
use Rattle.cpt_answer.specs.declared.ending.Ending.{Ending}
use Rattle.cpt_answer.specs.declared.ending.Ending.TheVariants.{Because, Read, Memory}
use Rattle.cpt_answer.specs.Endings.{Answer, cause_answer, memory_answer, read_answer}

-- an output before a call or after it: how many writes have failed, and what was written, where it is told
pub record Output : Type 0 where
  pub faults : ℕ
  pub written : Option (List ℕ)

-- an output: its count of failed calls, and what is written where that is told
abbrev pub output : ℕ → Option (List ℕ) → Output
output faults written = record { faults = faults; written = written }

-- the text was written whole, and the status is that of the answer
pub record WritesWhole (old new : Output) (answer : Answer) (status : ℕ) : Type 0 where
  pub status_is : status ≡ answer.status
  pub faults : new.faults ≡ old.faults
  pub written : new.written ≡ append_known old.written answer.text

-- a write failed, a front of the text was written, and the status is 8
pub record WritesFront (old new : Output) (answer : Answer) (status : ℕ) : Type 0 where
  pub status_is : status ≡ 8
  pub faults : old.faults < new.faults
  pub written : AppendsFront old.written new.written answer.text

-- the text was written, or a write failed
abbrev pub Writes : Output → Output → Answer → ℕ → Type 0
Writes old new answer status = WritesWhole old new answer status ⊎ WritesFront old new answer status

-- the result is written, or how it ends; where the line of a cause cannot be made, that memory was refused
abbrev pub Tells : Result Answer Ending → Output → Output → ℕ → Type 0
Tells (Ok answer) old new status = Writes old new answer status
Tells (Err (Because cause)) old new status = Writes old new (cause_answer cause) status ⊎ Writes old new memory_answer status
Tells (Err Read) old new status = Writes old new read_answer status
Tells (Err Memory) old new status = Writes old new memory_answer status
