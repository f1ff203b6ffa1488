use Rattle.std.specs.Prelude.{ℕ, nat_lt, if◌then◌else◌, List, length, Option, None, Some, Result, Ok, Err}
use Rattle.cpt_io.specs.Meaning.{Files}
use Rattle.cpt_task.specs.declared.memory.Limit.TheVariants.{File}
use Rattle.cpt_io.specs.declared.library.ReadError.{ReadError}
use Rattle.cpt_io.specs.declared.library.ReadError.TheVariants as read_errors
use Rattle.cpt_task.specs.Shape.{TaskShape}
use Rattle.cpt_task_text.specs.declared.error.TaskTextError.{TaskTextError}
use Rattle.cpt_task_text.specs.declared.error.TaskTextError.TheVariants as task_errors
use Rattle.cpt_plan_text.specs.declared.roster.Found.{Found}
use Rattle.cpt_plan_text.specs.declared.reading.PlanText.{PlanText}
use Rattle.cpt_plan_text.specs.declared.reading.PlanTextError.{PlanTextError}
use Rattle.cpt_plan_text.specs.declared.reading.PlanTextError.TheVariants as plan_errors
use Rattle.cpt_task_text.specs.Reading.{task_of}
use Rattle.cpt_plan_text.specs.Knowing.{task_finds}
use Rattle.cpt_plan_text.specs.Meaning.{plan_of}
use Rattle.cpt_answer.specs.Giving.{◌>>=◌, ended}
use Rattle.cpt_answer.specs.declared.ending.Ending.{Ending}
use Rattle.cpt_answer.specs.declared.ending.Ending.TheVariants.{Because, Read, Memory}
use Rattle.cpt_answer.specs.declared.ending.Cause.TheVariants.{Passed, DomainByte, ProblemByte, TaskLine, PlanLine, PlanUnknown, MustLast, IsUnreachable}

-- the ending at a fault of reading
abbrev pub read_ending : ReadError → Ending
read_ending read_errors.Failed = Read
read_ending read_errors.TooLong = Because (Passed File)
read_ending read_errors.Memory = Memory

-- the ending at a fault of a task text
abbrev pub task_ending : TaskTextError → Ending
task_ending (task_errors.Line n) = Because (TaskLine n)
task_ending (task_errors.Limit which) = Because (Passed which)
task_ending task_errors.Memory = Memory

-- the ending at a fault of a plan text
abbrev pub plan_ending : PlanTextError → Ending
plan_ending (plan_errors.Line n) = Because (PlanLine n)
plan_ending (plan_errors.Unknown n) = Because (PlanUnknown n)
plan_ending (plan_errors.Limit which) = Because (Passed which)
plan_ending (plan_errors.Duration n dur) = Because (MustLast n dur)
plan_ending (plan_errors.Unreachable n) = Because (IsUnreachable n)
plan_ending plan_errors.Memory = Memory

-- a text of at most 16 MiB; a file that is not held cannot be read
abbrev pub within_limit : Option (List ℕ) → Result (List ℕ) Ending
within_limit None = Err Read
within_limit (Some bytes) = if nat_lt 16777216 (length bytes) then Err (Because (Passed File)) else Ok bytes

-- the text of a file
abbrev pub text_under : Files → List ℕ → Result (List ℕ) Ending
text_under files name = within_limit (files name)

-- the task in a file
abbrev pub task_under : Files → List ℕ → Result TaskShape Ending
task_under files name = do
  bytes ← text_under files name
  ended task_ending (task_of bytes)

-- the plan in a file, over a task, by what is known of names
abbrev pub plan_by : Files → (List ℕ → Found) → TaskShape → List ℕ → Result PlanText Ending
plan_by files finds task name = do
  bytes ← text_under files name
  ended plan_ending (plan_of finds task bytes)

-- the plan in a file, over a task that knows its actions by their names
abbrev pub plan_under : Files → TaskShape → List ℕ → Result PlanText Ending
plan_under files task name = plan_by files (task_finds task) task name
