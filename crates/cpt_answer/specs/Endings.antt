use Rattle.std.specs.Prelude.{ℕ, List, ◌++◌, codes, Result, Ok, Err}
use Rattle.std.specs.Fmt.{decimal}
use Rattle.cpt_pddl.specs.declared.fault.Feature.{Feature}
use Rattle.cpt_pddl.specs.declared.fault.Feature.TheVariants as features
use Rattle.cpt_answer.specs.declared.ending.ByteFault.{ByteFault}
use Rattle.cpt_answer.specs.declared.ending.ByteFault.TheVariants as faults
use Rattle.cpt_answer.specs.declared.ending.Cause.{Cause}
use Rattle.cpt_answer.specs.declared.ending.Cause.TheVariants.{Passed, DomainByte, ProblemByte, TaskLine, PlanLine, PlanUnknown, MustLast, IsUnreachable}
use Rattle.cpt_answer.specs.declared.ending.Ending.{Ending}
use Rattle.cpt_answer.specs.declared.ending.Ending.TheVariants.{Because, Read, Memory}
use Rattle.cpt_answer.specs.declared.ending.Reply.{Reply}
use Rattle.cpt_answer.specs.Lines.{fault_line, invalid_line, limit_name, memory_line, of_line, read_line, usage_line}

-- an exit status, and the text that is written
pub record Answer : Type 0 where
  pub status : ℕ
  pub text : List ℕ

-- a status and a text
abbrev pub answer : ℕ → List ℕ → Answer
answer status text = record { status = status; text = text }

-- the word for a form that is not taken
abbrev pub feature_word : Feature → List ℕ
feature_word features.Either = codes "either"
feature_word features.Section = codes "section"
feature_word features.Conditional = codes "conditional"
feature_word features.Quantifier = codes "quantifier"
feature_word features.Disjunction = codes "disjunction"
feature_word features.Preference = codes "preference"
feature_word features.Negative = codes "negative"
feature_word features.Numeric = codes "numeric"
feature_word features.Timed = codes "timed"
feature_word features.GoalEquality = codes "goal-equality"
feature_word features.Duration = codes "duration"
feature_word features.Metric = codes "metric"

-- the word for a fault at a byte
abbrev pub byte_fault_word : ByteFault → List ℕ
byte_fault_word faults.BadByte = codes "bad-byte"
byte_fault_word faults.Unopened = codes "unopened"
byte_fault_word faults.Unclosed = codes "unclosed"
byte_fault_word faults.Shape = codes "shape"
byte_fault_word faults.BadName = codes "name"
byte_fault_word faults.Twice = codes "twice"
byte_fault_word faults.BadType = codes "type"
byte_fault_word faults.Arity = codes "arity"
byte_fault_word faults.Window = codes "window"
byte_fault_word faults.Duration = codes "duration"
byte_fault_word faults.OtherDomain = codes "other-domain"
byte_fault_word (faults.Feature feature) = codes "feature " ++ feature_word feature

-- a fault at a place of a text
abbrev pub place_line : List ℕ → ℕ → List ℕ → List ℕ
place_line text at word = fault_line (text ++ decimal at ++ codes ": " ++ word)

-- the status and the line of each cause
abbrev pub cause_answer : Cause → Answer
cause_answer (MustLast line dur) = answer 1 (invalid_line (of_line line (codes " must last " ++ decimal dur)))
cause_answer (IsUnreachable line) = answer 1 (invalid_line (of_line line (codes " is unreachable")))
cause_answer (DomainByte at fault) = answer 4 (place_line (codes "domain byte ") at (byte_fault_word fault))
cause_answer (ProblemByte at fault) = answer 4 (place_line (codes "problem byte ") at (byte_fault_word fault))
cause_answer (TaskLine line) = answer 4 (place_line (codes "task line ") line (codes "line"))
cause_answer (PlanLine line) = answer 4 (place_line (codes "plan line ") line (codes "line"))
cause_answer (PlanUnknown line) = answer 4 (place_line (codes "plan line ") line (codes "unknown"))
cause_answer (Passed limit) = answer 6 (fault_line (codes "limit " ++ limit_name limit))

-- what is answered where the words ask for no command, where a file cannot be read, and where memory is refused
abbrev pub usage_answer : Answer
usage_answer = answer 5 usage_line

-- the answer where a file is not read
abbrev pub read_answer : Answer
read_answer = answer 7 read_line

-- the answer where memory ran out
abbrev pub memory_answer : Answer
memory_answer = answer 9 memory_line

-- what is answered at an ending
abbrev pub ending_answer : Ending → Answer
ending_answer (Because cause) = cause_answer cause
ending_answer Read = read_answer
ending_answer Memory = memory_answer

-- what is answered in all: the result, or the ending
abbrev pub answer_of : Result Answer Ending → Answer
answer_of (Ok given) = given
answer_of (Err ending) = ending_answer ending

-- a reply as an answer
abbrev pub reply_answer : Reply → Answer
reply_answer reply = answer reply.status reply.text.items

-- a reply's result as an answer's
abbrev pub told : Result Reply Ending → Result Answer Ending
told (Ok reply) = Ok (reply_answer reply)
told (Err ending) = Err ending
