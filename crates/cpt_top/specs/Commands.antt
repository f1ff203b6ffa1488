use Rattle.std.specs.Prelude.{◌≡◌, ℕ, List, Option, None, Some, Result, IfSome}
use Rattle.cpt_io.specs.Meaning.{Files}
use Rattle.cpt_answer.specs.declared.ending.Ending.{Ending}
use Rattle.cpt_answer.specs.Endings.{Answer, usage_answer}
use Rattle.cpt_answer.specs.Promise.{Call, IsAnswerOf}
use Rattle.cpt_words.specs.Laws.{IsUsage}
use Rattle.cpt_words.specs.Words.{Asked, asked_in, benching, checking, counting, explaining, exporting, json_validation, judging, listing, proving, solving, tightening, trimming, validation}
use Rattle.cpt_validate.specs.Commands.{ValidatesProblem, ValidatesTask}
use Rattle.cpt_validate.specs.Verdicts.{JudgesFiles, JudgesPlan}
use Rattle.cpt_listing.specs.Listing.{ListsProblem, ListsTask}
use Rattle.cpt_check_files.specs.Commands.{ChecksProblem}
use Rattle.cpt_check_files.specs.Rulings.{ChecksFiles}
use Rattle.cpt_bench.specs.Commands.{BenchesMade, BenchesProblem}
use Rattle.cpt_prove.specs.Commands.{ProvesFiles, ProvesProblem}
use Rattle.cpt_trim_files.specs.Commands.{TrimsProblem}
use Rattle.cpt_trim_files.specs.Trims.{TrimsFiles}
use Rattle.cpt_plan_files.specs.Commands.{ExplainsProblem, TightensProblem}
use Rattle.cpt_plan_files.specs.Tightening.{TightensPlan}
use Rattle.cpt_plan_files.specs.Explaining.{ExplainsPlan}
use Rattle.cpt_explain_cert_files.specs.Commands.{CountsProblem}
use Rattle.cpt_explain_cert_files.specs.Counted.{CountsFiles}
use Rattle.cpt_json_files.specs.Exporting.{ExportsProblem, ExportsTask}
use Rattle.cpt_json_files.specs.Validating.{JudgesJson, ValidatesJson}
use Rattle.cpt_solve.specs.Commands.{SolvesFiles, SolvesProblem}

-- what a command comes to over the files
abbrev pub Reaches : Files → Asked → Result Answer Ending → Type 0
Reaches files (validation task_name plan_name) = JudgesFiles files task_name plan_name
Reaches files (judging domain_name problem_name plan_name) = JudgesPlan files domain_name problem_name plan_name
Reaches files (listing domain_name problem_name) = ListsTask files domain_name problem_name
Reaches files (checking domain_name problem_name cert_name) = ChecksFiles files domain_name problem_name cert_name
Reaches files (solving domain_name problem_name budget) = SolvesFiles files domain_name problem_name budget
Reaches files (proving domain_name problem_name budget version) = ProvesFiles files domain_name problem_name budget version
Reaches files (trimming domain_name problem_name cert_name) = TrimsFiles files domain_name problem_name cert_name
Reaches files (tightening domain_name problem_name plan_name) = TightensPlan files domain_name problem_name plan_name
Reaches files (explaining domain_name problem_name plan_name) = ExplainsPlan files domain_name problem_name plan_name
Reaches files (counting domain_name problem_name cert_name) = CountsFiles files domain_name problem_name cert_name
Reaches files (exporting domain_name problem_name) = ExportsTask files domain_name problem_name
Reaches files (json_validation task_name plan_name) = JudgesJson files task_name plan_name
Reaches files (benching n) = BenchesMade n

-- what a command promises of a call, over the files
abbrev pub Keeps : Files → Asked → Call → Type 0
Keeps files (validation task_name plan_name) = ValidatesTask files task_name plan_name
Keeps files (judging domain_name problem_name plan_name) = ValidatesProblem files domain_name problem_name plan_name
Keeps files (listing domain_name problem_name) = ListsProblem files domain_name problem_name
Keeps files (checking domain_name problem_name cert_name) = ChecksProblem files domain_name problem_name cert_name
Keeps files (solving domain_name problem_name budget) = SolvesProblem files domain_name problem_name budget
Keeps files (proving domain_name problem_name budget version) = ProvesProblem files domain_name problem_name budget version
Keeps files (trimming domain_name problem_name cert_name) = TrimsProblem files domain_name problem_name cert_name
Keeps files (tightening domain_name problem_name plan_name) = TightensProblem files domain_name problem_name plan_name
Keeps files (explaining domain_name problem_name plan_name) = ExplainsProblem files domain_name problem_name plan_name
Keeps files (counting domain_name problem_name cert_name) = CountsProblem files domain_name problem_name cert_name
Keeps files (exporting domain_name problem_name) = ExportsProblem files domain_name problem_name
Keeps files (json_validation task_name plan_name) = ValidatesJson files task_name plan_name
Keeps files (benching n) = BenchesProblem n

-- an answer over the files to what is asked for: one of the command, or where none is asked for that none is
abbrev pub AnswersTo : Files → Option Asked → Answer → Type 0
AnswersTo files (Some asked) a = IsAnswerOf (Reaches files asked) a
AnswersTo files None a = a ≡ usage_answer

-- an answer to the words over the files
abbrev pub Answers : Files → List (List ℕ) → Answer → Type 0
Answers files words = AnswersTo files (asked_in words)

-- an answer to the words over the files, where they are told; that no command is asked for is one only where none is
pub record AnswersWords (o : Option Files) (words : List (List ℕ)) (a : Answer) : Type 0 where
  pub over : IfSome o (λ files. Answers files words a)
  pub asked : a.status ≡ 5 → IsUsage words

-- what is asked for leaves nothing free in its answer; which steps a certificate has is free
abbrev pub IsSettled : Asked → Type 0
IsSettled (validation task_name plan_name) = Unit {0}
IsSettled (judging domain_name problem_name plan_name) = Unit {0}
IsSettled (listing domain_name problem_name) = Unit {0}
IsSettled (checking domain_name problem_name cert_name) = Unit {0}
IsSettled (solving domain_name problem_name budget) = Unit {0}
IsSettled (proving domain_name problem_name budget version) = ⊥
IsSettled (trimming domain_name problem_name cert_name) = ⊥
IsSettled (tightening domain_name problem_name plan_name) = Unit {0}
IsSettled (explaining domain_name problem_name plan_name) = Unit {0}
IsSettled (counting domain_name problem_name cert_name) = Unit {0}
IsSettled (exporting domain_name problem_name) = Unit {0}
IsSettled (json_validation task_name plan_name) = Unit {0}
IsSettled (benching n) = ⊥

-- what is asked for names the files that are read
abbrev pub NamesFiles : Asked → Type 0
NamesFiles (validation task_name plan_name) = Unit {0}
NamesFiles (judging domain_name problem_name plan_name) = Unit {0}
NamesFiles (listing domain_name problem_name) = Unit {0}
NamesFiles (checking domain_name problem_name cert_name) = Unit {0}
NamesFiles (solving domain_name problem_name budget) = Unit {0}
NamesFiles (proving domain_name problem_name budget version) = Unit {0}
NamesFiles (trimming domain_name problem_name cert_name) = Unit {0}
NamesFiles (tightening domain_name problem_name plan_name) = Unit {0}
NamesFiles (explaining domain_name problem_name plan_name) = Unit {0}
NamesFiles (counting domain_name problem_name cert_name) = Unit {0}
NamesFiles (exporting domain_name problem_name) = Unit {0}
NamesFiles (json_validation task_name plan_name) = Unit {0}
NamesFiles (benching n) = ⊥

-- words over files have at most one answer, where what they ask for leaves nothing free in it
abbrev pub OneAnswer : Type 0
OneAnswer = (files : Files) (words : List (List ℕ)) (a b : Answer) → IfSome (asked_in words) IsSettled → Answers files words a → Answers files words b → a ≡ b
