use Rattle.std.specs.Prelude.{◌≡◌, ℕ, List, [], ◌++◌, codes, Option, None, Some, Result, Ok, Err}
use Rattle.std.specs.Fmt.{decimal}
use Rattle.cpt_io.specs.Meaning.{Files}
use Rattle.cpt_task.specs.Shape.{TaskShape}
use Rattle.cpt_task.specs.declared.memory.Limit.TheVariants.{Certificate}
use Rattle.cpt_cert_form.specs.declared.forms.Version.{Version}
use Rattle.cpt_cert_form.specs.declared.forms.Version.TheVariants.{One, Two}
use Rattle.cpt_cert_form.specs.declared.forms.Claim.{Claim}
use Rattle.cpt_cert_form.specs.declared.forms.Claim.TheVariants.{Optimal, NoneUpTo, Never, Spent}
use Rattle.cpt_cert_accept.specs.declared.faults.Why.{Why}
use Rattle.cpt_cert_accept.specs.declared.faults.Why.TheVariants as whys
use Rattle.cpt_check.specs.declared.judged.Judged.{Judged}
use Rattle.cpt_check.specs.declared.judged.Ruling.{Ruling}
use Rattle.cpt_check.specs.declared.judged.Ruling.TheVariants.{Accepted, Rejected}
use Rattle.cpt_check.specs.declared.judged.CheckError.{CheckError}
use Rattle.cpt_check.specs.declared.judged.CheckError.TheVariants as errors
use Rattle.cpt_check.specs.Judging.{RulesOf, IsTooLong}
use Rattle.cpt_answer.specs.declared.ending.Ending.{Ending}
use Rattle.cpt_answer.specs.declared.ending.Cause.TheVariants.{Passed}
use Rattle.cpt_answer.specs.declared.ending.Ending.TheVariants as endings
use Rattle.cpt_answer.specs.Endings.{Answer}
use Rattle.cpt_files.specs.Accepted.{AcceptsTask}
use Rattle.cpt_answer.specs.Giving.{Then, ThenBy}
use Rattle.cpt_answer.specs.Lines.{line_of}

-- the most bytes that are taken of a certificate
abbrev pub cert_limit : ℕ
cert_limit = 68719476736

-- the line that names the version, where it is known
abbrev pub version_line : Option Version → List ℕ
version_line None = []
version_line (Some One) = line_of (codes "version 1")
version_line (Some Two) = line_of (codes "version 2")

-- what a claim says
abbrev pub claim_words : Claim → List ℕ
claim_words (Optimal m) = codes "optimal " ++ decimal m
claim_words (NoneUpTo m) = codes "no plan up to " ++ decimal m
claim_words Never = codes "no plan"
claim_words (Spent refuted nodes) = codes "refuted " ++ decimal refuted ++ codes " nodes " ++ decimal nodes

-- the word for a reason
abbrev pub why_word : Why → List ℕ
why_word whys.Grammar = codes "grammar"
why_word whys.Task = codes "task"
why_word whys.Plan = codes "plan"
why_word whys.Pair = codes "pair"
why_word whys.Dist = codes "dist"
why_word whys.Goal = codes "goal"
why_word whys.Bound = codes "bound"
why_word whys.Step = codes "step"
why_word whys.Close = codes "close"
why_word whys.Branch = codes "branch"
why_word whys.Child = codes "child"
why_word whys.Count = codes "count"

-- the line of an accepted certificate
abbrev pub accepted_line : Claim → List ℕ
accepted_line claim = line_of (codes "accepted: " ++ claim_words claim)

-- the line of a text that is no certificate
abbrev pub rejected_line : ℕ → Why → List ℕ
rejected_line line why = line_of (codes "rejected: line " ++ decimal line ++ codes ": " ++ why_word why)

-- the line that tells a ruling
abbrev pub ruling_line : Ruling → List ℕ
ruling_line (Accepted claim) = accepted_line claim
ruling_line (Rejected line why) = rejected_line line why

-- the exit status at a ruling: 0 where the certificate is accepted
abbrev pub ruling_status : Ruling → ℕ
ruling_status (Accepted claim) = 0
ruling_status (Rejected line why) = 1

-- what is answered at a ruling: the version's line, and then that of the ruling
abbrev pub ruling_answer : Judged → Answer
ruling_answer judged = record { status = ruling_status judged.ruling; text = version_line judged.version ++ ruling_line judged.ruling }

-- what is written of an accepted certificate, and of a text that is none
abbrev pub accepted_lines : Version → Claim → List ℕ
accepted_lines version claim = version_line (Some version) ++ accepted_line claim

-- the line of the version, where it is told, and that of the fault
abbrev pub rejected_lines : Option Version → ℕ → Why → List ℕ
rejected_lines version line why = version_line version ++ rejected_line line why

-- the ending where a text is not judged
abbrev pub check_ending : CheckError → Ending
check_ending errors.Failed = endings.Read
check_ending errors.TooLong = endings.Because (Passed Certificate)
check_ending errors.Memory = endings.Memory

-- the bytes of a file; one that is not held cannot be read
abbrev pub bytes_of : Option (List ℕ) → Result (List ℕ) Ending
bytes_of None = Err endings.Read
bytes_of (Some bytes) = Ok bytes

-- the bytes of a file, or why there are none
abbrev pub bytes_under : Files → List ℕ → Result (List ℕ) Ending
bytes_under files name = bytes_of (files name)

-- what checking a text over a task comes to: it is accepted or rejected, or it is too long
abbrev pub RulesText : TaskShape → List ℕ → Result Judged Ending → Type 0
RulesText t text (Ok judged) = RulesOf t cert_limit text judged.version judged.ruling
RulesText t text (Err e) = IsTooLong t cert_limit text × (e ≡ endings.Because (Passed Certificate))

-- what checking the text of a file comes to
abbrev pub RulesFile : Files → TaskShape → List ℕ → Result Judged Ending → Type 0
RulesFile files t name = Then (bytes_under files name) (RulesText t)

-- the answer is that of the ruling
abbrev pub AnswersRuling : Judged → Result Answer Ending → Type 0
AnswersRuling judged r = r ≡ Ok (ruling_answer judged)

-- What checking the text of a file over the domain and the problem of two others comes to: the kept task is made before the
-- certificate is opened, and the text is judged over it.
abbrev pub ChecksFiles : Files → (domain_name problem_name cert_name : List ℕ) → Result Answer Ending → Type 0
ChecksFiles files domain_name problem_name cert_name =
    ThenBy (AcceptsTask files domain_name problem_name) (λ a. ThenBy (RulesFile files a.kept.task cert_name) AnswersRuling)
