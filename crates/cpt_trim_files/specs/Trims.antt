use Rattle.std.specs.Prelude.{◌≡◌, ℕ, List, Option, Result, Ok}
use Rattle.cpt_io.specs.Meaning.{Files}
use Rattle.cpt_task.specs.Shape.{TaskShape}
use Rattle.cpt_cert_form.specs.declared.forms.Version.{Version}
use Rattle.cpt_cert_form.specs.declared.forms.Claim.{Claim}
use Rattle.cpt_cert_accept.specs.declared.faults.Why.{Why}
use Rattle.cpt_check.specs.Judging.{IsRejected}
use Rattle.cpt_trim.specs.Trimming.{IsTrimmed, trim_limit}
use Rattle.cpt_trim.specs.Without.{without}
use Rattle.cpt_answer.specs.declared.ending.Ending.{Ending}
use Rattle.cpt_answer.specs.Endings.{Answer, answer}
use Rattle.cpt_cert_file.specs.Held.{OverText}
use Rattle.cpt_check_files.specs.Rulings.{rejected_lines}

-- What trimming a text over a task answers: the text without its needless step lines, or the lines of `check` where it is
-- no certificate. Which step lines are left out is not fixed.
pub data TrimsText (t : TaskShape) (text : List ℕ) (r : Result Answer Ending) : Type 0 where
  trimmed : (version : Version) (claim : Claim) (dropped : List ℕ) → IsTrimmed t text version claim dropped → r ≡ Ok (answer 0 (without text dropped)) → TrimsText t text r
  rejected : (version : Option Version) (line : ℕ) (why : Why) → IsRejected t trim_limit text version line why → r ≡ Ok (answer 1 (rejected_lines version line why)) → TrimsText t text r

-- what trimming the certificate in a file over the domain and the problem of two others comes to
abbrev pub TrimsFiles : Files → (domain_name problem_name cert_name : List ℕ) → Result Answer Ending → Type 0
TrimsFiles files domain_name problem_name cert_name = OverText files domain_name problem_name cert_name TrimsText
