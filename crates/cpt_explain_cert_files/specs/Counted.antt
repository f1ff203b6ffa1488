use Rattle.std.specs.Prelude.{◌≡◌, ℕ, List, [], ◌++◌, Result, Ok}
use Rattle.cpt_io.specs.Meaning.{Files}
use Rattle.cpt_task.specs.Shape.{TaskShape}
use Rattle.cpt_cert_form.specs.declared.forms.Version.{Version}
use Rattle.cpt_cert_form.specs.declared.forms.Claim.{Claim}
use Rattle.cpt_check.specs.declared.judged.Judged.{Judged}
use Rattle.cpt_check.specs.declared.judged.Ruling.{Ruling}
use Rattle.cpt_check.specs.declared.judged.Ruling.TheVariants.{Accepted, Rejected}
use Rattle.cpt_check.specs.Judging.{RulesOf}
use Rattle.cpt_counts.specs.declared.kinds.Counts.{Counts}
use Rattle.cpt_counts.specs.Counting.{AreCounts}
use Rattle.cpt_answer.specs.declared.ending.Ending.{Ending}
use Rattle.cpt_answer.specs.Endings.{Answer, answer}
use Rattle.cpt_cert_file.specs.Held.{OverText}
use Rattle.cpt_cert_file.specs.Texts.{text_limit}
use Rattle.cpt_check_files.specs.Rulings.{accepted_lines, ruling_answer, ruling_status}
use Rattle.cpt_explain_cert_files.specs.Numbers.{counts_lines}

-- the lines of the counts, which are written of a certificate alone
abbrev pub ruling_counts : Ruling → Counts → List ℕ
ruling_counts (Accepted claim) counts = counts_lines counts
ruling_counts (Rejected line why) counts = []

-- what is answered at a ruling: what `check` writes, and behind it the lines of the counts
abbrev pub counted_answer : Judged → Counts → Answer
counted_answer judged counts = answer (ruling_status judged.ruling) ((ruling_answer judged).text ++ ruling_counts judged.ruling counts)

-- what is written of an accepted certificate
abbrev pub counted_lines : Version → Claim → Counts → List ℕ
counted_lines version claim counts = accepted_lines version claim ++ counts_lines counts

-- what is answered to a text over a task: its ruling, and the numbers of its lines
abbrev pub CountsText : TaskShape → List ℕ → Result Answer Ending → Type 0
CountsText t text r = (judged : Judged) × RulesOf t text_limit text judged.version judged.ruling × ((counts : Counts) × AreCounts text counts × (r ≡ Ok (counted_answer judged counts)))

-- what checking the certificate in a file over the domain and the problem of two others and counting its lines comes to
abbrev pub CountsFiles : Files → (domain_name problem_name cert_name : List ℕ) → Result Answer Ending → Type 0
CountsFiles files domain_name problem_name cert_name = OverText files domain_name problem_name cert_name CountsText
