use Rattle.std.specs.Prelude.{◌≡◌, ◌<◌, ◌≤◌, ℕ, List, length, Result, Ok, Err}
use Rattle.cpt_task.specs.Shape.{TaskShape}
use Rattle.cpt_task.specs.declared.memory.Limit.TheVariants.{Certificate}
use Rattle.cpt_tables.specs.declared.tables.Tables.{Tables}
use Rattle.cpt_answer.specs.declared.ending.Cause.TheVariants.{Passed}
use Rattle.cpt_answer.specs.declared.ending.Ending.{Ending}
use Rattle.cpt_answer.specs.declared.ending.Ending.TheVariants.{Because}
use Rattle.cpt_cert_form.specs.declared.forms.Version.TheVariants.{Two}
use Rattle.cpt_check.specs.declared.judged.Judged.{Judged}
use Rattle.cpt_check.specs.declared.judged.Ruling.TheVariants.{Accepted}
use Rattle.cpt_check_files.specs.Rulings.{cert_limit}
use Rattle.cpt_outcome.specs.Outcomes.{SearchOutcome}
use Rattle.cpt_evidence.specs.Evidence.{claim_of}
use Rattle.cpt_certify.specs.Proving.{IsProofOf}
use Rattle.cpt_options.specs.declared.options.Budget.{Budget}

-- A certificate of the outcome, of the second version, is judged: it is accepted with the outcome's claim. Or it is too long.
abbrev pub JudgesProof : TaskShape → Tables → Budget → SearchOutcome → Result Judged Ending → Type 0
JudgesProof t b budget o (Ok judged) =
    (text : List ℕ) × IsProofOf t b budget.max budget.nodes o Two text × (length text ≤ cert_limit) × (judged.ruling ≡ Accepted (claim_of budget.max budget.nodes o))
JudgesProof t b budget o (Err e) = (text : List ℕ) × IsProofOf t b budget.max budget.nodes o Two text × (cert_limit < length text) × (e ≡ Because (Passed Certificate))
