use Rattle.std.proofs.Common.{◌≡◌, ◌≤◌, ℕ, inl, inr, List, Option, Some, Result, Ok, Err, arith, sym, ap, ◌∙◌}
use Rattle.cpt_io.specs.Meaning.{Files}
use Rattle.cpt_task.specs.Shape.{TaskShape, InBounds}
use Rattle.cpt_cert_form.specs.declared.forms.Claim.{Claim}
use Rattle.cpt_cert_form.specs.declared.forms.Version.{Version}
use Rattle.cpt_cert_read.proofs.Splits.{lines_once}
use Rattle.cpt_cert_accept.specs.declared.faults.Why.{Why}
use Rattle.cpt_cert_accept.proofs.OneText.{no_fault, one_claim, one_fault}
use Rattle.cpt_sections.specs.Stages.{version_in}
use Rattle.cpt_check.specs.declared.judged.Judged.{Judged}
use Rattle.cpt_check.specs.declared.judged.Ruling.{Ruling}
use Rattle.cpt_check.specs.declared.judged.Ruling.TheVariants.{Accepted, Rejected}
use Rattle.cpt_check.specs.Judging.{IsAccepted, IsRejected, IsTooLong, IsVersionOf, RulesOf}
use Rattle.cpt_answer.specs.declared.ending.Ending.{Ending}
use Rattle.cpt_answer.proofs.Giving.{then_once}
use Rattle.cpt_check_files.specs.Rulings.{RulesFile, RulesText, bytes_under, cert_limit}

abbrev pub judged : Option Version → Ruling → Judged
judged version ruling = record { version = version; ruling = ruling }

-- a text has one version
version_once : (text : List ℕ) (v w : Option Version) → IsVersionOf text v → IsVersionOf text w → v ≡ w
version_once text v w h k = h.2 ∙ ap version_in (lines_once text h.0 k.0 h.1 k.1) ∙ sym k.2

module _ (t : TaskShape) (most : ℕ) (text : List ℕ) where
  claims_once : InBounds t → (v w : Option Version) (a b : Claim) → IsAccepted t most text v a → IsAccepted t most text w b → judged v (Accepted a) ≡ judged w (Accepted b)
  claims_once inside v w a b h k =
      let e = one_claim t text h.named k.named a b inside h.accepts k.accepts in
      let version : Option Version → Judged = λ x. judged x (Accepted a) in
      let claim : Claim → Judged = λ c. judged w (Accepted c) in
      ap version (h.version_is ∙ ap Some e.0 ∙ sym k.version_is) ∙ ap claim e.1

  -- and one first fault
  pub faults_once : (v w : Option Version) (line also : ℕ) (why other : Why) → IsRejected t most text v line why → IsRejected t most text w also other → judged v (Rejected line why) ≡ judged w (Rejected also other)
  faults_once v w line also why other h k =
      let e = one_fault t text line also why other h.first k.first in
      let version : Option Version → Judged = λ x. judged x (Rejected line why) in
      let place : ℕ → Judged = λ n. judged w (Rejected n why) in
      let cause : Why → Judged = λ y. judged w (Rejected also y) in
      ap version (version_once text v w h.version_is k.version_is) ∙ ap place e.0 ∙ ap cause e.1

  -- a certificate has no fault
  never_both : InBounds t → most ≤ cert_limit → (v w : Option Version) (claim : Claim) (line : ℕ) (why : Why) → IsAccepted t most text v claim → IsRejected t most text w line why → ⊥
  never_both inside short v w claim line why h k = no_fault t text h.named claim line why inside (omega (arith, h.size, short)) h.accepts k.first

  -- a text is ruled on in one way
  pub ruling_once : InBounds t → most ≤ cert_limit → (v w : Option Version) (a b : Ruling) → RulesOf t most text v a → RulesOf t most text w b → judged v a ≡ judged w b
  ruling_once inside short v w (Accepted a) (Accepted b) h k = claims_once inside v w a b h k
  ruling_once inside short v w (Accepted a) (Rejected line why) h k = absurd (never_both inside short v w a line why h k)
  ruling_once inside short v w (Rejected line why) (Accepted b) h k = absurd (never_both inside short w v b line why k h)
  ruling_once inside short v w (Rejected line why) (Rejected also other) h k = faults_once v w line also why other h k

-- a text that is ruled on is not too long
not_too_long : (t : TaskShape) (text : List ℕ) (v : Option Version) (a : Ruling) → RulesOf t cert_limit text v a → IsTooLong t cert_limit text → ⊥
not_too_long t text v (Accepted claim) h k = omega (arith, h.size, k.size)
not_too_long t text v (Rejected line why) h k = elim h.known [ inl short ↦ omega (arith, short, k.size) | inr stands ↦ k.faultless line why stands ]

rules_once : (t : TaskShape) → InBounds t → (text : List ℕ) (r s : Result Judged Ending) → RulesText t text r → RulesText t text s → r ≡ s
rules_once t inside text (Ok a) (Ok b) h k = ap Ok (ruling_once t cert_limit text inside (omega arith) a.version b.version a.ruling b.ruling h k)
rules_once t inside text (Ok a) (Err e) h k = absurd (not_too_long t text a.version a.ruling h k.0)
rules_once t inside text (Err e) (Ok b) h k = absurd (not_too_long t text b.version b.ruling k h.0)
rules_once t inside text (Err e) (Err f) h k = ap Err (h.1 ∙ sym k.1)

-- a text in a file comes to one end over a task
pub rules_file_once : (files : Files) (t : TaskShape) (name : List ℕ) → InBounds t → (r s : Result Judged Ending) → RulesFile files t name r → RulesFile files t name s → r ≡ s
rules_file_once files t name inside r s = then_once (bytes_under files name) (RulesText t) (λ text x y _ a b. rules_once t inside text x y a b) r s
