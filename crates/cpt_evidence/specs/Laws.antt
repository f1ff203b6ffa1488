use Rattle.std.specs.Prelude.{◌≡◌, ℕ}
use Rattle.cpt_cert_form.specs.declared.forms.Version.{Version}
use Rattle.cpt_cert_form.specs.Text.{Parts, cert_lines, cert_text}
use Rattle.cpt_cert_print.specs.declared.cert.Cert.{Cert}
use Rattle.cpt_cert_print.specs.Whole.{IsWhole}
use Rattle.cpt_outcome.specs.Nodes.{SearchProblem}
use Rattle.cpt_outcome.specs.Outcomes.{SearchOutcome, HasOutcome}
use Rattle.cpt_cert_accept.specs.Accepting.{IsCertificate}
use Rattle.cpt_evidence.specs.Evidence.{IsProvable, Tells, IsEvidence, claim_of, without_steps}

-- a certificate that tells the outcome of a search is whole, as its printer asks
abbrev pub EvidenceIsWhole : Type 0
EvidenceIsWhole = (w : SearchProblem) (most n : ℕ) (o : SearchOutcome) (c : Cert) → IsProvable w most n → HasOutcome w most n o → IsEvidence w most n o c → IsWhole w.task c

-- the text of parts that tell the outcome of a search is a certificate of the task, in either version, with that outcome's
-- claim
abbrev pub EvidenceIsAccepted : Type 0
EvidenceIsAccepted =
    (w : SearchProblem) (most n : ℕ) (o : SearchOutcome) (c : Parts) (v : Version) → IsProvable w most n → HasOutcome w most n o → Tells w most n o c →
    IsCertificate w.task (cert_text v w.task c) v (claim_of most n o) c

-- all lines but the steps are the same in each certificate that tells an outcome
abbrev pub OneEvidence : Type 0
OneEvidence =
    (w : SearchProblem) (most n : ℕ) (o : SearchOutcome) (c d : Parts) (v : Version) → Tells w most n o c → Tells w most n o d →
    without_steps (cert_lines v w.task c) ≡ without_steps (cert_lines v w.task d)
