-- the certificate of what a search found is whole and accepted
use Rattle.std.proofs.Common.{◌≡◌, ℕ, refl}
use Rattle.cpt_task.specs.Shape.{TaskShape}
use Rattle.cpt_tables.specs.declared.tables.Tables.{Tables}
use Rattle.cpt_outcome.specs.Nodes.{SearchProblem}
use Rattle.cpt_outcome.specs.Outcomes.{HasOutcome}
use Rattle.cpt_cert_form.specs.declared.forms.Version.{Version}
use Rattle.cpt_cert_form.specs.Text.{cert_text}
use Rattle.cpt_cert_print.specs.declared.cert.Cert.{Cert}
use Rattle.cpt_cert_print.specs.Whole.{IsWhole, parts_of}
use Rattle.cpt_evidence.specs.Evidence.{IsEvidence}
use Rattle.cpt_evidence.proofs.EvidenceLemmas.{evidence_is_whole, evidence_is_accepted}
use Rattle.cpt_search.specs.declared.searching.Outcome.{Outcome}
use Rattle.cpt_search.specs.Answers.{HasTrees, outcome_of}
use Rattle.cpt_certify.specs.Proving.{full_search, IsFound, IsProofOf}

-- what `cert_of` says of its answer
abbrev IsCertOf : Tables → ℕ → ℕ → Outcome → Cert → Type 0
IsCertOf b most n found c = (w : SearchProblem) → w.tables ≡ b → HasOutcome w most n (outcome_of found) → HasTrees w most n found → IsEvidence w most n (outcome_of found) c

evidence : (t : TaskShape) (b : Tables) (most n : ℕ) (found : Outcome) (c : Cert) → IsFound t b most n found → IsCertOf b most n found c → IsEvidence (full_search t b) most n (outcome_of found) c
evidence t b most n found c h k = k (full_search t b) refl h.outcome h.trees

pub found_whole : (t : TaskShape) (b : Tables) (most n : ℕ) (found : Outcome) (c : Cert) → IsFound t b most n found → IsCertOf b most n found c → IsWhole t c
found_whole t b most n found c h k = evidence_is_whole (full_search t b) most n (outcome_of found) c h.provable h.outcome (evidence t b most n found c h k)

pub found_proof : (t : TaskShape) (b : Tables) (most n : ℕ) (found : Outcome) (c : Cert) (v : Version) → IsFound t b most n found → IsCertOf b most n found c →
    IsProofOf t b most n (outcome_of found) v (cert_text v t (parts_of c))
found_proof t b most n found c v h k =
    let e = evidence t b most n found c h k in
    record {
      parts = parts_of c;
      tells = e.tells;
      is = refl;
      certificate = evidence_is_accepted (full_search t b) most n (outcome_of found) (parts_of c) v h.provable h.outcome e.tells;
    }
