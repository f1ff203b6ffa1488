-- what the checker says of the certificate of what a search found
use Rattle.std.proofs.Common.{◌≡◌, ℕ, ◌≤◌, ◌<◌, ◌-◌, ◌^◌, min, Bool, List, [], length, Option, Some, Result, Ok, Err, IfOk, refl, ap, ◌∙◌, arith}
use Rattle.std.specs.Prelude.{IsOkUnless}
use Rattle.std.specs.Io.KnownBytes.{append_known}
use Rattle.cpt_task.specs.Shape.{InBounds, TaskShape}
use Rattle.cpt_task.specs.declared.memory.Limit.TheVariants.{Certificate}
use Rattle.cpt_tables.specs.declared.tables.Tables.{Tables}
use Rattle.cpt_answer.specs.declared.ending.Cause.TheVariants.{Passed}
use Rattle.cpt_answer.specs.declared.ending.Ending.{Ending}
use Rattle.cpt_answer.specs.declared.ending.Ending.TheVariants.{Because, Read, Memory}
use Rattle.cpt_answer.specs.Giving.{Gives}
use Rattle.cpt_cert_form.specs.declared.forms.Version.{Version}
use Rattle.cpt_cert_form.specs.declared.forms.Version.TheVariants.{Two}
use Rattle.cpt_cert_form.specs.Text.{cert_text}
use Rattle.cpt_cert_print.specs.declared.cert.Cert.{Cert}
use Rattle.cpt_cert_print.specs.Whole.{IsWhole, parts_of}
use Rattle.cpt_certify.specs.Proving.{IsFound, IsProofOf, full_search}
use Rattle.cpt_check.specs.declared.judged.Judged.{Judged}
use Rattle.cpt_check.specs.declared.judged.Ruling.{Ruling}
use Rattle.cpt_check.specs.declared.judged.Ruling.TheVariants.{Accepted, Rejected}
use Rattle.cpt_check.specs.Judging.{RulesOf}
use Rattle.cpt_check_files.specs.Rulings.{cert_limit}
use Rattle.cpt_evidence.specs.Evidence.{IsEvidence, claim_of}
use Rattle.cpt_evidence.proofs.EvidenceLemmas.{evidence_is_accepted, evidence_is_whole}
use Rattle.cpt_options.specs.declared.options.Budget.{Budget}
use Rattle.cpt_outcome.specs.Nodes.{SearchProblem}
use Rattle.cpt_outcome.specs.Outcomes.{HasOutcome, SearchOutcome}
use Rattle.cpt_search.specs.declared.searching.Outcome.{Outcome}
use Rattle.cpt_search.specs.Answers.{HasTrees, outcome_of}
use Rattle.cpt_cert_accept.specs.Accepting.{Accepts}
use Rattle.cpt_cert_accept.proofs.OneText.{no_fault, one_claim}
use Rattle.cpt_bench.specs.Judging.{JudgesProof}

-- what `cert_of` says of its answer
abbrev IsCertOf : Tables → ℕ → ℕ → Outcome → Cert → Type 0
IsCertOf b most n found c = (w : SearchProblem) → w.tables ≡ b → HasOutcome w most n (outcome_of found) → HasTrees w most n found → IsEvidence w most n (outcome_of found) c

module _ (t : TaskShape) (b : Tables) (most n : ℕ) (found : Outcome) (c : Cert) (is : IsFound t b most n found) (of : IsCertOf b most n found c) where
  evidence : IsEvidence (full_search t b) most n (outcome_of found) c
  evidence = of (full_search t b) refl is.outcome is.trees

  pub found_whole : IsWhole t c
  found_whole = evidence_is_whole (full_search t b) most n (outcome_of found) c is.provable is.outcome evidence

  pub found_proof : IsProofOf t b most n (outcome_of found) Two (cert_text Two t (parts_of c))
  found_proof =
      let tells = evidence.tells in
      record { parts = parts_of c; tells = tells; is = refl; certificate = evidence_is_accepted (full_search t b) most n (outcome_of found) (parts_of c) Two is.provable is.outcome tells }

-- a text is put whole into an empty sink
pub put_whole : (old new : Option (List ℕ)) (text written : List ℕ) → old ≡ Some [] → new ≡ append_known old text → Some written ≡ new → written ≡ text
put_whole old new text written empty put is =
    let whole : Some written ≡ Some text = is ∙ put ∙ ap (λ o. append_known o text) empty in
    cc

-- how long a text is, where that is below 2^64
pub within_size : (k size : ℕ) → size ≡ min k (2 ^ 64 - 1) → size ≤ cert_limit → k ≤ cert_limit
within_size k size is low = omega (arith, is, low)

pub beyond_size : (k size : ℕ) → size ≡ min k (2 ^ 64 - 1) → cert_limit < size → cert_limit < k
beyond_size k size is high = omega (arith, is, high)

module _ (t : TaskShape) (b : Tables) (budget : Budget) (o : SearchOutcome) (bounds : InBounds t) (text : List ℕ) (proof : IsProofOf t b budget.max budget.nodes o Two text) where
  -- it is too long
  pub long_judged : cert_limit < length text → JudgesProof t b budget o (Err (Because (Passed Certificate)))
  long_judged long = (text, proof, long, refl)

  accepts : Accepts t text Two (claim_of budget.max budget.nodes o)
  accepts = (proof.parts, proof.certificate)

  -- the checker accepts it with the outcome's claim
  ruled : (version : Option Version) (ruling : Ruling) → length text ≤ cert_limit → RulesOf t cert_limit text version ruling → ruling ≡ Accepted (claim_of budget.max budget.nodes o)
  ruled version (Accepted claim) size h = ap Accepted (one_claim t text h.named Two claim (claim_of budget.max budget.nodes o) bounds h.accepts accepts).1
  ruled version (Rejected line why) size h = absurd (no_fault t text Two (claim_of budget.max budget.nodes o) line why bounds (omega (arith, size)) accepts h.first)

  pub text_judged : (r : Result Judged Ending) (steady : Bool) → length text ≤ cert_limit → IfOk r (λ j. RulesOf t cert_limit text j.version j.ruling) → IsOkUnless r Memory → Gives steady (λ (j : Judged). j) r (JudgesProof t b budget o)
  text_judged (Ok j) steady size rules memory = (text, proof, size, ruled j.version j.ruling size rules)
  text_judged (Err Memory) steady size rules memory = tt
  text_judged (Err Read) steady size rules memory = absurd (cc)
  text_judged (Err (Because cause)) steady size rules memory = absurd (cc)
