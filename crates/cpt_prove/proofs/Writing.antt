use Rattle.std.proofs.Common.{◌≡◌, ◌≢◌, ℕ, ◌<◌, ◌≤◌, ◌⊎◌, inl, inr, Bool, List, length, Option, Result, Ok, Err, IfSome, refl, sym, ap, ◌∙◌, subst, arith}
use Rattle.std.specs.Io.KnownBytes.{append_known}
use Rattle.cpt_io.specs.Meaning.{AppendsFront, Files}
use Rattle.cpt_task.specs.Shape.{InBounds, TaskShape}
use Rattle.cpt_tables.specs.declared.tables.Tables.{Tables}
use Rattle.cpt_soundness.specs.Sets.{HasSets}
use Rattle.cpt_answer.specs.declared.ending.Ending.{Ending}
use Rattle.cpt_answer.specs.declared.ending.Cause.TheVariants.{Passed}
use Rattle.cpt_answer.specs.declared.ending.Ending.TheVariants.{Because, Read}
use Rattle.cpt_task.specs.declared.memory.Limit.TheVariants.{Certificate}
use Rattle.cpt_certify.specs.declared.proving.ProofError.{ProofError}
use Rattle.cpt_certify.specs.declared.proving.ProofError.TheVariants as errors
use Rattle.cpt_answer.specs.Endings.{Answer, answer, answer_of, reply_answer, told}
use Rattle.cpt_answer.specs.Giving.{Gives}
use Rattle.cpt_answer.specs.Promise.{AnswersOver, IsAnswerOf, Performs, answers, call, wants_memory}
use Rattle.cpt_answer.specs.Writing.{Output, Tells, output}
use Rattle.cpt_answer.proofs.Giving.{if_some_weaker, then_by_error}
use Rattle.cpt_answer.proofs.Promise.{performs}
use Rattle.cpt_files.specs.declared.accepted.Accepted.{Accepted}
use Rattle.cpt_files.specs.Accepted.{AcceptsTask, IsSmall}
use Rattle.cpt_cert_form.specs.declared.forms.Version.{Version}
use Rattle.cpt_outcome.specs.Outcomes.{HasOutcome, SearchOutcome, budget_spent, never, none_up_to, optimal}
use Rattle.cpt_evidence.specs.Evidence.{IsProvable}
use Rattle.cpt_certify.specs.Proving.{IsProofOf, PutsProof}
use Rattle.cpt_options.specs.declared.options.Budget.{Budget}
use Rattle.cpt_options.specs.Options.{IsBudget}
use Rattle.cpt_solve.specs.Lines.{outcome_status}
use Rattle.cpt_solve.specs.Searches.{AreBestTables, full_search}
use Rattle.cpt_check_files.specs.Rulings.{cert_limit}
use Rattle.cpt_prove.specs.Commands.{AnswersProof, AnswersText, ProvesFiles, TellsFailure, TellsProof}

-- a search over the best tables can be certified
pub provable : (t : TaskShape) (b : Tables) (budget : Budget) → InBounds t → HasSets t → IsSmall t → AreBestTables t b → IsBudget budget → IsProvable (full_search t b) budget.max budget.nodes
provable t b budget bounds sets small best limits = record {
  searchable = record {
    bounds = bounds;
    sound = record { sets = sets; admissible = record { bounds = bounds; pairs = best.best.pairs.admissible; dists = best.best.dists.admissible }; fits = best.fits };
    whole = best.pairs;
    size = best.fits.pairs.size;
    greatest = best.best.pairs;
    one = refl;
    six = refl;
  };
  dists = best.dists;
  few = small.atoms;
  small = limits.max;
  some = limits.some;
  budget = limits.few;
}

module _ (t : TaskShape) (b : Tables) (budget : Budget) (v : Version) (o : SearchOutcome) (best : AreBestTables t b) (has : HasOutcome (full_search t b) budget.max budget.nodes o) (old new : Output) where
  -- the certificate was put whole
  pub whole_told : (status : ℕ) → (text : List ℕ) × IsProofOf t b budget.max budget.nodes o v text × ((length text ≤ cert_limit) × (new.written ≡ append_known old.written text)) → new.faults ≡ old.faults → status ≡ outcome_status o → TellsProof t budget v old new status
  whole_told status (text, proof, (size, written)) faults is =
      inl (Ok (answer (outcome_status o) text), (o, text, record { tables = b; best = best; has = has; proof = proof }, (size, refl)), inl (record { status_is = is; faults = faults; written = written }))

  -- a front of it was
  pub front_told : (text : List ℕ) × IsProofOf t b budget.max budget.nodes o v text × ((length text ≤ cert_limit) × AppendsFront old.written new.written text) → old.faults < new.faults → TellsProof t budget v old new 8
  front_told (text, proof, (size, written)) faults =
      inl (Ok (answer (outcome_status o) text), (o, text, record { tables = b; best = best; has = has; proof = proof }, (size, refl)), inr (record { status_is = refl; faults = faults; written = written }))

module _ (t : TaskShape) (b : Tables) (budget : Budget) (v : Version) (o : SearchOutcome) (best : AreBestTables t b) (has : HasOutcome (full_search t b) budget.max budget.nodes o) where
  -- it is too long, and nothing of it was put
  pub long_told : (f now : ℕ) (w written : Option (List ℕ)) (new : Output) (status : ℕ) → (text : List ℕ) × IsProofOf t b budget.max budget.nodes o v text × ((cert_limit < length text) × (written ≡ w)) → now ≡ f
      → Tells (Err (Because (Passed Certificate))) (output now written) new status → TellsProof t budget v (output f w) new status
  long_told f now w written new status (text, proof, (size, kept)) faults tells =
      let same : output now written ≡ output f w = ap (λ f. output f written) faults ∙ ap (λ w. output f w) kept in
      elim (subst (λ old. Tells (Err (Because (Passed Certificate))) old new status) same tells) [
        | inl said ↦ inl (Err (Because (Passed Certificate)), (o, text, record { tables = b; best = best; has = has; proof = proof }, (size, refl)), said)
        | inr memory ↦ inr memory
      ]

abbrev failing : {T : Type 0} → ProofError → Result T ProofError
failing e = Err e

-- two errors are not one
pub long_not_failed : {T : Type 0} → failing {T = T} errors.TooLong ≡ failing errors.Failed → ⊥
long_not_failed e = cc

-- how the putting failed, and what was written then
module _ (t : TaskShape) (b : Tables) (budget : Budget) (v : Version) (o : SearchOutcome) (best : AreBestTables t b) (has : HasOutcome (full_search t b) budget.max budget.nodes o) where
  pub failure_told : {T : Type 0} (f now : ℕ) (w written : Option (List ℕ)) (new : Output) (status : ℕ) (e : ProofError) → (text : List ℕ) × IsProofOf t b budget.max budget.nodes o v text × PutsProof {A = T} text w written (Err e)
      → (failing {T = T} e ≡ failing errors.Failed → f < now) → ((failing {T = T} e ≡ failing errors.Failed → ⊥) → now ≡ f) → TellsFailure e (output now written) new status → TellsProof t budget v (output f w) new status
  failure_told f now w written new status errors.TooLong puts cause kept tells = long_told t b budget v o best has f now w written new status puts (kept long_not_failed) tells
  failure_told f now w written new status errors.Failed puts cause kept (eight, same) =
      let told = front_told t b budget v o best has (output f w) (output now written) puts (cause refl) in
      subst (λ s. TellsProof t budget v (output f w) new s) (sym eight) (subst (λ n. TellsProof t budget v (output f w) n 8) (sym same) told)

-- what is read is no ending
pub ok_apart : {T E : Type 0} (x : T) (e : E) → Ok x ≡ Err e → ⊥
ok_apart x e h = cc

-- files that are not accepted
abbrev unaccepted : Ending → Result Accepted Ending
unaccepted e = Err e

-- the status of a proof's answer
outcome_low : (o : SearchOutcome) → outcome_status o ≤ 3
outcome_low (optimal m plan) = omega arith
outcome_low none_up_to = omega arith
outcome_low never = omega arith
outcome_low (budget_spent r) = omega arith

text_low : (o : SearchOutcome) (text : List ℕ) (r : Result Answer Ending) → AnswersText o text r → ((answer_of r).status ≤ 3) ⊎ ((answer_of r).status ≡ 6)
text_low o text (Ok a) h = inl (let low = outcome_low o in omega (arith, low, ap (λ (a : Answer). a.status) h.1))
text_low o text (Err e) h = inr (ap (λ (e : Ending). (answer_of (Err e)).status) h.1)

pub proof_low : (t : TaskShape) (budget : Budget) (v : Version) (r : Result Answer Ending) → AnswersProof t budget v r → ((answer_of r).status < 7) × ((answer_of r).status ≢ 5)
proof_low t budget v r h = elim (text_low h.0 h.1 r h.3) [ inl low ↦ (omega (arith, low), λ five. omega (arith, low, five)) | inr six ↦ (omega (arith, six), λ five. omega (arith, six, five)) ]

module _ (o : Option Files) (steady : Bool) (dn pn : List ℕ) (budget : Budget) (v : Version) (before now : ℕ) (old new : Output) (status : ℕ) where
  -- the files are accepted, and a proof was told
  pub proof_performs : (a : Accepted) → IfSome o (λ files. AcceptsTask files dn pn (Ok a)) → now ≡ before → TellsProof a.kept.task budget v old new status → Performs (AnswersOver o (λ files. ProvesFiles files dn pn budget v)) (call steady before now old new status)
  proof_performs a h kept tells = elim tells [
    | inl t ↦ (
        let low = proof_low a.kept.task budget v t.0 t.1 in
        let is : AnswersOver o (λ files. ProvesFiles files dn pn budget v) (answer_of t.0) = record {
          over = if_some_weaker o (λ files. AcceptsTask files dn pn (Ok a)) (λ files. IsAnswerOf (ProvesFiles files dn pn budget v) (answer_of t.0)) (λ files x. (t.0, (Ok a, x, t.1), refl)) h;
          asked = low.1;
        } in
        answers (answer_of t.0) is low.0 kept t.2)
    | inr w ↦ wants_memory kept w
  ]

  -- the files are not
  pub ending_performs : (e : Ending) → IfSome o (λ files. Gives steady (λ (a : Accepted). a) (Err e) (AcceptsTask files dn pn)) → (unaccepted e ≡ unaccepted Read → before < now) → (unaccepted e ≢ unaccepted Read → now ≡ before)
      → Tells (told (Err e)) old new status → Performs (AnswersOver o (λ files. ProvesFiles files dn pn budget v)) (call steady before now old new status)
  ending_performs e h failed kept tells =
      performs o steady (λ files. ProvesFiles files dn pn budget v) (Err e) before now old new status
      (record {
        answer = if_some_weaker o (λ files. Gives steady (λ (a : Accepted). a) (Err e) (AcceptsTask files dn pn)) (λ files. Gives steady reply_answer (Err e) (ProvesFiles files dn pn budget v))
            (λ files g. then_by_error steady (λ (a : Accepted). a) reply_answer (AcceptsTask files dn pn) e (λ a. AnswersProof a.kept.task budget v) g) h;
        status = tt;
        failed = λ same. failed (let f : e ≡ Read = cc in ap unaccepted f);
        kept = λ not. kept (λ same. not (let f : e ≡ Read = cc in ap Err f));
      }) tells
