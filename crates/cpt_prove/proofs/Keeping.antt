use Rattle.std.proofs.Common.{◌≡◌, ◌≢◌, ℕ, ◌≤◌, ◌<◌, ◌⊎◌, inl, inr, List, length, Option, Result, Ok, Err, IfSome, refl, sym, ap, ◌∙◌, subst, arith}
use Rattle.std.specs.Io.KnownBytes.{append_known}
use Rattle.cpt_io.specs.Meaning.{Files}
use Rattle.cpt_task.specs.Shape.{TaskShape}
use Rattle.cpt_domain.specs.declared.domain.Domain.{Domain}
use Rattle.cpt_facts.specs.declared.problem.Problem.{Problem}
use Rattle.cpt_reach.specs.declared.pruning.Pruned.{Pruned}
use Rattle.cpt_answer.specs.declared.ending.Ending.{Ending}
use Rattle.cpt_answer.specs.Endings.{Answer, answer, answer_of, read_answer}
use Rattle.cpt_answer.specs.Giving.{Then}
use Rattle.cpt_answer.specs.Promise.{AnswersOver, Call, IsAnswerOf, IsUndisturbed, Performs}
use Rattle.cpt_answer.proofs.Giving.{if_some_weaker}
use Rattle.cpt_answer.proofs.Promise.{among, only, performs_over, undisturbed}
use Rattle.cpt_files.specs.Accepted.{AcceptsTask, IsAccepted, accepted}
use Rattle.cpt_files.specs.Files.{within_limit}
use Rattle.cpt_files.specs.Texts.{DomainText, ProblemText}
use Rattle.cpt_files.proofs.Accepting.{accepted_is, is_accepted}
use Rattle.cpt_files.proofs.Once.{accepts_once}
use Rattle.cpt_cert_form.specs.declared.forms.Version.{Version}
use Rattle.cpt_check_files.specs.Rulings.{cert_limit}
use Rattle.cpt_outcome.specs.Outcomes.{SearchOutcome, budget_spent, never, none_up_to, optimal}
use Rattle.cpt_evidence.specs.Evidence.{claim_of}
use Rattle.cpt_options.specs.declared.options.Budget.{Budget}
use Rattle.cpt_solve.specs.Lines.{outcome_status}
use Rattle.cpt_solve.specs.Searches.{IsOutcome}
use Rattle.cpt_solve.proofs.Deciding.{then_found}
use Rattle.cpt_solve.proofs.Outcomes.{outcome_once}
use Rattle.cpt_prove.specs.Commands.{AnswersProof, AnswersText, HoldProof, IsCheckable, IsFound, ProvesFiles, ProvesProblem}

-- files that hold the same domain and problem are accepted as they are
moved_accepted : (files others : Files) (dn pn : List ℕ) (d : Domain) (p : Problem) (task : TaskShape) (kept : Pruned) → others dn ≡ files dn → others pn ≡ files pn → IsAccepted files dn pn d p task kept → IsAccepted others dn pn d p task kept
moved_accepted files others dn pn d p task kept e f h = record {
  domain_file = subst (λ o. Then (within_limit o) DomainText (Ok d)) (sym e) h.domain_file;
  problem_file = subst (λ o. Then (within_limit o) (ProblemText d) (Ok p)) (sym f) h.problem_file;
  grounds = h.grounds;
  bounds = h.bounds;
  prunes = h.prunes;
}

-- a proof is checkable
pub checkable : (files : Files) (dn pn : List ℕ) (budget : Budget) (v : Version) (o : SearchOutcome) (text : List ℕ) → HoldProof files dn pn budget v o text → IsCheckable files dn pn v (claim_of budget.max budget.nodes o) text
checkable files dn pn budget v o text h others cn e f held = record {
  domain = h.domain;
  problem = h.problem;
  task = h.task;
  kept = h.kept;
  accepted = moved_accepted files others dn pn h.domain h.problem h.task h.kept e f h.accepted;
  text = text;
  cert_file = held;
  size = h.size;
  parts = h.proof.proof.parts;
  certificate = h.proof.proof.certificate;
}

-- a status that is found is that of an outcome
pub record IsOfOutcome (o : SearchOutcome) (text : List ℕ) (a : Answer) : Type 0 where
  pub size : length text ≤ cert_limit
  pub status_is : a.status ≡ outcome_status o
  pub text_is : a.text ≡ text

not_six : (s : ℕ) → IsFound s → s ≡ 6 → ⊥
not_six s is six = elim is [ inl e ↦ omega (arith, e, six) | inr k ↦ elim k [ inl e ↦ omega (arith, e, six) | inr e ↦ omega (arith, e, six) ] ]

of_outcome : (o : SearchOutcome) (text : List ℕ) (r : Result Answer Ending) → AnswersText o text r → IsFound (answer_of r).status → IsOfOutcome o text (answer_of r)
of_outcome o text (Ok a) h is = record { size = h.0; status_is = ap (λ (a : Answer). a.status) h.1; text_is = ap (λ (a : Answer). a.text) h.1 }
of_outcome o text (Err e) h is = absurd (not_six (answer_of (Err e)).status is (ap (λ (e : Ending). (answer_of (Err e)).status) h.1))

-- the status of an answer
of_text : (o : SearchOutcome) (text : List ℕ) (r : Result Answer Ending) → AnswersText o text r → ((answer_of r).status ≡ 6) ⊎ ((answer_of r).status ≡ outcome_status o)
of_text o text (Ok a) h = inr (ap (λ (a : Answer). a.status) h.1)
of_text o text (Err e) h = inl (ap (λ (e : Ending). (answer_of (Err e)).status) h.1)

outcome_found : (o : SearchOutcome) → IsFound (outcome_status o)
outcome_found (optimal m plan) = inl refl
outcome_found none_up_to = inr (inl refl)
outcome_found never = inr (inl refl)
outcome_found (budget_spent r) = inr (inr refl)

not_seven : (o : SearchOutcome) (s : ℕ) → (s ≡ 6) ⊎ (s ≡ outcome_status o) → s ≢ 7
not_seven (optimal m plan) s is seven = elim is [ inl e ↦ omega (arith, e, seven) | inr e ↦ omega (arith, e, seven) ]
not_seven none_up_to s is seven = elim is [ inl e ↦ omega (arith, e, seven) | inr e ↦ omega (arith, e, seven) ]
not_seven never s is seven = elim is [ inl e ↦ omega (arith, e, seven) | inr e ↦ omega (arith, e, seven) ]
not_seven (budget_spent r) s is seven = elim is [ inl e ↦ omega (arith, e, seven) | inr e ↦ omega (arith, e, seven) ]

low_of : (s : ℕ) → IsFound s → s < 7
low_of s is = elim is [ inl e ↦ omega (arith, e) | inr k ↦ elim k [ inl e ↦ omega (arith, e) | inr e ↦ omega (arith, e) ] ]

-- the proof behind a status that is found
pub record HasProof (files : Files) (dn pn : List ℕ) (budget : Budget) (v : Version) (a : Answer) : Type 0 where
  pub outcome : SearchOutcome
  pub text : List ℕ
  pub held : HoldProof files dn pn budget v outcome text
  pub status_is : a.status ≡ outcome_status outcome
  pub text_is : a.text ≡ text

found_proof : (files : Files) (dn pn : List ℕ) (budget : Budget) (v : Version) (r : Result Answer Ending) → ProvesFiles files dn pn budget v r → IsFound (answer_of r).status → HasProof files dn pn budget v (answer_of r)
found_proof files dn pn budget v r h is =
    let a = then_found h.0 (λ a. AnswersProof a.kept.task budget v) r h.2 is in
    let holds = is_accepted files dn pn a.0 (subst (AcceptsTask files dn pn) a.1 h.1) in
    let k = a.2 in
    let of = of_outcome k.0 k.1 r k.3 is in
    record {
      outcome = k.0;
      text = k.1;
      held = record { domain = a.0.domain; problem = a.0.problem; task = holds.0; kept = a.0.kept; accepted = holds.1; proof = k.2; size = of.size };
      status_is = of.status_is;
      text_is = of.text_is;
    }

-- over an accepted task
accepted_proof : (files : Files) (dn pn : List ℕ) (budget : Budget) (v : Version) (d : Domain) (p : Problem) (task : TaskShape) (kept : Pruned) → IsAccepted files dn pn d p task kept → (r : Result Answer Ending) → ProvesFiles files dn pn budget v r
    → (o : SearchOutcome) × IsOutcome kept.task budget o × (((answer_of r).status ≡ 6) ⊎ ((answer_of r).status ≡ outcome_status o))
accepted_proof files dn pn budget v d p task kept is r h =
    let same : h.0 ≡ Ok (accepted d p kept) = accepts_once files dn pn h.0 (Ok (accepted d p kept)) h.1 (accepted_is files dn pn d p task kept is) in
    let k = subst (λ x. Then x (λ a. AnswersProof a.kept.task budget v) r) same h.2 in
    (k.0, record { tables = k.2.tables; best = k.2.best; has = k.2.has }, of_text k.0 k.1 r k.3)

module _ (files : Files) (dn pn : List ℕ) (budget : Budget) (v : Version) (d : Domain) (p : Problem) (task : TaskShape) (kept : Pruned) (is : IsAccepted files dn pn d p task kept) where
  by_proof : (S : ℕ → Type 0) (x : Call) → Performs (IsAnswerOf (ProvesFiles files dn pn budget v)) x → S 9 → S 6 → ((o : SearchOutcome) → IsOutcome kept.task budget o → S (outcome_status o)) → IsUndisturbed x → S x.status
  by_proof S x h nine six each quiet =
      among (IsAnswerOf (ProvesFiles files dn pn budget v)) S x nine
      (λ a a_is low.
      let k = accepted_proof files dn pn budget v d p task kept is a_is.0 a_is.1 in
      let same : a.status ≡ (answer_of a_is.0).status = ap (λ (a : Answer). a.status) a_is.2 in
      elim k.2 [ inl e ↦ subst S (sym (same ∙ e)) six | inr e ↦ subst S (sym (same ∙ e)) (each k.0 k.1) ]) h
      (undisturbed (IsAnswerOf (ProvesFiles files dn pn budget v) read_answer → ⊥) x
      (λ read.
      let k = accepted_proof files dn pn budget v d p task kept is read.0 read.1 in
      not_seven k.0 (answer_of read.0).status k.2 (sym (ap (λ (a : Answer). a.status) read.2))) quiet)

problem_kept : (files : Files) (dn pn : List ℕ) (budget : Budget) (v : Version) (x : Call) → Performs (IsAnswerOf (ProvesFiles files dn pn budget v)) x → ProvesProblem files dn pn budget v x
problem_kept files dn pn budget v x h = record {
  proved = (λ is.
      let at = only (IsAnswerOf (ProvesFiles files dn pn budget v)) x h (low_of x.status is) in
      let a : IsAnswerOf (ProvesFiles files dn pn budget v) (answer x.status at.0) = at.1 in
      let same : x.status ≡ (answer_of a.0).status = ap (λ (a : Answer). a.status) a.2 in
      let words : at.0 ≡ (answer_of a.0).text = ap (λ (a : Answer). a.text) a.2 in
      let k = found_proof files dn pn budget v a.0 a.1 (subst IsFound same is) in
      (k.outcome, k.text, k.held, checkable files dn pn budget v k.outcome k.text k.held, same ∙ k.status_is, at.2 ∙ ap (append_known x.old.written) (words ∙ k.text_is)));
  answers = (λ o held quiet.
      let S : ℕ → Type 0 = λ s. (s ≡ 9) ⊎ (s ≡ 6) ⊎ (s ≡ outcome_status o) in
      by_proof files dn pn budget v held.domain held.problem held.task held.kept held.accepted S x h (inl refl) (inr (inl refl))
      (λ other has. inr (inr (ap outcome_status (outcome_once held.kept.task budget other o has held.outcome)))) quiet);
  decides = (λ d p task kept is quiet.
      let S : ℕ → Type 0 = λ s. (s ≡ 9) ⊎ (s ≡ 6) ⊎ IsFound s in
      by_proof files dn pn budget v d p task kept is S x h (inl refl) (inr (inl refl)) (λ o has. inr (inr (outcome_found o))) quiet);
}

pub keeps_problem : (o : Option Files) (dn pn : List ℕ) (budget : Budget) (v : Version) (x : Call) → Performs (AnswersOver o (λ files. ProvesFiles files dn pn budget v)) x → IfSome o (λ files. ProvesProblem files dn pn budget v x)
keeps_problem o dn pn budget v x h =
    if_some_weaker o (λ files. Performs (IsAnswerOf (ProvesFiles files dn pn budget v)) x) (λ files. ProvesProblem files dn pn budget v x) (λ files. problem_kept files dn pn budget v x)
    (performs_over o (λ files. ProvesFiles files dn pn budget v) x h)
