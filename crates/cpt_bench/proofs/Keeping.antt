-- what the made problem comes to keeps what `bench` promises
use Rattle.std.proofs.Common.{◌≡◌, ◌≢◌, ℕ, suc, ◌<◌, ◌≤◌, ◌⊎◌, inl, inr, true, List, Result, Ok, Err, refl, sym, ap, ◌∙◌, subst, arith}
use Rattle.std.specs.Io.KnownBytes.{append_known}
use Rattle.cpt_task.specs.Shape.{TaskShape}
use Rattle.cpt_task.specs.declared.plan.Occ.{Occ}
use Rattle.cpt_domain.specs.declared.domain.Domain.{Domain}
use Rattle.cpt_facts.specs.declared.problem.Problem.{Problem}
use Rattle.cpt_reach.specs.declared.pruning.Pruned.{Pruned}
use Rattle.cpt_reach.specs.Plans.{older_plan}
use Rattle.cpt_answer.specs.declared.ending.Ending.{Ending}
use Rattle.cpt_answer.specs.declared.ending.Ending.TheVariants.{Because, Read, Memory}
use Rattle.cpt_answer.specs.Endings.{Answer, answer_of, read_answer}
use Rattle.cpt_answer.specs.Giving.{Then}
use Rattle.cpt_answer.specs.Promise.{Call, IsAnswerOf, IsUndisturbed, Performs}
use Rattle.cpt_answer.proofs.Promise.{cause_kind, given, told_of, undisturbed}
use Rattle.cpt_files.specs.declared.accepted.Accepted.{Accepted}
use Rattle.cpt_files.specs.Accepted.{AcceptsTask, IsAccepted, accepted}
use Rattle.cpt_files.proofs.Accepting.{accepted_is, is_accepted}
use Rattle.cpt_files.proofs.Once.{accepts_once}
use Rattle.cpt_kept.specs.Kept.{StandsFor}
use Rattle.cpt_kept.proofs.Standing.{stands_for}
use Rattle.cpt_cert_form.specs.declared.forms.Version.TheVariants.{Two}
use Rattle.cpt_options.specs.declared.options.Budget.{Budget}
use Rattle.cpt_options.specs.Options.{IsBudget}
use Rattle.cpt_outcome.specs.Enough.{enough}
use Rattle.cpt_outcome.specs.Outcomes.{SearchOutcome, budget_spent, never, none_up_to, optimal}
use Rattle.cpt_outcome.proofs.OutcomeLemmas.{spent-below-enough, spent-is-larger}
use Rattle.cpt_solve.specs.Commands.{HaveNone, HaveNoneUpTo}
use Rattle.cpt_solve.specs.Lines.{no_plan_line, no_plan_up_to_line, refuted_lines}
use Rattle.cpt_solve.specs.Searches.{HasLargeTree, IsOutcome, full_search}
use Rattle.cpt_solve.proofs.Deciding.{then_found}
use Rattle.cpt_solve.proofs.Outcomes.{outcome_holds, outcome_once, within}
use Rattle.cpt_solve.proofs.Telling.{tells_best, tells_none, tells_none_up_to}
use Rattle.cpt_prove.specs.Commands.{IsFound}
use Rattle.cpt_prove.proofs.Keeping.{checkable}
use Rattle.cpt_bench.specs.Commands.{AnswersBench, AnswersSummary, BenchesMade, BenchesProblem, BenchesTask, HasLongProof, IsLeastMakespan, MadeHasOutcome, MadeHasProof, PassesLimit}
use Rattle.cpt_bench.specs.Lines.{summary_lines}
use Rattle.cpt_bench.specs.Made.{default_budget, domain_name, made_files, problem_name}

abbrev status_of : Result Answer Ending → ℕ
status_of r = (answer_of r).status

pub default_limits : IsBudget default_budget
default_limits = record { max = omega arith; some = omega arith; few = omega arith }

-- what an accepted made problem comes to is what its task comes to
accepted_bench : (n : ℕ) (d : Domain) (p : Problem) (task : TaskShape) (kept : Pruned) → IsAccepted (made_files n) domain_name problem_name d p task kept → (r : Result Answer Ending) → BenchesMade n r → BenchesTask n kept.task r
accepted_bench n d p task kept is r h =
    let same : h.0 ≡ Ok (accepted d p kept) = accepts_once (made_files n) domain_name problem_name h.0 (Ok (accepted d p kept)) h.1 (accepted_is (made_files n) domain_name problem_name d p task kept is) in
    subst (λ x. Then x (λ (a : Accepted). BenchesTask n a.kept.task) r) same h.2

-- what is answered at an outcome that the made problem has
outcome_bench : (n : ℕ) (o : SearchOutcome) (held : MadeHasOutcome n o) (r : Result Answer Ending) → BenchesMade n r → AnswersBench n held.kept.task default_budget o r
outcome_bench n o held r h =
    let k = accepted_bench n held.domain held.problem held.task held.kept held.accepted r h in
    subst (λ o. AnswersBench n held.kept.task default_budget o r) (outcome_once held.kept.task default_budget k.0 o k.1 held.outcome) k.2

-- the outcome behind what the made problem comes to
record HasBench (n : ℕ) (r : Result Answer Ending) : Type 0 where
  outcome : SearchOutcome
  held : MadeHasOutcome n outcome
  answers : AnswersBench n held.kept.task default_budget outcome r

accepted_behind : (n : ℕ) (a : Accepted) (r : Result Answer Ending) → AcceptsTask (made_files n) domain_name problem_name (Ok a) → BenchesTask n a.kept.task r → HasBench n r
accepted_behind n a r is (o, has, k) =
    let holds = is_accepted (made_files n) domain_name problem_name a is in
    record { outcome = o; held = record { domain = a.domain; problem = a.problem; task = holds.0; kept = a.kept; accepted = holds.1; outcome = has }; answers = k }

behind : (n : ℕ) (r : Result Answer Ending) → BenchesMade n r → IsFound (status_of r) → HasBench n r
behind n r h is =
    let a = then_found h.0 (λ a. BenchesTask n a.kept.task) r h.2 is in
    accepted_behind n a.0 r (subst (AcceptsTask (made_files n) domain_name problem_name) a.1 h.1) a.2

-- the status of what is answered at an outcome
status_bench : (n : ℕ) (t : TaskShape) (budget : Budget) (o : SearchOutcome) (r : Result Answer Ending) → AnswersBench n t budget o r → (status_of r ≡ 6) ⊎ IsFound (status_of r)
status_bench n t budget (optimal m plan) (Ok a) (text, proof, (size, is)) = inr (inl (ap (λ (a : Answer). a.status) is))
status_bench n t budget (optimal m plan) (Err e) (text, proof, (long, is)) = inl (ap (λ (e : Ending). (answer_of (Err e)).status) is)
status_bench n t budget none_up_to r h = inr (inr (inl (ap status_of h)))
status_bench n t budget never r h = inr (inr (inl (ap status_of h)))
status_bench n t budget (budget_spent b) r h = inr (inr (inr (ap status_of h)))

not_seven : (s : ℕ) → (s ≡ 6) ⊎ IsFound s → s ≢ 7
not_seven s (inl six) seven = omega (arith, six, seven)
not_seven s (inr (inl zero)) seven = omega (arith, zero, seven)
not_seven s (inr (inr (inl two))) seven = omega (arith, two, seven)
not_seven s (inr (inr (inr three))) seven = omega (arith, three, seven)

-- 0 comes of a plan
abbrev IsOfSummary : ℕ → Answer → Type 0
IsOfSummary n a = (plan : List Occ) × (m : ℕ) × (text : List ℕ) × (held : MadeHasProof n (optimal m plan) text) × (a.text ≡ summary_lines n held.kept.task m)

zero_case : (n : ℕ) (o : SearchOutcome) (held : MadeHasOutcome n o) (r : Result Answer Ending) → AnswersBench n held.kept.task default_budget o r → status_of r ≡ 0 → IsOfSummary n (answer_of r)
zero_case n (optimal m plan) held (Ok a) (text, proof, (size, is)) zero =
    (plan, m, text, record { domain = held.domain; problem = held.problem; task = held.task; kept = held.kept; accepted = held.accepted; proof = proof; size = size }, ap (λ (a : Answer). a.text) is)
zero_case n (optimal m plan) held (Err e) (text, proof, (long, is)) zero = absurd (omega (arith, zero, ap (λ (e : Ending). (answer_of (Err e)).status) is))
zero_case n none_up_to held r h zero = absurd (omega (arith, zero, ap status_of h))
zero_case n never held r h zero = absurd (omega (arith, zero, ap status_of h))
zero_case n (budget_spent b) held r h zero = absurd (omega (arith, zero, ap status_of h))

-- 2 comes of no plan, or of none up to the greatest makespan
abbrev IsOfNone : ℕ → Answer → Type 0
IsOfNone n a = (MadeHasOutcome n never × (a.text ≡ no_plan_line)) ⊎ (MadeHasOutcome n none_up_to × (a.text ≡ no_plan_up_to_line default_budget.max))

plan_not_low : (n : ℕ) (t : TaskShape) (m : ℕ) (text : List ℕ) (r : Result Answer Ending) (s : ℕ) → AnswersSummary n t m text r → status_of r ≡ s → 1 ≤ s → s ≤ 5 → ⊥
plan_not_low n t m text (Ok a) s (size, is) e some low = omega (arith, e, some, ap (λ (a : Answer). a.status) is)
plan_not_low n t m text (Err e) s (long, is) same some low = omega (arith, same, low, ap (λ (e : Ending). (answer_of (Err e)).status) is)

two_case : (n : ℕ) (o : SearchOutcome) (held : MadeHasOutcome n o) (r : Result Answer Ending) → AnswersBench n held.kept.task default_budget o r → status_of r ≡ 2 → IsOfNone n (answer_of r)
two_case n (optimal m plan) held r (text, proof, h) two = absurd (plan_not_low n held.kept.task m text r 2 h two (omega arith) (omega arith))
two_case n none_up_to held r h two = inr (held, ap (λ r. (answer_of r).text) h)
two_case n never held r h two = inl (held, ap (λ r. (answer_of r).text) h)
two_case n (budget_spent b) held r h two = absurd (omega (arith, two, ap status_of h))

-- 3 comes of a budget that is spent
abbrev IsOfSpent : ℕ → Answer → Type 0
IsOfSpent n a = (b : ℕ) × MadeHasOutcome n (budget_spent b) × (a.text ≡ refuted_lines b default_budget.nodes)

three_case : (n : ℕ) (o : SearchOutcome) (held : MadeHasOutcome n o) (r : Result Answer Ending) → AnswersBench n held.kept.task default_budget o r → status_of r ≡ 3 → IsOfSpent n (answer_of r)
three_case n (optimal m plan) held r (text, proof, h) three = absurd (plan_not_low n held.kept.task m text r 3 h three (omega arith) (omega arith))
three_case n none_up_to held r h three = absurd (omega (arith, three, ap status_of h))
three_case n never held r h three = absurd (omega (arith, three, ap status_of h))
three_case n (budget_spent b) held r h three = (b, held, ap (λ r. (answer_of r).text) h)

-- 6 comes of a certificate that is too long, or of a limit that is passed before
six_case : (n : ℕ) (o : SearchOutcome) (held : MadeHasOutcome n o) (r : Result Answer Ending) → AnswersBench n held.kept.task default_budget o r → status_of r ≡ 6 → HasLongProof n
six_case n (optimal m plan) held (Ok a) (text, proof, (size, is)) six = absurd (omega (arith, six, ap (λ (a : Answer). a.status) is))
six_case n (optimal m plan) held (Err e) (text, proof, (long, is)) six = (plan, m, held, (text, proof, long))
six_case n none_up_to held r h six = absurd (omega (arith, six, ap status_of h))
six_case n never held r h six = absurd (omega (arith, six, ap status_of h))
six_case n (budget_spent b) held r h six = absurd (omega (arith, six, ap status_of h))

six_ending : (n : ℕ) (e : Ending) → AcceptsTask (made_files n) domain_name problem_name (Err e) → (answer_of (Err e)).status ≡ 6 → PassesLimit n
six_ending n (Because cause) h six = elim (cause_kind cause) [
  | inl one ↦ absurd (omega (arith, one, six))
  | inr k ↦ elim k [ inl four ↦ absurd (omega (arith, four, six)) | inr passed ↦ (passed.0, subst (λ c. AcceptsTask (made_files n) domain_name problem_name (Err (Because c))) passed.1 h) ]
]
six_ending n Read h six = absurd (omega (arith, six))
six_ending n Memory h six = absurd (omega (arith, six))

limited_case : (n : ℕ) (x : Result Accepted Ending) (r : Result Answer Ending) → AcceptsTask (made_files n) domain_name problem_name x → Then x (λ a. BenchesTask n a.kept.task) r → status_of r ≡ 6 → HasLongProof n ⊎ PassesLimit n
limited_case n (Ok a) r is h six = let k = accepted_behind n a r is h in inl (six_case n k.outcome k.held r k.answers six)
limited_case n (Err e) r is h six = inr (six_ending n e is (sym (ap status_of h) ∙ six))

-- what a plan with a least makespan says
least : (n : ℕ) (plan : List Occ) (m : ℕ) (text : List ℕ) (held : MadeHasProof n (optimal m plan) text) → IsLeastMakespan held.domain held.problem held.task m
least n plan m text held =
    let stands = stands_for (made_files n) domain_name problem_name held.domain held.problem held.task held.kept held.accepted in
    let outcome : IsOutcome held.kept.task default_budget (optimal m plan) = record { tables = held.proof.tables; best = held.proof.best; has = held.proof.has } in
    let says = outcome_holds held.kept.task default_budget (optimal m plan) outcome stands.plain default_limits.max in
    let low = within (full_search held.kept.task held.proof.tables) default_budget.max default_budget.nodes m plan held.proof.has in
    let best = tells_best held.domain held.problem held.task held.kept plan m stands says.0 says.1 (omega (arith, low)) in
    record {
      plan = older_plan held.kept.actions plan;
      optimal = best.optimal;
      is = best.is;
      reading = best.reading;
      reads = best.reads;
      valid_with_absence = best.valid_with_absence;
      is_with_absence = best.is_with_absence;
      least_with_absence = best.least_with_absence;
    }

standing : (n : ℕ) (o : SearchOutcome) (held : MadeHasOutcome n o) → StandsFor held.domain held.problem held.task held.kept
standing n o held = stands_for (made_files n) domain_name problem_name held.domain held.problem held.task held.kept held.accepted

none_at_all : (n : ℕ) (held : MadeHasOutcome n never) → HaveNone held.domain held.problem held.task
none_at_all n held =
    let stands = standing n never held in
    tells_none held.domain held.problem held.task held.kept stands (outcome_holds held.kept.task default_budget never held.outcome stands.plain default_limits.max)

none_to_the_greatest : (n : ℕ) (held : MadeHasOutcome n none_up_to) → HaveNoneUpTo held.domain held.problem held.task default_budget.max
none_to_the_greatest n held =
    let stands = standing n none_up_to held in
    tells_none_up_to held.domain held.problem held.task held.kept default_budget.max stands (outcome_holds held.kept.task default_budget none_up_to held.outcome stands.plain default_limits.max)

none_to_the_refuted : (n b : ℕ) (held : MadeHasOutcome n (budget_spent b)) → HaveNoneUpTo held.domain held.problem held.task b
none_to_the_refuted n b held =
    let stands = standing n (budget_spent b) held in
    tells_none_up_to held.domain held.problem held.task held.kept b stands (outcome_holds held.kept.task default_budget (budget_spent b) held.outcome stands.plain default_limits.max)

large_tree : (n b : ℕ) (held : MadeHasOutcome n (budget_spent b)) → HasLargeTree held.kept.task default_budget.nodes (suc b)
large_tree n b held =
    let tables = held.outcome.tables in
    (tables, held.outcome.best, spent-is-larger (full_search held.kept.task tables) default_budget.max default_budget.nodes b held.outcome.has)

below_enough : (n b : ℕ) (held : MadeHasOutcome n (budget_spent b)) → default_budget.nodes < enough held.kept.task (suc b)
below_enough n b held =
    let stands = standing n (budget_spent b) held in
    spent-below-enough (full_search held.kept.task held.outcome.tables) default_budget.max default_budget.nodes b stands.plain.bounds (refl {a = true}) held.outcome.has

-- where nothing disturbs a call over an accepted made problem, an answer to it is given, or memory is refused
module _ (n : ℕ) (d : Domain) (p : Problem) (task : TaskShape) (kept : Pruned) (is : IsAccepted (made_files n) domain_name problem_name d p task kept) where
  never_read : IsAnswerOf (BenchesMade n) read_answer → ⊥
  never_read (r, h, e) =
      let k = accepted_bench n d p task kept is r h in
      not_seven (status_of r) (status_bench n kept.task default_budget k.0 r k.2) (sym (ap (λ (a : Answer). a.status) e))

  given_bench : (x : Call) → Performs (IsAnswerOf (BenchesMade n)) x → IsUndisturbed x
      → (x.status ≡ 9) ⊎ ((r : Result Answer Ending) × BenchesMade n r × (x.status ≡ status_of r) × (x.new.written ≡ append_known x.old.written (answer_of r).text))
  given_bench x h quiet = elim (given (IsAnswerOf (BenchesMade n)) x h (undisturbed (IsAnswerOf (BenchesMade n) read_answer → ⊥) x never_read quiet)) [
    | inl memory ↦ inl memory
    | inr (a, (r, k, e), low, status, written) ↦ inr (r, k, status ∙ ap (λ (a : Answer). a.status) e, written ∙ ap (λ (a : Answer). append_known x.old.written a.text) e)
  ]

  decided : (x : Call) → Performs (IsAnswerOf (BenchesMade n)) x → IsUndisturbed x → (x.status ≡ 9) ⊎ (x.status ≡ 6) ⊎ IsFound x.status
  decided x h quiet = elim (given_bench x h quiet) [
    | inl memory ↦ inl memory
    | inr (r, k, status, written) ↦ inr (
        let of = accepted_bench n d p task kept is r k in
        subst (λ s. (s ≡ 6) ⊎ IsFound s) (sym status) (status_bench n kept.task default_budget of.0 r of.2))
  ]

-- a call that answers what the made problem comes to keeps the promise
pub problem_kept : (n : ℕ) (x : Call) → Performs (IsAnswerOf (BenchesMade n)) x → BenchesProblem n x
problem_kept n x h = record {
  solved = (λ zero.
      let at = told_of (BenchesMade n) x 0 (omega arith) h zero in
      let b = behind n at.0 at.1 (inl at.2) in
      let k = zero_case n b.outcome b.held at.0 b.answers at.2 in
      (k.0, k.1, k.2, k.3, least n k.0 k.1 k.2 k.3, checkable (made_files n) domain_name problem_name default_budget Two (optimal k.1 k.0) k.2 k.3, at.3 ∙ ap (append_known x.old.written) k.4));
  refuted = (λ two.
      let at = told_of (BenchesMade n) x 2 (omega arith) h two in
      let b = behind n at.0 at.1 (inr (inl at.2)) in
      elim (two_case n b.outcome b.held at.0 b.answers at.2) [
        | inl k ↦ inl (k.0, none_at_all n k.0, at.3 ∙ ap (append_known x.old.written) k.1)
        | inr k ↦ inr (k.0, none_to_the_greatest n k.0, at.3 ∙ ap (append_known x.old.written) k.1)
      ]);
  spent = (λ three.
      let at = told_of (BenchesMade n) x 3 (omega arith) h three in
      let b = behind n at.0 at.1 (inr (inr at.2)) in
      let k = three_case n b.outcome b.held at.0 b.answers at.2 in
      let held = k.1 in
      (k.0, held, none_to_the_refuted n k.0 held, large_tree n k.0 held, below_enough n k.0 held, at.3 ∙ ap (append_known x.old.written) k.2));
  limited = (λ six. let at = told_of (BenchesMade n) x 6 (omega arith) h six in limited_case n at.1.0 at.0 at.1.1 at.1.2 at.2);
  answers = (λ o held quiet.
      elim (given_bench n held.domain held.problem held.task held.kept held.accepted x h quiet) [
        | inl memory ↦ inl memory
        | inr (r, k, status, written) ↦ inr (r, outcome_bench n o held r k, status, written)
      ]);
  decides = (λ d p task kept is. decided n d p task kept is x h);
}
