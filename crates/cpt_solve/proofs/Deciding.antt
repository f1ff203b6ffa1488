use Rattle.std.proofs.Common.{◌≡◌, ℕ, ◌≤◌, ◌⊎◌, inl, inr, List, Result, Ok, Err, refl, sym, ap, ◌∙◌, subst, arith}
use Rattle.cpt_io.specs.Meaning.{Files}
use Rattle.cpt_task.specs.Optimal.{IsOptimal, IsRefuted}
use Rattle.cpt_task.specs.Shape.{TaskShape}
use Rattle.cpt_task.specs.Timeline.{makespan}
use Rattle.cpt_task.specs.declared.plan.Occ.{Occ}
use Rattle.cpt_domain.specs.declared.domain.Domain.{Domain}
use Rattle.cpt_facts.specs.declared.problem.Problem.{Problem}
use Rattle.cpt_reach.specs.declared.pruning.Pruned.{Pruned}
use Rattle.cpt_reach.specs.Plans.{renumbered_plan}
use Rattle.cpt_answer.specs.declared.ending.Cause.{Cause}
use Rattle.cpt_answer.specs.declared.ending.Ending.{Ending}
use Rattle.cpt_answer.specs.declared.ending.Ending.TheVariants.{Because, Read, Memory}
use Rattle.cpt_answer.specs.Endings.{Answer, answer_of, cause_answer}
use Rattle.cpt_answer.specs.Giving.{Then}
use Rattle.cpt_answer.proofs.Giving.{then_by_once}
use Rattle.cpt_answer.proofs.Promise.{cause_kind}
use Rattle.cpt_files.specs.Accepted.{AcceptsTask, IsAccepted, accepted}
use Rattle.cpt_files.proofs.Accepting.{accepted_is, is_accepted}
use Rattle.cpt_files.proofs.Once.{accepts_once}
use Rattle.cpt_kept.specs.Kept.{StandsFor}
use Rattle.cpt_outcome.specs.Outcomes.{SearchOutcome, budget_spent, never, none_up_to, optimal}
use Rattle.cpt_outcome.proofs.OutcomeLemmas.{finds-none, finds-plans}
use Rattle.cpt_options.specs.declared.options.Budget.{Budget}
use Rattle.cpt_solve.specs.Commands.{AnswersOutcome, HoldOutcome, SolvesFiles}
use Rattle.cpt_solve.specs.Lines.{no_plan_line, no_plan_up_to_line, outcome_answer, plan_lines, refuted_lines}
use Rattle.cpt_solve.specs.Searches.{HasSmallTrees, IsOutcome, full_search}
use Rattle.cpt_solve.proofs.Outcomes.{outcome_once, searchable}

-- a domain and a problem come to one end
pub solves_once : (files : Files) (d p : List ℕ) (budget : Budget) (r s : Result Answer Ending) → SolvesFiles files d p budget r → SolvesFiles files d p budget s → r ≡ s
solves_once files d p budget r s =
    then_by_once (AcceptsTask files d p) (λ a. AnswersOutcome a.kept.task budget) (accepts_once files d p)
    (λ a x y _ h k. h.2 ∙ ap (λ o. Ok (outcome_answer a.kept.task budget o)) (outcome_once a.kept.task budget h.0 k.0 h.1 k.1) ∙ sym k.2) r s

-- the statuses of outcomes
abbrev pub IsFound : ℕ → Type 0
IsFound s = (s ≡ 0) ⊎ (s ≡ 2) ⊎ (s ≡ 3)

apart : (s k : ℕ) → s ≡ k → (k ≡ 0 → ⊥) → (k ≡ 2 → ⊥) → (k ≡ 3 → ⊥) → IsFound s → ⊥
apart s k e a b c is = elim is [ inl z ↦ a (sym e ∙ z) | inr more ↦ elim more [ inl z ↦ b (sym e ∙ z) | inr z ↦ c (sym e ∙ z) ] ]

-- no ending has one of them
cause_not_found : (c : Cause) → IsFound (cause_answer c).status → ⊥
cause_not_found c is = elim (cause_kind c) [
  | inl one ↦ apart (cause_answer c).status 1 one (λ z. cc) (λ z. cc) (λ z. cc) is
  | inr k ↦ elim k [
    | inl four ↦ apart (cause_answer c).status 4 four (λ z. cc) (λ z. cc) (λ z. cc) is
    | inr passed ↦ apart (cause_answer c).status 6 (ap (λ c. (cause_answer c).status) passed.1) (λ z. cc) (λ z. cc) (λ z. cc) is
  ]
]

ending_not_found : (e : Ending) → IsFound (answer_of (Err e)).status → ⊥
ending_not_found (Because cause) is = cause_not_found cause is
ending_not_found Read is = apart 7 7 refl (λ z. cc) (λ z. cc) (λ z. cc) is
ending_not_found Memory is = apart 9 9 refl (λ z. cc) (λ z. cc) (λ z. cc) is

-- a stage before such a status did not end
pub then_found : {A : Type 0} (x : Result A Ending) (Q : A → Result Answer Ending → Type 0) (r : Result Answer Ending) → Then x Q r → IsFound (answer_of r).status → (a : A) × (x ≡ Ok a) × Q a r
then_found (Ok a) Q r h is = (a, refl, h)
then_found (Err e) Q r h is = absurd (ending_not_found e (subst (λ x. IsFound (answer_of x).status) h is))

-- the outcome behind an answer
pub record HasOutcomeBehind (files : Files) (dn pn : List ℕ) (budget : Budget) (r : Result Answer Ending) : Type 0 where
  pub outcome : SearchOutcome
  pub held : HoldOutcome files dn pn budget outcome
  pub is : answer_of r ≡ outcome_answer held.kept.task budget outcome

behind : (files : Files) (dn pn : List ℕ) (budget : Budget) (r : Result Answer Ending) → SolvesFiles files dn pn budget r → IsFound (answer_of r).status → HasOutcomeBehind files dn pn budget r
behind files dn pn budget r h is =
    let a = then_found h.0 (λ a. AnswersOutcome a.kept.task budget) r h.2 is in
    let holds = is_accepted files dn pn a.0 (subst (AcceptsTask files dn pn) a.1 h.1) in
    record {
      outcome = a.2.0;
      held = record { domain = a.0.domain; problem = a.0.problem; task = holds.0; kept = a.0.kept; accepted = holds.1; outcome = a.2.1 };
      is = ap answer_of a.2.2;
    }

-- an outcome has its answer
pub outcome_comes : (files : Files) (dn pn : List ℕ) (budget : Budget) (o : SearchOutcome) (held : HoldOutcome files dn pn budget o) → SolvesFiles files dn pn budget (Ok (outcome_answer held.kept.task budget o))
outcome_comes files dn pn budget o held =
    (Ok (accepted held.domain held.problem held.kept), accepted_is files dn pn held.domain held.problem held.task held.kept held.accepted, (o, held.outcome, refl))

-- 0 comes of an optimal plan
abbrev IsOfPlan : Files → (dn pn : List ℕ) → Budget → Answer → Type 0
IsOfPlan files dn pn budget a = (plan : List Occ) × (m : ℕ) × (held : HoldOutcome files dn pn budget (optimal m plan)) × (a.text ≡ plan_lines held.kept.task plan m)

zero_case : (files : Files) (dn pn : List ℕ) (budget : Budget) (o : SearchOutcome) (held : HoldOutcome files dn pn budget o) (a : Answer) → a ≡ outcome_answer held.kept.task budget o → a.status ≡ 0 → IsOfPlan files dn pn budget a
zero_case files dn pn budget (optimal m plan) held a e zero = (plan, m, held, ap (λ (a : Answer). a.text) e)
zero_case files dn pn budget none_up_to held a e zero = absurd (omega (arith, zero, ap (λ (a : Answer). a.status) e))
zero_case files dn pn budget never held a e zero = absurd (omega (arith, zero, ap (λ (a : Answer). a.status) e))
zero_case files dn pn budget (budget_spent r) held a e zero = absurd (omega (arith, zero, ap (λ (a : Answer). a.status) e))

pub zero_is_solved : (files : Files) (dn pn : List ℕ) (budget : Budget) (r : Result Answer Ending) → SolvesFiles files dn pn budget r → (answer_of r).status ≡ 0 → IsOfPlan files dn pn budget (answer_of r)
zero_is_solved files dn pn budget r h zero = let k = behind files dn pn budget r h (inl zero) in zero_case files dn pn budget k.outcome k.held (answer_of r) k.is zero

-- 2 comes of no plan, or of none up to the greatest makespan
abbrev IsOfNone : Files → (dn pn : List ℕ) → Budget → Answer → Type 0
IsOfNone files dn pn budget a =
    (HoldOutcome files dn pn budget never × (a.text ≡ no_plan_line)) ⊎ (HoldOutcome files dn pn budget none_up_to × (a.text ≡ no_plan_up_to_line budget.max))

two_case : (files : Files) (dn pn : List ℕ) (budget : Budget) (o : SearchOutcome) (held : HoldOutcome files dn pn budget o) (a : Answer) → a ≡ outcome_answer held.kept.task budget o → a.status ≡ 2 → IsOfNone files dn pn budget a
two_case files dn pn budget (optimal m plan) held a e two = absurd (omega (arith, two, ap (λ (a : Answer). a.status) e))
two_case files dn pn budget none_up_to held a e two = inr (held, ap (λ (a : Answer). a.text) e)
two_case files dn pn budget never held a e two = inl (held, ap (λ (a : Answer). a.text) e)
two_case files dn pn budget (budget_spent r) held a e two = absurd (omega (arith, two, ap (λ (a : Answer). a.status) e))

pub two_is_refuted : (files : Files) (dn pn : List ℕ) (budget : Budget) (r : Result Answer Ending) → SolvesFiles files dn pn budget r → (answer_of r).status ≡ 2 → IsOfNone files dn pn budget (answer_of r)
two_is_refuted files dn pn budget r h two = let k = behind files dn pn budget r h (inr (inl two)) in two_case files dn pn budget k.outcome k.held (answer_of r) k.is two

-- 3 comes of a budget that is spent
abbrev IsOfSpent : Files → (dn pn : List ℕ) → Budget → Answer → Type 0
IsOfSpent files dn pn budget a = (b : ℕ) × HoldOutcome files dn pn budget (budget_spent b) × (a.text ≡ refuted_lines b budget.nodes)

three_case : (files : Files) (dn pn : List ℕ) (budget : Budget) (o : SearchOutcome) (held : HoldOutcome files dn pn budget o) (a : Answer) → a ≡ outcome_answer held.kept.task budget o → a.status ≡ 3 → IsOfSpent files dn pn budget a
three_case files dn pn budget (optimal m plan) held a e three = absurd (omega (arith, three, ap (λ (a : Answer). a.status) e))
three_case files dn pn budget none_up_to held a e three = absurd (omega (arith, three, ap (λ (a : Answer). a.status) e))
three_case files dn pn budget never held a e three = absurd (omega (arith, three, ap (λ (a : Answer). a.status) e))
three_case files dn pn budget (budget_spent r) held a e three = (r, held, ap (λ (a : Answer). a.text) e)

pub three_is_spent : (files : Files) (dn pn : List ℕ) (budget : Budget) (r : Result Answer Ending) → SolvesFiles files dn pn budget r → (answer_of r).status ≡ 3 → IsOfSpent files dn pn budget (answer_of r)
three_is_spent files dn pn budget r h three = let k = behind files dn pn budget r h (inr (inr three)) in three_case files dn pn budget k.outcome k.held (answer_of r) k.is three

-- an answer over an accepted task is that of its outcome
abbrev IsOfTask : TaskShape → Budget → Answer → Type 0
IsOfTask t budget a = (o : SearchOutcome) × IsOutcome t budget o × (a ≡ outcome_answer t budget o)

pub accepted_answer : (files : Files) (dn pn : List ℕ) (budget : Budget) (d : Domain) (p : Problem) (task : TaskShape) (kept : Pruned) → IsAccepted files dn pn d p task kept → (r : Result Answer Ending) → SolvesFiles files dn pn budget r
    → IsOfTask kept.task budget (answer_of r)
accepted_answer files dn pn budget d p task kept is r h =
    let same : h.0 ≡ Ok (accepted d p kept) = accepts_once files dn pn h.0 (Ok (accepted d p kept)) h.1 (accepted_is files dn pn d p task kept is) in
    let k = subst (λ x. Then x (λ a. AnswersOutcome a.kept.task budget) r) same h.2 in
    (k.0, k.1, ap answer_of k.2)

-- the status of an outcome
pub found_status : (t : TaskShape) (budget : Budget) (o : SearchOutcome) → IsFound (outcome_answer t budget o).status
found_status t budget (optimal m plan) = inl refl
found_status t budget none_up_to = inr (inl refl)
found_status t budget never = inr (inl refl)
found_status t budget (budget_spent r) = inr (inr refl)

module _ (d : Domain) (p : Problem) (task : TaskShape) (kept : Pruned) (stands : StandsFor d p task kept) (budget : Budget) (small : budget.max ≤ 1000000) where
  -- with enough nodes an optimal plan is found
  pub plan_found : (plan : List Occ) (o : SearchOutcome) → IsOptimal task plan → makespan task plan ≤ budget.max → HasSmallTrees kept.task budget.nodes (makespan task plan) → IsOutcome kept.task budget o
      → (outcome_answer kept.task budget o).status ≡ 0
  plan_found plan o best low few is =
      let k = (stands.keeps.optimal plan).0 best in
      let new = renumbered_plan kept.actions plan in
      let same : makespan kept.task new ≡ makespan task plan = stands.keeps.same_makespan plan k.0 in
      let found = finds-plans (full_search kept.task is.tables) budget.max budget.nodes new o (searchable kept.task is.tables stands.plain is.best) small k.1 (omega (arith, same, low))
      (λ b le more. few b (omega (arith, le, same)) (is.tables, is.best, more)) is.has in
      ap (λ o. (outcome_answer kept.task budget o).status) found.1

  -- and where there is none it is said so
  pub none_found : (o : SearchOutcome) → IsRefuted task budget.max → HasSmallTrees kept.task budget.nodes budget.max → IsOutcome kept.task budget o → (outcome_answer kept.task budget o).status ≡ 2
  none_found o none few is =
      let found = finds-none (full_search kept.task is.tables) budget.max budget.nodes o (searchable kept.task is.tables stands.plain is.best) small ((stands.keeps.refuted budget.max).0 none)
      (λ b le more. few b le (is.tables, is.best, more)) is.has in
      elim found [ inl e ↦ ap (λ o. (outcome_answer kept.task budget o).status) e | inr e ↦ ap (λ o. (outcome_answer kept.task budget o).status) e.0 ]
