use Rattle.std.proofs.Common.{◌≡◌, ◌≢◌, ℕ, ◌⊎◌, inl, inr, Bool, List, Option, Result, Ok, IfSome, refl, sym, ap, ◌∙◌, subst, arith}
use Rattle.std.specs.Io.KnownBytes.{append_known}
use Rattle.cpt_io.specs.Meaning.{Files}
use Rattle.cpt_task.specs.Shape.{TaskShape}
use Rattle.cpt_domain.specs.declared.domain.Domain.{Domain}
use Rattle.cpt_facts.specs.declared.problem.Problem.{Problem}
use Rattle.cpt_reach.specs.declared.pruning.Pruned.{Pruned}
use Rattle.cpt_answer.specs.declared.ending.Ending.{Ending}
use Rattle.cpt_answer.specs.declared.ending.Reply.{Reply}
use Rattle.cpt_answer.specs.Endings.{Answer, read_answer, reply_answer}
use Rattle.cpt_answer.specs.Giving.{Gives}
use Rattle.cpt_answer.specs.Promise.{AnswersOver, Call, IsAnswerOf, IsUndisturbed, Performs}
use Rattle.cpt_answer.proofs.Giving.{if_some_weaker, then_by_ok}
use Rattle.cpt_answer.proofs.Promise.{among, comes, comes_with, performs_over, told_of, undisturbed}
use Rattle.cpt_files.specs.declared.accepted.Accepted.{Accepted}
use Rattle.cpt_files.specs.Accepted.{AcceptsTask, IsAccepted}
use Rattle.cpt_kept.specs.Kept.{StandsFor}
use Rattle.cpt_kept.proofs.Standing.{stands_for}
use Rattle.cpt_outcome.specs.Outcomes.{SearchOutcome, budget_spent, never, none_up_to, optimal}
use Rattle.cpt_outcome.proofs.OutcomeLemmas.{spent-below-enough, spent-is-larger}
use Rattle.cpt_options.specs.declared.options.Budget.{Budget}
use Rattle.cpt_options.specs.Options.{IsBudget}
use Rattle.cpt_solve.specs.Commands.{AnswersOutcome, HoldOutcome, IsDecided, SolvesFiles, SolvesProblem}
use Rattle.cpt_solve.specs.Lines.{outcome_answer}
use Rattle.cpt_solve.specs.Searches.{IsOutcome, full_search}
use Rattle.cpt_solve.proofs.Deciding.{IsFound, accepted_answer, found_status, none_found, outcome_comes, plan_found, solves_once, three_is_spent, two_is_refuted, zero_is_solved}
use Rattle.cpt_solve.proofs.Outcomes.{outcome_holds, within}
use Rattle.cpt_solve.proofs.Telling.{tells_best, tells_none, tells_none_up_to}

module _ (files : Files) (dn pn : List ℕ) (budget : Budget) where
  standing : (o : SearchOutcome) (held : HoldOutcome files dn pn budget o) → StandsFor held.domain held.problem held.task held.kept
  standing o held = stands_for files dn pn held.domain held.problem held.task held.kept held.accepted

-- a status that is found is none of a failed reading
found_not_seven : (s : ℕ) → IsFound s → s ≢ 7
found_not_seven s is seven = elim is [ inl e ↦ omega (arith, e, seven) | inr k ↦ elim k [ inl e ↦ omega (arith, e, seven) | inr e ↦ omega (arith, e, seven) ] ]

decided : (s : ℕ) → IsFound s → IsDecided s
decided s is = elim is [ inl e ↦ inl e | inr k ↦ elim k [ inl e ↦ inr (inl e) | inr e ↦ inr (inr (inl e)) ] ]

module _ (files : Files) (dn pn : List ℕ) (budget : Budget) (limits : IsBudget budget) (d : Domain) (p : Problem) (task : TaskShape) (kept : Pruned) (is : IsAccepted files dn pn d p task kept) where
  -- over an accepted task, what is so of each outcome's status is so of the call's, or memory was refused
  by_outcome : (S : ℕ → Type 0) (x : Call) → Performs (IsAnswerOf (SolvesFiles files dn pn budget)) x → S 9 → ((o : SearchOutcome) → IsOutcome kept.task budget o → S (outcome_answer kept.task budget o).status) → IsUndisturbed x → S x.status
  by_outcome S x h nine each quiet =
      among (IsAnswerOf (SolvesFiles files dn pn budget)) S x nine
      (λ a a_is low.
      let k = accepted_answer files dn pn budget d p task kept is a_is.0 a_is.1 in
      subst S (sym (ap (λ (a : Answer). a.status) (a_is.2 ∙ k.2))) (each k.0 k.1)) h
      (undisturbed (IsAnswerOf (SolvesFiles files dn pn budget) read_answer → ⊥) x
      (λ read.
      let k = accepted_answer files dn pn budget d p task kept is read.0 read.1 in
      found_not_seven (outcome_answer kept.task budget k.0).status (found_status kept.task budget k.0) (sym (ap (λ (a : Answer). a.status) (read.2 ∙ k.2)))) quiet)

problem_kept : (files : Files) (dn pn : List ℕ) (budget : Budget) (x : Call) → IsBudget budget → Performs (IsAnswerOf (SolvesFiles files dn pn budget)) x → SolvesProblem files dn pn budget x
problem_kept files dn pn budget x limits h = record {
  solved = (λ zero.
      let at = told_of (SolvesFiles files dn pn budget) x 0 (omega arith) h zero in
      let k = zero_is_solved files dn pn budget at.0 at.1 at.2 in
      let held = k.2 in
      let stands = standing files dn pn budget (optimal k.1 k.0) held in
      let says = outcome_holds held.kept.task budget (optimal k.1 k.0) held.outcome stands.plain limits.max in
      let low = within (full_search held.kept.task held.outcome.tables) budget.max budget.nodes k.1 k.0 held.outcome.has in
      let small = limits.max in (
        k.0,
        k.1,
        held,
        tells_best held.domain held.problem held.task held.kept k.0 k.1 stands says.0 says.1 (omega (arith, low, small)),
        at.3 ∙ ap (append_known x.old.written) k.3,
      ));
  refuted = (λ two.
      let at = told_of (SolvesFiles files dn pn budget) x 2 (omega arith) h two in
      elim (two_is_refuted files dn pn budget at.0 at.1 at.2) [
        | inl k ↦ inl (
            let held = k.0 in
            let stands = standing files dn pn budget never held in
            (held, tells_none held.domain held.problem held.task held.kept stands (outcome_holds held.kept.task budget never held.outcome stands.plain limits.max), at.3 ∙ ap (append_known x.old.written) k.1))
        | inr k ↦ inr (
            let held = k.0 in
            let stands = standing files dn pn budget none_up_to held in (
              held,
              tells_none_up_to held.domain held.problem held.task held.kept budget.max stands (outcome_holds held.kept.task budget none_up_to held.outcome stands.plain limits.max),
              at.3 ∙ ap (append_known x.old.written) k.1,
            ))
      ]);
  spent = (λ three.
      let at = told_of (SolvesFiles files dn pn budget) x 3 (omega arith) h three in
      let k = three_is_spent files dn pn budget at.0 at.1 at.2 in
      let held = k.1 in
      let stands = standing files dn pn budget (budget_spent k.0) held in
      let w = full_search held.kept.task held.outcome.tables in (
        k.0,
        held,
        tells_none_up_to held.domain held.problem held.task held.kept k.0 stands (outcome_holds held.kept.task budget (budget_spent k.0) held.outcome stands.plain limits.max),
        (held.outcome.tables, held.outcome.best, spent-is-larger w budget.max budget.nodes k.0 held.outcome.has),
        spent-below-enough w budget.max budget.nodes k.0 stands.plain.bounds refl held.outcome.has,
        at.3 ∙ ap (append_known x.old.written) k.2,
      ));
  answers = (λ o held.
      let a = outcome_answer held.kept.task budget o in
      comes_with (SolvesFiles files dn pn budget) x (solves_once files dn pn budget) h a.status a.text (found_not_seven a.status (found_status held.kept.task budget o)) (outcome_comes files dn pn budget o held));
  complete = comes (SolvesFiles files dn pn budget) x (solves_once files dn pn budget) h;
  decides = (λ d p task kept is quiet. by_outcome files dn pn budget limits d p task kept is IsDecided x h (inr (inr (inr refl))) (λ o has. decided (outcome_answer kept.task budget o).status (found_status kept.task budget o)) quiet);
  finds = (λ d p task kept plan is best low few quiet.
      let stands = stands_for files dn pn d p task kept is in
      let S : ℕ → Type 0 = λ s. (s ≡ 9) ⊎ (s ≡ 0) in
      by_outcome files dn pn budget limits d p task kept is S x h (inl refl) (λ o has. inr (plan_found d p task kept stands budget limits.max plan o best low few has)) quiet);
  finds_none = (λ d p task kept is none few quiet.
      let stands = stands_for files dn pn d p task kept is in
      let S : ℕ → Type 0 = λ s. (s ≡ 9) ⊎ (s ≡ 2) in
      by_outcome files dn pn budget limits d p task kept is S x h (inl refl) (λ o has. inr (none_found d p task kept stands budget limits.max o none few has)) quiet);
}

pub keeps_problem : (o : Option Files) (dn pn : List ℕ) (budget : Budget) (x : Call) → IsBudget budget → Performs (AnswersOver o (λ files. SolvesFiles files dn pn budget)) x → IfSome o (λ files. SolvesProblem files dn pn budget x)
keeps_problem o dn pn budget x limits h =
    if_some_weaker o (λ files. Performs (IsAnswerOf (SolvesFiles files dn pn budget)) x) (λ files. SolvesProblem files dn pn budget x) (λ files. problem_kept files dn pn budget x limits)
    (performs_over o (λ files. SolvesFiles files dn pn budget) x h)

-- what was answered of the accepted task is the answer of the files
pub solved_files : (o : Option Files) (steady : Bool) (dn pn : List ℕ) (budget : Budget) (a : Accepted) (r : Result Reply Ending) → IfSome o (λ files. AcceptsTask files dn pn (Ok a)) → Gives steady reply_answer r (AnswersOutcome a.kept.task budget)
    → IfSome o (λ files. Gives steady reply_answer r (SolvesFiles files dn pn budget))
solved_files o steady dn pn budget a r h g =
    if_some_weaker o (λ files. AcceptsTask files dn pn (Ok a)) (λ files. Gives steady reply_answer r (SolvesFiles files dn pn budget))
    (λ files x. then_by_ok steady reply_answer (AcceptsTask files dn pn) a r (λ a. AnswersOutcome a.kept.task budget) x g) h
