-- statuses of calls
use Rattle.std.proofs.Common.{ℕ, Result, sym, ap, subst}
use Rattle.cpt_answer.specs.declared.ending.Ending.{Ending}
use Rattle.cpt_answer.specs.Endings.{Answer, answer_of, read_answer}
use Rattle.cpt_answer.specs.Promise.{Call, IsAnswerOf, IsUndisturbed, Performs}
use Rattle.cpt_answer.proofs.Promise.{among, undisturbed}

-- where each end that is come to has such a status, so has the call
pub each_status : (P : Result Answer Ending → Type 0) (S : ℕ → Type 0) (x : Call) → S 9 → (S 7 → ⊥) → ((r : Result Answer Ending) → P r → S (answer_of r).status) → Performs (IsAnswerOf P) x → IsUndisturbed x → S x.status
each_status P S x nine seven each h quiet =
    let all : (a : Answer) → IsAnswerOf P a → S a.status = λ a is. subst S (sym (ap (λ (a : Answer). a.status) is.2)) (each is.0 is.1) in
    among (IsAnswerOf P) S x nine (λ a is low. all a is) h (undisturbed (IsAnswerOf P read_answer → ⊥) x (λ read. seven (all read_answer read)) quiet)
