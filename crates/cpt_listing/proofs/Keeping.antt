use Rattle.std.proofs.Common.{◌≡◌, ℕ, List, Option, Result, Ok, IfSome, refl, sym, ap, ◌∙◌, subst, arith}
use Rattle.std.specs.Io.KnownBytes.{append_known}
use Rattle.cpt_io.specs.Meaning.{Files}
use Rattle.cpt_task_text.proofs.Whole.{task_again}
use Rattle.cpt_task_text.specs.Spelling.{spelling}
use Rattle.cpt_reach.specs.declared.pruning.Pruned.{Pruned}
use Rattle.cpt_answer.specs.declared.ending.Ending.{Ending}
use Rattle.cpt_answer.specs.Endings.{Answer, answer, answer_of}
use Rattle.cpt_answer.specs.Promise.{AnswersOver, Call, IsAnswerOf, Performs}
use Rattle.cpt_answer.proofs.Giving.{if_some_weaker, then_by_once}
use Rattle.cpt_answer.proofs.Promise.{comes, comes_with, performs_over, then_zero, told_of}
use Rattle.cpt_files.specs.Accepted.{AcceptsTask, accepted}
use Rattle.cpt_files.proofs.Accepting.{accepted_is, is_accepted}
use Rattle.cpt_files.proofs.Once.{accepts_once}
use Rattle.cpt_kept.specs.Kept.{HoldKept}
use Rattle.cpt_kept.proofs.Standing.{stands_for}
use Rattle.cpt_listing.specs.Listing.{ListsProblem, ListsTask}

-- a domain and a problem come to one end
pub lists_task_once : (files : Files) (d p : List ℕ) (r s : Result Answer Ending) → ListsTask files d p r → ListsTask files d p s → r ≡ s
lists_task_once files d p r s = then_by_once (AcceptsTask files d p) (λ a r. r ≡ Ok (answer 0 (spelling a.kept.task))) (accepts_once files d p) (λ a x y _ h k. h ∙ sym k) r s

zero_is_listed : (files : Files) (dn pn : List ℕ) (r : Result Answer Ending) → ListsTask files dn pn r → (answer_of r).status ≡ 0 → (kept : Pruned) × HoldKept files dn pn kept × ((answer_of r).text ≡ spelling kept.task)
zero_is_listed files dn pn r h zero =
    let a = then_zero h.0 (λ a r. r ≡ Ok (answer 0 (spelling a.kept.task))) r h.2 zero in
    let holds = is_accepted files dn pn a.0 (subst (AcceptsTask files dn pn) a.1 h.1) in
    (a.0.kept, record { domain = a.0.domain; problem = a.0.problem; task = holds.0; accepted = holds.1 }, ap (λ x. (answer_of x).text) a.2)

listed_is_zero : (files : Files) (dn pn : List ℕ) (kept : Pruned) → HoldKept files dn pn kept → ListsTask files dn pn (Ok (answer 0 (spelling kept.task)))
listed_is_zero files dn pn kept h = (Ok (accepted h.domain h.problem kept), accepted_is files dn pn h.domain h.problem h.task kept h.accepted, refl)

problem_kept : (files : Files) (d p : List ℕ) (x : Call) → Performs (IsAnswerOf (ListsTask files d p)) x → ListsProblem files d p x
problem_kept files d p x h = record {
  listed = (λ zero.
      let at = told_of (ListsTask files d p) x 0 (omega arith) h zero in
      let kept = zero_is_listed files d p at.0 at.1 at.2 in
      let stands = stands_for files d p kept.1.domain kept.1.problem kept.1.task kept.0 kept.1.accepted in
      (kept.0, kept.1, stands.plain, task_again kept.0.task stands.plain, at.3 ∙ ap (append_known x.old.written) kept.2));
  lists = (λ kept holds. comes_with (ListsTask files d p) x (lists_task_once files d p) h 0 (spelling kept.task) (λ e. cc) (listed_is_zero files d p kept holds));
  complete = comes (ListsTask files d p) x (lists_task_once files d p) h;
}

pub keeps_problem : (o : Option Files) (d p : List ℕ) (x : Call) → Performs (AnswersOver o (λ files. ListsTask files d p)) x → IfSome o (λ files. ListsProblem files d p x)
keeps_problem o d p x h =
    if_some_weaker o (λ files. Performs (IsAnswerOf (ListsTask files d p)) x) (λ files. ListsProblem files d p x) (λ files. problem_kept files d p x) (performs_over o (λ files. ListsTask files d p) x h)
