use Rattle.std.proofs.Common.{◌≡◌, ℕ, inl, inr, List, Option, Result, IfSome, refl, sym, ap, ◌∙◌, subst, arith}
use Rattle.std.specs.Io.KnownBytes.{append_known}
use Rattle.cpt_io.specs.Meaning.{Files}
use Rattle.cpt_answer.specs.declared.ending.Ending.{Ending}
use Rattle.cpt_answer.specs.Endings.{Answer, answer_of, read_answer}
use Rattle.cpt_answer.specs.Promise.{AnswersOver, Call, IsAnswerOf, Performs}
use Rattle.cpt_answer.proofs.Giving.{if_some_weaker}
use Rattle.cpt_answer.proofs.Promise.{among, comes, comes_with, performs_over, told_of, undisturbed}
use Rattle.cpt_check_files.specs.Commands.{ChecksProblem, IsRuling}
use Rattle.cpt_check_files.specs.Rulings.{ChecksFiles, accepted_lines, rejected_lines}
use Rattle.cpt_check_files.proofs.Certified.{checked_is_zero, checks_files_once, checks_ruling, fault_is_one, holds_of_kept, holds_over_ground, holds_with_absence, one_is_fault, zero_is_checked}

-- an answer that a file cannot be read has no such status
pub not_read : (s : ℕ) → s ≡ 7 → IsRuling s → ⊥
not_read s seven h = elim h [ inl e ↦ omega (arith, e, seven) | inr k ↦ elim k [ inl e ↦ omega (arith, e, seven) | inr e ↦ omega (arith, e, seven) ] ]

rulings : (P : Result Answer Ending → Type 0) → ((r : Result Answer Ending) → P r → IsRuling (answer_of r).status) → (a : Answer) → IsAnswerOf P a → IsRuling a.status
rulings P each a h = subst IsRuling (sym (ap (λ (a : Answer). a.status) h.2)) (each h.0 h.1)

problem_kept : (files : Files) (d p c : List ℕ) (x : Call) → Performs (IsAnswerOf (ChecksFiles files d p c)) x → ChecksProblem files d p c x
problem_kept files d p c x h = record {
  accepted = (λ zero.
      let at = told_of (ChecksFiles files d p c) x 0 (omega arith) h zero in
      let good = zero_is_checked files d p c at.0 at.1 at.2 in (
        good.0,
        good.1,
        good.2,
        holds_of_kept files d p c good.0 good.1 good.2,
        holds_over_ground files d p c good.0 good.1 good.2,
        holds_with_absence files d p c good.0 good.1 good.2,
        at.3 ∙ ap (append_known x.old.written) good.3,
      ));
  accepts = (λ version claim holds. comes_with (ChecksFiles files d p c) x (checks_files_once files d p c) h 0 (accepted_lines version claim) (λ e. cc) (checked_is_zero files d p c version claim holds));
  rejected = (λ one.
      let at = told_of (ChecksFiles files d p c) x 1 (omega arith) h one in
      let bad = one_is_fault files d p c at.0 at.1 at.2 in
      (bad.0, bad.1, bad.2, bad.3, at.3 ∙ ap (append_known x.old.written) bad.4));
  rejects = (λ version line why holds. comes_with (ChecksFiles files d p c) x (checks_files_once files d p c) h 1 (rejected_lines version line why) (λ e. cc) (fault_is_one files d p c version line why holds));
  complete = comes (ChecksFiles files d p c) x (checks_files_once files d p c) h;
  within = (λ domain problem task kept text a held size quiet.
      let each = rulings (ChecksFiles files d p c) (checks_ruling files d p c domain problem task kept text a held size) in
      among (IsAnswerOf (ChecksFiles files d p c)) IsRuling x (inr (inr refl)) (λ a is low. each a is) h
      (undisturbed (IsAnswerOf (ChecksFiles files d p c) read_answer → ⊥) x (λ read. not_read 7 refl (each read_answer read)) quiet));
}

pub keeps_problem : (o : Option Files) (d p c : List ℕ) (x : Call) → Performs (AnswersOver o (λ files. ChecksFiles files d p c)) x → IfSome o (λ files. ChecksProblem files d p c x)
keeps_problem o d p c x h =
    if_some_weaker o (λ files. Performs (IsAnswerOf (ChecksFiles files d p c)) x) (λ files. ChecksProblem files d p c x) (λ files. problem_kept files d p c x) (performs_over o (λ files. ChecksFiles files d p c) x h)
