-- what the command promises
use Rattle.std.proofs.Common.{◌≡◌, ◌≢◌, ℕ, ◌⊎◌, inl, inr, List, Option, Ok, IfSome, refl, sym, ap, ◌∙◌, arith}
use Rattle.std.specs.Io.KnownBytes.{append_known}
use Rattle.cpt_io.specs.Meaning.{Files}
use Rattle.cpt_answer.specs.Endings.{Answer, answer, answer_of}
use Rattle.cpt_answer.specs.Promise.{AnswersOver, Call, IsAnswerOf, Performs}
use Rattle.cpt_answer.proofs.Giving.{if_some_weaker}
use Rattle.cpt_answer.proofs.Promise.{complete, performs_over, told_of}
use Rattle.cpt_cert_file.proofs.Statuses.{each_status}
use Rattle.cpt_check_files.proofs.Keeping.{not_read}
use Rattle.cpt_check_files.specs.Commands.{IsRuling}
use Rattle.cpt_check_files.specs.Rulings.{rejected_lines}
use Rattle.cpt_trim_files.specs.Commands.{TrimsProblem}
use Rattle.cpt_trim_files.specs.Trims.{TrimsFiles}
use Rattle.cpt_trim_files.proofs.Trimmed.{accepted_is_zero, held_is_ruled, one_is_rejected, rejected_is_one, trims_once, zero_is_trimmed}

-- an answer of another status than 0 is the only one
only_answer : (files : Files) (d p c : List ℕ) (a b : Answer) → IsAnswerOf (TrimsFiles files d p c) a → IsAnswerOf (TrimsFiles files d p c) b → a.status ≢ 0 → a ≡ b
only_answer files d p c a b h k not =
    h.2 ∙ ap answer_of (trims_once files d p c h.0 k.0 h.1 k.1 (λ e. not (ap (λ (a : Answer). a.status) h.2 ∙ e))) ∙ sym k.2

problem_kept : (files : Files) (d p c : List ℕ) (x : Call) → Performs (IsAnswerOf (TrimsFiles files d p c)) x → TrimsProblem files d p c x
problem_kept files d p c x h = record {
  trimmed = (λ zero.
      let at = told_of (TrimsFiles files d p c) x 0 (omega arith) h zero in
      let good = zero_is_trimmed files d p c at.0 at.1 at.2 in
      let is = good.3 in
      (good.0, good.1, good.2, (is.version, is.claim, is.dropped, is.is, at.3 ∙ ap (append_known x.old.written) is.told_is)));
  trims = (λ kept text held accepted quiet.
      let S : ℕ → Type 0 = λ s. (s ≡ 9) ⊎ (s ≡ 0) in
      each_status (TrimsFiles files d p c) S x (inl refl) (λ never. elim never [ inl e ↦ cc | inr e ↦ cc ]) (λ r is. inr (accepted_is_zero files d p c kept text held accepted r is)) h quiet);
  rejected = (λ one.
      let at = told_of (TrimsFiles files d p c) x 1 (omega arith) h one in
      let bad = one_is_rejected files d p c at.0 at.1 at.2 in
      let is = bad.3 in
      (bad.0, bad.1, bad.2, (is.version, is.line, is.why, is.is, at.3 ∙ ap (append_known x.old.written) is.told_is)));
  rejects = (λ kept text version line why held is quiet.
      let a = answer 1 (rejected_lines version line why) in
      let of : IsAnswerOf (TrimsFiles files d p c) a = (Ok a, rejected_is_one files d p c kept text version line why held is, refl) in
      complete (IsAnswerOf (TrimsFiles files d p c)) x h a of (λ b k. only_answer files d p c a b of k (λ e. cc)) (λ e. cc) quiet);
  complete = (λ a is not_seven not_zero quiet. complete (IsAnswerOf (TrimsFiles files d p c)) x h a is (λ b k. only_answer files d p c a b is k not_zero) not_seven quiet);
  within = (λ kept text held quiet. each_status (TrimsFiles files d p c) IsRuling x (inr (inr refl)) (not_read 7 refl) (held_is_ruled files d p c kept text held) h quiet);
}

pub keeps_problem : (o : Option Files) (d p c : List ℕ) (x : Call) → Performs (AnswersOver o (λ files. TrimsFiles files d p c)) x → IfSome o (λ files. TrimsProblem files d p c x)
keeps_problem o d p c x h =
    if_some_weaker o (λ files. Performs (IsAnswerOf (TrimsFiles files d p c)) x) (λ files. TrimsProblem files d p c x) (λ files. problem_kept files d p c x) (performs_over o (λ files. TrimsFiles files d p c) x h)
