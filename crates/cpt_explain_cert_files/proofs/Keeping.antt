-- what the command promises
use Rattle.std.proofs.Common.{ℕ, inr, List, Option, IfSome, refl, ap, ◌∙◌, arith}
use Rattle.std.specs.Io.KnownBytes.{append_known}
use Rattle.cpt_io.specs.Meaning.{Files}
use Rattle.cpt_answer.specs.Promise.{AnswersOver, Call, IsAnswerOf, Performs}
use Rattle.cpt_answer.proofs.Giving.{if_some_weaker}
use Rattle.cpt_answer.proofs.Promise.{comes, comes_with, performs_over, told_of}
use Rattle.cpt_cert_file.proofs.Statuses.{each_status}
use Rattle.cpt_check_files.specs.Commands.{IsRuling}
use Rattle.cpt_check_files.specs.Rulings.{rejected_lines}
use Rattle.cpt_check_files.proofs.Certified.{holds_of_kept, holds_over_ground, holds_with_absence}
use Rattle.cpt_check_files.proofs.Keeping.{not_read}
use Rattle.cpt_explain_cert_files.specs.Commands.{CountsProblem}
use Rattle.cpt_explain_cert_files.specs.Counted.{CountsFiles, counted_lines}
use Rattle.cpt_explain_cert_files.proofs.Counts.{counted_is_zero, faulty_is_one, held_is_ruled, one_is_faulty, zero_is_counted}
use Rattle.cpt_explain_cert_files.proofs.Once.{counts_once}

problem_kept : (files : Files) (d p c : List ℕ) (x : Call) → Performs (IsAnswerOf (CountsFiles files d p c)) x → CountsProblem files d p c x
problem_kept files d p c x h = record {
  accepted = (λ zero.
      let at = told_of (CountsFiles files d p c) x 0 (omega arith) h zero in
      let good = zero_is_counted files d p c at.0 at.1 at.2 in (
        good.version,
        good.claim,
        good.held,
        holds_of_kept files d p c good.version good.claim good.held,
        holds_over_ground files d p c good.version good.claim good.held,
        holds_with_absence files d p c good.version good.claim good.held,
        record { size = good.size; counts = good.counts; counted = good.counted; written = at.3 ∙ ap (append_known x.old.written) good.told_is },
      ));
  accepts = (λ version claim counts held size are. comes_with (CountsFiles files d p c) x (counts_once files d p c) h 0 (counted_lines version claim counts) (λ e. cc) (counted_is_zero files d p c version claim counts held size are));
  rejected = (λ one.
      let at = told_of (CountsFiles files d p c) x 1 (omega arith) h one in
      let bad = one_is_faulty files d p c at.0 at.1 at.2 in
      (bad.version, bad.line, bad.why, bad.held, bad.size, at.3 ∙ ap (append_known x.old.written) bad.told_is));
  rejects = (λ version line why held size. comes_with (CountsFiles files d p c) x (counts_once files d p c) h 1 (rejected_lines version line why) (λ e. cc) (faulty_is_one files d p c version line why held size));
  complete = comes (CountsFiles files d p c) x (counts_once files d p c) h;
  within = (λ kept text held quiet. each_status (CountsFiles files d p c) IsRuling x (inr (inr refl)) (not_read 7 refl) (held_is_ruled files d p c kept text held) h quiet);
}

pub keeps_problem : (o : Option Files) (d p c : List ℕ) (x : Call) → Performs (AnswersOver o (λ files. CountsFiles files d p c)) x → IfSome o (λ files. CountsProblem files d p c x)
keeps_problem o d p c x h =
    if_some_weaker o (λ files. Performs (IsAnswerOf (CountsFiles files d p c)) x) (λ files. CountsProblem files d p c x) (λ files. problem_kept files d p c x) (performs_over o (λ files. CountsFiles files d p c) x h)
