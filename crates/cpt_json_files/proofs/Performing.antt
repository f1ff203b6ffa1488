-- Commands that answer 4 by a reply.
use Rattle.std.proofs.Common.{◌≡◌, ◌≢◌, ℕ, ◌<◌, ◌≤◌, Bool, Option, Result, Ok, Err, IfOk, IfSome, refl, arith}
use Rattle.cpt_io.specs.Meaning.{Files}
use Rattle.cpt_answer.specs.declared.ending.Ending.{Ending}
use Rattle.cpt_answer.specs.declared.ending.Ending.TheVariants.{Read}
use Rattle.cpt_answer.specs.declared.ending.Reply.{Reply}
use Rattle.cpt_answer.specs.Endings.{Answer, reply_answer, told}
use Rattle.cpt_answer.specs.Giving.{Gives}
use Rattle.cpt_answer.specs.Promise.{AnswersOver, IsAnswerOf, Performs, answers, call}
use Rattle.cpt_answer.specs.Writing.{Output, Tells}
use Rattle.cpt_answer.proofs.Giving.{if_some_weaker}
use Rattle.cpt_answer.proofs.Promise.{Worked, performs}

-- what is known of a reply with a status of at most 4, or of how a command ends
pub record Replied (o : Option Files) (steady : Bool) (P : Files → Result Answer Ending → Type 0) (r : Result Reply Ending) (before now : ℕ) : Type 0 where
  pub answer : IfSome o (λ files. Gives steady reply_answer r (P files))
  pub status : IfOk r (λ reply. reply.status ≤ 4)
  pub failed : r ≡ Err Read → before < now
  pub kept : r ≢ Err Read → now ≡ before

ended : (o : Option Files) (steady : Bool) (P : Files → Result Answer Ending → Type 0) (e : Ending) (before now : ℕ) → Replied o steady P (Err e) before now → Worked o steady P (Err e) before now
ended o steady P e before now h = record { answer = h.answer; status = tt; failed = h.failed; kept = h.kept }

pub performs_reply : (o : Option Files) (steady : Bool) (P : Files → Result Answer Ending → Type 0) (r : Result Reply Ending) (before now : ℕ) (old new : Output) (status : ℕ) → Replied o steady P r before now → Tells (told r) old new status
    → Performs (AnswersOver o P) (call steady before now old new status)
performs_reply o steady P (Ok reply) before now old new status h w =
    answers (reply_answer reply)
    (record { over = if_some_weaker o (λ files. P files (Ok (reply_answer reply))) (λ files. IsAnswerOf (P files) (reply_answer reply)) (λ files p. (Ok (reply_answer reply), p, refl)) h.answer; asked = (λ e. omega (arith, h.status, e)) }) (omega (arith, h.status))
    (h.kept (λ e. cc)) w
performs_reply o steady P (Err e) before now old new status h w = performs o steady P (Err e) before now old new status (ended o steady P e before now h) w
