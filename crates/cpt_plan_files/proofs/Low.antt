use Rattle.std.proofs.Common.{◌≡◌, ◌≢◌, ℕ, ◌≤◌, ◌<◌, ◌⊎◌, inl, inr, Bool, Option, Result, Ok, Err, IfOk, IfSome, arith, refl}
use Rattle.cpt_io.specs.Meaning.{Files}
use Rattle.cpt_answer.specs.declared.ending.Ending.{Ending}
use Rattle.cpt_answer.specs.declared.ending.Ending.TheVariants.{Read}
use Rattle.cpt_answer.specs.declared.ending.Reply.{Reply}
use Rattle.cpt_answer.specs.Endings.{Answer, reply_answer, told}
use Rattle.cpt_answer.specs.Giving.{Gives}
use Rattle.cpt_answer.specs.Promise.{AnswersOver, IsAnswerOf, Performs, answers, call}
use Rattle.cpt_answer.specs.Writing.{Output, Tells}
use Rattle.cpt_answer.proofs.Giving.{if_some_weaker}
use Rattle.cpt_answer.proofs.Promise.{performs}

-- the statuses of replies about the faults of a plan
abbrev pub IsFaultStatus : ℕ → Type 0
IsFaultStatus s = (s ≤ 1) ⊎ (s ≡ 6)

low : (s : ℕ) → IsFaultStatus s → s < 7
low s (inl le) = omega (arith, le)
low s (inr six) = omega (arith, six)

not_usage : (s : ℕ) → IsFaultStatus s → s ≢ 5
not_usage s (inl le) five = omega (arith, le, five)
not_usage s (inr six) five = omega (arith, six, five)

-- a command that writes its reply, which may say that a limit was passed, or how it ends
pub performs_limited : (o : Option Files) (steady : Bool) (P : Files → Result Answer Ending → Type 0) (r : Result Reply Ending) (before now : ℕ) (old new : Output) (status : ℕ) → IfSome o (λ files. Gives steady reply_answer r (P files))
    → IfOk r (λ reply. IsFaultStatus reply.status) → (r ≡ Err Read → before < now) → (r ≢ Err Read → now ≡ before) → Tells (told r) old new status → Performs (AnswersOver o P) (call steady before now old new status)
performs_limited o steady P (Ok reply) before now old new status g s failed kept w =
    answers (reply_answer reply)
    (record { over = if_some_weaker o (λ files. P files (Ok (reply_answer reply))) (λ files. IsAnswerOf (P files) (reply_answer reply)) (λ files p. (Ok (reply_answer reply), p, refl)) g; asked = not_usage reply.status s })
    (low reply.status s) (kept (λ e. cc)) w
performs_limited o steady P (Err e) before now old new status g s failed kept w =
    performs o steady P (Err e) before now old new status (record { answer = g; status = tt; failed = failed; kept = kept }) w
