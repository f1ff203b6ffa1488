use Rattle.std.proofs.Common.{List, ℕ, Err, ap, subst}
use Rattle.cpt_trim.specs.Trimming.{Trims}
use Rattle.cpt_trim.specs.declared.trimmed.TrimError.{TrimError}
use Rattle.cpt_answer.specs.Endings.{answer}
use Rattle.cpt_trim_files.proofs.Trimmed.{rejected_reply, trimmed_reply}
use Rattle.cpt_trim_files.proofs.trimming.trim_reply.Goals as goal

pub returns-in-Ok-clause-answer : goal.returns-in-Ok-clause-answer
returns-in-Ok-clause-answer c = λ steady.
    trimmed_reply c.args.task.now c.args.text.now c.in-Ok.field-0-0.version c.in-Ok.field-0-0.claim c.in-Ok.field-0-0.dropped steady (record { status = 0; text = c.in-Ok.left }) c.in-Ok.ensures.0
    (ap (λ (z : List ℕ). answer 0 z) c.in-Ok.ensures.1)

pub returns-in-Ok-ruling_reply-clause-answer : goal.returns-in-Ok-ruling_reply-clause-answer
returns-in-Ok-ruling_reply-clause-answer c = λ steady.
    rejected_reply c.args.task.now c.args.text.now c.in-Err-Rejected.version c.in-Err-Rejected.line c.in-Err-Rejected.why steady c.in-Ok-ruling_reply.reply
    (subst (λ (z : TrimError). Trims c.args.task.now c.args.text.now (Err z)) c.in-Err-Rejected.field-0-is c.in-Err-Rejected.ensures) c.in-Ok-ruling_reply.ensures.answer
