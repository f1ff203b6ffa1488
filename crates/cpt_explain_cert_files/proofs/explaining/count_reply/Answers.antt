use Rattle.cpt_explain_cert_files.proofs.Counts.{counted_here}
use Rattle.cpt_explain_cert_files.proofs.explaining.count_reply.Goals as goal

pub returns-in-Ok-counted_reply-clause-answer : goal.returns-in-Ok-counted_reply-clause-answer
returns-in-Ok-counted_reply-clause-answer c = λ steady.
    counted_here c.args.task.now c.args.text.now c.in-Ok.judged c.counts-counts.result steady c.in-Ok-counted_reply.reply (c.in-Ok.ensures.rules 16777216 c.requires.short) c.counts-counts.ensures.counts c.in-Ok-counted_reply.ensures.answer
