use Rattle.std.proofs.Common.{true}
use Rattle.cpt_check_files.proofs.CheckingFiles.{checked_files}
use Rattle.cpt_answer.proofs.Giving.{told_before}
use Rattle.cpt_check_files.proofs.Ends.{reply_end}
use Rattle.cpt_check_files.proofs.checking.check_files.Goals as goal

pub returns-clause-answer : goal.returns-clause-answer
returns-clause-answer g c =
    checked_files (g.L.Library.holds c.args.lib.now) (g.L.Library.holds c.accepted_in.new.lib) (g.L.Library.steady c.args.lib.now) c.args.domain_name.now c.args.problem_name.now c.args.cert_name.now c.in-Ok.accepted
    c.in-Ok-ruling_in.judged c.reply_at.result c.in-Ok.ensures.same c.in-Ok.ensures.answer c.in-Ok-ruling_in.ensures.answer (c.reply_at.ensures.answer (g.L.Library.steady c.args.lib.now))

pub returns-clause-end : goal.returns-clause-end
returns-clause-end g c =
    reply_end c.reply_at.result c.in-Ok-ruling_in.judged _ (c.reply_at.ensures.answer true)
    (λ zero told. c.in-Ok-ruling_in.ensures.end zero (told_before (g.L.Library.holds c.args.lib.now) (g.L.Library.holds c.accepted_in.new.lib) c.in-Ok.ensures.same told))
