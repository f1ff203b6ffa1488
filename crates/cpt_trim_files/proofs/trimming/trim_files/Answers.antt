use Rattle.std.proofs.Common.{List, ℕ, subst}
use Rattle.cpt_answer.specs.Endings.{reply_answer}
use Rattle.cpt_answer.specs.Giving.{Gives}
use Rattle.cpt_cert_file.proofs.Holding.{over_text}
use Rattle.cpt_trim_files.specs.Trims.{TrimsText}
use Rattle.cpt_trim_files.proofs.trimming.trim_files.Goals as goal

pub returns-clause-answer : goal.returns-clause-answer
returns-clause-answer g c =
    over_text (g.L.Library.holds c.args.lib.now) (g.L.Library.holds c.accepted_in.new.lib) (g.L.Library.steady c.args.lib.now) c.args.domain_name.now c.args.problem_name.now c.args.cert_name.now TrimsText c.in-Ok.accepted
    c.in-Ok-certificate_in.text.items c.trim_reply.result c.in-Ok.ensures.same c.in-Ok.ensures.answer c.in-Ok-certificate_in.ensures.answer
    (subst (λ (z : List ℕ). Gives (g.L.Library.steady c.args.lib.now) reply_answer c.trim_reply.result (TrimsText c.in-Ok.accepted.kept.task z)) c.deref.ensures.value (c.trim_reply.ensures.answer (g.L.Library.steady c.args.lib.now)))
