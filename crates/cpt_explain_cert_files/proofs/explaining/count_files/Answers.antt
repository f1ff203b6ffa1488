use Rattle.std.proofs.Common.{List, ℕ, subst}
use Rattle.cpt_answer.specs.Endings.{reply_answer}
use Rattle.cpt_answer.specs.Giving.{Gives}
use Rattle.cpt_cert_file.proofs.Holding.{over_text}
use Rattle.cpt_explain_cert_files.specs.Counted.{CountsText}
use Rattle.cpt_explain_cert_files.proofs.explaining.count_files.Goals as goal

pub returns-clause-answer : goal.returns-clause-answer
returns-clause-answer g c =
    over_text (g.L.Library.holds c.args.lib.now) (g.L.Library.holds c.accepted_in.new.lib) (g.L.Library.steady c.args.lib.now) c.args.domain_name.now c.args.problem_name.now c.args.cert_name.now CountsText c.in-Ok.accepted
    c.in-Ok-certificate_in.text.items c.count_reply.result c.in-Ok.ensures.same c.in-Ok.ensures.answer c.in-Ok-certificate_in.ensures.answer
    (subst (λ (z : List ℕ). Gives (g.L.Library.steady c.args.lib.now) reply_answer c.count_reply.result (CountsText c.in-Ok.accepted.kept.task z)) c.deref.ensures.value (c.count_reply.ensures.answer (g.L.Library.steady c.args.lib.now)))
