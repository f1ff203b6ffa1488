use Rattle.cpt_answer.specs.Promise.{call}
use Rattle.cpt_answer.specs.Writing.{output}
use Rattle.cpt_bench.specs.Commands.{BenchesProblem}
use Rattle.cpt_top.proofs.RunLemmas.{told_all}
use Rattle.cpt_top.proofs.running.perform.Goals as goal

pub returns-in-ValidateTask-clause-performs : goal.returns-in-ValidateTask-clause-performs
returns-in-ValidateTask-clause-performs g c = rw c.in-ValidateTask.is c.validate_task.ensures.performs

pub returns-in-ValidateTask-clause-keeps : goal.returns-in-ValidateTask-clause-keeps
returns-in-ValidateTask-clause-keeps g c = rw c.in-ValidateTask.is c.validate_task.ensures.keeps

pub returns-in-Validate-clause-performs : goal.returns-in-Validate-clause-performs
returns-in-Validate-clause-performs g c = rw c.in-Validate.is c.validate.ensures.performs

pub returns-in-Validate-clause-keeps : goal.returns-in-Validate-clause-keeps
returns-in-Validate-clause-keeps g c = rw c.in-Validate.is c.validate.ensures.keeps

pub returns-in-Ground-clause-performs : goal.returns-in-Ground-clause-performs
returns-in-Ground-clause-performs g c = rw c.in-Ground.is c.ground.ensures.performs

pub returns-in-Ground-clause-keeps : goal.returns-in-Ground-clause-keeps
returns-in-Ground-clause-keeps g c = rw c.in-Ground.is c.ground.ensures.keeps

pub returns-in-Check-clause-performs : goal.returns-in-Check-clause-performs
returns-in-Check-clause-performs g c = rw c.in-Check.is c.check_certificate.ensures.performs

pub returns-in-Check-clause-keeps : goal.returns-in-Check-clause-keeps
returns-in-Check-clause-keeps g c = rw c.in-Check.is c.check_certificate.ensures.keeps

pub returns-in-Solve-clause-performs : goal.returns-in-Solve-clause-performs
returns-in-Solve-clause-performs g c = rw c.in-Solve.is c.solve.ensures.performs

pub returns-in-Solve-clause-keeps : goal.returns-in-Solve-clause-keeps
returns-in-Solve-clause-keeps g c = rw c.in-Solve.is c.solve.ensures.keeps

pub returns-in-Prove-clause-performs : goal.returns-in-Prove-clause-performs
returns-in-Prove-clause-performs g c = rw c.in-Prove.is c.prove.ensures.performs

pub returns-in-Prove-clause-keeps : goal.returns-in-Prove-clause-keeps
returns-in-Prove-clause-keeps g c = rw c.in-Prove.is c.prove.ensures.keeps

pub returns-in-Trim-clause-performs : goal.returns-in-Trim-clause-performs
returns-in-Trim-clause-performs g c = rw c.in-Trim.is c.trim_certificate.ensures.performs

pub returns-in-Trim-clause-keeps : goal.returns-in-Trim-clause-keeps
returns-in-Trim-clause-keeps g c = rw c.in-Trim.is c.trim_certificate.ensures.keeps

pub returns-in-Tighten-clause-performs : goal.returns-in-Tighten-clause-performs
returns-in-Tighten-clause-performs g c = rw c.in-Tighten.is c.tighten_plan.ensures.performs

pub returns-in-Tighten-clause-keeps : goal.returns-in-Tighten-clause-keeps
returns-in-Tighten-clause-keeps g c = rw c.in-Tighten.is c.tighten_plan.ensures.keeps

pub returns-in-Explain-clause-performs : goal.returns-in-Explain-clause-performs
returns-in-Explain-clause-performs g c = rw c.in-Explain.is c.explain_plan.ensures.performs

pub returns-in-Explain-clause-keeps : goal.returns-in-Explain-clause-keeps
returns-in-Explain-clause-keeps g c = rw c.in-Explain.is c.explain_plan.ensures.keeps

pub returns-in-ExplainCert-clause-performs : goal.returns-in-ExplainCert-clause-performs
returns-in-ExplainCert-clause-performs g c = rw c.in-ExplainCert.is c.explain_cert.ensures.performs

pub returns-in-ExplainCert-clause-keeps : goal.returns-in-ExplainCert-clause-keeps
returns-in-ExplainCert-clause-keeps g c = rw c.in-ExplainCert.is c.explain_cert.ensures.keeps

pub returns-in-Export-clause-performs : goal.returns-in-Export-clause-performs
returns-in-Export-clause-performs g c = rw c.in-Export.is c.export.ensures.performs

pub returns-in-Export-clause-keeps : goal.returns-in-Export-clause-keeps
returns-in-Export-clause-keeps g c = rw c.in-Export.is c.export.ensures.keeps

pub returns-in-ValidateJson-clause-performs : goal.returns-in-ValidateJson-clause-performs
returns-in-ValidateJson-clause-performs g c = rw c.in-ValidateJson.is c.validate_json.ensures.performs

pub returns-in-ValidateJson-clause-keeps : goal.returns-in-ValidateJson-clause-keeps
returns-in-ValidateJson-clause-keeps g c = rw c.in-ValidateJson.is c.validate_json.ensures.keeps

pub returns-in-Bench-clause-performs : goal.returns-in-Bench-clause-performs
returns-in-Bench-clause-performs g c = rw c.in-Bench.is (c.bench.ensures.performs (g.L.Library.holds c.args.lib.now) (g.L.Library.steady c.args.lib.now) (g.L.Library.faults c.args.lib.now))

pub returns-in-Bench-clause-keeps : goal.returns-in-Bench-clause-keeps
returns-in-Bench-clause-keeps g c =
    rw c.in-Bench.is (told_all (g.L.Library.holds c.args.lib.now)
    (λ files. BenchesProblem c.in-Bench.n (call (g.L.Library.steady c.args.lib.now) (g.L.Library.faults c.args.lib.now) (g.L.Library.faults c.args.lib.now) (output (g.K.Sink.faults c.args.out.now) (g.K.Sink.written c.args.out.now))
    (output (g.K.Sink.faults c.bench.new.out) (g.K.Sink.written c.bench.new.out)) c.bench.result)) (λ files. c.bench.ensures.keeps (g.L.Library.steady c.args.lib.now) (g.L.Library.faults c.args.lib.now)))
