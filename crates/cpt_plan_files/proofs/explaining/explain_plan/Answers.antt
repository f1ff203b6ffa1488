use Rattle.cpt_answer.specs.Promise.{AnswersOver, Performs, call}
use Rattle.cpt_answer.specs.Writing.{output}
use Rattle.cpt_answer.proofs.Promise.{zero_is_ok}
use Rattle.cpt_plan_files.specs.Explaining.{ExplainsPlan}
use Rattle.cpt_plan_files.proofs.Explained.{keeps_explained}
use Rattle.cpt_plan_files.proofs.Low.{performs_limited}
use Rattle.cpt_plan_files.proofs.explaining.explain_plan.Goals as goal

pub returns : goal.returns
returns g c =
    let o = g.L.Library.holds c.args.lib.now in
    let old = output (g.K.Sink.faults c.args.out.now) (g.K.Sink.written c.args.out.now) in
    let new = output (g.K.Sink.faults c.tell.new.out) (g.K.Sink.written c.tell.new.out) in
    let before = g.L.Library.faults c.args.lib.now in
    let now = g.L.Library.faults c.explain_in-reply.new.lib in
    let steady = g.L.Library.steady c.args.lib.now in
    let performed : Performs (AnswersOver o (λ files. ExplainsPlan files c.args.domain_name.now c.args.problem_name.now c.args.plan_name.now)) (call steady before now old new c.tell.result) =
    performs_limited o steady (λ files. ExplainsPlan files c.args.domain_name.now c.args.problem_name.now c.args.plan_name.now) c.explain_in-reply.result before now old new c.tell.result
    c.explain_in-reply.ensures.answer c.explain_in-reply.ensures.status c.explain_in-reply.ensures.failed c.explain_in-reply.ensures.kept c.tell.ensures in
    record {
      performs = performed;
      keeps = keeps_explained o c.args.domain_name.now c.args.problem_name.now c.args.plan_name.now (call steady before now old new c.tell.result) performed;
      end = λ zero. zero_is_ok _ c.explain_in-reply.result old new c.tell.result c.tell.ensures zero c.explain_in-reply.ensures.end;
    }
