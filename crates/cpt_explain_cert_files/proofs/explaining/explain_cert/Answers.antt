use Rattle.cpt_answer.specs.Promise.{AnswersOver, Performs, call}
use Rattle.cpt_answer.specs.Writing.{output}
use Rattle.cpt_answer.proofs.Promise.{low_status, performs, zero_is_ok}
use Rattle.cpt_explain_cert_files.specs.Counted.{CountsFiles}
use Rattle.cpt_explain_cert_files.proofs.Keeping.{keeps_problem}
use Rattle.cpt_explain_cert_files.proofs.explaining.explain_cert.Goals as goal

pub returns : goal.returns
returns g c =
    let o = g.L.Library.holds c.args.lib.now in
    let old = output (g.K.Sink.faults c.args.out.now) (g.K.Sink.written c.args.out.now) in
    let new = output (g.K.Sink.faults c.tell.new.out) (g.K.Sink.written c.tell.new.out) in
    let before = g.L.Library.faults c.args.lib.now in
    let now = g.L.Library.faults c.count_files-reply.new.lib in
    let steady = g.L.Library.steady c.args.lib.now in
    let performed : Performs (AnswersOver o (λ files. CountsFiles files c.args.domain_name.now c.args.problem_name.now c.args.cert_name.now)) (call steady before now old new c.tell.result) =
    performs o steady (λ files. CountsFiles files c.args.domain_name.now c.args.problem_name.now c.args.cert_name.now) c.count_files-reply.result before now old new c.tell.result
    (record { answer = c.count_files-reply.ensures.answer; status = low_status c.count_files-reply.result c.count_files-reply.ensures.status; failed = c.count_files-reply.ensures.failed; kept = c.count_files-reply.ensures.kept }) c.tell.ensures in
    record {
      performs = performed;
      keeps = keeps_problem o c.args.domain_name.now c.args.problem_name.now c.args.cert_name.now (call steady before now old new c.tell.result) performed;
      end = λ zero. zero_is_ok _ c.count_files-reply.result old new c.tell.result c.tell.ensures zero c.count_files-reply.ensures.end;
    }
