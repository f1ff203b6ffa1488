use Rattle.cpt_answer.specs.Promise.{AnswersOver, Performs, call}
use Rattle.cpt_answer.specs.Writing.{output}
use Rattle.cpt_answer.proofs.Promise.{low_status, performs, zero_is_reply}
use Rattle.cpt_check_files.specs.Rulings.{ChecksFiles}
use Rattle.cpt_check_files.proofs.Keeping.{keeps_problem}
use Rattle.cpt_check_files.proofs.checking.check_certificate.Goals as goal

pub returns : goal.returns
returns g c =
    let o = g.L.Library.holds c.args.lib.now in
    let old = output (g.K.Sink.faults c.args.out.now) (g.K.Sink.written c.args.out.now) in
    let new = output (g.K.Sink.faults c.tell.new.out) (g.K.Sink.written c.tell.new.out) in
    let before = g.L.Library.faults c.args.lib.now in
    let now = g.L.Library.faults c.check_files-reply.new.lib in
    let steady = g.L.Library.steady c.args.lib.now in
    let performed : Performs (AnswersOver o (λ files. ChecksFiles files c.args.domain_name.now c.args.problem_name.now c.args.cert_name.now)) (call steady before now old new c.tell.result) =
    performs o steady (λ files. ChecksFiles files c.args.domain_name.now c.args.problem_name.now c.args.cert_name.now) c.check_files-reply.result before now old new c.tell.result
    (record { answer = c.check_files-reply.ensures.answer; status = low_status c.check_files-reply.result c.check_files-reply.ensures.status; failed = c.check_files-reply.ensures.failed; kept = c.check_files-reply.ensures.kept }) c.tell.ensures in
    record {
      performs = performed;
      keeps = keeps_problem o c.args.domain_name.now c.args.problem_name.now c.args.cert_name.now (call steady before now old new c.tell.result) performed;
      end = λ zero. zero_is_reply _ c.check_files-reply.result old new c.tell.result c.tell.ensures zero c.check_files-reply.ensures.end;
    }
