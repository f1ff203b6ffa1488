use Rattle.cpt_answer.specs.Promise.{AnswersOver, Performs, call}
use Rattle.cpt_answer.specs.Writing.{output}
use Rattle.cpt_answer.proofs.Promise.{zero_is_ok}
use Rattle.cpt_json_files.specs.Exporting.{ExportsTask}
use Rattle.cpt_json_files.proofs.Keeping.{keeps_task}
use Rattle.cpt_json_files.proofs.Performing.{performs_reply}
use Rattle.cpt_json_files.proofs.exporting.export.Goals as goal

pub returns : goal.returns
returns g c =
    let o = g.L.Library.holds c.args.lib.now in
    let old = output (g.K.Sink.faults c.args.out.now) (g.K.Sink.written c.args.out.now) in
    let new = output (g.K.Sink.faults c.tell.new.out) (g.K.Sink.written c.tell.new.out) in
    let before = g.L.Library.faults c.args.lib.now in
    let now = g.L.Library.faults c.export_task-reply.new.lib in
    let steady = g.L.Library.steady c.args.lib.now in
    let performed : Performs (AnswersOver o (λ files. ExportsTask files c.args.domain_name.now c.args.problem_name.now)) (call steady before now old new c.tell.result) =
    performs_reply o steady (λ files. ExportsTask files c.args.domain_name.now c.args.problem_name.now) c.export_task-reply.result before now old new c.tell.result
    (record { answer = c.export_task-reply.ensures.answer; status = c.export_task-reply.ensures.status; failed = c.export_task-reply.ensures.failed; kept = c.export_task-reply.ensures.kept }) c.tell.ensures in
    record {
      performs = performed;
      keeps = keeps_task o c.args.domain_name.now c.args.problem_name.now (call steady before now old new c.tell.result) performed;
      end = λ zero. zero_is_ok _ c.export_task-reply.result old new c.tell.result c.tell.ensures zero c.export_task-reply.ensures.end;
    }
