use Rattle.cpt_answer.specs.Promise.{AnswersOver, Performs, call}
use Rattle.cpt_answer.specs.Writing.{output}
use Rattle.cpt_answer.proofs.Promise.{zero_is_ok}
use Rattle.cpt_json_files.specs.Validating.{JudgesJson}
use Rattle.cpt_json_files.proofs.Keeping.{keeps_plan}
use Rattle.cpt_json_files.proofs.Performing.{performs_reply}
use Rattle.cpt_json_files.proofs.validating.validate_json.Goals as goal

pub returns : goal.returns
returns g c =
    let o = g.L.Library.holds c.args.lib.now in
    let old = output (g.K.Sink.faults c.args.out.now) (g.K.Sink.written c.args.out.now) in
    let new = output (g.K.Sink.faults c.tell.new.out) (g.K.Sink.written c.tell.new.out) in
    let before = g.L.Library.faults c.args.lib.now in
    let now = g.L.Library.faults c.judge_files-reply.new.lib in
    let steady = g.L.Library.steady c.args.lib.now in
    let performed : Performs (AnswersOver o (λ files. JudgesJson files c.args.task_name.now c.args.plan_name.now)) (call steady before now old new c.tell.result) =
    performs_reply o steady (λ files. JudgesJson files c.args.task_name.now c.args.plan_name.now) c.judge_files-reply.result before now old new c.tell.result
    (record { answer = c.judge_files-reply.ensures.answer; status = c.judge_files-reply.ensures.status; failed = c.judge_files-reply.ensures.failed; kept = c.judge_files-reply.ensures.kept }) c.tell.ensures in
    record {
      performs = performed;
      keeps = keeps_plan o c.args.task_name.now c.args.plan_name.now (call steady before now old new c.tell.result) performed;
      end = λ zero. zero_is_ok _ c.judge_files-reply.result old new c.tell.result c.tell.ensures zero c.judge_files-reply.ensures.end;
    }
