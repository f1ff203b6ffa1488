use Rattle.std.proofs.Common.{Err}
use Rattle.cpt_answer.specs.declared.ending.Ending.TheVariants.{Read}
use Rattle.cpt_answer.specs.Promise.{AnswersOver, Performs, call}
use Rattle.cpt_answer.specs.Writing.{output}
use Rattle.cpt_answer.proofs.Promise.{zero_is_ok}
use Rattle.cpt_prove.specs.Commands.{ProvesFiles}
use Rattle.cpt_prove.proofs.Keeping.{keeps_problem}
use Rattle.cpt_prove.proofs.Writing.{ending_performs, ok_apart, proof_performs}
use Rattle.cpt_prove.proofs.proving.prove.Goals as goal

pub returns-in-Ok : goal.returns-in-Ok
returns-in-Ok g c =
    let o = g.L.Library.holds c.args.lib.now in
    let old = output (g.K.Sink.faults c.args.out.now) (g.K.Sink.written c.args.out.now) in
    let new = output (g.K.Sink.faults c.prove_task.new.out) (g.K.Sink.written c.prove_task.new.out) in
    let before = g.L.Library.faults c.args.lib.now in
    let now = g.L.Library.faults c.accepted_in.new.lib in
    let steady = g.L.Library.steady c.args.lib.now in
    let performed : Performs (AnswersOver o (λ files. ProvesFiles files c.args.domain_name.now c.args.problem_name.now c.args.budget c.args.version)) (call steady before now old new c.prove_task.result) =
    proof_performs o steady c.args.domain_name.now c.args.problem_name.now c.args.budget c.args.version before now old new c.prove_task.result c.in-Ok.accepted c.in-Ok.ensures.answer (c.in-Ok.ensures.kept (ok_apart c.in-Ok.accepted Read)) c.prove_task.ensures in
    record {
      performs = performed;
      keeps = keeps_problem o c.args.domain_name.now c.args.problem_name.now c.args.budget c.args.version (call steady before now old new c.prove_task.result) performed;
      end = λ zero told. c.in-Ok.ensures.end told;
    }

pub returns-in-Err : goal.returns-in-Err
returns-in-Err g c =
    let o = g.L.Library.holds c.args.lib.now in
    let old = output (g.K.Sink.faults c.args.out.now) (g.K.Sink.written c.args.out.now) in
    let new = output (g.K.Sink.faults c.tell.new.out) (g.K.Sink.written c.tell.new.out) in
    let before = g.L.Library.faults c.args.lib.now in
    let now = g.L.Library.faults c.accepted_in.new.lib in
    let steady = g.L.Library.steady c.args.lib.now in
    let performed : Performs (AnswersOver o (λ files. ProvesFiles files c.args.domain_name.now c.args.problem_name.now c.args.budget c.args.version)) (call steady before now old new c.tell.result) =
    ending_performs o steady c.args.domain_name.now c.args.problem_name.now c.args.budget c.args.version before now old new c.tell.result c.in-Err.ending c.in-Err.ensures.answer c.in-Err.ensures.failed c.in-Err.ensures.kept c.tell.ensures in
    record {
      performs = performed;
      keeps = keeps_problem o c.args.domain_name.now c.args.problem_name.now c.args.budget c.args.version (call steady before now old new c.tell.result) performed;
      end = λ zero. zero_is_ok _ (Err c.in-Err.ending) old new c.tell.result c.tell.ensures zero tt;
    }
