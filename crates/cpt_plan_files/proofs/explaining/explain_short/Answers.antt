use Rattle.std.proofs.Common.{◌<◌, length, subst, sym}
use Rattle.cpt_plan_files.proofs.Answering.{at_valid, has_faults}
use Rattle.cpt_plan_files.proofs.explaining.explain_short.Goals as goal

pub returns-in-Valid : goal.returns-in-Valid
returns-in-Valid c =
    at_valid c.args.task.now c.args.plan.now c.in_ok-valid_reply.field-0 c.requires.few (rw c.as_slice.ensures at ((c.in_ok-makespan.ensures.valid c.in-Valid.makespan).0 c.in-Valid.is).0) c.in_ok-valid_reply.ensures

pub faults_reply-requires : goal.faults_reply-requires
faults_reply-requires c =
    subst (λ xs. 0 < length xs) (sym c.as_slice-3.ensures)
    (has_faults c.args.task.now c.args.plan.now c.in_ok-makespan.field-0 c.in_ok-faults.faults (rw c.as_slice.ensures at c.in_ok-makespan.ensures.cause) c.in_default.not-Valid
    (λ none. rw c.as_slice-2.ensures at (c.in_ok-faults.ensures.none.0 none)))
