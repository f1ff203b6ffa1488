use Rattle.cpt_json_files.proofs.Verdicts.{verdict_atoms}
use Rattle.cpt_json_files.proofs.validating.judge_plan.Goals as goal

pub report_reply-requires-clause-atoms : goal.report_reply-requires-clause-atoms
report_reply-requires-clause-atoms c = verdict_atoms c.args.task.now c.args.plan.now c.in-Ok.verdict c.requires.plain.bounds c.requires.plan c.in-Ok.ensures.cause
