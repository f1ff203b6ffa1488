use Rattle.cpt_thin.proofs.Doomed.{met_left, nowhere}
use Rattle.std.proofs.Common.{sym, ◌∙◌}
use Rattle.cpt_thin.proofs.doubts.meet.Goals as goal

pub returns-then-is_dropped : goal.returns-then-is_dropped
returns-then-is_dropped c = nowhere c.args.task.now c.args.tables.now c.args.walk c.args.fate c.args.line.now (sym c.is_dropped.ensures ∙ c.if-is_dropped.true)

pub returns : goal.returns
returns c = met_left c.args.task.now c.args.tables.now c.args.walk c.args.fate c.args.line.now c.meet_line.result (sym c.is_dropped.ensures ∙ c.if-is_dropped.false) c.meet_line.ensures
