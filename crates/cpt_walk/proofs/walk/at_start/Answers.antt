use Rattle.std.proofs.Common.{◌∙◌, sym}
use Rattle.cpt_walk.proofs.Turning.{opens, node_turns}
use Rattle.cpt_walk.proofs.walk.at_start.Goals as goal

pub returns-then-is_left_open : goal.returns-then-is_left_open
returns-then-is_left_open c = opens c.args.task.now c.args.tables.now c.args.past c.args.sheet c.args.line.now c.requires.frames (sym c.is_left_open.ensures ∙ c.if-is_left_open.true)

pub returns-else-is_left_open : goal.returns-else-is_left_open
returns-else-is_left_open c =
    node_turns c.args.task.now c.args.tables.now c.args.past c.args.sheet c.args.line.now c.at_worked.result (sym c.is_left_open.ensures ∙ c.if-is_left_open.false) c.at_worked.ensures
