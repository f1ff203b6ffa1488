use Rattle.cpt_sections.proofs.RowMoves.{goal_never, goal_once}
use Rattle.cpt_sections.proofs.tabling.judge_goal.Goals as goal

pub returns-then-is_hopeless : goal.returns-then-is_hopeless
returns-then-is_hopeless c = λ v n late. (tt, (λ k. tt), λ ls x e. goal_never c.args.task.now v c.args.pairs.now n ls x c.if-is_hopeless.ensures e)

pub returns-else-is_hopeless : goal.returns-else-is_hopeless
returns-else-is_hopeless c = λ v n late. (late, λ ls. goal_once c.args.task.now v c.args.pairs.now n ls c.if-is_hopeless.ensures)
