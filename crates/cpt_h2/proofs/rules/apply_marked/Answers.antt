use Rattle.cpt_h2.specs.Rules.Rule.{beside}
use Rattle.cpt_h2.proofs.RuleLemmas.{works_by_look, works_quiet}
use Rattle.cpt_h2.proofs.rules.apply_marked.Goals as goal

pub returns-then-not-are_quiet : goal.returns-then-not-are_quiet
returns-then-not-are_quiet c = works_by_look (beside c.args.action.now c.args.q) c.args.looked.now c.args.board.now c.look_beside.new.board c.look_beside.ensures

pub returns-else-not-are_quiet : goal.returns-else-not-are_quiet
returns-else-not-are_quiet c = works_quiet (beside c.args.action.now c.args.q) c.args.looked.now c.args.board.now c.requires.good (rw c.as_slice.ensures.items at (c.are_quiet.ensures c.if-not-are_quiet.false))
