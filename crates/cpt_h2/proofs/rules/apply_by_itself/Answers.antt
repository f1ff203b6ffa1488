use Rattle.cpt_h2.specs.Rules.Rule.{one}
use Rattle.cpt_h2.proofs.RuleLemmas.{works_by_look, works_quiet}
use Rattle.cpt_h2.proofs.rules.apply_by_itself.Goals as goal

pub returns-then-not-is_quiet : goal.returns-then-not-is_quiet
returns-then-not-is_quiet c = works_by_look (one c.args.action.now) c.args.looked.now c.args.board.now c.look_by_itself.new.board c.look_by_itself.ensures

pub returns-else-not-is_quiet : goal.returns-else-not-is_quiet
returns-else-not-is_quiet c = works_quiet (one c.args.action.now) c.args.looked.now c.args.board.now c.requires.good (rw c.as_slice.ensures.items at (c.is_quiet.ensures c.if-not-is_quiet.false))
