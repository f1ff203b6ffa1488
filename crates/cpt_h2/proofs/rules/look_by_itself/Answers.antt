use Rattle.cpt_h2.specs.Rules.Rule.{one}
use Rattle.cpt_h2.proofs.RuleLemmas.{looks}
use Rattle.cpt_h2.proofs.rules.look_by_itself.Goals as goal

pub returns : goal.returns
returns c =
    looks (one c.args.action.now) c.args.action.now.add c.args.action.now.add c.limit_by_one-limit.result c.args.board.now c.lower_all.new.self
    c.requires.good c.requires.action.atoms.pre c.limit_by_one-limit.ensures.value (λ p q hp hq. (hp, hq)) (λ p q con. con)
    (rw (c.as_slice.ensures.items, c.as_slice-2.ensures.items) at c.lower_all.ensures.drops) (rw (c.as_slice.ensures.items, c.as_slice-2.ensures.items) at c.lower_all.ensures.met)
