use Rattle.std.proofs.Common.{[], ◌∷◌}
use Rattle.cpt_h2.specs.Rules.Rule.{beside}
use Rattle.cpt_h2.proofs.LimitLemmas.{only_is}
use Rattle.cpt_h2.proofs.RuleLemmas.{looks, looks_met, needs_beside, beside_one}
use Rattle.cpt_h2.proofs.rules.look_beside.Goals as goal

pub returns-then-leaves : goal.returns-then-leaves
returns-then-leaves c =
    looks (beside c.args.action.now c.args.q) c.args.action.now.add (c.args.q ∷ []) c.limit_beside-limit.result c.args.board.now c.lower_all.new.self
    c.requires.good (needs_beside c.args.board.now.pairs.atoms c.args.action.now c.args.q c.requires.action c.requires.atom) c.limit_beside-limit.ensures.value
    (λ p q hp hq. (hp, c.if-leaves.ensures, only_is c.args.q q hq)) (λ p q con. (con.0, beside_one c.args.q q con.2))
    (rw c.as_slice.ensures.items at c.lower_all.ensures.drops) (rw c.as_slice.ensures.items at c.lower_all.ensures.met)

pub returns-else-leaves : goal.returns-else-leaves
returns-else-leaves c = looks_met (beside c.args.action.now c.args.q) c.args.board.now c.requires.good (λ p q con. absurd (c.if-leaves.ensures con.1))
