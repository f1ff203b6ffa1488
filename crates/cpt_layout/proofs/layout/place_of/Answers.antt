use Rattle.std.proofs.Common.{rules, arith, ◌<◌, length}
use Rattle.cpt_layout.proofs.Lists.{first_place}
use Rattle.cpt_layout.proofs.layout.place_of.Goals as goal

pub returns-then-q-p-clause-place : goal.returns-then-q-p-clause-place
returns-then-q-p-clause-place c =
    let l : c.loop-i.i < length c.args.list.now = search rules in
    first_place c.args.p c.args.list.now c.loop-i.i (omega arith) c.loop-i.invariant (λ r. search rules)

pub returns-clause-place : goal.returns-clause-place
returns-clause-place c = first_place c.args.p c.args.list.now (length c.args.list.now) (omega arith) (search rules) (λ r. absurd (omega arith))
