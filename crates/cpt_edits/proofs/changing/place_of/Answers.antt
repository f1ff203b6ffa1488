use Rattle.std.proofs.Common.{rules, arith, sym}
use Rattle.cpt_edits.proofs.Inserts.{inserted_at, inserted_end}
use Rattle.cpt_edits.proofs.changing.place_of.Goals as goal

pub returns-then-is_before-clause-place : goal.returns-then-is_before-clause-place
returns-then-is_before-clause-place c = inserted_at c.args.first c.args.second c.args.orders.now c.loop-i.i (search rules) c.loop-i.invariant (sym c.if-is_before.ensures)

pub returns-clause-place : goal.returns-clause-place
returns-clause-place c = inserted_end c.args.first c.args.second c.args.orders.now (λ k h. c.loop-i.invariant k (omega arith))
