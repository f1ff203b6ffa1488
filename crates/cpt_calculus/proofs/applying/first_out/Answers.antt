use Rattle.std.proofs.Common.{rules, arith, sym}
use Rattle.cpt_calculus.proofs.Behind.{behind_at, behind_end}
use Rattle.cpt_calculus.proofs.applying.first_out.Goals as goal

pub returns-then-is_out-clause-place : goal.returns-then-is_out-clause-place
returns-then-is_out-clause-place c = λ n. behind_at n c.args.cands.now c.loop-i.i (search rules) c.loop-i.invariant (sym c.if-is_out.ensures)

pub returns-clause-place : goal.returns-clause-place
returns-clause-place c = λ n. behind_end n c.args.cands.now (λ k h. c.loop-i.invariant k (omega arith))
