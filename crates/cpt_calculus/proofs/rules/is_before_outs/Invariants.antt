use Rattle.std.proofs.Common.{ℕ, ◌<◌}
use Rattle.cpt_calculus.specs.Rules.{IsBeforeOut}
use Rattle.cpt_calculus.proofs.rules.is_before_outs.Given as goal

abbrev pub invariant-loop-o : goal.invariant-loop-o
invariant-loop-o l = (k : ℕ) → k < l.o → IsBeforeOut l.task l.tables l.sheet l.a l.p l.v k
