use Rattle.std.proofs.Common.{◌≡◌}
use Rattle.cpt_calculus.specs.Decisions.{out_adders}
use Rattle.cpt_calculus.proofs.build.out_adders_of.Given as goal

abbrev pub invariant-loop-o : goal.invariant-loop-o
invariant-loop-o l = l.list.items ≡ out_adders l.task l.sheet l.p l.o
