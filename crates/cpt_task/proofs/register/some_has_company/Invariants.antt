use Rattle.std.proofs.Common.{All, take}
use Rattle.cpt_task.specs.Register.{IsAlone}
use Rattle.cpt_task.proofs.register.some_has_company.Given as goal

abbrev pub invariant-loop-atom : goal.invariant-loop-atom
invariant-loop-atom l = All (IsAlone l.task l.plan l.role l.i) (take l.atom-index l.atoms)
