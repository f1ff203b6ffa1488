use Rattle.std.proofs.Common.{take}
use Rattle.std.specs.List.{AllZip}
use Rattle.cpt_ground.specs.Compiled.{IsCompiledAction}
use Rattle.cpt_ground.specs.Literals.{literals_of}
use Rattle.cpt_ground.proofs.compile.compiled_actions.Given as goal

abbrev pub invariant-loop-action : goal.invariant-loop-action
invariant-loop-action l = AllZip (IsCompiledAction (literals_of l.literals)) (take l.action-index l.actions) l.compiled.items
