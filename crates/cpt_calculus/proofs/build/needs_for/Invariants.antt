use Rattle.std.proofs.Common.{◌≡◌, map, take}
use Rattle.cpt_calculus.specs.Decisions.{need_for}
use Rattle.cpt_calculus.proofs.build.needs_for.Given as goal

abbrev pub invariant-loop-p : goal.invariant-loop-p
invariant-loop-p l = l.needs.items ≡ map (need_for l.task l.sheet) (take l.p-index l.atoms)
