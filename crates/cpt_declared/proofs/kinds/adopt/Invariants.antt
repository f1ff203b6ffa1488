use Rattle.std.proofs.Common.{◌≡◌, drop}
use Rattle.cpt_declared.specs.Kinds.{adopted}
use Rattle.cpt_declared.proofs.kinds.adopt.Given as goal

abbrev pub invariant-loop-kind : goal.invariant-loop-kind
invariant-loop-kind l = adopted l.parent (drop l.kind-index l.kinds) l.parents ≡ adopted l.parent l.kinds l.fn.parents
