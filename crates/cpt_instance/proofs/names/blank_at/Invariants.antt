use Rattle.std.proofs.Common.{◌≡◌, ◌+◌, drop}
use Rattle.cpt_instance.specs.Named.{blank_at}
use Rattle.cpt_instance.proofs.names.blank_at.Given as goal

abbrev pub invariant-loop-k : goal.invariant-loop-k
invariant-loop-k l = l.k + blank_at (drop l.k l.text) ≡ blank_at l.text
