use Rattle.std.proofs.Common.{◌≡◌, ◌++◌, drop}
use Rattle.cpt_instance.specs.Choices.{members_from}
use Rattle.cpt_instance.proofs.choices.members.Given as goal

abbrev pub invariant-loop-k : goal.invariant-loop-k
invariant-loop-k l =
    l.members.items ++ members_from l.types l.wanted l.k (drop l.k l.kinds) ≡ members_from l.types l.wanted 0 l.kinds
