use Rattle.std.proofs.Common.{◌≡◌, ◌++◌, take, drop}
use Rattle.std.specs.Option.{option_map}
use Rattle.cpt_instance.specs.Named.{read_args}
use Rattle.cpt_instance.proofs.names.read_args.Given as goal

abbrev pub invariant-loop-k : goal.invariant-loop-k
invariant-loop-k l = read_args l.domain l.problem l.kinds l.text ≡ option_map (λ ns. take l.k l.objects ++ ns) (read_args l.domain l.problem (drop l.k l.kinds) l.rest)
