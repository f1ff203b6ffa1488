use Rattle.std.proofs.Common.{◌≡◌, ◌+◌, ◌≤◌, drop, min}
use Rattle.cpt_instance.specs.Choices.{schemas_total}
use Rattle.cpt_instance.proofs.counting.schemas_count.Given as goal

abbrev pub invariant-loop-schema : goal.invariant-loop-schema
invariant-loop-schema l =
    record {
      few : l.count ≤ 1000001;
      left : min (l.count + schemas_total l.types l.kinds (drop l.schema-index l.schemas)) 1000001 ≡ min (schemas_total l.types l.kinds l.schemas) 1000001;
    }
