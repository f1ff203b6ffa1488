use Rattle.std.proofs.Common.{◌≡◌, ◌*◌, ◌≤◌, drop, min}
use Rattle.cpt_instance.specs.Choices.{list_total}
use Rattle.cpt_instance.proofs.counting.list_count.Given as goal

abbrev pub invariant-loop-kind : goal.invariant-loop-kind
invariant-loop-kind l =
    record {
      few : l.count ≤ 1000001;
      left : min (l.count * list_total l.types l.kinds (drop l.kind-index l.wanted)) 1000001 ≡ min (list_total l.types l.kinds l.wanted) 1000001;
    }
