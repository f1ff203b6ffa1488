use Rattle.std.proofs.Common.{arith}
use Rattle.cpt_instance.proofs.CountLemmas.{one_more_type}
use Rattle.cpt_instance.proofs.counting.list_count.Goals as goal

pub loop-kind-preserved : goal.loop-kind-preserved
loop-kind-preserved c = record {
  few = omega (arith, c.min-count.ensures);
  left =
      one_more_type c.args.types.now c.args.kinds.now c.args.wanted.now c.loop-kind.kind-index c.loop-kind.count c.member_count.result c.min-count.result
      (omega arith) c.member_count.ensures c.min-count.ensures c.loop-kind.invariant.left;
}
