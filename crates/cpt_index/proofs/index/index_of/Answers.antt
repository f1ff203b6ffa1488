use Rattle.std.proofs.Common.{◌+◌, arith, length, take, ap, ◌∙◌}
use Rattle.std.proofs.lemmas.List.{length-take, take_all}
use Rattle.cpt_index.specs.Index.{kinds_in}
use Rattle.cpt_index.proofs.IndexLemmas.{index_as, index_itself, kinds_more}
use Rattle.cpt_index.proofs.index.index_of.Goals as goal

pub loop-x-init : goal.loop-x-init
loop-x-init c = c.in_ok-index.ensures

pub reserve-requires : goal.reserve-requires
reserve-requires c = index_itself c.args.task.now _ c.loop-x.index c.loop-x.invariant

pub push-requires-clause-index : goal.push-requires-clause-index
push-requires-clause-index c = index_itself c.args.task.now _ c.reserve.new.self c.reserve.ensures.same

pub push-requires-clause-few : goal.push-requires-clause-few
push-requires-clause-few c =
    omega (arith, ap length (c.reserve.ensures.same.kinds ∙ c.loop-x.invariant.kinds), length-take c.loop-x.x c.args.kinds.now, c.requires)

pub loop-x-preserved : goal.loop-x-preserved
loop-x-preserved c =
    index_as c.args.task.now _ (take (c.loop-x.x + 1) c.args.kinds.now) c.push.new.self
    (kinds_more c.args.kinds.now (kinds_in c.reserve.new.self) c.loop-x.x c.in_ok-seat.seat.kind (omega arith) (c.reserve.ensures.same.kinds ∙ c.loop-x.invariant.kinds) (c.in_ok-seat.ensures.kind ∙ c.kind_at.ensures)) c.push.ensures

pub returns : goal.returns
returns c = index_as c.args.task.now _ c.args.kinds.now c.loop-x.index (take_all c.loop-x.x c.args.kinds.now (omega arith)) c.loop-x.invariant
