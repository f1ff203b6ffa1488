use Rattle.std.proofs.Common.{◌≡◌, arith}
use Rattle.cpt_instance.specs.Choices.{choice_count}
use Rattle.cpt_instance.proofs.InstanceLemmas.{one_more_place}
use Rattle.cpt_instance.proofs.listing.push_chosen.Goals as goal

pub loop-place-preserved : goal.loop-place-preserved
loop-place-preserved c =
    let total : c.args.count ≡ choice_count c.args.choices.now = c.requires.total in
    record {
      adds =
          one_more_place c.args.values.now c.args.schema.now c.args.number c.args.choices.now c.loop-place.place c.in_ok-args.args
          c.args.found.now.items c.loop-place.found.items c.push_where_kept.new.found.items
          c.requires.ordered (omega arith) c.in_ok-args.ensures c.loop-place.invariant.adds c.in_ok-push_where_kept.ensures.adds;
      few = omega (arith, c.in_ok-push_where_kept.ensures.few);
    }
