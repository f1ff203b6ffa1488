use Rattle.std.proofs.Common.{◌≡◌, ◌+◌, List, ℕ, ap, take, arith}
use Rattle.std.specs.Prelude.{slice_index_or}
use Rattle.std.proofs.lemmas.List.Sums.{sum_by_more}
use Rattle.cpt_schema.specs.declared.schemas.Schema.{Schema}
use Rattle.cpt_instance.specs.Choices.{list_total, schemas_total}
use Rattle.cpt_instance.proofs.InstanceLemmas.{one_more_of}
use Rattle.cpt_instance.proofs.listing.of_schemas.Goals as goal

pub loop-number-preserved : goal.loop-number-preserved
loop-number-preserved c =
    let parents : List ℕ = c.args.types.now in
    record {
      all =
          one_more_of c.args.values.now c.args.schemas.now c.loop-number.number c.index-schemas-number.result parents c.args.kinds.now
          c.loop-number.found.items c.push_of_schema.new.found.items (omega arith) c.index-schemas-number.is c.loop-number.invariant.all c.in_ok-push_of_schema.ensures.adds;
      few =
          let more : schemas_total parents c.args.kinds.now (take (c.loop-number.number + 1) c.args.schemas.now)
          ≡ schemas_total parents c.args.kinds.now (take c.loop-number.number c.args.schemas.now)
          + list_total parents c.args.kinds.now (slice_index_or c.args.schemas.now c.loop-number.number c.index-schemas-number.result).kinds =
          sum_by_more (λ (s : Schema). list_total parents c.args.kinds.now s.kinds) c.args.schemas.now c.loop-number.number c.index-schemas-number.result (omega arith) in
          let same : list_total parents c.args.kinds.now c.index-schemas-number.result.kinds
          ≡ list_total parents c.args.kinds.now (slice_index_or c.args.schemas.now c.loop-number.number c.index-schemas-number.result).kinds =
          ap (λ (s : Schema). list_total parents c.args.kinds.now s.kinds) c.index-schemas-number.is in
          omega (arith, c.in_ok-push_of_schema.ensures.few);
    }
