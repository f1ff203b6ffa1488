use Rattle.std.proofs.Common.{◌≡◌, map, take, All}
use Rattle.serde_json.specs.View.{view}
use Rattle.cpt_json_write.proofs.values.array_of.Given as goal

abbrev pub invariant-loop-item : goal.invariant-loop-item
invariant-loop-item g l = All g.T.ToJson.has_form l.items → map view l.values.items ≡ map g.T.ToJson.form (take l.item-index l.items)
