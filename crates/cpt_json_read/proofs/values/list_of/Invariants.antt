use Rattle.std.proofs.Common.{◌≡◌, map, take}
use Rattle.serde_json.specs.View.{view}
use Rattle.cpt_json_read.proofs.values.list_of.Given as goal

abbrev pub invariant-loop-item : goal.invariant-loop-item
invariant-loop-item g l = map view (take l.item-index l.item-items) ≡ map g.T.FromValue.form l.items.items
