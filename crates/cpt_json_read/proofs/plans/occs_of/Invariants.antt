use Rattle.std.proofs.Common.{◌≡◌, map, take}
use Rattle.cpt_json_form.specs.Reading.{occ_of}
use Rattle.cpt_json_read.proofs.plans.occs_of.Given as goal

abbrev pub invariant-loop-item : goal.invariant-loop-item
invariant-loop-item l = l.occs.items ≡ map (occ_of l.task) (take l.item-index l.items)
