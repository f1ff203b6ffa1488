use Rattle.std.proofs.Common.{◌≡◌, drop}
use Rattle.cpt_plan_text.specs.Meaning.{occs_of}
use Rattle.cpt_plan_text.proofs.Passes.{with_plan}
use Rattle.cpt_plan_text.proofs.reading.plan_of_items.Given as goal

abbrev pub invariant-loop-item : goal.invariant-loop-item
invariant-loop-item l = with_plan l.occs.items l.lines.items (occs_of (drop l.item-index l.items)) ≡ occs_of l.items
