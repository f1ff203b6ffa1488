use Rattle.std.proofs.Common.{◌≡◌, ◌+◌, ◌≤◌, length}
use Rattle.cpt_plan_text.specs.Meaning.{items_in, lines_of}
use Rattle.cpt_plan_text.proofs.Passes.{with_items}
use Rattle.cpt_plan_text.proofs.reading.items_of.Given as goal

abbrev pub invariant-loop-line : goal.invariant-loop-line
invariant-loop-line g l = record {
  read : with_items l.items.items (items_in (g.R.Roster.finds l.roster) l.task l.number (lines_of l.rest)) ≡ items_in (g.R.Roster.finds l.roster) l.task 1 (lines_of l.text);
  count : length l.items.items + 1 ≤ l.number;
  small : l.number + length l.rest ≤ length l.text + 1;
}

abbrev pub decreases-loop-line : goal.decreases-loop-line
decreases-loop-line g l = length l.rest
