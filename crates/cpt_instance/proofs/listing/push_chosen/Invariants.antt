use Rattle.std.proofs.Common.{◌+◌, ◌≤◌, length}
use Rattle.cpt_instance.specs.Listing.{Adds, IsChosen}
use Rattle.cpt_instance.proofs.listing.push_chosen.Given as goal

abbrev pub invariant-loop-place : goal.invariant-loop-place
invariant-loop-place l = record {
  adds : Adds (IsChosen l.values l.schema l.number l.choices l.place) l.fn.found.items l.found.items;
  few : length l.found.items ≤ length l.fn.found.items + l.place;
}
