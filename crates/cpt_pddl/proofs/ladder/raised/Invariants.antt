use Rattle.std.proofs.Common.{◌≡◌, ℕ, ◌+◌, ◌<◌, length, slice_index}
use Rattle.cpt_pddl.proofs.ladder.raised.Given as goal

abbrev pub invariant-loop-place : goal.invariant-loop-place
invariant-loop-place l =
    (length l.next.items ≡ l.place)
    × ((kind : ℕ) → kind < l.place → slice_index l.next.items kind ≡ slice_index l.heights kind + slice_index l.heights (slice_index l.row kind))
