use Rattle.std.proofs.Common.{◌≡◌, ◌+◌, ◌≤◌, length}
use Rattle.cpt_line.specs.Lines.{split}
use Rattle.cpt_counts.specs.Counting.{count_begun}
use Rattle.cpt_counts.proofs.counting.count_begun.Given as goal

abbrev pub invariant-loop-line : goal.invariant-loop-line
invariant-loop-line l = record {
  count : l.count + count_begun l.front (split l.rest).0 ≡ count_begun l.front (split l.text).0;
  within : l.count + length l.rest ≤ length l.text;
}

abbrev pub decreases-loop-line : goal.decreases-loop-line
decreases-loop-line l = length l.rest
