use Rattle.std.proofs.Common.{◌≡◌, ◌+◌, ◌≤◌, length}
use Rattle.cpt_line.specs.Lines.{split}
use Rattle.cpt_counts.specs.Counting.{count_same}
use Rattle.cpt_counts.proofs.counting.count_same.Given as goal

abbrev pub invariant-loop-line : goal.invariant-loop-line
invariant-loop-line l = record {
  count : l.count + count_same l.word (split l.rest).0 ≡ count_same l.word (split l.text).0;
  within : l.count + length l.rest ≤ length l.text;
}

abbrev pub decreases-loop-line : goal.decreases-loop-line
decreases-loop-line l = length l.rest
