use Rattle.std.proofs.Common.{◌≡◌, ◌≤◌, length}
use Rattle.cpt_line.specs.Lines.{split}
use Rattle.cpt_counts.specs.Counting.{behind_head}
use Rattle.cpt_counts.proofs.counting.behind_head.Given as goal

abbrev pub invariant-loop-line : goal.invariant-loop-line
invariant-loop-line l = record {
  lines : behind_head (split l.rest).0 ≡ behind_head (split l.text).0;
  short : length l.rest ≤ length l.text;
}

abbrev pub decreases-loop-line : goal.decreases-loop-line
decreases-loop-line l = length l.rest
