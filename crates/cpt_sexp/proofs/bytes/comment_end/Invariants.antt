use Rattle.std.proofs.Common.{◌≡◌, ◌-◌, ◌≤◌, true, length, drop}
use Rattle.cpt_sexp.specs.Bytes.{plain, plain_from}
use Rattle.cpt_sexp.specs.Grammar.{IsGap}
use Rattle.cpt_sexp.proofs.bytes.comment_end.Given as goal

abbrev pub invariant-loop-end : goal.invariant-loop-end
invariant-loop-end l = record {
  within : l.end ≤ length l.text;
  blank : IsGap (plain l.text) l.at l.end;
  commented : drop l.end (plain l.text) ≡ plain_from true (drop l.end l.text);
}

abbrev pub decreases-loop-end : goal.decreases-loop-end
decreases-loop-end l = length l.text - l.end
