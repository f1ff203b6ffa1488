use Rattle.std.proofs.Common.{◌≡◌, ◌-◌, ◌<◌, ◌≤◌, ℕ, true, length, get_or}
use Rattle.cpt_sexp.specs.Bytes.{is_letter, plain}
use Rattle.cpt_sexp.specs.Progress.{IsOutside}
use Rattle.cpt_sexp.proofs.bytes.word_end.Given as goal

abbrev pub invariant-loop-end : goal.invariant-loop-end
invariant-loop-end l = record {
  after : l.at < l.end;
  within : l.end ≤ length l.text;
  letters : (k : ℕ) → l.at ≤ k → k < l.end → is_letter (get_or (plain l.text) k 0) ≡ true;
  plainly : IsOutside l.text l.end;
}

abbrev pub decreases-loop-end : goal.decreases-loop-end
decreases-loop-end l = length l.text - l.end
