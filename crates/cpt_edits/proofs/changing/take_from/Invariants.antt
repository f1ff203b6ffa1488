use Rattle.std.proofs.Common.{◌≡◌, ℕ, ◌<◌, ◌==◌, false, slice_get, unwrap_or}
use Rattle.cpt_sheet.specs.View.{no_need}
use Rattle.cpt_edits.proofs.changing.take_from.Given as goal

abbrev pub invariant-loop-i : goal.invariant-loop-i
invariant-loop-i l = record {
  same : l.needs ≡ l.initial.needs;
  none : (k : ℕ) → k < l.i → ((unwrap_or (slice_get l.needs k) no_need).atom == l.atom) ≡ false;
}
