use Rattle.std.proofs.Common.{◌≡◌, ℕ, ◌<◌, false, slice_get}
use Rattle.std.specs.Prelude.{IsSomeAnd}
use Rattle.cpt_sheet.specs.View.{same}
use Rattle.cpt_edits.proofs.changing.discard.Given as goal

abbrev pub invariant-loop-i : goal.invariant-loop-i
invariant-loop-i l = record {
  kept : l.list ≡ l.initial.list;
  none : (k : ℕ) → k < l.i → IsSomeAnd (slice_get l.list k) (λ d. false ≡ same d l.cand);
}
