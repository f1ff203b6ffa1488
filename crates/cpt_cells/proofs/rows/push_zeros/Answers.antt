use Rattle.std.proofs.Common.{ℕ, refl}
use Rattle.cpt_layout.proofs.Laying.{row_next}
use Rattle.cpt_cells.proofs.rows.push_zeros.Goals as goal

pub loop-place-preserved : goal.loop-place-preserved
loop-place-preserved c = row_next (λ (i : ℕ). 0) c.args.found.now.items c.loop-place.found.items _ c.loop-place.place _ c.loop-place.invariant c.in_ok-push.ensures.items refl
