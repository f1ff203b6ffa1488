-- the least of a list
use Rattle.std.proofs.Common.{◌≡◌, ℕ, ◌+◌, ◌<◌, List, length, slice_index_or, sym, subst, inl, inr, arith}
use Rattle.cpt_task.specs.declared.span.Span.{Span}
use Rattle.cpt_task.specs.declared.span.Span.TheVariants.{Never}
use Rattle.cpt_tables.specs.Spans.{◌≤ˢ◌, IsBelow, span_min}
use Rattle.cpt_tables.proofs.SpanLemmas.{le_trans, le_never, min_le_left, min_le_right, min_cases}
use Rattle.cpt_sheet.specs.declared.data.Cand.{Cand}
use Rattle.cpt_sheet.proofs.EachLemmas.{each_more}
use Rattle.cpt_proposal.specs.Least.{IsLeast}

pub least_none : (n : ℕ) (F : Cand → Span) (l : List Cand) → IsLeast n F l 0 Never
least_none n F l = record { under = λ k e lt. absurd (omega (arith, lt)); most = λ w h. le_never w; small = tt }

pub least_more : (n : ℕ) (F : Cand → Span) (l : List Cand) (i : ℕ) (d : Cand) (v u : Span) → i < length l → IsLeast n F l i v → u ≡ F (slice_index_or l i d) → IsBelow n u → IsLeast n F l (i + 1) (span_min v u)
least_more n F l i d v u lt h e small = record {
  under =
      each_more (λ c. span_min v u ≤ˢ F c) l i lt (λ k z b. le_trans (span_min v u) v (F (slice_index_or l k z)) (min_le_left v u) (h.under k z b)) d
      (subst (λ z. span_min v u ≤ˢ z) e (min_le_right v u));
  most =
      λ w each. (let a : w ≤ˢ v = h.most w (λ k z b. each k z (omega (arith, b))) in
      let b : w ≤ˢ u = subst (λ z. w ≤ˢ z) (sym e) (each i d (omega arith)) in elim (min_cases v u) [ inl k ↦ subst (λ z. w ≤ˢ z) (sym k) a | inr k ↦ subst (λ z. w ≤ˢ z) (sym k) b ]);
  small = elim (min_cases v u) [ inl k ↦ subst (λ z. IsBelow n z) (sym k) h.small | inr k ↦ subst (λ z. IsBelow n z) (sym k) small ];
}
