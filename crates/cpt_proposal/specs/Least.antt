use Rattle.std.specs.Prelude.{ℕ, ◌<◌, List, slice_index_or}
use Rattle.cpt_task.specs.declared.span.Span.{Span}
use Rattle.cpt_tables.specs.Spans.{◌≤ˢ◌, IsBelow}
use Rattle.cpt_sheet.specs.declared.data.Cand.{Cand}

-- v is the least of what F gives the first i of the list, Never for none, and below n where it is finite
pub record IsLeast (n : ℕ) (F : Cand → Span) (l : List Cand) (i : ℕ) (v : Span) : Type 0 where
  pub under : (k : ℕ) (e : Cand) → k < i → v ≤ˢ F (slice_index_or l k e)
  pub most : (w : Span) → ((k : ℕ) (e : Cand) → k < i → w ≤ˢ F (slice_index_or l k e)) → w ≤ˢ v
  pub small : IsBelow n v
