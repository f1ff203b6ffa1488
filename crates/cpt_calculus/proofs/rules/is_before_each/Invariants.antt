use Rattle.std.proofs.Common.{ℕ, ◌<◌, get_or}
use Rattle.cpt_tables.specs.Spans.{◌≤ˢ◌}
use Rattle.cpt_sheet.specs.declared.data.Cand.{Cand}
use Rattle.cpt_sheet.specs.Gaps.{arrival}
use Rattle.cpt_calculus.proofs.rules.is_before_each.Given as goal

abbrev pub invariant-loop-c : goal.invariant-loop-c
invariant-loop-c l = (k : ℕ) (e : Cand) → k < l.c-index → l.v ≤ˢ arrival l.task l.tables l.sheet (get_or l.list k e) l.d
