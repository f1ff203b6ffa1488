-- bounds of gaps
use Rattle.std.proofs.Common.{◌≡◌, ℕ, ◌<◌, ◌≤◌, ◌^◌, zero, suc, lit≤, inl, inr, List, [], ◌∷◌, length, get_or, All, refl, sym, subst, arith}
use Rattle.std.proofs.lemmas.Bool.{cases_lt}
use Rattle.cpt_task.specs.declared.task.Action.{Action}
use Rattle.cpt_task.specs.Timeline.{idle}
use Rattle.cpt_task.specs.declared.span.Span.TheVariants.{At}
use Rattle.cpt_task.specs.Shape.{TaskShape, InBounds}
use Rattle.cpt_tables.specs.declared.tables.Tables.{Tables}
use Rattle.cpt_tables.specs.Spans.{◌+ˢ◌, IsBelow}
use Rattle.cpt_tables.specs.Shapes.{pair_at, dist_at, most_with, set_span_of, most_dist}
use Rattle.cpt_tables.specs.Admissible.{nth_action}
use Rattle.cpt_tables.proofs.SpanLemmas.{below_add, below_more}
use Rattle.cpt_tables.proofs.MostLemmas.{below_over}
use Rattle.cpt_sheet.specs.declared.data.Kind.{Kind}
use Rattle.cpt_sheet.specs.declared.data.Kind.TheVariants.{Start, End, Act}
use Rattle.cpt_sheet.specs.Roles.{needs_of}
use Rattle.cpt_sheet.specs.Gaps.{FitsTask}

get_or-past : {X : Type 0} (xs : List X) (i : ℕ) (d : X) → length xs ≤ i → get_or xs i d ≡ d
get_or-past [] i d l = refl
get_or-past (x ∷ xs) zero d l = absurd (omega arith)
get_or-past (x ∷ xs) (suc i) d l = get_or-past xs i d (omega arith)

all_nil : (P : ℕ → Type 0) → All P []
all_nil P k d lt = absurd (omega arith)

-- what is needed is in range
pub needs_within : (t : TaskShape) (k : Kind) → InBounds t → All (λ p. p < length t.atoms) (needs_of t k)
needs_within t Start h = all_nil (λ p. p < length t.atoms)
needs_within t End h = h.goal
needs_within t (Act a) h =
    elim (cases_lt a (length t.actions)) [
      | inl l ↦ (h.actions a idle l).pre
      | inr m ↦ subst (λ (z : Action). All (λ p. p < length t.atoms) z.pre) (sym (get_or-past t.actions a idle m)) (all_nil (λ p. p < length t.atoms))
    ]

pub dist_below : (t : TaskShape) (b : Tables) (a : ℕ) (ps : List ℕ) → FitsTask t b → a < length t.actions → All (λ p. p < length t.atoms) ps → IsBelow 1000000000000000 (most_dist b.dists a ps)
dist_below t b a ps h lt all =
    below_over 1000000000000000 (dist_at b.dists a) ps (omega arith) (λ k d i. h.dists.small a (get_or ps k d) (let e = h.dists.actions in omega arith) (let e = h.dists.atoms in let l = all k d i in omega arith))

pub set_below : (t : TaskShape) (b : Tables) (ps : List ℕ) → FitsTask t b → All (λ p. p < length t.atoms) ps → IsBelow 1000000000000000 (set_span_of b.pairs ps)
set_below t b ps h all =
    below_over 1000000000000000 (most_with b.pairs ps) ps (omega arith)
    (λ k d i. below_over 1000000000000000 (pair_at b.pairs (get_or ps k d)) ps (omega arith)
    (λ j e l. h.pairs.small (get_or ps k d) (get_or ps j e) (let x = h.pairs.size in let y = all k d i in omega arith) (let x = h.pairs.size in let y = all j e l in omega arith)))

pub dur_below : (t : TaskShape) (a : ℕ) → InBounds t → a < length t.actions → (nth_action t a).dur ≤ 100000
dur_below t a h lt = (h.durations a idle lt).1

pub dist_below_more : (t : TaskShape) (b : Tables) (a : ℕ) (ps : List ℕ) → FitsTask t b → a < length t.actions → All (λ p. p < length t.atoms) ps → IsBelow (2 ^ 63) (most_dist b.dists a ps)
dist_below_more t b a ps h lt all = below_more 1000000000000000 (2 ^ 63) (most_dist b.dists a ps) (lit≤ tt) (dist_below t b a ps h lt all)

pub after_below : (t : TaskShape) (b : Tables) (a : ℕ) (ps : List ℕ) → (nth_action t a).dur ≤ 100000 → FitsTask t b → a < length t.actions → All (λ p. p < length t.atoms) ps → IsBelow 2000000000000000 (At (nth_action t a).dur +ˢ most_dist b.dists a ps)
after_below t b a ps e h lt all =
    below_more 1000000000100001 2000000000000000 (At (nth_action t a).dur +ˢ most_dist b.dists a ps) (lit≤ tt)
    (let k : (nth_action t a).dur < 100001 = omega arith in
    below_add 100001 1000000000000000 (At (nth_action t a).dur) (most_dist b.dists a ps) k (dist_below t b a ps h lt all))

pub set_below_more : (t : TaskShape) (b : Tables) (ps : List ℕ) → FitsTask t b → All (λ p. p < length t.atoms) ps → IsBelow 2000000000000000 (set_span_of b.pairs ps)
set_below_more t b ps h all = below_more 1000000000000000 2000000000000000 (set_span_of b.pairs ps) (lit≤ tt) (set_below t b ps h all)
