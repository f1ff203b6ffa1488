-- how a least span is found
use Rattle.std.proofs.Common.{◌≡◌, ℕ, ◌+◌, ◌<◌, ◌⊎◌, inl, inr, refl, sym, subst, ◌∙◌, arith}
use Rattle.std.proofs.lemmas.Bool.{cases_eq}
use Rattle.cpt_task.specs.declared.span.Span.{Span}
use Rattle.cpt_task.specs.declared.span.Span.TheVariants.{Never}
use Rattle.cpt_tables.specs.Spans.{◌≤ˢ◌, span_min}
use Rattle.cpt_tables.specs.Admissible.{IsLeast}
use Rattle.cpt_tables.specs.Scans.{Lessens}
use Rattle.cpt_tables.proofs.SpanLemmas.{le_refl, le_trans, min_le_left, min_le_right, min_cases}

-- nothing is there
pub lessens_none : (L : Span → Type 0) (old : Span) → ((v : Span) → L v → ⊥) → Lessens L old old
lessens_none L old none = record { below = le_refl old; least = λ v l. absurd (none v l); taken = inl refl }

-- one right side is there
pub lessens_one : (L : Span → Type 0) (old limit new : Span) → new ≡ span_min old limit → L limit → ((v : Span) → L v → v ≡ limit) → Lessens L old new
lessens_one L old limit new is here only = subst (λ n. Lessens L old n) (sym is) (record {
  below = min_le_left old limit;
  least = λ v l. subst (λ w. span_min old limit ≤ˢ w) (sym (only v l)) (min_le_right old limit);
  taken = elim (min_cases old limit) [ inl e ↦ inl e | inr e ↦ inr (subst L (sym e) here) ];
})

pub lessens_same : (L M : Span → Type 0) (old new : Span) → ((v : Span) → L v → M v) → ((v : Span) → M v → L v) → Lessens L old new → Lessens M old new
lessens_same L M old new f g s = record {
  below = s.below;
  least = λ v m. s.least v (g v m);
  taken = elim s.taken [ inl e ↦ inl e | inr l ↦ inr (f new l) ];
}

pub lessens_both : (L M : Span → Type 0) (old mid new : Span) → Lessens L old mid → Lessens M mid new → Lessens (λ v. L v ⊎ M v) old new
lessens_both L M old mid new s r = record {
  below = le_trans new mid old r.below s.below;
  least = least;
  taken = taken r.taken s.taken;
}
  where
    least : (v : Span) → (L v ⊎ M v) → new ≤ˢ v
    least v (inl l) = le_trans new mid v r.below (s.least v l)
    least v (inr m) = r.least v m

    taken : ((new ≡ mid) ⊎ M new) → ((mid ≡ old) ⊎ L mid) → (new ≡ old) ⊎ (L new ⊎ M new)
    taken (inl e) (inl d) = inl (e ∙ d)
    taken (inl e) (inr l) = inr (inl (subst L (sym e) l))
    taken (inr m) d = inr (inr m)

-- a loop over numbered right sides
abbrev pub LessensFirst : (ℕ → Span → Type 0) → ℕ → Span → Span → Type 0
LessensFirst M i old new = Lessens (λ v. (j : ℕ) × (j < i) × M j v) old new

pub lessens_start : (M : ℕ → Span → Type 0) (old : Span) → LessensFirst M 0 old old
lessens_start M old = lessens_none (λ v. (j : ℕ) × (j < 0) × M j v) old (λ v l. let lt : l.0 < 0 = l.1 in omega arith)

pub lessens_more : (M : ℕ → Span → Type 0) (i : ℕ) (old mid new : Span) → LessensFirst M i old mid → Lessens (M i) mid new → LessensFirst M (i + 1) old new
lessens_more M i old mid new s r =
    lessens_same (λ v. ((j : ℕ) × (j < i) × M j v) ⊎ M i v) (λ v. (j : ℕ) × (j < i + 1) × M j v) old new up down (lessens_both (λ v. (j : ℕ) × (j < i) × M j v) (M i) old mid new s r)
  where
    up : (v : Span) → (((j : ℕ) × (j < i) × M j v) ⊎ M i v) → (j : ℕ) × (j < i + 1) × M j v
    up v (inl h) = (h.0, (let lt : h.0 < i = h.1 in omega arith), h.2)
    up v (inr m) = (i, omega arith, m)

    down : (v : Span) → ((j : ℕ) × (j < i + 1) × M j v) → ((j : ℕ) × (j < i) × M j v) ⊎ M i v
    down v h = elim (cases_eq h.0 i) [
      | inl e ↦ inr (subst (λ n. M n v) e h.2)
      | inr ne ↦ inl (h.0, (let lt : h.0 < i + 1 = h.1 in omega (arith, ne, lt)), h.2)
    ]

-- from Never on the least is found
pub least_from : (L : Span → Type 0) (most : Span) → Lessens L Never most → IsLeast L most
least_from L most s = record {
  taken = elim s.taken [ inl e ↦ inr e | inr l ↦ inl l ];
  least = s.least;
}
