-- how searches go on
use Rattle.std.proofs.Common.{◌≡◌, ℕ, ◌+◌, ◌<◌, ◌⊎◌, inl, inr, Option, Some, None, refl, sym, subst, ◌∙◌, arith}
use Rattle.std.proofs.lemmas.Bool.{cases_eq}
use Rattle.cpt_task.specs.declared.span.Span.{Span}
use Rattle.cpt_tables.specs.Spans.{◌≤ˢ◌}
use Rattle.cpt_tables.specs.Scans.{IsHit, Scans}

module _ {K : Type 0} (Reach : Option K → K → Type 0) (value : K → Span) where
  hit_weaker : (L M : K → Span → Type 0) → ((k : K) (v : Span) → L k v → M k v) → (o : Option K) → IsHit value L o → IsHit value M o
  hit_weaker L M f None h = h
  hit_weaker L M f (Some k) h = (h.0, f k h.0 h.1, h.2)

  -- nothing was looked at
  pub scans_none : (L : K → Span → Type 0) (old : Option K) → ((k : K) (v : Span) → L k v → ⊥) → Scans Reach value L old old
  scans_none L old none = record { lowered = λ k h. h; passes = λ k v l. absurd (none k v l); origin = inl refl }

  -- the same right sides, said otherwise
  pub scans_same : (L M : K → Span → Type 0) (old new : Option K) → ((k : K) (v : Span) → L k v → M k v) → ((k : K) (v : Span) → M k v → L k v) → Scans Reach value L old new → Scans Reach value M old new
  scans_same L M old new f g s = record {
    lowered = s.lowered;
    passes = λ k v m. s.passes k v (g k v m);
    origin = elim s.origin [ inl e ↦ inl e | inr h ↦ inr (hit_weaker L M f new h) ];
  }

  -- one search after another
  pub scans_both : (L M : K → Span → Type 0) (old mid new : Option K) → Scans Reach value L old mid → Scans Reach value M mid new → Scans Reach value (λ k v. L k v ⊎ M k v) old new
  scans_both L M old mid new s r = record {
    lowered = λ k h. r.lowered k (s.lowered k h);
    passes = passes;
    origin = origin r.origin s.origin;
  }
    where
      passes : (k : K) (v : Span) → (L k v ⊎ M k v) → (value k ≤ˢ v) ⊎ Reach new k
      passes k v (inl l) = elim (s.passes k v l) [ inl le ↦ inl le | inr h ↦ inr (r.lowered k h) ]
      passes k v (inr m) = r.passes k v m

      origin : ((new ≡ mid) ⊎ IsHit value M new) → ((mid ≡ old) ⊎ IsHit value L mid) → (new ≡ old) ⊎ IsHit value (λ k v. L k v ⊎ M k v) new
      origin (inl e) (inl d) = inl (e ∙ d)
      origin (inl e) (inr h) = inr (subst (IsHit value (λ k v. L k v ⊎ M k v)) (sym e) (hit_weaker L (λ k v. L k v ⊎ M k v) (λ k v l. inl l) mid h))
      origin (inr h) d = inr (hit_weaker M (λ k v. L k v ⊎ M k v) (λ k v m. inr m) new h)

  -- a loop over numbered right sides begins
  pub scans_start : (M : ℕ → K → Span → Type 0) (old : Option K) → Scans Reach value (λ k v. (j : ℕ) × (j < 0) × M j k v) old old
  scans_start M old = scans_none (λ k v. (j : ℕ) × (j < 0) × M j k v) old (λ k v l. let lt : l.0 < 0 = l.1 in omega arith)

  -- and goes on
  pub scans_more : (M : ℕ → K → Span → Type 0) (i : ℕ) (old mid new : Option K) → Scans Reach value (λ k v. (j : ℕ) × (j < i) × M j k v) old mid → Scans Reach value (M i) mid new → Scans Reach value (λ k v. (j : ℕ) × (j < i + 1) × M j k v) old new
  scans_more M i old mid new s r =
      scans_same (λ k v. ((j : ℕ) × (j < i) × M j k v) ⊎ M i k v) (λ k v. (j : ℕ) × (j < i + 1) × M j k v) old new up down
      (scans_both (λ k v. (j : ℕ) × (j < i) × M j k v) (M i) old mid new s r)
    where
      up : (k : K) (v : Span) → (((j : ℕ) × (j < i) × M j k v) ⊎ M i k v) → (j : ℕ) × (j < i + 1) × M j k v
      up k v (inl h) = (h.0, (let lt : h.0 < i = h.1 in omega arith), h.2)
      up k v (inr m) = (i, omega arith, m)

      down : (k : K) (v : Span) → ((j : ℕ) × (j < i + 1) × M j k v) → ((j : ℕ) × (j < i) × M j k v) ⊎ M i k v
      down k v h = elim (cases_eq h.0 i) [
        | inl e ↦ inr (subst (λ n. M n k v) e h.2)
        | inr ne ↦ inl (h.0, (let lt : h.0 < i + 1 = h.1 in omega (arith, ne, lt)), h.2)
      ]
