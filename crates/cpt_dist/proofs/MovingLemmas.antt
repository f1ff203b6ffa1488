-- laws of lowering values of a list
use Rattle.std.proofs.Common.{◌≡◌, ℕ, ◌+◌, ◌<◌, ◌≤◌, inl, inr, Bool, true, false, ◌||◌, cond, List, length, set, refl, sym, ap, subst, ◌∙◌, arith}
use Rattle.std.proofs.lemmas.Bool.{cases_eq}
use Rattle.std.proofs.lemmas.List.{get_or-set_other, get_or-set_same, length-set}
use Rattle.cpt_task.specs.declared.span.Span.{Span}
use Rattle.cpt_task.specs.declared.span.Span.TheVariants.{Never}
use Rattle.cpt_tables.specs.Spans.{◌≤ˢ◌}
use Rattle.cpt_tables.proofs.SpanLemmas.{le_refl, le_trans}
use Rattle.cpt_tables.proofs.WeightLemmas.{set_small, set_lighter, set_le, set_more}
use Rattle.cpt_tables.specs.Weights.{value_at, reached, weight, IsSmall, IsNextTo}
use Rattle.cpt_dist.specs.Moving.{IsUnder, Falls, Moves, LowersAt}

pub under_set : (g : ℕ → Span) (xs : List Span) (k : ℕ) (v : Span) → k < length xs → IsUnder g xs → g k ≤ˢ v → IsUnder g (set xs k v)
under_set g xs k v within under le j lt =
    let inside : j < length xs = subst (λ n. j < n) (length-set xs k v) lt in
    elim (cases_eq j k) [
      | inl e ↦ subst (λ i. g i ≤ˢ value_at (set xs k v) i) (sym e) (subst (λ x. g k ≤ˢ x) (sym (get_or-set_same xs k v Never within)) le)
      | inr ne ↦ subst (λ x. g j ≤ˢ x) (sym (get_or-set_other xs k j v Never ne)) (under j inside)
    ]

pub falls_same : (G : (ℕ → Span) → Type 0) (old new : List Span) → new ≡ old → IsSmall old → Falls G old new
falls_same G old new e small = subst (λ xs. Falls G old xs) (sym e) (stay G old small)
  where
    stay : (G : (ℕ → Span) → Type 0) (old : List Span) → IsSmall old → Falls G old old
    stay G old small = record { size = refl; small = small; more = omega arith; under = λ k. le_refl (value_at old k); above = λ g holds under. under }

pub falls_again : (G : (ℕ → Span) → Type 0) (old mid new : List Span) → Falls G old mid → Falls G mid new → Falls G old new
falls_again G old mid new f s = record {
  size = s.size ∙ f.size;
  small = s.small;
  more = let one : reached old ≤ reached mid = f.more in let two : reached mid ≤ reached new = s.more in omega (arith, one, two);
  under = λ k. le_trans (value_at new k) (value_at mid k) (value_at old k) (s.under k) (f.under k);
  above = λ g holds under. s.above g holds (f.above g holds under);
}

pub falls_by : (G H : (ℕ → Span) → Type 0) (old new : List Span) → ((g : ℕ → Span) → H g → IsUnder g old → G g) → Falls G old new → Falls H old new
falls_by G H old new weaker f = record {
  size = f.size;
  small = f.small;
  more = f.more;
  under = f.under;
  above = λ g holds under. f.above g (weaker g holds under) under;
}

-- one place lowered
pub falls_at : (old new : List Span) (k : ℕ) (v : Span) (moved : Bool) → k < length old → IsSmall old → IsNextTo old v → LowersAt old new k v moved → Falls (λ g. g k ≤ˢ v) old new
falls_at old new k v true within small next h =
    subst (λ xs. Falls (λ g. g k ≤ˢ v) old xs) (sym h.1) (record {
      size = length-set old k v;
      small = set_small old k v within h.0 small next;
      more = set_more old k v within h.0;
      under = λ j. set_le old k j v within h.0;
      above = λ g holds under. under_set g old k v within under holds;
    })
falls_at old new k v false within small next h = falls_same (λ g. g k ≤ˢ v) old new h.1 small

pub moves_at : (old new : List Span) (k : ℕ) (v : Span) (moved : Bool) → length old ≤ 8388608 → k < length old → IsNextTo old v → LowersAt old new k v moved → Moves old new moved
moves_at old new k v true few within next h = subst (λ xs. weight xs < weight old) (sym h.1) (set_lighter old k v few within h.0 next)
moves_at old new k v false few within next h = h.1

pub met_at : (old new : List Span) (k : ℕ) (v : Span) (moved : Bool) → k < length old → LowersAt old new k v moved → value_at new k ≤ˢ v
met_at old new k v true within h = subst (λ xs. value_at xs k ≤ˢ v) (sym h.1) (subst (λ x. x ≤ˢ v) (sym (get_or-set_same old k v Never within)) (le_refl v))
met_at old new k v false within h = subst (λ xs. value_at xs k ≤ˢ v) (sym h.1) h.0

pub le_at : (old new : List Span) (k j : ℕ) (v : Span) (moved : Bool) → k < length old → LowersAt old new k v moved → value_at new j ≤ˢ value_at old j
le_at old new k j v true within h = subst (λ xs. value_at xs j ≤ˢ value_at old j) (sym h.1) (set_le old k j v within h.0)
le_at old new k j v false within h = subst (λ xs. value_at xs j ≤ˢ value_at old j) (sym h.1) (le_refl (value_at old j))

-- one lowering after another
pub moves_again : (old mid new : List Span) (a b : Bool) (both : Bool) → both ≡ (a || b) → Moves old mid a → Moves mid new b → Moves old new both
moves_again old mid new a b both e f s = subst (λ m. Moves old new m) (sym e) (go a b f s)
  where
    go : (a b : Bool) → Moves old mid a → Moves mid new b → Moves old new (a || b)
    go true true f s = let one : weight mid < weight old = f in let two : weight new < weight mid = s in omega (arith, one, two)
    go true false f s = subst (λ xs. weight xs < weight old) (sym s) f
    go false true f s = subst (λ xs. weight new < weight xs) f s
    go false false f s = s ∙ f

pub still : (old new : List Span) (moved : Bool) → moved ≡ false → Moves old new moved → new ≡ old
still old new true e m = absurd (cc)
still old new false e m = m

-- a round that moved something leaves less to do, and so does the last one, which clears the flag
pub less_left : (old new : List Span) (was moved : Bool) → was ≡ true → Moves old new moved → weight new + cond moved 1 0 < weight old + cond was 1 0
less_left old new was moved e m = subst (λ b. weight new + cond moved 1 0 < weight old + cond b 1 0) (sym e) (go moved m)
  where
    go : (moved : Bool) → Moves old new moved → weight new + cond moved 1 0 < weight old + 1
    go true m = let less : weight new < weight old = m in omega (arith, less)
    go false m = let same : weight new ≡ weight old = ap weight m in omega (arith, same)
