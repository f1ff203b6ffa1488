-- laws of rows, and steps of the loops
use Rattle.std.proofs.Common.{◌≡◌, ℕ, zero, suc, ◌+◌, ◌*◌, ◌<◌, ◌≤◌, ◌^◌, Bool, true, false, ◌||◌, List, [], ◌∷◌, length, get_or, take, All, Contains, refl, sym, subst, arith}
use Rattle.std.proofs.lemmas.List.Elements.{All-contains, All-more, All-weaker}
use Rattle.cpt_task.specs.declared.span.Span.{Span}
use Rattle.cpt_task.specs.declared.span.Span.TheVariants.{At, Never}
use Rattle.cpt_task.specs.declared.task.Action.{Action}
use Rattle.cpt_task.specs.Shape.{HasAtomsBelow, IsDuration}
use Rattle.cpt_tables.specs.Spans.{◌≤ˢ◌, ◌+ˢ◌, IsBelow}
use Rattle.cpt_tables.specs.Shapes.{most_over}
use Rattle.cpt_tables.proofs.SpanLemmas.{le_trans, below_more, add_mono}
use Rattle.cpt_tables.proofs.MostLemmas.{le_over, over_le, below_over}
use Rattle.cpt_tables.specs.Weights.{value_at, reached, IsSmall, IsNextTo}
use Rattle.cpt_dist.specs.Moving.{IsUnder, Falls, Moves, LowersAt, LowersFirst}
use Rattle.cpt_dist.specs.Rows.{row_limit, IsMetBy, IsClosed, SweepsFirst}
use Rattle.cpt_tables.proofs.WeightLemmas.{reached_few, next_more}
use Rattle.cpt_dist.proofs.MovingLemmas.{falls_again, falls_by, falls_at, moves_at, moves_again, still, met_at, le_at}

-- within a list the default does not matter
get_or_self : (xs : List ℕ) (k d : ℕ) → k < length xs → get_or xs k (get_or xs k d) ≡ get_or xs k d
get_or_self [] k d lt = absurd (omega arith)
get_or_self (x ∷ xs) zero d lt = refl
get_or_self (x ∷ xs) (suc k) d lt = get_or_self xs k d (omega arith)

pub over_mono : (f g : ℕ → Span) (xs : List ℕ) → ((x : ℕ) → Contains xs x → f x ≤ˢ g x) → most_over f xs ≤ˢ most_over g xs
over_mono f g xs le = over_le f xs (most_over g xs) (all f g xs (λ x has. le_trans (f x) (g x) (most_over g xs) (le x has) (le_over g xs x has)))
  where
    all : (f g : ℕ → Span) (xs : List ℕ) → ((x : ℕ) → Contains xs x → f x ≤ˢ most_over g xs) → All (λ x. f x ≤ˢ most_over g xs) xs
    all f g xs h k d lt = h (get_or xs k d) (k, lt, get_or_self xs k d lt)

pub limit_mono : (f g : ℕ → Span) (c : Action) → ((x : ℕ) → Contains c.pre x → f x ≤ˢ g x) → row_limit f c ≤ˢ row_limit g c
limit_mono f g c le = add_mono (most_over f c.pre) (most_over g c.pre) (At c.dur) (over_mono f g c.pre le)

next_sum : (a : Span) (r d : ℕ) → IsBelow (100000 * r + 1) a → d ≤ 100000 → IsBelow (100000 * r + 100001) (a +ˢ At d)
next_sum (At m) r d b le = omega arith
next_sum Never r d b le = tt

pub most_small : (row : List Span) (atoms : List ℕ) → All (λ p. p < length row) atoms → IsSmall row → IsBelow (100000 * reached row + 1) (most_over (value_at row) atoms)
most_small row atoms within small = below_over (100000 * reached row + 1) (value_at row) atoms (omega arith) (λ k d lt. small (get_or atoms k d) Never (within k d lt))

pub limit_next : (row : List Span) (c : Action) → HasAtomsBelow (length row) c → IsDuration c.dur → IsSmall row → IsNextTo row (row_limit (value_at row) c)
limit_next row c atoms dur small = next_sum (most_over (value_at row) c.pre) (reached row) c.dur (most_small row c.pre atoms.pre small) dur.1

pub most_fits : (row : List Span) (atoms : List ℕ) → length row ≤ 8388608 → All (λ p. p < length row) atoms → IsSmall row → IsBelow (2 ^ 63) (most_over (value_at row) atoms)
most_fits row atoms few within small =
    let count : reached row ≤ length row = reached_few row in
    below_more (100000 * reached row + 1) (2 ^ 63) (most_over (value_at row) atoms) (omega (arith, count, few)) (most_small row atoms within small)

-- one atom more
pub lowers_more : (atoms : List ℕ) (v : Span) (old row new : List Span) (n : ℕ) (moved lower : Bool)
    → length old ≤ 8388608 → IsNextTo old v → All (λ p. p < length old) atoms → n < length atoms
    → LowersFirst atoms v old row n moved → LowersAt row new (get_or atoms n 0) v lower
    → LowersFirst atoms v old new (n + 1) (moved || lower)
lowers_more atoms v old row new n moved lower few next within lt h step = record {
  falls = falls_again G old row new h.falls one;
  moves = moves_again old row new moved lower (moved || lower) refl h.moves (moves_at row new p v lower (subst (λ k. k ≤ 8388608) (sym h.falls.size) few) inside near step);
  met = All-more (λ q. value_at new q ≤ˢ v) atoms n 0 lt
      (All-weaker (λ q. value_at row q ≤ˢ v) (λ q. value_at new q ≤ˢ v) (λ q le. le_trans (value_at new q) (value_at row q) v (le_at row new p q v lower inside step) le) (take n atoms) h.met)
      (met_at row new p v lower inside step);
}
  where
    p : ℕ
    p = get_or atoms n 0

    G : (ℕ → Span) → Type 0
    G g = All (λ q. g q ≤ˢ v) atoms

    inside : p < length row
    inside = subst (λ k. p < k) (sym h.falls.size) (within n 0 lt)

    near : IsNextTo row v
    near = next_more (reached old) (reached row) v h.falls.more next

    one : Falls G row new
    one = falls_by (λ g. g p ≤ˢ v) G row new (λ g all under. all n 0 lt) (falls_at row new p v lower inside h.falls.small near step)

-- what an action lowers
pub falls_by_action : (row new : List Span) (c : Action) → HasAtomsBelow (length row) c → Falls (λ g. All (λ p. g p ≤ˢ row_limit (value_at row) c) c.add) row new → Falls (λ g. IsMetBy g c) row new
falls_by_action row new c atoms f = falls_by (λ g. All (λ p. g p ≤ˢ row_limit (value_at row) c) c.add) (λ g. IsMetBy g c) row new weaker f
  where
    weaker : (g : ℕ → Span) → IsMetBy g c → IsUnder g row → All (λ p. g p ≤ˢ row_limit (value_at row) c) c.add
    weaker g met under k d lt =
        le_trans (g (get_or c.add k d)) (row_limit g c) (row_limit (value_at row) c)
        (met (get_or c.add k d) (k, lt, get_or_self c.add k d lt))
        (limit_mono g (value_at row) c (λ x has. under x (All-contains (λ p. p < length row) c.pre x atoms.pre has)))

pub met_by_action : (row new : List Span) (c : Action) → new ≡ row → All (λ p. value_at new p ≤ˢ row_limit (value_at row) c) c.add → IsMetBy (value_at new) c
met_by_action row new c e all p has = subst (λ xs. value_at new p ≤ˢ row_limit (value_at xs) c) (sym e) (All-contains (λ q. value_at new q ≤ˢ row_limit (value_at row) c) c.add p all has)

either_false : (a b : Bool) → (a || b) ≡ false → (a ≡ false) × (b ≡ false)
either_false true b e = absurd (cc)
either_false false b e = (refl, e)

-- one action more
pub sweeps_more : (actions : List Action) (old row new : List Span) (n : ℕ) (moved lower : Bool) (c : Action)
    → n < length actions → c ≡ get_or actions n c
    → SweepsFirst actions old row n moved → Falls (λ g. IsMetBy g c) row new → Moves row new lower → (lower ≡ false → IsMetBy (value_at new) c)
    → SweepsFirst actions old new (n + 1) (moved || lower)
sweeps_more actions old row new n moved lower c lt is h f m met = record {
  falls = falls_again (IsClosed actions) old row new h.falls (falls_by (λ g. IsMetBy g c) (IsClosed actions) row new (λ g closed under. closed c (n, lt, sym is)) f);
  moves = moves_again old row new moved lower (moved || lower) refl h.moves m;
  met = λ e. let both : (moved ≡ false) × (lower ≡ false) = either_false moved lower e in
      All-more (IsMetBy (value_at new)) actions n c lt
      (subst (λ xs. All (IsMetBy (value_at xs)) (take n actions)) (sym (still row new lower both.1 m)) (h.met both.0))
      (subst (IsMetBy (value_at new)) is (met both.1));
}

pub closed_by_sweep : (actions : List Action) (f : ℕ → Span) → All (IsMetBy f) actions → IsClosed actions f
closed_by_sweep actions f all c has = All-contains (IsMetBy f) actions c all has
