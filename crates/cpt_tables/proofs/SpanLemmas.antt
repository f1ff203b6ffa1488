-- laws of spans
use Rattle.std.proofs.Common.{◌≡◌, ℕ, ◌+◌, ◌≤◌, ◌⊎◌, max, min, inl, inr, refl, ap, arith}
use Rattle.cpt_task.specs.declared.span.Span.{Span}
use Rattle.cpt_task.specs.declared.span.Span.TheVariants.{At, Never}
use Rattle.cpt_tables.specs.Spans.{◌≤ˢ◌, ◌<ˢ◌, ◌+ˢ◌, span_max, span_min, IsFinite, IsBelow}

pub le_refl : (a : Span) → a ≤ˢ a
le_refl (At a) = omega arith
le_refl Never = tt

pub le_trans : (a b c : Span) → a ≤ˢ b → b ≤ˢ c → a ≤ˢ c
le_trans (At a) (At b) (At c) h k = omega arith
le_trans (At a) (At b) Never h k = tt
le_trans (At a) Never (At c) h k = absurd k
le_trans (At a) Never Never h k = tt
le_trans Never (At b) c h k = absurd h
le_trans Never Never (At c) h k = absurd k
le_trans Never Never Never h k = tt

pub le_antisym : (a b : Span) → a ≤ˢ b → b ≤ˢ a → a ≡ b
le_antisym (At a) (At b) h k = let e : a ≡ b = omega arith in ap At e
le_antisym (At a) Never h k = absurd k
le_antisym Never (At b) h k = absurd h
le_antisym Never Never h k = refl

pub le_never : (a : Span) → a ≤ˢ Never
le_never (At a) = tt
le_never Never = tt

pub zero_le : (a : Span) → At 0 ≤ˢ a
zero_le (At a) = omega arith
zero_le Never = tt

pub le_cases : (a b : Span) → (a ≤ˢ b) ⊎ (b <ˢ a)
le_cases (At a) (At b) = grind arith
le_cases (At a) Never = inl tt
le_cases Never (At b) = inr tt
le_cases Never Never = inl tt

pub lt_not_le : (a b : Span) → a <ˢ b → b ≤ˢ a → ⊥
lt_not_le (At a) (At b) h k = omega arith
lt_not_le (At a) Never h k = k
lt_not_le Never b h k = h

pub le_lt : (a b c : Span) → a ≤ˢ b → b <ˢ c → a <ˢ c
le_lt (At a) (At b) (At c) h k = omega arith
le_lt (At a) (At b) Never h k = tt
le_lt (At a) Never c h k = absurd k
le_lt Never (At b) c h k = absurd h
le_lt Never Never c h k = absurd k

pub max_left : (a b : Span) → a ≤ˢ span_max a b
max_left (At a) (At b) = omega arith
max_left (At a) Never = tt
max_left Never b = tt

pub max_right : (a b : Span) → b ≤ˢ span_max a b
max_right (At a) (At b) = omega arith
max_right (At a) Never = tt
max_right Never b = le_never b

pub max_le : (a b c : Span) → a ≤ˢ c → b ≤ˢ c → span_max a b ≤ˢ c
max_le (At a) (At b) (At c) h k = omega arith
max_le (At a) (At b) Never h k = tt
max_le (At a) Never c h k = k
max_le Never b c h k = h

pub max_assoc : (a b c : Span) → span_max (span_max a b) c ≡ span_max a (span_max b c)
max_assoc (At a) (At b) (At c) = let e : max (max a b) c ≡ max a (max b c) = omega arith in ap At e
max_assoc (At a) (At b) Never = refl
max_assoc (At a) Never c = refl
max_assoc Never b c = refl

pub max_comm : (a b : Span) → span_max a b ≡ span_max b a
max_comm (At a) (At b) = let e : max a b ≡ max b a = omega arith in ap At e
max_comm (At a) Never = refl
max_comm Never (At b) = refl
max_comm Never Never = refl

pub zero_max : (a : Span) → span_max (At 0) a ≡ a
zero_max (At a) = let e : max 0 a ≡ a = omega arith in ap At e
zero_max Never = refl

pub max_zero : (a : Span) → span_max a (At 0) ≡ a
max_zero (At a) = let e : max a 0 ≡ a = omega arith in ap At e
max_zero Never = refl

pub min_le_left : (a b : Span) → span_min a b ≤ˢ a
min_le_left (At a) (At b) = omega arith
min_le_left (At a) Never = omega arith
min_le_left Never b = le_never b

pub min_le_right : (a b : Span) → span_min a b ≤ˢ b
min_le_right (At a) (At b) = omega arith
min_le_right (At a) Never = tt
min_le_right Never b = le_refl b

pub min_cases : (a b : Span) → (span_min a b ≡ a) ⊎ (span_min a b ≡ b)
min_cases (At a) (At b) = choose (pick a b)
  where
    pick : (m n : ℕ) → (min m n ≡ m) ⊎ (min m n ≡ n)
    pick m n = grind arith

    choose : ((min a b ≡ a) ⊎ (min a b ≡ b)) → (At (min a b) ≡ At a) ⊎ (At (min a b) ≡ At b)
    choose (inl e) = inl (ap At e)
    choose (inr e) = inr (ap At e)
min_cases (At a) Never = inl refl
min_cases Never b = inr refl

pub add_mono : (a b g : Span) → a ≤ˢ b → (a +ˢ g) ≤ˢ (b +ˢ g)
add_mono (At a) (At b) (At g) h = omega arith
add_mono (At a) (At b) Never h = tt
add_mono (At a) Never (At g) h = tt
add_mono (At a) Never Never h = tt
add_mono Never (At b) g h = absurd h
add_mono Never Never g h = tt

-- what is at most a moment, moved on
pub add_le : (a : Span) (m d n : ℕ) → a ≤ˢ At m → m + d ≤ n → (a +ˢ At d) ≤ˢ At n
add_le (At a) m d n h k = omega arith
add_le Never m d n h k = absurd h

pub finite_le : (a b : Span) → a ≤ˢ b → IsFinite b → IsFinite a
finite_le (At a) b h f = tt
finite_le Never (At b) h f = h
finite_le Never Never h f = f

pub finite_at : (a : Span) (m : ℕ) → a ≤ˢ At m → IsFinite a
finite_at (At a) m h = tt
finite_at Never m h = h

pub below_max : (n : ℕ) (a b : Span) → IsBelow n a → IsBelow n b → IsBelow n (span_max a b)
below_max n (At a) (At b) h k = omega arith
below_max n (At a) Never h k = tt
below_max n Never b h k = tt

pub below_more : (m n : ℕ) (a : Span) → m ≤ n → IsBelow m a → IsBelow n a
below_more m n (At a) le h = omega arith
below_more m n Never le h = tt

pub below_add : (m n : ℕ) (a b : Span) → IsBelow m a → IsBelow n b → IsBelow (m + n) (a +ˢ b)
below_add m n (At a) (At b) h k = omega arith
below_add m n (At a) Never h k = tt
below_add m n Never b h k = tt
