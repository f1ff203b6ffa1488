use Rattle.std.proofs.Common.{◌≡◌, ℕ, zero, suc, ◌<◌, ◌≤◌, ◌⊎◌, inl, inr, Bool, true, false, ◌&&◌, nat_le, List, length, refl, sym, subst, arith}
use Rattle.std.proofs.lemmas.Bool.Decides.{nat_tests}
use Rattle.cpt_task.specs.declared.plan.Occ.{Occ}
use Rattle.cpt_task.specs.Shape.{TaskShape}
use Rattle.cpt_task.specs.Timeline.{action_of, end_of, is_in, occurrence_at}
use Rattle.cpt_tighten.specs.Needs.{IsAdder, IsLastAdder, IsLatest, IsNoEarlier}
use Rattle.cpt_tighten.proofs.Places.{in_from, in_to}

decided : (b : Bool) → (b ≡ true) ⊎ (b ≡ false)
decided true = inl refl
decided false = inr refl

-- of two ends, which is the greater, the first at a tie
pub compared : (e f : ℕ) → (e < f) ⊎ (f ≤ e)
compared e f = grind arith

pub at_most : (e f i k : ℕ) → ((f < e) ⊎ ((f ≡ e) × (i ≤ k))) → f ≤ e
at_most e f i k h = grind arith

below_suc : (k n : ℕ) → k < suc n → (k < n) ⊎ (k ≡ n)
below_suc k n lt = grind arith

-- the ends of i, j and k in turn
pub no_earlier_trans : (t : TaskShape) (plan : List Occ) (i j k : ℕ) → IsNoEarlier t plan i j → IsNoEarlier t plan j k → IsNoEarlier t plan i k
no_earlier_trans t plan i j k a b = ordered (end_of t (occurrence_at plan i)) (end_of t (occurrence_at plan j)) (end_of t (occurrence_at plan k)) i j k a b
  where
    ordered : (e f g i j k : ℕ) → ((f < e) ⊎ ((f ≡ e) × (i ≤ j))) → ((g < f) ⊎ ((g ≡ f) × (j ≤ k))) → ((g < e) ⊎ ((g ≡ e) × (i ≤ k)))
    ordered e f g i j k a b = grind arith

-- the places below n that pass a test have a latest one, or there is none
pub latest_below : (t : TaskShape) (plan : List Occ) (test : ℕ → Bool) (n : ℕ)
    → ((k : ℕ) → k < n → test k ≡ true → ⊥) ⊎ ((i : ℕ) × IsLatest t plan (λ k. (k < n) × (test k ≡ true)) i)
latest_below t plan test zero = inl (λ k lt h. omega (arith, lt))
latest_below t plan test (suc n) =
    elim (decided (test n)) [
      | inr fails ↦ elim (latest_below t plan test n) [
        | inl never ↦ inl (λ k lt h. elim (below_suc k n lt) [ inl less ↦ never k less h | inr same ↦ let z : test n ≡ true = subst (λ x. test x ≡ true) same h in cc (z, fails) ])
        | inr l ↦ inr (
          l.0,
          record {
            among = (omega (arith, l.1.among.0), l.1.among.1);
            last = λ k h. elim (below_suc k n h.0) [ inl less ↦ l.1.last k (less, h.1) | inr same ↦ let z : test n ≡ true = subst (λ x. test x ≡ true) same h.1 in absurd (let y : ⊥ = cc (z, fails) in y) ];
          },
        )
      ]
      | inl passes ↦ elim (latest_below t plan test n) [
        | inl never ↦ inr (
          n,
          record {
            among = (omega arith, passes);
            last = λ k h. elim (below_suc k n h.0) [ inl less ↦ absurd (never k less h.1) | inr same ↦ subst (λ x. IsNoEarlier t plan n x) (sym same) (inr (refl, omega arith)) ];
          },
        )
        | inr l ↦ elim (compared (end_of t (occurrence_at plan l.0)) (end_of t (occurrence_at plan n))) [
          | inl later ↦ inr (
            n,
            record {
              among = (omega arith, passes);
              last = λ k h. elim (below_suc k n h.0) [
                | inl less ↦ no_earlier_trans t plan n l.0 k (inl later) (l.1.last k (less, h.1))
                | inr same ↦ subst (λ x. IsNoEarlier t plan n x) (sym same) (inr (refl, omega arith))
              ];
            },
          )
          | inr le ↦ inr (
            l.0,
            record {
              among = (omega (arith, l.1.among.0), l.1.among.1);
              last = λ k h. elim (below_suc k n h.0) [ inl less ↦ l.1.last k (less, h.1) | inr same ↦ subst (λ x. IsNoEarlier t plan l.0 x) (sym same) (no_later (end_of t (occurrence_at plan l.0)) (end_of t (occurrence_at plan n)) l.0 n le l.1.among.0) ];
            },
          )
        ]
      ]
    ]
  where
    no_later : (e f i n : ℕ) → f ≤ e → i < n → ((f < e) ⊎ ((f ≡ e) × (i ≤ n)))
    no_later e f i n le lt = grind arith

abbrev adds_by : TaskShape → List Occ → ℕ → ℕ → ℕ → Bool
adds_by t plan p moment k = nat_le (end_of t (occurrence_at plan k)) moment && is_in p (action_of t (occurrence_at plan k)).add

split : (e m : ℕ) (b : Bool) → (nat_le e m && b) ≡ true → (e ≤ m) × (b ≡ true)
split e m b h = (grind (arith, nat_tests), grind (arith, nat_tests))

join : (e m : ℕ) (b : Bool) → e ≤ m → b ≡ true → (nat_le e m && b) ≡ true
join e m b le h = grind (arith, nat_tests)

passes : (t : TaskShape) (plan : List Occ) (p moment k : ℕ) → IsAdder t plan p moment k → adds_by t plan p moment k ≡ true
passes t plan p moment k a = join (end_of t (occurrence_at plan k)) moment (is_in p (action_of t (occurrence_at plan k)).add) a.ended (in_to (action_of t (occurrence_at plan k)).add p a.adds)

-- nothing has added an atom before a moment, or something was last
pub last_adder : (t : TaskShape) (plan : List Occ) (p moment : ℕ) → ((k : ℕ) → IsAdder t plan p moment k → ⊥) ⊎ ((i : ℕ) × IsLastAdder t plan p moment i)
last_adder t plan p moment =
    elim (latest_below t plan (adds_by t plan p moment) (length plan)) [
      | inl never ↦ inl (λ k a. never k a.within (passes t plan p moment k a))
      | inr l ↦
          let s = split (end_of t (occurrence_at plan l.0)) moment (is_in p (action_of t (occurrence_at plan l.0)).add) l.1.among.1 in
          inr (
            l.0,
            record {
              among = record { within = l.1.among.0; adds = in_from (action_of t (occurrence_at plan l.0)).add p s.1; ended = s.0 };
              last = λ k a. l.1.last k (a.within, passes t plan p moment k a);
            },
          )
    ]
