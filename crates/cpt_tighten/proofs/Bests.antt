use Rattle.std.proofs.Common.{◌≡◌, ℕ, zero, suc, ◌<◌, ◌≤◌, ◌==◌, ◌⊎◌, inl, inr, Bool, true, false, cond, ◌&&◌, ◌||◌, nat_lt, List, [], ◌∷◌, Option, None, Some, refl, sym, ap, ◌∙◌, subst, arith, Contains}
use Rattle.std.proofs.lemmas.Bool.Decides.{nat_tests}
use Rattle.cpt_task.specs.declared.plan.Occ.{Occ}
use Rattle.cpt_task.specs.Shape.{TaskShape}
use Rattle.cpt_task.specs.Timeline.{end_of, is_in, occurrence_at}
use Rattle.cpt_tighten.specs.declared.moments.Finish.{Finish}
use Rattle.cpt_tighten.specs.Best.{best_over, either, ends_later, entry, finish_of, later_of, moved, IsBest, IsNoted}
use Rattle.cpt_tighten.specs.Needs.{IsLatest, IsNoEarlier}
use Rattle.cpt_tighten.proofs.Latest.{no_earlier_trans}
use Rattle.cpt_tighten.proofs.Places.{in_from, in_to}

-- the latest of the same places
pub latest_same : (t : TaskShape) (plan : List Occ) (P Q : ℕ → Type 0) (i : ℕ) → ((k : ℕ) → P k → Q k) → ((k : ℕ) → Q k → P k) → IsLatest t plan P i → IsLatest t plan Q i
latest_same t plan P Q i to from l = record { among = to i l.among; last = λ k q. l.last k (from k q) }

pub best_same : (t : TaskShape) (plan : List Occ) (P Q : ℕ → Type 0) (o : Option Finish) → ((k : ℕ) → P k → Q k) → ((k : ℕ) → Q k → P k) → IsBest t plan P o → IsBest t plan Q o
best_same t plan P Q None to from h = λ i q. h i (from i q)
best_same t plan P Q (Some f) to from h = (latest_same t plan P Q f.place to from h.0, h.1)

-- where the places of which P holds have kept their occurrences
latest_moved : (t : TaskShape) (plan other : List Occ) (P : ℕ → Type 0) (i : ℕ) → ((k : ℕ) → P k → occurrence_at other k ≡ occurrence_at plan k) → IsLatest t plan P i → IsLatest t other P i
latest_moved t plan other P i same l = record {
  among = l.among;
  last = λ k p. subst (λ o. (end_of t (occurrence_at other k) < end_of t o) ⊎ ((end_of t (occurrence_at other k) ≡ end_of t o) × (i ≤ k))) (sym (same i l.among))
      (subst (λ o. (end_of t o < end_of t (occurrence_at plan i)) ⊎ ((end_of t o ≡ end_of t (occurrence_at plan i)) × (i ≤ k))) (sym (same k p)) (l.last k p));
}

pub best_kept : (t : TaskShape) (plan other : List Occ) (P : ℕ → Type 0) (o : Option Finish) → ((k : ℕ) → P k → occurrence_at other k ≡ occurrence_at plan k) → IsBest t plan P o → IsBest t other P o
best_kept t plan other P None same h = h
best_kept t plan other P (Some f) same h = (latest_moved t plan other P f.place same h.0, h.1 ∙ ap (end_of t) (sym (same f.place h.0.among)))

later_yes : (e p g q : ℕ) → (nat_lt g e || ((e == g) && nat_lt p q)) ≡ true → (g < e) ⊎ ((g ≡ e) × (p ≤ q))
later_yes e p g q h = grind (arith, nat_tests)

later_no : (e p g q : ℕ) → (nat_lt g e || ((e == g) && nat_lt p q)) ≡ false → (e < g) ⊎ ((e ≡ g) × (q ≤ p))
later_no e p g q h = grind (arith, nat_tests)

itself : (t : TaskShape) (plan : List Occ) (i : ℕ) → IsNoEarlier t plan i i
itself t plan i = inr (refl, omega arith)

choose : (t : TaskShape) (plan : List Occ) (P Q : ℕ → Type 0) (g f : Finish) (b : Bool) → ends_later f g ≡ b
    → IsBest t plan P (Some g) → IsBest t plan Q (Some f) → IsBest t plan (λ k. P k ⊎ Q k) (Some (cond b f g))
choose t plan P Q g f true e h k =
    let first : IsNoEarlier t plan f.place g.place = subst (λ x. (x < end_of t (occurrence_at plan f.place)) ⊎ ((x ≡ end_of t (occurrence_at plan f.place)) × (f.place ≤ g.place))) h.1
    (subst (λ x. (g.end < x) ⊎ ((g.end ≡ x) × (f.place ≤ g.place))) k.1 (later_yes f.end f.place g.end g.place e)) in (
      record {
        among = inr k.0.among;
        last = λ n has. elim has [ inl p ↦ no_earlier_trans t plan f.place g.place n first (h.0.last n p) | inr q ↦ k.0.last n q ];
      },
      k.1,
    )
choose t plan P Q g f false e h k =
    let first : IsNoEarlier t plan g.place f.place = subst (λ x. (x < end_of t (occurrence_at plan g.place)) ⊎ ((x ≡ end_of t (occurrence_at plan g.place)) × (g.place ≤ f.place))) k.1
    (subst (λ x. (f.end < x) ⊎ ((f.end ≡ x) × (g.place ≤ f.place))) h.1 (later_no f.end f.place g.end g.place e)) in (
      record {
        among = inl h.0.among;
        last = λ n has. elim has [ inl p ↦ h.0.last n p | inr q ↦ no_earlier_trans t plan g.place f.place n first (k.0.last n q) ];
      },
      h.1,
    )

-- of two kinds of places, the one that ends last
pub best_either : (t : TaskShape) (plan : List Occ) (P Q : ℕ → Type 0) (a b : Option Finish) → IsBest t plan P a → IsBest t plan Q b → IsBest t plan (λ k. P k ⊎ Q k) (either a b)
best_either t plan P Q None None h k = λ i has. elim has [ inl p ↦ h i p | inr q ↦ k i q ]
best_either t plan P Q (Some g) None h k = (record { among = inl h.0.among; last = λ n has. elim has [ inl p ↦ h.0.last n p | inr q ↦ absurd (k n q) ] }, h.1)
best_either t plan P Q None (Some f) h k = (record { among = inr k.0.among; last = λ n has. elim has [ inl p ↦ absurd (h n p) | inr q ↦ k.0.last n q ] }, k.1)
best_either t plan P Q (Some g) (Some f) h k = choose t plan P Q g f (ends_later f g) refl h k

in_front : (p : ℕ) (ps : List ℕ) → Contains (p ∷ ps) p
in_front p ps = (0, omega arith, refl)

behind : (p q : ℕ) (ps : List ℕ) → Contains ps q → Contains (p ∷ ps) q
behind p q ps h = (suc h.0, omega (arith, h.1), h.2)

cons_cases : (p q : ℕ) (ps : List ℕ) → Contains (p ∷ ps) q → (p ≡ q) ⊎ Contains ps q
cons_cases p q ps (zero, lt, e) = inl e
cons_cases p q ps (suc k, lt, e) = inr (k, omega (arith, lt), e)

-- the places that the entries of some atoms stand for
abbrev pub Among : List ℕ → (ℕ → ℕ → Type 0) → ℕ → Type 0
Among ps Q k = (p : ℕ) × Contains ps p × Q p k

-- over some atoms, the one that ends last
pub over_best : (t : TaskShape) (plan : List Occ) (P : ℕ → Type 0) (Q : ℕ → ℕ → Type 0) (read : ℕ → Option Finish) (ps : List ℕ) (best : Option Finish)
    → ((p : ℕ) → IsBest t plan (Q p) (read p)) → IsBest t plan P best → IsBest t plan (λ k. P k ⊎ Among ps Q k) (best_over read ps best)
over_best t plan P Q read [] best entries h =
    best_same t plan P (λ k. P k ⊎ Among [] Q k) best (λ k p. inl p) (λ k has. elim has [ inl p ↦ p | inr q ↦ absurd (let lt : q.1.0 < 0 = q.1.1 in omega (arith, lt)) ]) h
over_best t plan P Q read (p ∷ ps) best entries h =
    best_same t plan (λ k. (P k ⊎ Q p k) ⊎ Among ps Q k) (λ k. P k ⊎ Among (p ∷ ps) Q k) (best_over read (p ∷ ps) best)
    (λ k has. elim has [ inl a ↦ elim a [ inl x ↦ inl x | inr q ↦ inr (p, in_front p ps, q) ] | inr b ↦ inr (b.0, behind p b.0 ps b.1, b.2) ])
    (λ k has. elim has [ inl x ↦ inl (inl x) | inr b ↦ elim (cons_cases p b.0 ps b.1) [ inl e ↦ inl (inr (subst (λ q. Q q k) (sym e) b.2)) | inr c ↦ inr (b.0, c, b.2) ] ])
    (over_best t plan (λ k. P k ⊎ Q p k) Q read ps (either best (read p)) entries (best_either t plan P (Q p) best (read p) h (entries p)))

alone : (t : TaskShape) (plan : List Occ) (i : ℕ) → IsBest t plan (λ k. k ≡ i) (Some (finish_of t plan i))
alone t plan i = (record { among = refl; last = λ k e. subst (λ n. IsNoEarlier t plan i n) (sym e) (itself t plan i) }, refl)

noted_cases : (t : TaskShape) (plan : List Occ) (P : ℕ → Type 0) (atoms : List ℕ) (o : Option Finish) (i p : ℕ) (b : Bool) → is_in p atoms ≡ b → IsBest t plan P o
    → IsBest t plan (λ k. P k ⊎ ((k ≡ i) × Contains atoms p)) (cond b (Some (later_of o (finish_of t plan i))) o)
noted_cases t plan P atoms o i p true e h =
    best_same t plan (λ k. P k ⊎ (k ≡ i)) (λ k. P k ⊎ ((k ≡ i) × Contains atoms p)) (Some (later_of o (finish_of t plan i)))
    (λ k has. elim has [ inl x ↦ inl x | inr y ↦ inr (y, in_from atoms p e) ]) (λ k has. elim has [ inl x ↦ inl x | inr y ↦ inr y.0 ])
    (best_either t plan P (λ k. k ≡ i) o (Some (finish_of t plan i)) h (alone t plan i))
noted_cases t plan P atoms o i p false e h =
    best_same t plan P (λ k. P k ⊎ ((k ≡ i) × Contains atoms p)) o (λ k x. inl x)
    (λ k has. elim has [ inl x ↦ x | inr y ↦ absurd (let z : is_in p atoms ≡ true = in_to atoms p y.1 in let w : ⊥ = cc (z, e) in w) ]) h

-- the entry of an atom, once one more occurrence has ended
pub noted_best : (t : TaskShape) (plan : List Occ) (Q : ℕ → ℕ → Type 0) (old new : List (Option Finish)) (atoms : List ℕ) (i : ℕ)
    → IsNoted old atoms (finish_of t plan i) new → ((p : ℕ) → IsBest t plan (Q p) (entry old p)) → (p : ℕ) → IsBest t plan (λ k. Q p k ⊎ ((k ≡ i) × Contains atoms p)) (entry new p)
noted_best t plan Q old new atoms i n entries p =
    subst (IsBest t plan (λ k. Q p k ⊎ ((k ≡ i) × Contains atoms p))) (sym (n.entries p)) (noted_cases t plan (Q p) atoms (entry old p) i p (is_in p atoms) refl (entries p))

same_place : (e g i k : ℕ) → ((g < e) ⊎ ((g ≡ e) × (i ≤ k))) → ((e < g) ⊎ ((e ≡ g) × (k ≤ i))) → k ≡ i
same_place e g i k a b = grind arith

-- the one latest place, seen in another schedule
pub moved_best : (t : TaskShape) (plan tight : List Occ) (P : ℕ → Type 0) (o : Option Finish) → IsBest t plan P o → IsBest t tight (IsLatest t plan P) (moved t tight o)
moved_best t plan tight P None h = λ i l. h i l.among
moved_best t plan tight P (Some f) h = (
  record {
    among = h.0;
    last = λ k l. subst (λ n. IsNoEarlier t tight f.place n) (sym (same_place (end_of t (occurrence_at plan f.place)) (end_of t (occurrence_at plan k)) f.place k (h.0.last k l.among) (l.last f.place h.0.among))) (itself t tight f.place);
  },
  refl,
)
