use Rattle.std.proofs.Common.{◌≡◌, ◌≢◌, ℕ, zero, suc, ◌+◌, ◌<◌, ◌≤◌, ◌⊎◌, inl, inr, Bool, true, false, List, [], ◌∷◌, ◌++◌, length, get_or, take, set, take_all, All, Contains, refl, sym, ap, ◌∙◌, subst, arith, length-append}
use Rattle.std.proofs.Math.ListN.{length-set, get_or-eq_default}
use Rattle.std.proofs.lemmas.List.{get_or-set_same, get_or-set_other, get_or_default, take_more}
use Rattle.std.proofs.lemmas.List.Elements.{All-nil, All-cons, All-push, All-more, All-contains, All-from_get_or, Contains-push, Contains-push_cases, Contains-append_left, Contains-get_or}
use Rattle.cpt_task.specs.Shape.{TaskShape}
use Rattle.cpt_task.specs.Timeline.{idle}
use Rattle.cpt_reach.specs.Reached.{IsReached, action_at}
use Rattle.cpt_reach.specs.Marking.{is_marked, AreMarked, HasUnmarked, unmarked, work, IsSettled, IsSound, AllBelow, Grows, MarksAll, Settles, Spreads, MarksReached, row_at, IsUsers}
use Rattle.cpt_reach.proofs.Reaching.{reached_is_least}

pub same_or_not : (q p : ℕ) → (q ≡ p) ⊎ (q ≢ p)
same_or_not q p = grind arith

-- a number that is unmarked is not all marked
pub not_all_marked : (marks : List Bool) (xs : List ℕ) → HasUnmarked marks xs → AreMarked marks xs → ⊥
not_all_marked marks xs (p, has, lacks) all = let shown : is_marked marks p ≡ true = All-contains (λ q. is_marked marks q ≡ true) xs p all has in let z : ⊥ = cc in z

pub grows_refl : (m : List Bool) (g : List ℕ) → Grows m g m g
grows_refl m g = record { size = refl; kept = λ p h. h; open_still = λ p h. h; below = λ h. h; no_more_work = omega arith }

pub grows_trans : (m : List Bool) (g : List ℕ) (m' : List Bool) (g' : List ℕ) (m'' : List Bool) (g'' : List ℕ) → Grows m g m' g' → Grows m' g' m'' g'' → Grows m g m'' g''
grows_trans m g m' g' m'' g'' a b = record {
  size = b.size ∙ a.size;
  kept = λ p h. b.kept p (a.kept p h);
  open_still = λ p h. b.open_still p (a.open_still p h);
  below = λ h. subst (λ n. AllBelow n g'') a.size (b.below (subst (λ n. AllBelow n g') (sym a.size) (a.below h)));
  no_more_work = omega (arith, a.no_more_work, b.no_more_work);
}

-- one more mark
unmarked-set : (marks : List Bool) (p : ℕ) → p < length marks → get_or marks p false ≡ false → unmarked (set marks p true) + 1 ≡ unmarked marks
unmarked-set [] p lt e = absurd (omega arith)
unmarked-set (true ∷ marks) zero lt e = cc
unmarked-set (false ∷ marks) zero lt e = refl
unmarked-set (true ∷ marks) (suc p) lt e = unmarked-set marks p (omega arith) e
unmarked-set (false ∷ marks) (suc p) lt e = ap (λ n. n + 1) (unmarked-set marks p (omega arith) e)

-- a number that was not marked is marked, and goes on the agenda
pub marks_new : (m : List Bool) (g : List ℕ) (p : ℕ) → p < length m → is_marked m p ≡ false → MarksAll (p ∷ []) m g (set m p true) (g ++ p ∷ [])
marks_new m g p lt lacks = record {
  grows = record {
    size = length-set m p true;
    kept = λ q shown. elim (same_or_not q p) [
      | inl e ↦ subst (λ r. is_marked (set m p true) r ≡ true) (sym e) (get_or-set_same m p true false lt)
      | inr ne ↦ get_or-set_other m p q true false ne ∙ shown
    ];
    open_still = λ q h. elim h [
      | inl closed ↦ elim (same_or_not q p) [
        | inl e ↦ inr (subst (λ r. Contains (g ++ p ∷ []) r) (sym e) (Contains-push g p))
        | inr ne ↦ inl (get_or-set_other m p q true false ne ∙ closed)
      ]
      | inr has ↦ inr (Contains-append_left g (p ∷ []) q has)
    ];
    below = λ all. All-push (λ q. q < length m) g p all lt;
    no_more_work = omega (arith, unmarked-set m p lt lacks, length-append g (p ∷ []));
  };
  marked = All-cons (λ q. is_marked (set m p true) q ≡ true) p [] (get_or-set_same m p true false lt) (All-nil (λ q. is_marked (set m p true) q ≡ true));
  only = λ q shown. elim (same_or_not q p) [
    | inl e ↦ inr (0, lit, sym e)
    | inr ne ↦ inl (sym (get_or-set_other m p q true false ne) ∙ shown)
  ];
} where
  lit : 0 < 1
  lit = omega arith

pub marks_old : (m : List Bool) (g : List ℕ) (p : ℕ) → is_marked m p ≡ true → MarksAll (p ∷ []) m g m g
marks_old m g p shown = record {
  grows = grows_refl m g;
  marked = All-cons (λ q. is_marked m q ≡ true) p [] shown (All-nil (λ q. is_marked m q ≡ true));
  only = λ q h. inl h;
}

pub marks_none : (m : List Bool) (g : List ℕ) → MarksAll [] m g m g
marks_none m g = record { grows = grows_refl m g; marked = All-nil (λ q. is_marked m q ≡ true); only = λ q h. inl h }

-- what is in one more element is in those before or is it
pub contains_more : (xs : List ℕ) (i : ℕ) → i < length xs → (p : ℕ) → Contains (take (i + 1) xs) p → Contains (take i xs) p ⊎ (p ≡ get_or xs i 0)
contains_more xs i lt p has =
    elim (Contains-push_cases (take i xs) (get_or xs i 0) p (subst (λ ys. Contains ys p) (take_more xs i 0 lt) has)) [ inl h ↦ inl h | inr e ↦ inr (sym e) ]

pub more_contains : (xs : List ℕ) (i : ℕ) → i < length xs → (p : ℕ) → Contains (take i xs) p ⊎ (p ≡ get_or xs i 0) → Contains (take (i + 1) xs) p
more_contains xs i lt p (inl has) = subst (λ ys. Contains ys p) (sym (take_more xs i 0 lt)) (Contains-append_left (take i xs) (get_or xs i 0 ∷ []) p has)
more_contains xs i lt p (inr e) = subst (λ ys. Contains ys p) (sym (take_more xs i 0 lt)) (subst (λ q. Contains (take i xs ++ get_or xs i 0 ∷ []) q) (sym e) (Contains-push (take i xs) (get_or xs i 0)))

pub marks_more : (xs : List ℕ) (i : ℕ) (m : List Bool) (g : List ℕ) (m' : List Bool) (g' : List ℕ) (m'' : List Bool) (g'' : List ℕ) → i < length xs
    → MarksAll (take i xs) m g m' g' → MarksAll (get_or xs i 0 ∷ []) m' g' m'' g'' → MarksAll (take (i + 1) xs) m g m'' g''
marks_more xs i m g m' g' m'' g'' lt a b = record {
  grows = grows_trans m g m' g' m'' g'' a.grows b.grows;
  marked = All-more (λ q. is_marked m'' q ≡ true) xs i 0 lt (λ k d low. b.grows.kept _ (a.marked k d low)) (b.marked 0 0 lit);
  only = λ q shown. elim (b.only q shown) [
    | inl h ↦ elim (a.only q h) [ inl old ↦ inl old | inr has ↦ inr (more_contains xs i lt q (inl has)) ]
    | inr has ↦ inr (more_contains xs i lt q (inr (single (get_or xs i 0) q has)))
  ];
} where
  lit : 0 < 1
  lit = omega arith

  single : (x q : ℕ) → Contains (x ∷ []) q → q ≡ x
  single x q (zero, low, e) = sym e
  single x q (suc k, low, e) = absurd (omega arith)

pub marks_all_of : (xs : List ℕ) (i : ℕ) (m : List Bool) (g : List ℕ) (m' : List Bool) (g' : List ℕ) → length xs ≤ i → MarksAll (take i xs) m g m' g' → MarksAll xs m g m' g'
marks_all_of xs i m g m' g' le h = subst (λ ys. MarksAll ys m g m' g') (take_all i xs le) h

-- what is settled stays so
pub settled_still : (t : TaskShape) (a : ℕ) (m : List Bool) (g : List ℕ) (m' : List Bool) (g' : List ℕ) → Grows m g m' g' → IsSettled m g (action_at t a) → IsSettled m' g' (action_at t a)
settled_still t a m g m' g' grows (inl all) = inl (λ k d lt. grows.kept _ (all k d lt))
settled_still t a m g m' g' grows (inr (p, has, open_now)) = inr (p, has, grows.open_still p open_now)

pub settles_none : (t : TaskShape) (P : ℕ → Type 0) (m : List Bool) (g : List ℕ) → ((a : ℕ) → P a → ⊥) → Settles t P m g m g
settles_none t P m g none = record { grows = grows_refl m g; sound = λ h. h; settled = λ a p. absurd (none a p) }

pub settles_more : (t : TaskShape) (P Q R : ℕ → Type 0) (m : List Bool) (g : List ℕ) (m' : List Bool) (g' : List ℕ) (m'' : List Bool) (g'' : List ℕ)
    → ((a : ℕ) → R a → P a ⊎ Q a) → Settles t P m g m' g' → Settles t Q m' g' m'' g'' → Settles t R m g m'' g''
settles_more t P Q R m g m' g' m'' g'' cases a b = record {
  grows = grows_trans m g m' g' m'' g'' a.grows b.grows;
  sound = λ h. b.sound (a.sound h);
  settled = λ n r. elim (cases n r) [ inl p ↦ settled_still t n m' g' m'' g'' b.grows (a.settled n p) | inr q ↦ b.settled n q ];
}

pub settles_fewer : (t : TaskShape) (P R : ℕ → Type 0) (m : List Bool) (g : List ℕ) (m' : List Bool) (g' : List ℕ) → ((a : ℕ) → R a → P a) → Settles t P m g m' g' → Settles t R m g m' g'
settles_fewer t P R m g m' g' fewer h = record { grows = h.grows; sound = h.sound; settled = λ a r. h.settled a (fewer a r) }

-- an action with a precondition that is not marked is settled as it is
pub settles_open : (t : TaskShape) (a : ℕ) (m : List Bool) (g : List ℕ) → HasUnmarked m (action_at t a).pre → Settles t (λ b. b ≡ a) m g m g
settles_open t a m g (p, has, lacks) = record {
  grows = grows_refl m g;
  sound = λ h. h;
  settled = λ b e. subst (λ c. IsSettled m g (action_at t c)) (sym e) (inr (p, has, inl lacks));
}

-- an action whose preconditions are marked is settled where what it adds is marked
pub settles_ready : (t : TaskShape) (a : ℕ) (m : List Bool) (g : List ℕ) (m' : List Bool) (g' : List ℕ) → a < length t.actions → AreMarked m (action_at t a).pre → MarksAll (action_at t a).add m g m' g' → Settles t (λ b. b ≡ a) m g m' g'
settles_ready t a m g m' g' lt ready marks = record {
  grows = marks.grows;
  sound = λ sound p shown. elim (marks.only p shown) [
    | inl old ↦ sound p old
    | inr has ↦ All-contains (IsReached t) (action_at t a).add p ((reached_is_least t).added a idle lt (λ k d low. sound _ (ready k d low))) has
  ];
  settled = λ b e. subst (λ c. IsSettled m' g' (action_at t c)) (sym e) (inl marks.marked);
}

-- after the users of the last atom of the agenda were looked at, each action is settled
pub all_settled : (t : TaskShape) (rows : List (List ℕ)) (m : List Bool) (g g' : List ℕ) (p : ℕ) (m'' : List Bool) (g'' : List ℕ) → IsUsers t rows → g ≡ g' ++ p ∷ []
    → ((a : ℕ) → a < length t.actions → IsSettled m g (action_at t a)) → Settles t (Contains (row_at rows p)) m g' m'' g'' → (a : ℕ) → a < length t.actions → IsSettled m'' g'' (action_at t a)
all_settled t rows m g g' p m'' g'' users e before visited a lt =
    elim (before a lt) [
      | inl all ↦ settled_still t a m g' m'' g'' visited.grows (inl all)
      | inr h ↦ elim h.2 [
        | inl lacks ↦ settled_still t a m g' m'' g'' visited.grows (inr (h.0, h.1, inl lacks))
        | inr has ↦ elim (Contains-push_cases g' p h.0 (subst (λ ys. Contains ys h.0) e has)) [
          | inl old ↦ settled_still t a m g' m'' g'' visited.grows (inr (h.0, h.1, inr old))
          | inr same ↦ visited.settled a (users.whole a p lt (subst (λ q. Contains (action_at t a).pre q) (sym same) h.1))
        ]
      ]
    ]

-- where the agenda is empty, the marked atoms are closed under the actions
pub closed_at_end : (t : TaskShape) (m : List Bool) → ((a : ℕ) → a < length t.actions → IsSettled m [] (action_at t a)) → (a : ℕ) → a < length t.actions → AreMarked m (action_at t a).pre → AreMarked m (action_at t a).add
closed_at_end t m settled a lt ready =
    elim (settled a lt) [
      | inl all ↦ all
      | inr h ↦ elim h.2 [
        | inl lacks ↦ absurd (not_all_marked m (action_at t a).pre (h.0, h.1, lacks) ready)
        | inr has ↦ absurd (omega (arith, has.1))
      ]
    ]

-- the work falls with each atom taken from the agenda
pub less_work : (m : List Bool) (g g' : List ℕ) (p : ℕ) (m'' : List Bool) (g'' : List ℕ) → g ≡ g' ++ p ∷ [] → Grows m g' m'' g'' → work m'' g'' < work m g
less_work m g g' p m'' g'' e grows = omega (arith, grows.no_more_work, ap length e, length-append g' (p ∷ []))

-- what is left of an agenda, and what was taken from it, is below n
pub popped_below : (n : ℕ) (g g' : List ℕ) (p : ℕ) → g ≡ g' ++ p ∷ [] → AllBelow n g → AllBelow n g' × (p < n)
popped_below n g g' p e all =
    let joined : AllBelow n (g' ++ p ∷ []) = subst (λ ys. AllBelow n ys) e all in (
      λ k d lt. All-contains (λ q. q < n) (g' ++ p ∷ []) _ joined (Contains-append_left g' (p ∷ []) _ (Contains-get_or g' k d lt)),
      All-contains (λ q. q < n) (g' ++ p ∷ []) p joined (Contains-push g' p),
    )

-- the row read at a place is the one of that number
pub row_is : (rows : List (List ℕ)) (p : ℕ) (read slice : List ℕ) → p < length rows → read ≡ get_or rows p read → slice ≡ read → slice ≡ row_at rows p
row_is rows p read slice lt e f = f ∙ e ∙ get_or_default rows p read [] lt

-- a row has only actions
pub row_below : (t : TaskShape) (rows : List (List ℕ)) (p : ℕ) → IsUsers t rows → AllBelow (length t.actions) (row_at rows p)
row_below t rows p users k d lt = users.within p _ (Contains-get_or (row_at rows p) k d lt)

lt_or_le : (a b : ℕ) → (a < b) ⊎ (b ≤ a)
lt_or_le a b = grind arith

clear_at : (m : List Bool) → All (λ b. b ≡ false) m → (p : ℕ) → is_marked m p ≡ false
clear_at m clear p = elim (lt_or_le p (length m)) [ inl lt ↦ clear p false lt | inr le ↦ get_or-eq_default m false le ]

-- the initial atoms are sound marks
pub start_sound : (t : TaskShape) (m : List Bool) (g : List ℕ) (m' : List Bool) (g' : List ℕ) → All (λ b. b ≡ false) m → MarksAll t.init m g m' g' → IsSound t m'
start_sound t m g m' g' clear marks p shown =
    elim (marks.only p shown) [
      | inl old ↦ let blank : is_marked m p ≡ false = clear_at m clear p in absurd (let z : ⊥ = cc in z)
      | inr has ↦ All-contains (IsReached t) t.init p (reached_is_least t).initial has
    ]

-- from the initial atoms on exactly the reached atoms are marked
pub reached_exactly : (t : TaskShape) (m : List Bool) (g : List ℕ) (m' : List Bool) (g' : List ℕ) (m'' : List Bool) (g'' : List ℕ) (m3 : List Bool)
    → length m ≡ length t.atoms → MarksAll t.init m g m' g' → Settles t (λ a. a < length t.actions) m' g' m'' g'' → Spreads t m'' m3 → MarksReached t m3
reached_exactly t m g m' g' m'' g'' m3 size marks visited spread = record {
  size = spread.size ∙ visited.grows.size ∙ marks.grows.size ∙ size;
  sound = spread.sound;
  whole = λ p reached. reached (is_marked m3) (record {
    initial = λ k d lt. spread.kept _ (visited.grows.kept _ (marks.marked k d lt));
    added = All-from_get_or (λ a. AreMarked m3 a.pre → AreMarked m3 a.add) t.actions idle (λ i lt. spread.closed i lt);
  });
}
