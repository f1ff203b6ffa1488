-- lists of the actions that use an atom
use Rattle.std.proofs.Common.{◌≡◌, ℕ, ◌+◌, ◌≤◌, ◌<◌, List, [], ◌∷◌, ◌++◌, Bool, true, false, if◌then◌else◌, MatchBool, Contains, length, arith, inl, inr, ◌⊎◌}
use Rattle.std.proofs.lemmas.List.Elements.{All-nil}
use Rattle.cpt_task.specs.Shape.{TaskShape, InBounds}
use Rattle.cpt_sheet.specs.declared.data.Cand.{Cand}
use Rattle.cpt_sheet.specs.declared.data.Cand.TheVariants.{Tok, Out}
use Rattle.cpt_sheet.specs.declared.data.Kind.TheVariants.{Act}
use Rattle.cpt_sheet.specs.Roles.{Deletes, needs_of}
use Rattle.cpt_index.specs.Index.{Among}
use Rattle.cpt_index.proofs.IndexLemmas.{among_put, lists_past}
use Rattle.cpt_agenda.specs.Asked.{IsActionBelow}
use Rattle.cpt_agenda.specs.Users.{IsDropper, IsNeeder, IsUsersOf}
use Rattle.cpt_agenda.proofs.AskedLemmas.{action_next}

next : (n : ℕ) (c : Cand) → IsActionBelow (n + 1) c → (c ≡ Out n) ⊎ IsActionBelow n c
next n c h = elim (action_next n c h) [ inl e ↦ inr e | inr e ↦ inl e ]

both : (r : Bool) (A B : Type 0) → A → MatchBool r B (B → ⊥) → MatchBool r (A × B) (A × B → ⊥)
both true A B a h = (a, h)
both false A B a h = λ p. h p.1

-- one more action is looked at
pub put_needer : (t : TaskShape) (p n : ℕ) (r : Bool) (xs ys : List Cand) → n < length t.actions → ys ≡ (if r then xs ++ Out n ∷ [] else xs) →
    MatchBool r (Contains (needs_of t (Act n)) p) (Contains (needs_of t (Act n)) p → ⊥) → Among (IsNeeder t p) (IsActionBelow n) xs → Among (IsNeeder t p) (IsActionBelow (n + 1)) ys
put_needer t p n r xs ys lt e h a =
    among_put (IsNeeder t p) (IsActionBelow n) (IsActionBelow (n + 1)) xs ys (Out n) r e (both r (n < length t.actions) (Contains (needs_of t (Act n)) p) lt h) (next n) a

pub put_dropper : (t : TaskShape) (p n : ℕ) (r : Bool) (xs ys : List Cand) → n < length t.actions → ys ≡ (if r then xs ++ Out n ∷ [] else xs) →
    MatchBool r (Deletes t (Act n) p) (Deletes t (Act n) p → ⊥) → Among (IsDropper t p) (IsActionBelow n) xs → Among (IsDropper t p) (IsActionBelow (n + 1)) ys
put_dropper t p n r xs ys lt e h a =
    among_put (IsDropper t p) (IsActionBelow n) (IsActionBelow (n + 1)) xs ys (Out n) r e (both r (n < length t.actions) (Deletes t (Act n) p) lt h) (next n) a

pub needer_below : (t : TaskShape) (p n : ℕ) (c : Cand) → length t.actions ≤ n → IsNeeder t p c → IsActionBelow n c
needer_below t p n (Tok x) le h = h
needer_below t p n (Out a) le h = let l = h.0 in omega arith

pub dropper_below : (t : TaskShape) (p n : ℕ) (c : Cand) → length t.actions ≤ n → IsDropper t p c → IsActionBelow n c
dropper_below t p n (Tok x) le h = h
dropper_below t p n (Out a) le h = let l = h.0 in omega arith

module _ (t : TaskShape) (p : ℕ) (h : InBounds t) (le : length t.atoms ≤ p) where
  no_needer : (c : Cand) → IsNeeder t p c → ⊥
  no_needer (Tok x) n = n
  no_needer (Out a) n = let w = (lists_past t (Act a ∷ []) p h le).consumers.complete 0 n.1 in omega (arith, w.1)

  no_dropper : (c : Cand) → IsDropper t p c → ⊥
  no_dropper (Tok x) n = n
  no_dropper (Out a) n = let w = (lists_past t (Act a ∷ []) p h le).deleters.complete 0 n.1 in omega (arith, w.1)

  -- an atom that is not there is used by no one
  pub users_past : IsUsersOf t p (record { needing = []; deleting = [] })
  users_past = record {
    needing = record { sound = All-nil (IsNeeder t p); complete = λ c n. absurd (no_needer c n) };
    deleting = record { sound = All-nil (IsDropper t p); complete = λ c n. absurd (no_dropper c n) };
  }
