use Rattle.std.specs.Prelude.{ℕ, ◌<◌, List, [], length, Contains, slice_get, unwrap_or}
use Rattle.cpt_task.specs.Shape.{TaskShape}
use Rattle.cpt_sheet.specs.declared.data.Cand.{Cand}
use Rattle.cpt_sheet.specs.declared.data.Cand.TheVariants.{Tok, Out}
use Rattle.cpt_sheet.specs.declared.data.Kind.TheVariants.{Act}
use Rattle.cpt_sheet.specs.Roles.{Deletes, needs_of}
use Rattle.cpt_index.specs.Lists.{Lists}
use Rattle.cpt_agenda.specs.declared.users.AtomUsers.{AtomUsers}
use Rattle.cpt_agenda.specs.declared.users.Users.{Users}

-- an outside action that needs the atom
abbrev pub IsNeeder : TaskShape → ℕ → Cand → Type 0
IsNeeder t p (Tok y) = ⊥
IsNeeder t p (Out a) = (a < length t.actions) × Contains (needs_of t (Act a)) p

-- an outside action that deletes the atom
abbrev pub IsDropper : TaskShape → ℕ → Cand → Type 0
IsDropper t p (Tok y) = ⊥
IsDropper t p (Out a) = (a < length t.actions) × Deletes t (Act a) p

-- the lists are those of the atom
pub record IsUsersOf (t : TaskShape) (p : ℕ) (l : AtomUsers) : Type 0 where
  pub needing : Lists (IsNeeder t p) l.needing
  pub deleting : Lists (IsDropper t p) l.deleting

-- the lists of an atom, which are empty past the last one
abbrev pub nth_users : List AtomUsers → ℕ → AtomUsers
nth_users ls p = unwrap_or (slice_get ls p) (record { needing = []; deleting = [] })

-- the lists are those of the task's atoms
pub record AreUsersOf (t : TaskShape) (u : Users) : Type 0 where
  pub atoms : (p : ℕ) → IsUsersOf t p (nth_users u.atoms p)
