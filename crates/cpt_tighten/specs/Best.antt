use Rattle.std.specs.Prelude.{◌≡◌, ℕ, ◌==◌, Bool, ◌&&◌, ◌||◌, if◌then◌else◌, nat_lt, List, [], ◌∷◌, length, slice_index_or, Option, None, Some, MatchOption}
use Rattle.cpt_task.specs.declared.plan.Occ.{Occ}
use Rattle.cpt_task.specs.Shape.{TaskShape}
use Rattle.cpt_task.specs.Timeline.{end_of, is_in, occurrence_at}
use Rattle.cpt_tighten.specs.declared.moments.Finish.{Finish}
use Rattle.cpt_tighten.specs.Needs.{IsLatest}

-- the first ends after the second, or with it and at a lesser place
abbrev pub ends_later : Finish → Finish → Bool
ends_later f g = nat_lt g.end f.end || ((f.end == g.end) && nat_lt f.place g.place)

-- of the two, the one that ends later
abbrev pub later_of : Option Finish → Finish → Finish
later_of None f = f
later_of (Some g) f = if ends_later f g then f else g

-- when the occurrence at a place ends
abbrev pub finish_of : TaskShape → List Occ → ℕ → Finish
finish_of t plan i = record { end = end_of t (occurrence_at plan i); place = i }

-- the one of the places of which P holds that ends last, and when, if there is one
abbrev pub IsBest : TaskShape → List Occ → (ℕ → Type 0) → Option Finish → Type 0
IsBest t plan P best = MatchOption best ((i : ℕ) → P i → ⊥) (λ f. IsLatest t plan P f.place × (f.end ≡ end_of t (occurrence_at plan f.place)))

-- the entry of an atom
abbrev pub entry : List (Option Finish) → ℕ → Option Finish
entry table p = slice_index_or table p None

-- the entry of an atom where an occurrence with these atoms has ended
abbrev pub noted : List (Option Finish) → List ℕ → Finish → ℕ → Option Finish
noted table atoms f p = if is_in p atoms then Some (later_of (entry table p) f) else entry table p

-- an occurrence with these atoms has ended
pub record IsNoted (old : List (Option Finish)) (atoms : List ℕ) (f : Finish) (new : List (Option Finish)) : Type 0 where
  pub size : length new ≡ length old
  pub entries : (p : ℕ) → entry new p ≡ noted old atoms f p

-- of two, where there are two
abbrev pub either : Option Finish → Option Finish → Option Finish
either best None = best
either best (Some f) = Some (later_of best f)

-- of a former one and those that are read for the atoms, the one that ends last
abbrev pub best_over : (ℕ → Option Finish) → List ℕ → Option Finish → Option Finish
best_over read [] best = best
best_over read (p ∷ ps) best = best_over read ps (either best (read p))

-- when it ends in another schedule
abbrev pub moved : TaskShape → List Occ → Option Finish → Option Finish
moved t tight None = None
moved t tight (Some f) = Some (finish_of t tight f.place)
