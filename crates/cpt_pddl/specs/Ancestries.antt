use Rattle.std.specs.Prelude.{◌≡◌, ℕ, ◌^◌, ◌<◌, true, false, List, length, Option, None, Some}
use Rattle.cpt_pddl.specs.Kinds.{is_rooted}
use Rattle.cpt_pddl.specs.Ladders.{AreHeights, AreRows}
use Rattle.cpt_pddl.specs.declared.ladder.Ladder.{Ladder}

-- rows that go up more steps than there are types, and the heights of the types
pub record IsLadder (parents : List ℕ) (ladder : Ladder) : Type 0 where
  pub root : is_rooted parents ≡ true
  pub climb : AreRows parents 1 ladder.rows.items
  pub enough : length parents < 2 ^ length ladder.rows.items
  pub high : AreHeights parents (2 ^ length ladder.rows.items) ladder.heights

-- there is a ladder where type 0 is above each type, and none elsewhere
abbrev pub LadderOf : List ℕ → Option Ladder → Type 0
LadderOf parents None = is_rooted parents ≡ false
LadderOf parents (Some ladder) = IsLadder parents ladder
