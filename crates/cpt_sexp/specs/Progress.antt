use Rattle.std.specs.Prelude.{suc, Bool, true, ◌==◌, if◌then◌else◌, ◌≡◌, ℕ, ◌<◌, ◌≤◌, false, List, [], ◌∷◌, ◌++◌, length, drop, slice_index}
use Rattle.cpt_sexp.specs.declared.item.Item.{Item}
use Rattle.cpt_sexp.specs.declared.item.Item.TheVariants.{Group}
use Rattle.cpt_sexp.specs.declared.reading.Opened.{Opened}
use Rattle.cpt_sexp.specs.Bytes.{plain, plain_from}
use Rattle.cpt_sexp.specs.Faults.{depth_over}
use Rattle.cpt_sexp.specs.Flat.{flat}
use Rattle.cpt_sexp.specs.Grammar.{Spells}
use Rattle.cpt_sexp.specs.Trees.{Trees}

-- the groups that are open, each with the trees before it in the group around it
pub data Around : Type 0 where
  outside : Around
  within : (around : Around) → (before : Trees) → (from : ℕ) → Around

-- how many groups are open
abbrev pub depth_of : Around → ℕ
depth_of outside = 0
depth_of (within around before from) = suc (depth_of around)

-- the items up to the parenthesis of the innermost open group; an open group has no end yet
abbrev pub written : Around → List Item
written outside = []
written (within around before from) =
    (written around ++ flat (length (written around)) before) ++ Group from 0 0 ∷ []

-- the open groups by their bytes and item numbers, the innermost last
abbrev pub opened : Around → List Opened
opened outside = []
opened (within around before from) =
    opened around ++ record { from = from; item = length (written around ++ flat (length (written around)) before) } ∷ []

-- the bytes up to a place spell the open groups, and in the innermost these trees
abbrev pub Begins : List ℕ → Around → Trees → ℕ → Type 0
Begins bytes outside trees to = Spells bytes 0 0 to trees
Begins bytes (within around before from) trees to =
    Begins bytes around before from × (depth_of around < 64) × (slice_index bytes from ≡ 40)
    × Spells bytes (suc (depth_of around)) (suc from) to trees

-- the place is in no comment
abbrev pub IsOutside : List ℕ → ℕ → Type 0
IsOutside text place = drop place (plain text) ≡ plain_from false (drop place text)

-- what has been read up to a place between two items
pub record HasRead (text : List ℕ) (items : List Item) (open_groups : List Opened) (place : ℕ) : Type 0 where
  pub around : Around
  pub trees : Trees
  pub items_are : items ≡ written around ++ flat (length (written around)) trees
  pub opened_are : open_groups ≡ opened around
  pub begins : Begins (plain text) around trees place
  pub plainly : IsOutside text place
  pub few : length items ≤ place
  pub in_text : place ≤ length text

-- whether no group is open at some place of bytes, where so many are open before them
abbrev pub empties : ℕ → List ℕ → Bool
empties depth [] = depth == 0
empties depth (b ∷ bs) = if depth == 0 then true else empties (depth_over depth b) bs
