use Rattle.std.specs.Prelude.{suc, ◌≡◌, ℕ, ◌+◌, ◌-◌, ◌<◌, ◌≤◌, nat_lt, if◌then◌else◌, List, [], ◌∷◌, ◌++◌, slice_get, Some, All, length, true}
use Rattle.std.specs.Char.{to_ascii_lowercase}
use Rattle.std.specs.List.{slice_range}
use Rattle.cpt_sexp.specs.declared.item.Item.{Item}
use Rattle.cpt_sexp.specs.declared.item.Item.TheVariants.{Word, Group}
use Rattle.cpt_sexp.specs.Bytes.{is_letter}
use Rattle.cpt_sexp.specs.Trees.{Trees, none, word, group, count}

-- the trees as a flat list whose first item has this number: a group's items follow it
abbrev pub flat : ℕ → Trees → List Item
flat k none = []
flat k (word from to rest) = Word from to ∷ flat (suc k) rest
flat k (group from to inside rest) =
    Group from to (suc (k + count inside)) ∷ (flat (suc k) inside ++ flat (suc (k + count inside)) rest)

-- the items with the numbers from one up to another are these trees
abbrev pub Stands : List Item → (first after : ℕ) → Trees → Type 0
Stands items first after none = first ≡ after
Stands items first after (word from to rest) =
    (slice_get items first ≡ Some (Word from to)) × Stands items (suc first) after rest
Stands items first after (group from to inside rest) =
    (next : ℕ) × (first < next) × (next ≤ after) × (slice_get items first ≡ Some (Group from to next))
    × Stands items (suc first) next inside × Stands items next after rest

-- the trees at the front that begin before a byte
abbrev pub front : ℕ → Trees → Trees
front byte none = none
front byte (word from to rest) = if nat_lt from byte then word from to (front byte rest) else none
front byte (group from to inside rest) = if nat_lt from byte then group from to inside (front byte rest) else none

-- the trees from the first that begins at a byte or after it
abbrev pub back : ℕ → Trees → Trees
back byte none = none
back byte (word from to rest) = if nat_lt from byte then back byte rest else word from to rest
back byte (group from to inside rest) = if nat_lt from byte then back byte rest else group from to inside rest

-- the trees of a flat list: inside a group are the items that begin before its end
abbrev pub nested : List Item → Trees
nested [] = none
nested (Word from to ∷ items) = word from to (nested items)
nested (Group from to next ∷ items) = group from to (front to (nested items)) (back to (nested items))

-- the trees' bytes go forward from one place up to another, and those inside a group are between its parentheses
abbrev pub IsPlaced : (low high : ℕ) → Trees → Type 0
IsPlaced low high none = low ≤ high
IsPlaced low high (word from to rest) = (low ≤ from) × (from < to) × IsPlaced to high rest
IsPlaced low high (group from to inside rest) =
    (low ≤ from) × (suc from < to) × IsPlaced (suc from) (to - 1) inside × IsPlaced to high rest

-- a byte of a word of a text in lower case
pub record IsWordByte (b : ℕ) : Type 0 where
  pub letter : is_letter b ≡ true
  pub lower : to_ascii_lowercase b ≡ b

-- an item of a text whose forest has so many items: a word has bytes of words, a group has its parentheses, and
-- its next item's number is at most that of items
abbrev pub IsItemOf : (text : List ℕ) → (items : ℕ) → Item → Type 0
IsItemOf text items (Word from to) = (from < to) × (to ≤ length text) × All IsWordByte (slice_range text from to)
IsItemOf text items (Group from to next) = (suc from < to) × (to ≤ length text) × (0 < next) × (next ≤ items)
