use Rattle.std.specs.Prelude.{zero, suc, ℕ, ◌+◌, ◌-◌, nat_lt, if◌then◌else◌, min, max, List, Option, None, Some, length, slice_get}
use Rattle.std.specs.List.{slice_range}
use Rattle.cpt_sexp.specs.declared.item.Item as sexp_item
use Rattle.cpt_sexp.specs.declared.item.Item.TheVariants as sexp
use Rattle.cpt_sexp.specs.Grammar.{ForestShape}
use Rattle.cpt_sexp.specs.Trees.{Trees}
use Rattle.cpt_sexp.specs.Trees as trees
use Rattle.cpt_pddl.specs.declared.cursor.Cursor.{Cursor}
use Rattle.cpt_pddl.specs.declared.cursor.Next.{Next}
use Rattle.cpt_pddl.specs.declared.cursor.Next.TheVariants as next

-- What stands in a group, each word and group with the byte at which it begins. At the end is the byte of the
-- closing parenthesis, or the length of the text.
pub data Items : Type 0 where
  end : (close : ℕ) → Items
  word : (at : ℕ) → (bytes : List ℕ) → Items → Items
  group : (at : ℕ) → (inside : Items) → Items → Items

-- how many words and groups there are, at every depth
abbrev pub size : Items → ℕ
size (end close) = 0
size (word at bytes rest) = suc (size rest)
size (group at inside rest) = suc (size inside + size rest)

-- the items that nested trees of a text are, up to a closing byte
abbrev pub items_of : List ℕ → ℕ → Trees → Items
items_of text close trees.none = end close
items_of text close (trees.word from to rest) = word from (slice_range text from to) (items_of text close rest)
items_of text close (trees.group from to inside rest) = group from (items_of text (to - 1) inside) (items_of text close rest)

-- what a parsed text says
abbrev pub said_by : ForestShape → Items
said_by forest = items_of forest.text (length forest.text) forest.trees

-- the item at a number, and what follows it up to another number; more gives what is from one number up to another
abbrev pub item_at : (ℕ → ℕ → ℕ → Items) → List ℕ → ℕ → ℕ → ℕ → Option sexp_item.Item → Items
item_at more text close at after None = end close
item_at more text close at after (Some (sexp.Word from to)) = word from (slice_range text from to) (more close (at + 1) after)
item_at more text close at after (Some (sexp.Group from to beyond)) =
    group from (more (to - 1) (at + 1) (min beyond after)) (more close (max beyond (at + 1)) after)

-- the items with the numbers from one up to another, at most so many of them in a row
abbrev pub items_from : ℕ → List sexp_item.Item → List ℕ → ℕ → ℕ → ℕ → Items
items_from zero items text close at after = end close
items_from (suc most) items text close at after =
    if nat_lt at after then item_at (λ c k n. items_from most items text c k n) text close at after (slice_get items at) else end close

-- what is left to read
unfoldable pub left : Cursor → Items
left c = items_from (c.after - c.at) c.items.now c.text.now c.close c.at c.after

-- what is left, by its first item
abbrev pub begun_by : Next → Items
begun_by (next.End close) = end close
begun_by (next.Word at bytes rest) = word at bytes.now (left rest)
begun_by (next.Group at inside rest) = group at (left inside) (left rest)
