use Rattle.std.specs.Prelude.{suc, ℕ, ◌+◌}

-- nested items with their bytes: a word or a group, and the items after it; the last byte is before `to`
pub data Trees : Type 0 where
  none : Trees
  word : (from to : ℕ) → Trees → Trees
  group : (from to : ℕ) → (inside : Trees) → Trees → Trees

-- how many words and groups there are, at every depth
abbrev pub count : Trees → ℕ
count none = 0
count (word from to rest) = suc (count rest)
count (group from to inside rest) = suc (count inside + count rest)
