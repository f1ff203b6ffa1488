use Rattle.std.specs.Prelude.{◌⊎◌}

-- the fact holds, or it does not
abbrev pub IsDecidable : Type 0 → Type 0
IsDecidable P = P ⊎ (P → ⊥)
