use Rattle.cpt_schema.specs.declared.effects.Effects.{Effects}
use Rattle.cpt_schema.specs.declared.conditions.Conditions.{Conditions}
use Rattle.cpt_schema.specs.Conditions.{Conds}
use Rattle.cpt_schema.specs.Effects.{Effs}
use Rattle.std.specs.Prelude.{ℕ, Option, None, Some}
use Rattle.cpt_pddl.specs.declared.cursor.Cursor.{Cursor}
use Rattle.cpt_pddl.specs.Items.{Items, left}

-- conditions by their lists
abbrev pub conds_of : Conditions → Conds
conds_of c = record { pre = c.pre.items; absent = c.absent.items; tests = c.tests.items }

-- effects by their lists
abbrev pub effs_of : Effects → Effs
effs_of e = record { adds = e.adds.items; dels = e.dels.items }

-- a group that was found: its byte, and what is left inside
abbrev pub found_of : Option (ℕ × Cursor) → Option (ℕ × Items)
found_of None = None
found_of (Some found) = Some (found.0, left found.1)
