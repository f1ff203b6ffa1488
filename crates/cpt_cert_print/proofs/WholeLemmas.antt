-- what a whole certificate has
use Rattle.std.proofs.Common.{Option, None, Some, IsSome, Bool, Bor, refl}
use Rattle.cpt_task.specs.Shape.{TaskShape}
use Rattle.cpt_tables.specs.declared.tables.Tables.{Tables}
use Rattle.cpt_sheet.specs.declared.data.Tree.{Tree}
use Rattle.cpt_cert_print.specs.Whole.{HasTables, HasTree}

pub tables_given : (t : TaskShape) (o : Option (Bor Tables)) → HasTables t o → IsSome o
tables_given t None h = absurd h
tables_given t (Some b) h = refl

pub tree_given : (may_open : Bool) (o : Option (Bor Tree)) → HasTree may_open o → IsSome o
tree_given may_open None h = absurd h
tree_given may_open (Some b) h = refl
