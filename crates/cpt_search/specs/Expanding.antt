use Rattle.std.specs.Prelude.{◌≡◌}
use Rattle.cpt_task.specs.Shape.{TaskShape}
use Rattle.cpt_sheet.specs.declared.data.Sheet.{Sheet}
use Rattle.cpt_calculus.specs.Flaws.{HasNoFlaw, IsFirstFlaw, children}
use Rattle.cpt_tree.specs.declared.expansion.Expansion.{Expansion}
use Rattle.cpt_tree.specs.declared.expansion.Expansion.TheVariants.{Closed, Leaf, Branched}

-- how a node expands whose fresh sheet is this one
abbrev pub ExpandsAs : TaskShape → Sheet → Expansion → Type 0
ExpandsAs t u Closed = ⊥
ExpandsAs t u Leaf = HasNoFlaw t u
ExpandsAs t u (Branched flaw ks) = IsFirstFlaw t u flaw × (ks ≡ children u flaw)
