use Rattle.std.specs.Prelude.{ℕ}
use Rattle.cpt_tables.specs.declared.tables.Tables.{Tables}
use Rattle.cpt_sections.specs.declared.section.Trees.{Trees}
use Rattle.cpt_sections.specs.declared.section.Trees.TheVariants as trees
use Rattle.cpt_sections.specs.declared.section.Section.{Section}
use Rattle.cpt_sections.specs.declared.section.Section.TheVariants as sections

-- the bound of the closed tree
abbrev pub first_bound : Trees → ℕ
first_bound (trees.Closed bound) = bound
first_bound (trees.Open refuted nodes) = refuted

-- what stands behind the closed tree
abbrev pub behind_tree : Trees → Tables → Section
behind_tree (trees.Closed bound) b = sections.End
behind_tree (trees.Open refuted nodes) b = sections.OpenTree refuted nodes b
