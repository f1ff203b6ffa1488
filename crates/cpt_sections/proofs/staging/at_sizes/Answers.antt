use Rattle.std.proofs.Common.{◌∙◌, sym}
use Rattle.cpt_sections.proofs.StageLines.{sizes_turn}
use Rattle.cpt_sections.proofs.staging.at_sizes.Goals as goal

pub returns-then-has_sizes : goal.returns-then-has_sizes
returns-then-has_sizes c =
    sizes_turn c.args.task.now c.args.version c.args.claim c.args.line_number c.in-Sizes.atoms c.in-Sizes.actions c.args.line.now c.first_section.result c.in-Sizes.is c.first_section.ensures
    (sym c.has_sizes.ensures ∙ c.if-has_sizes.true) c.requires
