use Rattle.std.proofs.Common.{arith}
use Rattle.cpt_sections.proofs.RowMoves.{strange_dist_row}
use Rattle.cpt_sections.proofs.tabling.at_dist_row.Goals as goal

pub returns-in_default : goal.returns-in_default
returns-in_default c = (omega arith, λ ls. strange_dist_row c.args.task.now c.args.version c.args.rows c.args.line_number c.args.line.now c.requires.section.more c.in_default.not-DistRow ls)
