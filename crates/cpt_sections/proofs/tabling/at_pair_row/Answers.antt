use Rattle.std.proofs.Common.{arith}
use Rattle.cpt_sections.proofs.RowMoves.{strange_pair_row}
use Rattle.cpt_sections.proofs.tabling.at_pair_row.Goals as goal

pub returns-in_default : goal.returns-in_default
returns-in_default c = (omega arith, λ ls. strange_pair_row c.args.task.now c.args.version c.args.rows c.args.line_number c.args.line.now c.requires.section.more c.in_default.not-PairRow ls)
