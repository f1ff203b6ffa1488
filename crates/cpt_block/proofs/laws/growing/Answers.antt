use Rattle.cpt_block.proofs.Sheets.{growing}
use Rattle.cpt_block.proofs.laws.growing.Goals as goal

pub returns : goal.returns
returns c = growing
