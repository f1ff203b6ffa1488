use Rattle.cpt_block.proofs.Parts.{brings_by_parts}
use Rattle.cpt_block.proofs.laws.brings_by_parts.Goals as goal

pub returns : goal.returns
returns c = brings_by_parts
