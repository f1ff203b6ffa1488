use Rattle.std.proofs.Common.{rules, append_assoc}
use Rattle.cpt_validate.proofs.verdicts.overlap_text.Goals as goal

pub returns : goal.returns
returns c = simp append_assoc (search rules)
