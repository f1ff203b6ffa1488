use Rattle.std.proofs.Common.{rules, append_assoc}
use Rattle.cpt_check_files.proofs.rulings.rejected_text.Goals as goal

pub returns : goal.returns
returns c = simp append_assoc (search rules)
