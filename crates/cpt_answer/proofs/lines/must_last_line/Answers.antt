use Rattle.std.proofs.Common.{rules, append_assoc}
use Rattle.cpt_answer.proofs.lines.must_last_line.Goals as goal

pub returns : goal.returns
returns c = simp append_assoc (search rules)
