use Rattle.std.proofs.Common.{rules, append_assoc}
use Rattle.cpt_explain_cert_files.proofs.numbers.rule_text.Goals as goal

pub returns : goal.returns
returns c = simp append_assoc (search rules)
