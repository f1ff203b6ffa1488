use Rattle.std.proofs.Common.{◌≡◌, take}
use Rattle.cpt_explain_cert_files.specs.Numbers.{rule_lines}
use Rattle.cpt_explain_cert_files.proofs.numbers.rules_text.Given as goal

abbrev pub invariant-loop-place : goal.invariant-loop-place
invariant-loop-place l = l.text.items ≡ rule_lines 1 (take l.place l.rules)
