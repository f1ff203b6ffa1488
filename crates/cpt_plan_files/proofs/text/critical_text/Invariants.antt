use Rattle.std.proofs.Common.{◌≡◌, take}
use Rattle.cpt_plan_files.specs.Texts.{critical_lines}
use Rattle.cpt_plan_files.proofs.text.critical_text.Given as goal

abbrev pub invariant-loop-place : goal.invariant-loop-place
invariant-loop-place l = l.text.items ≡ critical_lines l.task l.plan (take l.place-index l.chain)
