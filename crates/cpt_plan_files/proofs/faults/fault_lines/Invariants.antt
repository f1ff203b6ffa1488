use Rattle.std.proofs.Common.{◌≡◌, take}
use Rattle.cpt_plan_files.specs.Explaining.{fault_lines}
use Rattle.cpt_plan_files.proofs.faults.fault_lines.Given as goal

abbrev pub invariant-loop-fault : goal.invariant-loop-fault
invariant-loop-fault l = l.text.items ≡ fault_lines l.task l.plan (take l.fault-index l.faults)
