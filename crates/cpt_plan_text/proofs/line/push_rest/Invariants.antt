use Rattle.std.proofs.Common.{◌≡◌, false, drop}
use Rattle.cpt_plan_text.specs.Grammar.{name_rest, prefixed}
use Rattle.cpt_plan_text.proofs.line.push_rest.Given as goal

abbrev pub invariant-loop-i : goal.invariant-loop-i
invariant-loop-i l = prefixed l.name.items (name_rest l.gap (drop l.i l.bytes)) ≡ prefixed l.fn.name.items (name_rest false l.fn.bytes)
