use Rattle.std.proofs.Common.{◌≡◌, take, drop}
use Rattle.cpt_line.specs.Lines.{glue, split}
use Rattle.cpt_line.proofs.line.first_line.Given as goal

abbrev pub invariant-loop-i : goal.invariant-loop-i
invariant-loop-i l = glue (take l.i l.text) (split (drop l.i l.text)) ≡ split l.text
