use Rattle.std.proofs.Common.{All, take}
use Rattle.cpt_json_form.specs.Reading.{HasAtoms}
use Rattle.cpt_json_read.proofs.checks.have_atoms.Given as goal

abbrev pub invariant-loop-a : goal.invariant-loop-a
invariant-loop-a l = All (HasAtoms l.count) (take l.a-index l.actions)
