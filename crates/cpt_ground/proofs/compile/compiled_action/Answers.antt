use Rattle.std.proofs.Common.{refl}
use Rattle.cpt_ground.specs.Literals.{literals_of}
use Rattle.cpt_ground.proofs.CompileLemmas.{action-numbers}
use Rattle.cpt_ground.proofs.compile.compiled_action.Goals as goal

pub returns : goal.returns
returns c =
    action-numbers (literals_of c.args.literals.now) c.args.action.now _ c.in_ok-copy_of.ensures refl
    (rw (c.as_slice-present.ensures, c.as_slice-absent.ensures) at c.in_ok-chosen_numbers.ensures)
    (rw (c.as_slice-add.ensures, c.as_slice-dele.ensures) at c.in_ok-chosen_numbers-2.ensures)
    (rw (c.as_slice-dele.ensures, c.as_slice-add.ensures) at c.in_ok-chosen_numbers-3.ensures)
