use Rattle.std.proofs.Common.{Ok, Err, sym}
use Rattle.cpt_ground.proofs.AtomLemmas.{found_place}
use Rattle.cpt_ground.proofs.atoms.place_of.Goals as goal

pub returns-in-Ok : goal.returns-in-Ok
returns-in-Ok c = sym (found_place c.args.atoms.now c.args.atom (Ok c.in-Ok.place) c.requires.ordered c.in-Ok.ensures.bound c.in-Ok.ensures.position)

pub returns-in-Err : goal.returns-in-Err
returns-in-Err c = sym (found_place c.args.atoms.now c.args.atom (Err c.in-Err.field-0) c.requires.ordered c.in-Err.ensures.bound c.in-Err.ensures.position)
