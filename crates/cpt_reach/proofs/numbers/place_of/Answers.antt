use Rattle.std.proofs.Common.{Ok, Err, sym}
use Rattle.cpt_reach.proofs.Numbering.{found_at}
use Rattle.cpt_reach.proofs.numbers.place_of.Goals as goal

pub returns-in-Ok : goal.returns-in-Ok
returns-in-Ok c = sym (found_at c.args.kept.now c.args.p c.requires.increasing (Ok c.in-Ok.place) c.in-Ok.ensures.position)

pub returns-in-Err : goal.returns-in-Err
returns-in-Err c = sym (found_at c.args.kept.now c.args.p c.requires.increasing (Err c.in-Err.field-0) c.in-Err.ensures.position)
