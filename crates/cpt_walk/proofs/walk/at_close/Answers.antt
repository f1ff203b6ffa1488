use Rattle.std.proofs.Common.{sym, subst}
use Rattle.cpt_sheet.specs.declared.data.NodeLine.TheVariants.{Close}
use Rattle.cpt_walk.specs.declared.walk.Past.{Past}
use Rattle.cpt_walk.specs.declared.walk.Turn.TheVariants.{On}
use Rattle.cpt_walk.specs.Walks.{Turns, at_work, at_end}
use Rattle.cpt_walk.proofs.Turning.{closed_turn, alive}
use Rattle.cpt_walk.proofs.walk.at_close.Goals as goal

pub returns-then-is_dead : goal.returns-then-is_dead
returns-then-is_dead c =
    let t = c.args.task.now in
    let b = c.args.tables.now in
    subst (λ (z : Past). Turns t b (at_work c.args.past c.args.sheet) Close (On (at_end z))) (sym c.one_done.ensures) (closed_turn t b c.args.past c.args.sheet c.requires.frames c.if-is_dead.ensures)

pub returns-else-is_dead : goal.returns-else-is_dead
returns-else-is_dead c = alive c.args.task.now c.args.tables.now c.args.past c.args.sheet c.if-is_dead.ensures
