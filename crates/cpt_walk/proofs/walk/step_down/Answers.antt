use Rattle.std.proofs.Common.{length, ap, refl, arith}
use Rattle.cpt_walk.specs.declared.walk.Past.{Past}
use Rattle.cpt_walk.proofs.Turning.{down_more, down_last}
use Rattle.cpt_walk.proofs.walk.step_down.Goals as goal

pub returns-in_ok-frames : goal.returns-in_ok-frames
returns-in_ok-frames c =
    let p = c.args.past in
    let q : Past = record { may_open = p.may_open; frames = c.in_ok-frames.frames; done = p.done; left = p.left } in
    let k = c.in_ok-frames.ensures in
    let long = ap length c.as_slice.ensures in
    down_more c.args.task.now c.args.tables.now p q c.args.frame c.args.child.now c.in_ok-frames.sheet c.requires.frames c.requires.frame c.requires.next (omega (arith, long, c.if-frame-as_slice.true)) k.0 k.1 refl refl refl k.2

pub returns-in_ok-sheet : goal.returns-in_ok-sheet
returns-in_ok-sheet c =
    let k = c.in_ok-sheet.ensures in
    let long = ap length c.as_slice.ensures in
    down_last c.args.task.now c.args.tables.now c.args.past c.args.frame c.args.child.now c.in_ok-sheet.sheet c.requires.frames c.requires.frame c.requires.next (omega (arith, long, c.if-frame-as_slice.false)) k.0 k.1
