use Rattle.std.proofs.Common.{subst}
use Rattle.cpt_check.specs.declared.past.Found.TheVariants as founds
use Rattle.cpt_check.specs.Progress.{Takes}
use Rattle.cpt_check.proofs.Taking.{front_too_long, front_fault}
use Rattle.cpt_check.proofs.pieces.take_front.Goals as goal

pub returns-then-room-piece : goal.returns-then-room-piece
returns-then-room-piece c = λ bytes h.
    let k = subst (Takes c.args.task.now bytes c.fitting.result.now c.take_piece.new.lines) c.in-On.is (c.in_ok-past.ensures bytes h) in
    front_too_long c.args.task.now bytes c.args.piece.now c.args.room c.in-On.past c.take_piece.new.lines (subst (λ z. Takes c.args.task.now bytes z c.take_piece.new.lines (founds.On c.in-On.past)) c.fitting.ensures k) c.if-room-piece.true

pub returns-in-Fault : goal.returns-in-Fault
returns-in-Fault c = λ bytes h.
    let k = subst (Takes c.args.task.now bytes c.fitting.result.now c.take_piece.new.lines) c.in-Fault.is (c.in_ok-past.ensures bytes h) in
    front_fault c.args.task.now bytes c.args.piece.now c.args.room c.in-Fault.fault c.take_piece.new.lines (subst (λ z. Takes c.args.task.now bytes z c.take_piece.new.lines (founds.Fault c.in-Fault.fault)) c.fitting.ensures k)
