use Rattle.std.proofs.Common.{◌∷◌, drop, ◌+◌, ap, sym, ◌∙◌}
use Rattle.cpt_sheet.specs.declared.data.Decision.{Decision}
use Rattle.cpt_walk.proofs.Turning.{other_turn, last_frame, next_fits, but_last}
use Rattle.cpt_walk.specs.Walks.{IsFewIn}
use Rattle.cpt_walk.proofs.walk.at_child.Goals as goal

pub returns-then-not-is_same : goal.returns-then-not-is_same
returns-then-not-is_same c =
    let f = c.in-Some.frame in
    other_turn c.args.task.now c.args.tables.now c.args.past c.pop.new.self.items f c.in-Some-next_child.next c.args.child.now (drop (f.met + 1) f.children) c.in-Some.ensures.items c.in-Some-next_child.ensures.1
    (λ e. c.if-not-is_same.ensures (sym e))

pub step_down-requires-clause-frame : goal.step_down-requires-clause-frame
step_down-requires-clause-frame c = (last_frame c.args.task.now c.args.tables.now c.args.past c.pop.new.self.items c.in-Some.frame c.in-Some.ensures.items c.requires.frames).1

pub step_down-requires-clause-few : goal.step_down-requires-clause-few
step_down-requires-clause-few c = (but_last (IsFewIn 4294967292) c.args.past.frames.items c.pop.new.self.items c.in-Some.frame c.in-Some.ensures.items c.requires.few).1

pub step_down-requires-clause-fits : goal.step_down-requires-clause-fits
step_down-requires-clause-fits c =
    let f = c.in-Some.frame in
    let frame = (last_frame c.args.task.now c.args.tables.now c.args.past c.pop.new.self.items f c.in-Some.ensures.items c.requires.frames).1 in
    next_fits c.args.task.now c.args.tables.now f c.args.child.now (drop (f.met + 1) f.children) frame (c.in-Some-next_child.ensures.1 ∙ ap (λ (z : Decision). z ∷ drop (f.met + 1) f.children) c.if-not-is_same.ensures)
