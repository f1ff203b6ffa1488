use Rattle.std.proofs.Common.{sym, subst}
use Rattle.cpt_layout.specs.Places.{Frame}
use Rattle.cpt_cells.specs.Marks.{IsHeldBy}
use Rattle.cpt_cells.proofs.Growths.{held_reserved}
use Rattle.cpt_cells.proofs.cells.Cells.reserve.Goals as goal

pub invariant_of-self : goal.invariant_of-self
invariant_of-self c = (let i = c.self.inside in let w = c.reserve.ensures in held_reserved i.trail c.reserve.new.self i.layout.frame i.end c.self.invariant w.cells w.marks w.keeps_entry_room)

pub invariant_of-self-2 : goal.invariant_of-self-2
invariant_of-self-2 c =
    let i = c.self.inside in
    let w = c.reserve.ensures in
    subst (λ (s : Frame). IsHeldBy c.reserve.new.self s i.end) (sym c.reserve-2.ensures.frame)
    (held_reserved i.trail c.reserve.new.self i.layout.frame i.end c.self.invariant w.cells w.marks w.keeps_entry_room)
