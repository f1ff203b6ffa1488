use Rattle.cpt_store.proofs.KeptLemmas.{held_marked, next_stays}
use Rattle.cpt_store.proofs.store.Store.mark.Goals as goal

pub invariant_of-self : goal.invariant_of-self
invariant_of-self c =
    let w = c.mark.ensures in
    record {
      acts = c.self.invariant.acts;
      held = held_marked c.self.inside.task c.self.inside.cells c.mark.new.self c.self.inside.index c.self.invariant.held w.frame w.sheet w.marks;
      room = λ e. cc;
      next = next_stays c.self.inside.task c.self.inside.index c.self.inside.cells c.mark.new.self c.self.inside.next w.frame w.sheet w.room c.self.invariant.next;
    }
