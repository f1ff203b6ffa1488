use Rattle.std.proofs.Common.{ap, map, subst}
use Rattle.cpt_store.specs.Held.{mark_of}
use Rattle.cpt_store.specs.Stores.{KeepsMarks, StoreShape}
use Rattle.cpt_store.proofs.KeptLemmas.{held_narrowed, marks_stay}
use Rattle.cpt_store.proofs.StoreLemmas.{legal_for, step_of}
use Rattle.cpt_store.proofs.store.Store.narrow.Goals as goal

pub narrow-requires : goal.narrow-requires
narrow-requires g c =
    step_of c.self.inside.task c.self.inside.cells.sheet c.args.step.now c.self.invariant.held.sheet.formed
    (legal_for c.args.self.now c.self.inside.task c.self.inside.cells.sheet c.args.step.now (ap (λ (s : StoreShape). s.task) c.self.view_is) (ap (λ (s : StoreShape). s.sheet) c.self.view_is) c.requires)

pub invariant_of-self : goal.invariant_of-self
invariant_of-self g c =
    let w = c.narrow.ensures in
    record {
      acts = c.self.invariant.acts;
      held = held_narrowed c.self.inside.task c.self.inside.cells c.narrow.new.self c.self.inside.index c.args.step.now
          (legal_for c.args.self.now c.self.inside.task c.self.inside.cells.sheet c.args.step.now (ap (λ (s : StoreShape). s.task) c.self.view_is) (ap (λ (s : StoreShape). s.sheet) c.self.view_is) c.requires)
          c.self.invariant.held w.frame w.sheet w.marks;
      room = λ e. cc;
      next = tt;
    }

pub returns-clause-marks : goal.returns-clause-marks
returns-clause-marks g c = subst (λ (z : StoreShape). KeepsMarks z.marks (map mark_of c.narrow.new.self.marks)) c.self.view_is (marks_stay c.self.inside.cells.marks c.narrow.new.self.marks c.narrow.ensures.marks)
