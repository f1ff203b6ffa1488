use Rattle.std.proofs.Common.{◌∙◌, ◌<◌, Option, IfSome, ap, length, map, subst, sym}
use Rattle.cpt_sheet.specs.declared.data.Decision.{Decision}
use Rattle.cpt_calculus.specs.Decisions.{Fits}
use Rattle.cpt_store.specs.declared.store.Next.{Next}
use Rattle.cpt_store.specs.Held.{IsNext, brings, mark_of}
use Rattle.cpt_store.specs.Stores.{KeepsMarks, StoreShape}
use Rattle.cpt_store.proofs.KeptLemmas.{decision_is, held_applied, marks_stay, next_here}
use Rattle.cpt_store.proofs.store.Store.apply.Goals as goal

pub invariant_of-self : goal.invariant_of-self
invariant_of-self g c =
    let w = c.apply.ensures in
    let n = next_here c.self.inside.task c.self.inside.index c.self.inside.cells c.in-Some.field-0 c.self.inside.next c.in-Some.ensures.value c.self.invariant.next in
    let d = decision_is c.self.inside.next c.in-Some.field-0 c.args.self.now.ready c.args.decision.now (ap (λ (s : StoreShape). s.ready) c.self.view_is) c.in-Some.ensures.value c.requires.ready.ready in
    record {
      acts = c.self.invariant.acts;
      held = held_applied c.self.inside.task c.self.inside.cells c.apply.new.self c.self.inside.index c.seated.new.index c.args.decision.now c.in-Some.field-0.seat c.self.invariant.held
          (subst (λ (s : StoreShape). Fits s.sheet c.args.decision.now) (sym c.self.view_is) c.requires.fits)
          (subst (λ (s : StoreShape). length s.sheet.tokens < 4200000000) (sym c.self.view_is) c.requires.few) w.frame w.sheet w.marks
          (n.seat.kind ∙ ap (λ (z : Decision). brings z) d) c.seated.ensures;
      room = λ e. cc;
      next = subst (λ (o : Option Next). IfSome o (IsNext c.self.inside.task c.seated.new.index c.apply.new.self)) (sym c.in-Some.ensures.after) tt;
    }

pub returns-in-Some-clause-marks : goal.returns-in-Some-clause-marks
returns-in-Some-clause-marks g c = subst (λ (z : StoreShape). KeepsMarks z.marks (map mark_of c.apply.new.self.marks)) c.self.view_is (marks_stay c.self.inside.cells.marks c.apply.new.self.marks c.apply.ensures.marks)
