use Rattle.std.proofs.Common.{◌∙◌, ap, sym}
use Rattle.cpt_index.specs.Index.{kinds_of}
use Rattle.cpt_index.proofs.IndexLemmas.{index_itself}
use Rattle.cpt_store.specs.Held.{mark_of}
use Rattle.cpt_store.specs.Stores.{StoreShape}
use Rattle.cpt_store.proofs.KeptLemmas.{held_back, marks_back, newest_of, ticks_back}
use Rattle.cpt_store.proofs.store.Store.undo_to.Goals as goal

pub shorten-requires : goal.shorten-requires
shorten-requires g c = index_itself c.self.inside.task (kinds_of c.self.inside.cells.sheet) c.self.inside.index c.self.invariant.held.indexed

pub invariant_of-self : goal.invariant_of-self
invariant_of-self g c =
    let e = newest_of c.args.mark c.args.self.now c.self.inside.cells.marks (ap (λ (s : StoreShape). s.marks) c.self.view_is) c.requires in
    record {
      acts = c.self.invariant.acts;
      held = held_back c.self.inside.task c.self.inside.cells c.undo_to.new.self c.self.inside.index c.shorten.new.self c.args.mark c.tokens-count.result c.undo_to.ensures.back e c.self.invariant.held
          (c.undo_to.ensures.frame c.self.inside.task c.self.invariant.held.frame) c.tokens-count.ensures.value c.shorten.ensures;
      room = λ e. cc;
      next = tt;
    }

pub returns-clause-back : goal.returns-clause-back
returns-clause-back g c =
    let b = c.undo_to.ensures.back in
    let e = newest_of c.args.mark c.args.self.now c.self.inside.cells.marks (ap (λ (s : StoreShape). s.marks) c.self.view_is) c.requires in
    record {
      mark = mark_of b.mark;
      task = ap (λ (s : StoreShape). s.task) c.self.view_is;
      marks = ap (λ (s : StoreShape). s.marks) (sym c.self.view_is) ∙ marks_back c.args.mark c.self.inside.cells c.undo_to.new.self b e;
      sheet = b.sheet;
      ticks = ticks_back c.args.mark c.args.steps.now c.undo_to.new.steps c.self.inside.cells c.undo_to.new.self b e c.undo_to.ensures.ticks;
    }
