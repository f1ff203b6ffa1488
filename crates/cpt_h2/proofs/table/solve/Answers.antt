use Rattle.std.proofs.Common.{◌≡◌, ◌<◌, length, subst, sym, ap, ◌∙◌, All}
use Rattle.cpt_task.specs.declared.span.Span.TheVariants.{At}
use Rattle.cpt_tables.specs.Shapes.{PairShape}
use Rattle.cpt_h2.specs.Board.{IsWithin, AllBelow, Drops}
use Rattle.cpt_h2.specs.Rounds.{Relaxes}
use Rattle.cpt_h2.specs.Rows.{IsRoom}
use Rattle.cpt_h2.proofs.TableLemmas.{good_empty, zero_next, within_task, greatest_by_rules, fits_by_good}
use Rattle.cpt_h2.proofs.table.solve.Goals as goal

pub lower_all-requires-clause-good : goal.lower_all-requires-clause-good
lower_all-requires-clause-good c = good_empty c.args.board.now (length c.args.task.now.atoms) c.requires.few c.requires.pairs c.requires.marks_size

pub lower_all-requires-clause-next : goal.lower_all-requires-clause-next
lower_all-requires-clause-next c = zero_next c.args.board.now.pairs.values

pub lower_all-requires-clause-first : goal.lower_all-requires-clause-first
lower_all-requires-clause-first c =
    subst (λ (h : PairShape). All (λ p. p < h.atoms) c.init-init.result.now) (sym c.requires.pairs) (subst (All (λ p. p < length c.args.task.now.atoms)) (sym c.init-init.ensures.value) c.actions-actions.ensures.bounds.init)

pub lower_all-requires-clause-second : goal.lower_all-requires-clause-second
lower_all-requires-clause-second c =
    subst (λ (h : PairShape). All (λ p. p < h.atoms) c.init-init.result.now) (sym c.requires.pairs) (subst (All (λ p. p < length c.args.task.now.atoms)) (sym c.init-init.ensures.value) c.actions-actions.ensures.bounds.init)

pub relax-requires-clause-actions : goal.relax-requires-clause-actions
relax-requires-clause-actions c =
    let size : c.lower_all.new.self.pairs.atoms ≡ length c.args.task.now.atoms = c.lower_all.ensures.drops.size ∙ ap (λ (h : PairShape). h.atoms) c.requires.pairs in
    subst (λ n. All (IsWithin n) c.actions-actions.result.now) (sym size) (subst (All (IsWithin (length c.args.task.now.atoms))) (sym c.actions-actions.ensures.value) (within_task c.args.task.now c.actions-actions.ensures.bounds))

pub relax-requires-clause-room : goal.relax-requires-clause-room
relax-requires-clause-room c =
    let size : c.lower_all.new.self.pairs.atoms ≡ length c.args.task.now.atoms = c.lower_all.ensures.drops.size ∙ ap (λ (h : PairShape). h.atoms) c.requires.pairs in
    subst (λ n. IsRoom (length c.actions-actions.result.now) n c.args.spans.now c.args.reach.now c.args.tops.now) (sym size)
    (subst (λ xs. IsRoom (length xs) (length c.args.task.now.atoms) c.args.spans.now c.args.reach.now c.args.tops.now) (sym c.actions-actions.ensures.value) c.requires.room)

pub returns-clause-greatest : goal.returns-clause-greatest
returns-clause-greatest c =
    greatest_by_rules c.args.task.now c.args.board.now c.lower_all.new.self c.relax.new.board c.actions-actions.ensures.bounds c.requires.pairs
    (subst (λ xs. Drops (λ g. AllBelow g xs xs (At 0)) c.args.board.now c.lower_all.new.self) c.init-init.ensures.value c.lower_all.ensures.drops)
    (subst (λ xs. AllBelow c.lower_all.new.self.pairs xs xs (At 0)) c.init-init.ensures.value c.lower_all.ensures.met)
    (subst (λ xs. Relaxes xs c.lower_all.new.self c.relax.new.board) c.actions-actions.ensures.value c.relax.ensures)

pub returns-clause-fits : goal.returns-clause-fits
returns-clause-fits c =
    fits_by_good c.args.task.now c.relax.new.board c.relax.ensures.sinks.good
    (c.relax.ensures.sinks.size ∙ (c.lower_all.ensures.drops.size ∙ ap (λ (h : PairShape). h.atoms) c.requires.pairs))
