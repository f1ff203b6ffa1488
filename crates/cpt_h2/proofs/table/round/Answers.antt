use Rattle.std.proofs.Common.{length, subst, sym, ap, ◌∙◌, All}
use Rattle.cpt_tables.specs.Shapes.{PairShape}
use Rattle.cpt_h2.specs.Board.{MarksShape, IsWithin}
use Rattle.cpt_h2.specs.Rounds.{Works, IsRule}
use Rattle.cpt_h2.specs.Rows.{IsRoom}
use Rattle.cpt_h2.proofs.RoundLemmas.{good_start, ends_round}
use Rattle.cpt_h2.proofs.table.round.Goals as goal

pub apply_all-requires-clause-good : goal.apply_all-requires-clause-good
apply_all-requires-clause-good c = good_start c.args.board.now c.start_round.new.self (length c.args.looked.now.atoms) c.requires.good c.start_round.ensures.pairs c.start_round.ensures.size c.requires.size

pub apply_all-requires-clause-actions : goal.apply_all-requires-clause-actions
apply_all-requires-clause-actions c = subst (λ (h : PairShape). All (IsWithin h.atoms) c.args.actions.now) (sym c.start_round.ensures.pairs) c.requires.actions

pub apply_all-requires-clause-room : goal.apply_all-requires-clause-room
apply_all-requires-clause-room c = subst (λ (h : PairShape). IsRoom (length c.args.actions.now) h.atoms c.args.spans.now c.args.reach.now c.args.tops.now) (sym c.start_round.ensures.pairs) c.requires.room

pub returns : goal.returns
returns c =
    let works : Works (IsRule c.args.actions.now c.args.board.now.pairs.atoms) c.args.board.now.marks c.start_round.new.self c.apply_all.new.board =
    subst (λ m. Works (IsRule c.args.actions.now c.args.board.now.pairs.atoms) m c.start_round.new.self c.apply_all.new.board) c.start_round.ensures.marks
    (subst (λ (h : PairShape). Works (IsRule c.args.actions.now h.atoms) c.start_round.new.looked c.start_round.new.self c.apply_all.new.board) c.start_round.ensures.pairs c.apply_all.ensures.works) in
    record {
      round = ends_round c.args.actions.now c.args.board.now c.start_round.new.self c.apply_all.new.board (length c.args.looked.now.atoms) c.requires.actions
          c.start_round.ensures.pairs c.start_round.ensures.moved c.requires.size c.start_round.ensures.clear c.requires.settled works;
      size = ap (λ (m : MarksShape). length m.atoms) c.start_round.ensures.marks ∙ (c.requires.good.marks ∙ (ap (λ (h : PairShape). h.atoms) (sym c.start_round.ensures.pairs) ∙ sym works.drops.size));
      room = c.apply_all.ensures.room;
    }
