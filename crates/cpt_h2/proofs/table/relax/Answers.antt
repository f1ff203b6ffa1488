use Rattle.std.proofs.Common.{subst, sym, ◌∙◌, All}
use Rattle.cpt_h2.specs.Board.{IsWithin}
use Rattle.cpt_h2.specs.Rounds.{MeetsAll}
use Rattle.cpt_h2.proofs.RoundLemmas.{sinks_same, sinks_again, sinks_along, settled_at_first, less_left}
use Rattle.cpt_h2.proofs.table.relax.Goals as goal

pub loop-going-init : goal.loop-going-init
loop-going-init c = record {
  sinks = sinks_same (MeetsAll c.args.actions.now c.args.board.now.pairs.atoms) c.args.board.now c.requires.good;
  looked = c.requires.size;
  room = c.requires.room;
  settled = settled_at_first c.args.actions.now c.args.board.now c.requires.marks;
  last = λ e. absurd (cc);
}

pub loop-going-preserved : goal.loop-going-preserved
loop-going-preserved c = record {
  sinks = sinks_again (MeetsAll c.args.actions.now c.args.board.now.pairs.atoms) c.args.board.now c.loop-going.board c.round.new.board c.loop-going.invariant.sinks
      (sinks_along c.args.actions.now c.loop-going.board.pairs.atoms c.args.board.now.pairs.atoms c.loop-going.board c.round.new.board c.loop-going.invariant.sinks.size c.round.ensures.round.sinks);
  looked = c.round.ensures.size;
  room = c.round.ensures.room;
  settled = c.round.ensures.round.settled;
  last = λ e. subst (λ n. MeetsAll c.args.actions.now n c.round.new.board.pairs) c.loop-going.invariant.sinks.size (c.round.ensures.round.last (sym c.has_moved-going.ensures ∙ e));
}

pub loop-going-smaller : goal.loop-going-smaller
loop-going-smaller c = less_left c.loop-going.board c.round.new.board c.loop-going.going c.has_moved-going.result c.loop-going-test.true c.has_moved-going.ensures c.round.ensures.round.less

pub round-requires-clause-good : goal.round-requires-clause-good
round-requires-clause-good c = c.loop-going.invariant.sinks.good

pub round-requires-clause-actions : goal.round-requires-clause-actions
round-requires-clause-actions c = subst (λ n. All (IsWithin n) c.args.actions.now) (sym c.loop-going.invariant.sinks.size) c.requires.actions

pub returns : goal.returns
returns c = record { sinks = c.loop-going.invariant.sinks; met = c.loop-going.invariant.last c.loop-going-test.false }
