use Rattle.std.proofs.Common.{◌≡◌, suc, All, subst, sym, ◌∙◌}
use Rattle.cpt_task.specs.Timeline.{idle}
use Rattle.cpt_tables.specs.Weights.{value_at}
use Rattle.cpt_h2.specs.Board.{IsWithin, Drops}
use Rattle.cpt_h2.specs.Rules.{IsUpTo, action_of}
use Rattle.cpt_h2.specs.Rules.Rule.{one, beside}
use Rattle.cpt_h2.specs.Rows.{IsRead, IsFrom}
use Rattle.cpt_h2.specs.Rounds.{MeetsEach, Settles}
use Rattle.cpt_h2.proofs.RuleLemmas.{drops_action, settles_action, settles_above}
use Rattle.cpt_h2.proofs.RowLemmas.{span_later, spans_later, read_now, read_later, read_named, from_now, from_later, from_named, most_again, begin_named, begin_under}
use Rattle.cpt_h2.proofs.rules.apply_running.Goals as goal

pub apply_by_itself-requires-clause-action : goal.apply_by_itself-requires-clause-action
apply_by_itself-requires-clause-action c = subst (IsWithin c.args.board.now.pairs.atoms) (sym c.action_at-action.ensures) (c.requires.actions c.args.k idle c.requires.within)

pub read_action-requires-clause-action : goal.read_action-requires-clause-action
read_action-requires-clause-action c =
    subst (λ n. IsWithin n c.action_at-action.result.now) (sym c.apply_by_itself.ensures.drops.size)
    (subst (IsWithin c.args.board.now.pairs.atoms) (sym c.action_at-action.ensures) (c.requires.actions c.args.k idle c.requires.within))

pub read_action-requires-clause-reach : goal.read_action-requires-clause-reach
read_action-requires-clause-reach c = c.requires.room.first ∙ sym c.apply_by_itself.ensures.drops.size

pub read_action-requires-clause-tops : goal.read_action-requires-clause-tops
read_action-requires-clause-tops c = c.requires.room.second ∙ sym c.apply_by_itself.ensures.drops.size

pub apply_atoms-requires-clause-good : goal.apply_atoms-requires-clause-good
apply_atoms-requires-clause-good c = c.apply_by_itself.ensures.drops.good

pub apply_atoms-requires-clause-action : goal.apply_atoms-requires-clause-action
apply_atoms-requires-clause-action c =
    subst (λ n. IsWithin n c.action_at-action.result.now) (sym c.apply_by_itself.ensures.drops.size)
    (subst (IsWithin c.args.board.now.pairs.atoms) (sym c.action_at-action.ensures) (c.requires.actions c.args.k idle c.requires.within))

pub apply_atoms-requires-clause-read : goal.apply_atoms-requires-clause-read
apply_atoms-requires-clause-read c =
    read_now c.apply_by_itself.new.board c.action_at-action.result.now c.value_of-own.result c.read_action.new.reach c.read_action.new.tops c.apply_by_itself.ensures.drops.good
    (subst (λ n. IsWithin n c.action_at-action.result.now) (sym c.apply_by_itself.ensures.drops.size)
    (subst (IsWithin c.args.board.now.pairs.atoms) (sym c.action_at-action.ensures) (c.requires.actions c.args.k idle c.requires.within)))
    (span_later (MeetsEach (λ r. r ≡ one c.action_at-action.result.now)) c.args.board.now c.apply_by_itself.new.board c.action_at-action.result.now.pre c.value_of-own.result c.apply_by_itself.ensures.drops
    (begin_named c.args.board.now c.args.actions.now c.args.spans.now c.args.k c.action_at-action.result.now c.value_of-own.result c.action_at-action.ensures c.value_of-own.ensures c.requires.spans))
    c.read_action.ensures.near c.read_action.ensures.top

pub apply_actions-requires-clause-good : goal.apply_actions-requires-clause-good
apply_actions-requires-clause-good c = c.apply_atoms.ensures.drops.good

pub apply_actions-requires-clause-actions : goal.apply_actions-requires-clause-actions
apply_actions-requires-clause-actions c = subst (λ n. All (IsWithin n) c.args.actions.now) (sym (c.apply_atoms.ensures.drops.size ∙ c.apply_by_itself.ensures.drops.size)) c.requires.actions

pub apply_actions-requires-clause-spans : goal.apply_actions-requires-clause-spans
apply_actions-requires-clause-spans c =
    spans_later (MeetsEach (IsUpTo (λ q r. r ≡ beside c.action_at-action.result.now q) c.apply_by_itself.new.board.pairs.atoms)) c.apply_by_itself.new.board c.apply_atoms.new.board c.args.actions.now c.args.spans.now (suc c.args.k) c.apply_atoms.ensures.drops
    (spans_later (MeetsEach (λ r. r ≡ one c.action_at-action.result.now)) c.args.board.now c.apply_by_itself.new.board c.args.actions.now c.args.spans.now (suc c.args.k) c.apply_by_itself.ensures.drops c.requires.spans)

pub apply_actions-requires-clause-read : goal.apply_actions-requires-clause-read
apply_actions-requires-clause-read c =
    let read : IsRead c.apply_by_itself.new.board c.action_at-action.result.now c.value_of-own.result c.read_action.new.reach c.read_action.new.tops =
    read_now c.apply_by_itself.new.board c.action_at-action.result.now c.value_of-own.result c.read_action.new.reach c.read_action.new.tops c.apply_by_itself.ensures.drops.good
    (subst (λ n. IsWithin n c.action_at-action.result.now) (sym c.apply_by_itself.ensures.drops.size)
    (subst (IsWithin c.args.board.now.pairs.atoms) (sym c.action_at-action.ensures) (c.requires.actions c.args.k idle c.requires.within)))
    (span_later (MeetsEach (λ r. r ≡ one c.action_at-action.result.now)) c.args.board.now c.apply_by_itself.new.board c.action_at-action.result.now.pre c.value_of-own.result c.apply_by_itself.ensures.drops
    (begin_named c.args.board.now c.args.actions.now c.args.spans.now c.args.k c.action_at-action.result.now c.value_of-own.result c.action_at-action.ensures c.value_of-own.ensures c.requires.spans))
    c.read_action.ensures.near c.read_action.ensures.top in
    read_later (MeetsEach (IsUpTo (λ q r. r ≡ beside c.action_at-action.result.now q) c.apply_by_itself.new.board.pairs.atoms)) c.apply_by_itself.new.board c.apply_atoms.new.board
    (action_of c.args.actions.now c.args.k) (value_at c.args.spans.now c.args.k) c.read_action.new.reach c.read_action.new.tops c.apply_atoms.ensures.drops
    (read_named c.apply_by_itself.new.board c.action_at-action.result.now (action_of c.args.actions.now c.args.k) c.value_of-own.result (value_at c.args.spans.now c.args.k) c.read_action.new.reach c.read_action.new.tops
    c.action_at-action.ensures c.value_of-own.ensures read)

pub returns : goal.returns
returns c =
    let first : Drops (MeetsEach (λ r. r ≡ one (action_of c.args.actions.now c.args.k))) c.args.board.now c.apply_by_itself.new.board =
    subst (λ x. Drops (MeetsEach (λ r. r ≡ one x)) c.args.board.now c.apply_by_itself.new.board) c.action_at-action.ensures c.apply_by_itself.ensures.drops in
    let second : Drops (MeetsEach (IsUpTo (λ q r. r ≡ beside (action_of c.args.actions.now c.args.k) q) c.args.board.now.pairs.atoms)) c.apply_by_itself.new.board c.apply_atoms.new.board =
    subst (λ n. Drops (MeetsEach (IsUpTo (λ q r. r ≡ beside (action_of c.args.actions.now c.args.k) q) n)) c.apply_by_itself.new.board c.apply_atoms.new.board) c.apply_by_itself.ensures.drops.size
    (subst (λ x. Drops (MeetsEach (IsUpTo (λ q r. r ≡ beside x q) c.apply_by_itself.new.board.pairs.atoms)) c.apply_by_itself.new.board c.apply_atoms.new.board) c.action_at-action.ensures c.apply_atoms.ensures.drops) in
    record {
      drops = drops_action c.args.actions.now c.args.board.now.pairs.atoms c.args.k c.args.board.now c.apply_by_itself.new.board c.apply_atoms.new.board c.apply_actions.new.board first second c.apply_actions.ensures.drops;
      settled = λ h most under.
          let from : IsFrom h c.apply_by_itself.new.board.pairs c.action_at-action.result.now c.value_of-own.result c.read_action.new.reach =
          from_now h c.apply_by_itself.new.board.pairs c.action_at-action.result.now c.value_of-own.result c.read_action.new.reach
          (most_again c.apply_by_itself.new.board.pairs c.args.board.now.pairs h c.apply_by_itself.ensures.drops.under most)
          (begin_under h c.args.actions.now c.args.spans.now c.args.k c.action_at-action.result.now c.value_of-own.result c.action_at-action.ensures c.value_of-own.ensures under) c.read_action.ensures.near in
          settles_action c.args.actions.now c.args.board.now.pairs.atoms c.args.k c.args.looked.now h c.apply_by_itself.new.board c.apply_atoms.new.board c.apply_actions.new.board
          (settles_above (λ r. r ≡ one (action_of c.args.actions.now c.args.k)) c.args.looked.now c.args.board.now.pairs h c.apply_by_itself.new.board most
          (subst (λ x. Settles (λ r. r ≡ one x) c.args.looked.now c.args.board.now.pairs c.apply_by_itself.new.board) c.action_at-action.ensures c.apply_by_itself.ensures.settled))
          second
          (subst (λ n. Settles (IsUpTo (λ q r. r ≡ beside (action_of c.args.actions.now c.args.k) q) n) c.args.looked.now h c.apply_atoms.new.board) c.apply_by_itself.ensures.drops.size
          (subst (λ x. Settles (IsUpTo (λ q r. r ≡ beside x q) c.apply_by_itself.new.board.pairs.atoms) c.args.looked.now h c.apply_atoms.new.board) c.action_at-action.ensures (c.apply_atoms.ensures.settled h from)))
          c.apply_actions.ensures.drops
          (c.apply_actions.ensures.settled h
          (from_later (MeetsEach (IsUpTo (λ q r. r ≡ beside c.action_at-action.result.now q) c.apply_by_itself.new.board.pairs.atoms)) h c.apply_by_itself.new.board c.apply_atoms.new.board (action_of c.args.actions.now c.args.k) (value_at c.args.spans.now c.args.k) c.read_action.new.reach c.apply_atoms.ensures.drops
          (from_named h c.apply_by_itself.new.board.pairs c.action_at-action.result.now (action_of c.args.actions.now c.args.k) c.value_of-own.result (value_at c.args.spans.now c.args.k) c.read_action.new.reach c.action_at-action.ensures c.value_of-own.ensures from))
          under);
      room = record {
        each = c.requires.room.each;
        first = c.read_action.ensures.near.size ∙ sym (c.apply_actions.ensures.drops.size ∙ c.apply_atoms.ensures.drops.size);
        second = c.read_action.ensures.top.size ∙ sym (c.apply_actions.ensures.drops.size ∙ c.apply_atoms.ensures.drops.size);
      };
    }
