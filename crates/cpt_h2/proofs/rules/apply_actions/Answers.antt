use Rattle.std.proofs.Common.{◌≡◌, suc, ◌+◌, ◌<◌, ◌≤◌, length, subst, sym, arith}
use Rattle.cpt_task.specs.declared.task.Action.{Action}
use Rattle.cpt_task.specs.Timeline.{idle}
use Rattle.cpt_tables.specs.Spans.{◌≤ˢ◌}
use Rattle.cpt_tables.specs.Shapes.{set_span_of}
use Rattle.cpt_tables.specs.Weights.{value_at}
use Rattle.cpt_h2.specs.Board.{IsWithin, Drops}
use Rattle.cpt_h2.specs.Rules.{IsUpTo, action_of}
use Rattle.cpt_h2.specs.Rules.Rule.{two}
use Rattle.cpt_h2.specs.Rows.{IsSpanOver}
use Rattle.cpt_h2.specs.Rounds.{MeetsEach, Settles}
use Rattle.cpt_h2.proofs.RuleLemmas.{drops_none, settles_none, drops_more, settles_more, drops_two, settles_two}
use Rattle.cpt_h2.proofs.RowLemmas.{read_later, spans_later, from_later, read_named, from_named}
use Rattle.cpt_h2.proofs.rules.apply_actions.Goals as goal

pub loop-j-init : goal.loop-j-init
loop-j-init c = record {
  read = c.requires.read;
  over = c.requires.spans;
  drops = drops_none (λ j r. r ≡ two (action_of c.args.actions.now c.args.k) (action_of c.args.actions.now j)) c.args.board.now c.requires.good;
  settled = λ h from under. settles_none (λ j r. r ≡ two (action_of c.args.actions.now c.args.k) (action_of c.args.actions.now j)) c.args.looked.now h c.args.board.now;
}

pub apply_two-requires-clause-good : goal.apply_two-requires-clause-good
apply_two-requires-clause-good c = c.loop-j.invariant.drops.good

pub apply_two-requires-clause-first : goal.apply_two-requires-clause-first
apply_two-requires-clause-first c =
    subst (λ n. IsWithin n c.action_at-first.result.now) (sym c.loop-j.invariant.drops.size) (subst (IsWithin c.args.board.now.pairs.atoms) (sym c.action_at-first.ensures) (c.requires.actions c.args.k idle c.requires.within))

pub apply_two-requires-clause-second : goal.apply_two-requires-clause-second
apply_two-requires-clause-second c =
    let most : c.loop-j.j < c.args.k + 1 = c.loop-j-test.true in
    let lt : c.loop-j.j < length c.args.actions.now = omega (arith, most, c.requires.within) in
    subst (λ n. IsWithin n c.action_at-second.result.now) (sym c.loop-j.invariant.drops.size) (subst (IsWithin c.args.board.now.pairs.atoms) (sym c.action_at-second.ensures) (c.requires.actions c.loop-j.j idle lt))

pub apply_two-requires-clause-read : goal.apply_two-requires-clause-read
apply_two-requires-clause-read c =
    read_named c.loop-j.board (action_of c.args.actions.now c.args.k) c.action_at-first.result.now (value_at c.args.spans.now c.args.k) c.value_of-own.result c.args.reach.now c.args.tops.now
    (sym c.action_at-first.ensures) (sym c.value_of-own.ensures) c.loop-j.invariant.read

pub apply_two-requires-clause-other : goal.apply_two-requires-clause-other
apply_two-requires-clause-other c =
    let most : c.loop-j.j < c.args.k + 1 = c.loop-j-test.true in
    let lt : c.loop-j.j < suc c.args.k = omega (arith, most) in
    subst (λ v. IsSpanOver c.loop-j.board c.action_at-second.result.now.pre v) (sym c.value_of-other.ensures)
    (subst (λ (a : Action). IsSpanOver c.loop-j.board a.pre (value_at c.args.spans.now c.loop-j.j)) (sym c.action_at-second.ensures) (c.loop-j.invariant.over c.loop-j.j lt))

pub loop-j-preserved : goal.loop-j-preserved
loop-j-preserved c =
    let most : c.loop-j.j < c.args.k + 1 = c.loop-j-test.true in
    let lt : c.loop-j.j < suc c.args.k = omega (arith, most) in
    let drops : Drops (MeetsEach (λ r. r ≡ two (action_of c.args.actions.now c.args.k) (action_of c.args.actions.now c.loop-j.j))) c.loop-j.board c.apply_two.new.board =
    drops_two c.loop-j.board c.apply_two.new.board c.action_at-first.result.now c.action_at-second.result.now (action_of c.args.actions.now c.args.k) (action_of c.args.actions.now c.loop-j.j) c.action_at-first.ensures c.action_at-second.ensures c.apply_two.ensures.drops in
    record {
      read = read_later (MeetsEach (λ r. r ≡ two (action_of c.args.actions.now c.args.k) (action_of c.args.actions.now c.loop-j.j))) c.loop-j.board c.apply_two.new.board (action_of c.args.actions.now c.args.k) (value_at c.args.spans.now c.args.k) c.args.reach.now c.args.tops.now drops c.loop-j.invariant.read;
      over = spans_later (MeetsEach (λ r. r ≡ two (action_of c.args.actions.now c.args.k) (action_of c.args.actions.now c.loop-j.j))) c.loop-j.board c.apply_two.new.board c.args.actions.now c.args.spans.now (suc c.args.k) drops c.loop-j.invariant.over;
      drops = drops_more (λ j r. r ≡ two (action_of c.args.actions.now c.args.k) (action_of c.args.actions.now j)) c.loop-j.j c.args.board.now c.loop-j.board c.apply_two.new.board c.loop-j.invariant.drops drops;
      settled = λ h from under. settles_more (λ j r. r ≡ two (action_of c.args.actions.now c.args.k) (action_of c.args.actions.now j)) c.loop-j.j c.args.looked.now h c.loop-j.board c.apply_two.new.board (c.loop-j.invariant.settled h from under) drops
          (settles_two c.args.looked.now h c.apply_two.new.board c.action_at-first.result.now c.action_at-second.result.now (action_of c.args.actions.now c.args.k) (action_of c.args.actions.now c.loop-j.j) c.action_at-first.ensures c.action_at-second.ensures
          (c.apply_two.ensures.settled h
          (from_named h c.loop-j.board.pairs (action_of c.args.actions.now c.args.k) c.action_at-first.result.now (value_at c.args.spans.now c.args.k) c.value_of-own.result c.args.reach.now (sym c.action_at-first.ensures) (sym c.value_of-own.ensures)
          (from_later (MeetsEach (IsUpTo (λ j r. r ≡ two (action_of c.args.actions.now c.args.k) (action_of c.args.actions.now j)) c.loop-j.j)) h c.args.board.now c.loop-j.board (action_of c.args.actions.now c.args.k) (value_at c.args.spans.now c.args.k) c.args.reach.now c.loop-j.invariant.drops from))
          (subst (λ v. v ≤ˢ set_span_of h c.action_at-second.result.now.pre) (sym c.value_of-other.ensures)
          (subst (λ (a : Action). value_at c.args.spans.now c.loop-j.j ≤ˢ set_span_of h a.pre) (sym c.action_at-second.ensures) (under c.loop-j.j lt)))));
    }

pub returns : goal.returns
returns c =
    let most : c.loop-j.j ≤ c.args.k + 1 = c.loop-j.auto.j-end in
    let least : c.args.k + 1 ≤ c.loop-j.j = c.loop-j-test.false in
    let e : c.loop-j.j ≡ suc c.args.k = omega (arith, most, least) in
    record {
      drops = subst (λ n. Drops (MeetsEach (IsUpTo (λ j r. r ≡ two (action_of c.args.actions.now c.args.k) (action_of c.args.actions.now j)) n)) c.args.board.now c.loop-j.board) e c.loop-j.invariant.drops;
      settled = λ h from under. subst (λ n. Settles (IsUpTo (λ j r. r ≡ two (action_of c.args.actions.now c.args.k) (action_of c.args.actions.now j)) n) c.args.looked.now h c.loop-j.board) e (c.loop-j.invariant.settled h from under);
    }
