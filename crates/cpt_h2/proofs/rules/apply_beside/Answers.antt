use Rattle.std.proofs.Common.{◌≡◌, refl, subst, ap, ◌∙◌}
use Rattle.cpt_task.specs.declared.span.Span.TheVariants.{At}
use Rattle.cpt_tables.specs.Spans.{◌≤ˢ◌, ◌+ˢ◌, span_max}
use Rattle.cpt_tables.specs.Weights.{value_at}
use Rattle.cpt_h2.specs.Rules.{IsMet}
use Rattle.cpt_h2.specs.Rules.Rule.{beside}
use Rattle.cpt_h2.proofs.BoardLemmas.{drops_same}
use Rattle.cpt_h2.proofs.RuleLemmas.{drops_one, settles_one, settles_above}
use Rattle.cpt_h2.proofs.RowLemmas.{beside_met}
use Rattle.cpt_h2.proofs.rules.apply_beside.Goals as goal

pub least_beside-least-requires-clause-own : goal.least_beside-least-requires-clause-own
least_beside-least-requires-clause-own c = c.requires.read.begin.small

pub least_beside-least-requires-clause-near : goal.least_beside-least-requires-clause-near
least_beside-least-requires-clause-near c = rw c.value_of-near.ensures (c.requires.read.near.small c.args.q c.requires.atom)

pub returns-then-exceeds : goal.returns-then-exceeds
returns-then-exceeds c = record {
  drops = c.apply_marked.ensures.drops;
  settled = λ h from. settles_above (λ r. r ≡ beside c.args.action.now c.args.q) c.args.looked.now c.args.board.now.pairs h c.apply_marked.new.board from.above c.apply_marked.ensures.settled;
}

pub returns-else-exceeds : goal.returns-else-exceeds
returns-else-exceeds c =
    let least : c.least_beside-least.result ≡ span_max c.args.own (value_at c.args.reach.now c.args.q) +ˢ At c.args.action.now.dur =
    c.least_beside-least.ensures ∙ ap (λ v. span_max c.args.own v +ˢ At c.args.action.now.dur) c.value_of-near.ensures in
    let below : value_at c.args.tops.now c.args.q ≤ˢ span_max c.args.own (value_at c.args.reach.now c.args.q) +ˢ At c.args.action.now.dur =
    subst (λ v. v ≤ˢ span_max c.args.own (value_at c.args.reach.now c.args.q) +ˢ At c.args.action.now.dur) c.value_of-top.ensures (subst (λ v. c.value_of-top.result ≤ˢ v) least c.if-exceeds.ensures) in
    record {
      drops = drops_one (beside c.args.action.now c.args.q) c.args.board.now c.args.board.now (drops_same (λ g. IsMet g (beside c.args.action.now c.args.q)) c.args.board.now c.args.board.now refl c.requires.good);
      settled = λ h from. settles_one (beside c.args.action.now c.args.q) c.args.looked.now h c.args.board.now
          (beside_met c.args.board.now h c.args.action.now c.args.q c.args.own c.args.reach.now c.args.tops.now c.requires.read from c.requires.atom below);
    }
