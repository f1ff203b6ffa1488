use Rattle.std.proofs.Common.{◌<◌, All, ap, arith, length, subst, sym}
use Rattle.std.specs.List.Sorted.{IsStrictlyIncreasing}
use Rattle.std.proofs.lemmas.List.Elements.{All-nil}
use Rattle.cpt_index.proofs.IndexLemmas.{among_start, foes_all, foes_more}
use Rattle.cpt_index.proofs.RowLemmas.{below_put, increasing_none, increasing_put}
use Rattle.cpt_index.proofs.index.foes_of.Goals as goal

pub loop-a-init : goal.loop-a-init
loop-a-init c = record {
  increasing = subst IsStrictlyIncreasing (sym c.new-found.ensures.items) increasing_none;
  below = subst (λ z. All (λ a. a < 0) z) (sym c.new-found.ensures.items) (All-nil (λ a. a < 0));
  each = among_start _ _ _ c.new-found.ensures.items (λ x lt. omega (arith, lt));
}

pub loop-a-preserved : goal.loop-a-preserved
loop-a-preserved c = record {
  increasing = increasing_put c.loop-a.a _ _ _ c.in_ok-put_if.ensures c.loop-a.invariant.increasing c.loop-a.invariant.below;
  below = below_put c.loop-a.a _ _ _ c.in_ok-put_if.ensures c.loop-a.invariant.below;
  each = foes_more c.args.task.now c.args.kind c.loop-a.a _ _ _ c.in_ok-put_if.ensures c.clash-belongs.ensures c.loop-a.invariant.each;
}

pub returns : goal.returns
returns c = record {
  increasing = subst IsStrictlyIncreasing (sym c.from_vec.ensures) c.loop-a.invariant.increasing;
  each = foes_all c.args.task.now c.args.kind c.loop-a.a _ _ c.from_vec.ensures (omega (arith, ap length c.actions-a-end.ensures.value)) c.loop-a.invariant.each;
}
