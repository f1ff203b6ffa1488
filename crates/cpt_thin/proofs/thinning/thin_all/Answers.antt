use Rattle.std.proofs.Common.{◌∙◌, [], ◌++◌, arith, subst, sym}
use Rattle.std.proofs.lemmas.List.Elements.{All-nil}
use Rattle.cpt_thin.specs.Dooms.{line_left}
use Rattle.cpt_thin.specs.Thinner.{IsBegun, AreBegun}
use Rattle.cpt_thin.proofs.FrontLines.{few_left}
use Rattle.cpt_thin.proofs.thinning.thin_all.Goals as goal

pub loop-place-init : goal.loop-place-init
loop-place-init c = record {
  each = c.requires.each;
  nodes = subst (AreBegun c.args.task.now) (sym c.new-nodes.ensures.items) (All-nil (λ n. IsBegun c.args.task.now n.place n.sheet));
  front = ([], omega arith, c.begin_front.ensures c.args.task.now);
}

pub pass_line-requires-clause-line : goal.pass_line-requires-clause-line
pass_line-requires-clause-line c = rw c.index-lines-place.is (c.requires.lines c.loop-place.place _ c.loop-place-test.true)

pub loop-place-preserved : goal.loop-place-preserved
loop-place-preserved c =
    let front = c.loop-place.invariant.front in
    let le = front.1 in
    let size = few_left front.0 c.fate_at.result c.index-lines-place.result in
    record {
      each = c.in_ok-thin_at.ensures.each ∙ c.loop-place.invariant.each;
      nodes = c.in_ok-thin_at.ensures.nodes;
      front = (front.0 ++ line_left c.fate_at.result c.index-lines-place.result, omega (arith, le, size), c.in_ok-front.ensures front.0 front.2);
    }
