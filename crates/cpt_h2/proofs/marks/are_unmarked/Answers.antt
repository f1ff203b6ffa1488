use Rattle.std.proofs.Common.{◌≡◌, All, subst, get_or, true, false}
use Rattle.std.proofs.lemmas.List.{take_all}
use Rattle.std.proofs.lemmas.List.Elements.{All-more}
use Rattle.cpt_h2.proofs.marks.are_unmarked.Goals as goal

pub loop-p-preserved : goal.loop-p-preserved
loop-p-preserved c =
    All-more (λ p. get_or c.args.atoms.now p true ≡ false) c.args.ps.now c.loop-p.p-index 0 c.loop-p-test.true c.loop-p.invariant
    (c.is_unmarked.ensures c.if-not-is_unmarked.false)

pub returns : goal.returns
returns c = λ e. subst (All (λ p. get_or c.args.atoms.now p true ≡ false)) (take_all c.loop-p.p-index c.args.ps.now c.loop-p-test.false) c.loop-p.invariant
