use Rattle.std.proofs.Common.{All, get_or, subst}
use Rattle.std.proofs.lemmas.List.{take_all, get_or_default}
use Rattle.std.proofs.lemmas.List.Elements.{All-more}
use Rattle.cpt_task.specs.declared.span.Span.TheVariants.{At, Never}
use Rattle.cpt_tables.specs.Spans.{◌≤ˢ◌}
use Rattle.cpt_tables.specs.Weights.{value_at}
use Rattle.cpt_h2.proofs.rows.is_below.Goals as goal

pub loop-p-preserved : goal.loop-p-preserved
loop-p-preserved c =
    All-more (λ p. value_at c.args.row.now p ≤ˢ c.args.value) c.args.atoms.now c.loop-p.p-index 0 c.loop-p-test.true c.loop-p.invariant
    (subst (λ v. v ≤ˢ c.args.value) (get_or_default c.args.row.now (get_or c.args.atoms.now c.loop-p.p-index 0) (At 0) Never (c.requires c.loop-p.p-index 0 c.loop-p-test.true)) c.if-exceeds.ensures)

pub returns : goal.returns
returns c = λ e. subst (All (λ p. value_at c.args.row.now p ≤ˢ c.args.value)) (take_all c.loop-p.p-index c.args.atoms.now c.loop-p-test.false) c.loop-p.invariant
