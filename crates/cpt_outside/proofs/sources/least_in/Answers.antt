use Rattle.std.proofs.Common.{◌+◌, sym, subst}
use Rattle.cpt_sheet.specs.declared.data.Cand.TheVariants.{Tok}
use Rattle.cpt_proposal.specs.Least.{IsLeast}
use Rattle.cpt_proposal.proofs.LeastLemmas.{least_more}
use Rattle.cpt_outside.specs.NoStep.{source_arrival}
use Rattle.cpt_outside.proofs.sources.least_in.Goals as goal

pub loop-c-preserved : goal.loop-c-preserved
loop-c-preserved c =
    subst (λ v. IsLeast 2000000000000000 (source_arrival c.args.ctx.now.task.now c.args.ctx.now.tables.now c.args.store.now.sheet c.args.a) c.args.list.now (c.loop-c.c-index + 1) v) (sym c.lesser_span-least.ensures)
    (least_more 2000000000000000 (source_arrival c.args.ctx.now.task.now c.args.ctx.now.tables.now c.args.store.now.sheet c.args.a) c.args.list.now c.loop-c.c-index (Tok 0) c.loop-c.least c.arrival_of.result c.loop-c-test.true c.loop-c.invariant c.arrival_of.ensures.value c.arrival_of.ensures.small)
