use Rattle.cpt_sheet.specs.declared.data.Cand.TheVariants.{Tok}
use Rattle.cpt_sheet.specs.Gaps.{IsImpossibleBeside}
use Rattle.cpt_sheet.proofs.EachLemmas.{each_more}
use Rattle.cpt_calculus.proofs.rules.are_impossible.Goals as goal

pub loop-d-preserved : goal.loop-d-preserved
loop-d-preserved c =
    each_more (IsImpossibleBeside c.args.task.now c.args.tables.now c.args.sheet.now c.args.p c.args.q c.args.c) c.args.list.now c.loop-d.d-index c.loop-d-test.true c.loop-d.invariant (Tok 0)
    c.if-not-is_impossible_beside.ensures
