use Rattle.std.proofs.Common.{subst}
use Rattle.cpt_sheet.specs.declared.data.Interval.{Interval}
use Rattle.cpt_sheet.specs.Live.{IsShut}
use Rattle.cpt_support.proofs.SupportLemmas.{is_proposed7}
use Rattle.cpt_support.proofs.support.step7.Goals as goal

pub returns-then-is_shut : goal.returns-then-is_shut
returns-then-is_shut c =
    is_proposed7 c.args.ctx.now.task.now c.args.ctx.now.tables.now c.args.store.now c.args.x c.args.p c.args.a c.requires.lent c.requires.listed (subst (λ (i : Interval). IsShut i) c.span_at.ensures c.if-is_shut.ensures)
