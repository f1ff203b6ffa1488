use Rattle.std.proofs.Common.{Option, sym, subst}
use Rattle.cpt_sheet.specs.declared.data.Step.{Step}
use Rattle.cpt_agenda.specs.Asked.{IsLeft}
use Rattle.cpt_agenda.proofs.asked.is_called.Goals as goal

pub returns-in-Some : goal.returns-in-Some
returns-in-Some g c =
    λ e. subst (λ (z : Option Step). IsLeft g.R.Rule.covers c.args.ctx.now.task.now c.args.ctx.now.tables.now c.args.store.now.sheet z c.args.c) (sym c.in-Some.is) (c.wakes.ensures e)
