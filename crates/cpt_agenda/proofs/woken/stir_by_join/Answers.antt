use Rattle.std.proofs.Common.{◌≡◌, None}
use Rattle.cpt_sheet.specs.declared.data.Cand.TheVariants.{Tok}
use Rattle.cpt_agenda.specs.Asked.{StirredByJoin, WokenByTake}
use Rattle.cpt_agenda.proofs.AskedLemmas.{asked_one, asked_then, can_after}
use Rattle.cpt_agenda.proofs.TableLemmas.{joined}
use Rattle.cpt_agenda.proofs.woken.stir_by_join.Goals as goal

pub wake_by_taken-requires-clause-can : goal.wake_by_taken-requires-clause-can
wake_by_taken-requires-clause-can g c = can_after c.args.ctx.now.task.now c.args.ctx.now.tables.now c.args.store.now _ _ c.requires.can c.ask.ensures.keeps

pub returns : goal.returns
returns g c =
    asked_then g.R.Rule.covers c.args.ctx.now.task.now c.args.ctx.now.tables.now c.args.store.now.sheet None (λ d. d ≡ Tok c.args.x) (WokenByTake c.args.ctx.now.task.now c.args.store.now.sheet c.args.x c.args.p) (StirredByJoin c.args.ctx.now.task.now c.args.store.now.sheet c.args.x c.args.p) _ _ _
    (joined c.args.ctx.now.task.now c.args.store.now.sheet c.requires.can.lent.formed c.args.x c.args.p) (asked_one g.R.Rule.covers c.args.ctx.now.task.now c.args.ctx.now.tables.now c.args.store.now.sheet None _ _ _ c.requires.there c.ask.ensures) c.wake_by_taken.ensures
