use Rattle.std.proofs.Common.{◌≡◌, ◌⊎◌, None}
use Rattle.cpt_sheet.specs.declared.data.Cand.TheVariants.{Tok}
use Rattle.cpt_agenda.specs.Asked.{IsTakerOf, StirredByOrder}
use Rattle.cpt_agenda.proofs.AskedLemmas.{asked_one, asked_then, can_after}
use Rattle.cpt_agenda.proofs.TableLemmas.{ordered_by}
use Rattle.cpt_agenda.proofs.woken.stir_by_order.Goals as goal

pub ask-requires-2-clause-can : goal.ask-requires-2-clause-can
ask-requires-2-clause-can g c = can_after c.args.ctx.now.task.now c.args.ctx.now.tables.now c.args.store.now _ _ c.requires.can c.ask.ensures.keeps

pub ask_takers_of-requires : goal.ask_takers_of-requires
ask_takers_of-requires g c = can_after c.args.ctx.now.task.now c.args.ctx.now.tables.now c.args.store.now _ _ (can_after c.args.ctx.now.task.now c.args.ctx.now.tables.now c.args.store.now _ _ c.requires.can c.ask.ensures.keeps) c.ask-2.ensures.keeps

pub returns : goal.returns
returns g c =
    asked_then g.R.Rule.covers c.args.ctx.now.task.now c.args.ctx.now.tables.now c.args.store.now.sheet None (λ d. (d ≡ Tok c.args.x) ⊎ (d ≡ Tok c.args.y)) (IsTakerOf c.args.store.now.sheet c.adds_of-adds.result.now) (StirredByOrder c.args.ctx.now.task.now c.args.store.now.sheet c.args.x c.args.y) _ _ _
    (ordered_by c.args.ctx.now.task.now c.args.store.now.sheet c.requires.can.lent.formed c.args.x c.args.y c.kind_at.result c.adds_of-adds.result.now c.kind_at.ensures c.adds_of-adds.ensures)
    (asked_then g.R.Rule.covers c.args.ctx.now.task.now c.args.ctx.now.tables.now c.args.store.now.sheet None (λ d. d ≡ Tok c.args.x) (λ d. d ≡ Tok c.args.y) (λ d. (d ≡ Tok c.args.x) ⊎ (d ≡ Tok c.args.y)) _ _ _ (λ d r. r)
    (asked_one g.R.Rule.covers c.args.ctx.now.task.now c.args.ctx.now.tables.now c.args.store.now.sheet None _ _ _ c.requires.first c.ask.ensures) (asked_one g.R.Rule.covers c.args.ctx.now.task.now c.args.ctx.now.tables.now c.args.store.now.sheet None _ _ _ c.requires.second c.ask-2.ensures)) c.ask_takers_of.ensures
