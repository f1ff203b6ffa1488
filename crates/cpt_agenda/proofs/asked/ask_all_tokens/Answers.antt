use Rattle.std.proofs.Common.{◌≡◌, ◌+◌, length, arith, subst}
use Rattle.cpt_sheet.specs.declared.data.Cand.TheVariants.{Tok}
use Rattle.cpt_agenda.specs.Asked.{AreAsked, IsTokenBelow}
use Rattle.cpt_agenda.proofs.AskedLemmas.{asked_none, asked_one, asked_then, can_after, below_next, below_none}
use Rattle.cpt_agenda.proofs.asked.ask_all_tokens.Goals as goal

pub loop-x-init : goal.loop-x-init
loop-x-init g c = asked_none g.R.Rule.covers c.args.ctx.now.task.now c.args.ctx.now.tables.now c.args.store.now.sheet c.args.cause (IsTokenBelow 0) c.args.agenda.now below_none

pub ask-requires-clause-can : goal.ask-requires-clause-can
ask-requires-clause-can g c = can_after c.args.ctx.now.task.now c.args.ctx.now.tables.now c.args.store.now _ _ c.requires c.loop-x.invariant.keeps

pub loop-x-preserved : goal.loop-x-preserved
loop-x-preserved g c =
    asked_then g.R.Rule.covers c.args.ctx.now.task.now c.args.ctx.now.tables.now c.args.store.now.sheet c.args.cause (IsTokenBelow c.loop-x.x) (λ d. d ≡ Tok c.loop-x.x) (IsTokenBelow (c.loop-x.x + 1)) _ _ _ (below_next c.loop-x.x) c.loop-x.invariant
    (asked_one g.R.Rule.covers c.args.ctx.now.task.now c.args.ctx.now.tables.now c.args.store.now.sheet c.args.cause _ _ _ (omega arith) c.ask.ensures)

pub returns : goal.returns
returns g c =
    let e : c.loop-x.x ≡ length c.args.store.now.sheet.tokens = omega arith in
    subst (λ n. AreAsked g.R.Rule.covers c.args.ctx.now.task.now c.args.ctx.now.tables.now c.args.store.now.sheet c.args.cause (IsTokenBelow n) c.args.agenda.now c.loop-x.agenda) e c.loop-x.invariant
