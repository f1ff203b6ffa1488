use Rattle.std.proofs.Common.{◌≡◌, ◌+◌, slice_index_or, arith}
use Rattle.cpt_sheet.specs.declared.data.Cand.TheVariants.{Tok}
use Rattle.cpt_agenda.specs.Asked.{IsFrontToken, IsListed}
use Rattle.cpt_agenda.proofs.AskedLemmas.{asked_none, asked_of, asked_one, asked_then, can_after, token_all, token_next, token_none}
use Rattle.cpt_agenda.proofs.asked.ask_tokens.Goals as goal

pub loop-x-init : goal.loop-x-init
loop-x-init g c = asked_none g.R.Rule.covers c.args.ctx.now.task.now c.args.ctx.now.tables.now c.args.store.now.sheet c.args.cause (IsFrontToken c.args.list.now 0) c.args.agenda.now (token_none c.args.list.now)

pub ask-requires-clause-can : goal.ask-requires-clause-can
ask-requires-clause-can g c = can_after c.args.ctx.now.task.now c.args.ctx.now.tables.now c.args.store.now _ _ c.requires.can c.loop-x.invariant.keeps

pub ask-requires-clause-there : goal.ask-requires-clause-there
ask-requires-clause-there g c = c.requires.there c.loop-x.x-index 0 c.loop-x-test.true

pub loop-x-preserved : goal.loop-x-preserved
loop-x-preserved g c =
    asked_then g.R.Rule.covers c.args.ctx.now.task.now c.args.ctx.now.tables.now c.args.store.now.sheet c.args.cause (IsFrontToken c.args.list.now c.loop-x.x-index) (λ d. d ≡ Tok (slice_index_or c.args.list.now c.loop-x.x-index 0))
    (IsFrontToken c.args.list.now (c.loop-x.x-index + 1)) _ _ _ (λ d h. token_next c.args.list.now c.loop-x.x-index 0 d c.loop-x-test.true h) c.loop-x.invariant
    (asked_one g.R.Rule.covers c.args.ctx.now.task.now c.args.ctx.now.tables.now c.args.store.now.sheet c.args.cause _ _ _ (c.requires.there c.loop-x.x-index 0 c.loop-x-test.true) c.ask.ensures)

pub returns : goal.returns
returns g c =
    asked_of g.R.Rule.covers c.args.ctx.now.task.now c.args.ctx.now.tables.now c.args.store.now.sheet c.args.cause (IsFrontToken c.args.list.now c.loop-x.x-index) (IsListed c.args.list.now) _ _
    (λ d h. token_all c.args.list.now c.loop-x.x-index d (omega arith) h) c.loop-x.invariant
