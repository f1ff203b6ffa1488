use Rattle.std.proofs.Common.{◌≡◌, ◌+◌, Contains, slice_index_or, arith}
use Rattle.cpt_sheet.specs.declared.data.Cand.TheVariants.{Tok}
use Rattle.cpt_agenda.specs.Asked.{IsFront}
use Rattle.cpt_agenda.proofs.AskedLemmas.{asked_none, asked_of, asked_one, asked_then, can_after, front_all, front_next, front_none}
use Rattle.cpt_agenda.proofs.asked.ask_each.Goals as goal

pub loop-c-init : goal.loop-c-init
loop-c-init g c = asked_none g.R.Rule.covers c.args.ctx.now.task.now c.args.ctx.now.tables.now c.args.store.now.sheet c.args.cause (IsFront c.args.list.now 0) c.args.agenda.now (front_none c.args.list.now)

pub ask-requires-clause-can : goal.ask-requires-clause-can
ask-requires-clause-can g c = can_after c.args.ctx.now.task.now c.args.ctx.now.tables.now c.args.store.now _ _ c.requires.can c.loop-c.invariant.keeps

pub ask-requires-clause-there : goal.ask-requires-clause-there
ask-requires-clause-there g c = c.requires.there c.loop-c.c-index (Tok 0) c.loop-c-test.true

pub loop-c-preserved : goal.loop-c-preserved
loop-c-preserved g c =
    asked_then g.R.Rule.covers c.args.ctx.now.task.now c.args.ctx.now.tables.now c.args.store.now.sheet c.args.cause (IsFront c.args.list.now c.loop-c.c-index) (λ d. d ≡ slice_index_or c.args.list.now c.loop-c.c-index (Tok 0))
    (IsFront c.args.list.now (c.loop-c.c-index + 1)) _ _ _ (λ d h. front_next c.args.list.now c.loop-c.c-index (Tok 0) d c.loop-c-test.true h) c.loop-c.invariant
    (asked_one g.R.Rule.covers c.args.ctx.now.task.now c.args.ctx.now.tables.now c.args.store.now.sheet c.args.cause _ _ _ (c.requires.there c.loop-c.c-index (Tok 0) c.loop-c-test.true) c.ask.ensures)

pub returns : goal.returns
returns g c =
    asked_of g.R.Rule.covers c.args.ctx.now.task.now c.args.ctx.now.tables.now c.args.store.now.sheet c.args.cause (IsFront c.args.list.now c.loop-c.c-index) (Contains c.args.list.now) _ _
    (λ d h. front_all c.args.list.now c.loop-c.c-index d (omega arith) h) c.loop-c.invariant
