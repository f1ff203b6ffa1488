use Rattle.std.proofs.Common.{sym}
use Rattle.cpt_support.proofs.SupportLemmas.{passed_in, passed_out, is_proposed5}
use Rattle.cpt_support.proofs.support.pass_one.Goals as goal

pub returns-then-not-holds : goal.returns-then-not-holds
returns-then-not-holds c = passed_out c.args.ctx.now.task.now c.args.ctx.now.tables.now c.args.store.now.sheet c.args.x c.args.p c.args.c (sym c.if-not-holds.ensures)

pub returns-then-not-is_in_time : goal.returns-then-not-is_in_time
returns-then-not-is_in_time c = is_proposed5 c.args.ctx.now.task.now c.args.ctx.now.tables.now c.args.store.now c.args.x c.args.p c.args.c c.requires (sym c.if-not-holds.ensures) c.if-not-is_in_time.ensures

pub returns : goal.returns
returns c =
    passed_in c.args.ctx.now.task.now c.args.ctx.now.tables.now c.args.store.now.sheet c.args.x c.args.p c.args.c c.arrives-v.result (c.arrives-v.ensures.fit c.requires.live) (sym c.if-not-holds.ensures) c.arrives-v.ensures.value c.if-not-is_in_time.ensures c.in_default.ensures
