use Rattle.std.proofs.Common.{sym}
use Rattle.cpt_sheet.specs.View.{kind_of}
use Rattle.cpt_sheet.proofs.Tests.{clash_kinds}
use Rattle.cpt_store.proofs.store.Store.clash.Goals as goal

pub returns : goal.returns
returns c =
    clash_kinds c.args.ctx.now.task.now c.clash.result c.kind_at.result c.kind_at-2.result (kind_of c.args.self.now.sheet c.args.c) (kind_of c.args.self.now.sheet c.args.d) (sym c.kind_at.ensures) (sym c.kind_at-2.ensures) c.clash.ensures
