use Rattle.std.proofs.Common.{◌∙◌, ap}
use Rattle.cpt_sheet.specs.declared.data.Kind.{Kind}
use Rattle.cpt_sheet.specs.Roles.{deletes_of}
use Rattle.cpt_threat.proofs.ThreatLemmas.{deletes_each}
use Rattle.cpt_threat.proofs.threat.ahead.Goals as goal

pub ahead_in-requires-clause-deletes : goal.ahead_in-requires-clause-deletes
ahead_in-requires-clause-deletes c =
    deletes_each c.args.ctx.now.task.now c.args.store.now.sheet c.args.d c.deletes_of.result.now (c.deletes_of.ensures ∙ ap (λ (k : Kind). deletes_of c.args.ctx.now.task.now k) c.kind_at.ensures)
