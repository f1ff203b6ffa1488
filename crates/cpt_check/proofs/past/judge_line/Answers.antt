use Rattle.std.proofs.Common.{◌+◌, subst, sym}
use Rattle.cpt_sections.specs.Stages.{Turns}
use Rattle.cpt_check.specs.Progress.{IsFoundIn}
use Rattle.cpt_check.proofs.Lines.{past_more, past_fault}
use Rattle.cpt_check.proofs.past.judge_line.Goals as goal

pub returns-in-On : goal.returns-in-On
returns-in-On c = λ read h.
    let a = subst (Turns c.args.task.now c.args.past.stage (c.args.past.count + 1) c.args.line.now) c.in-On.is c.in_ok-stage.ensures in
    let k = c.claimed-claimed.ensures c.args.task.now (c.args.past.count + 1 + 1) a.stage in
    past_more c.args.task.now read c.args.past c.args.line.now c.in-On.stage c.claimed-claimed.result h a k

pub returns-in-Fault : goal.returns-in-Fault
returns-in-Fault c = λ read h.
    let f = subst (Turns c.args.task.now c.args.past.stage (c.args.past.count + 1) c.args.line.now) c.in-Fault.is c.in_ok-stage.ensures in
    let k = past_fault c.args.task.now read c.args.past c.args.line.now c.in-Fault.line c.in-Fault.why h f in
    subst (λ v. IsFoundIn c.args.task.now read c.args.line.now (record { version = v; line = c.in-Fault.line; why = c.in-Fault.why })) (sym c.version_of-version.ensures) k
