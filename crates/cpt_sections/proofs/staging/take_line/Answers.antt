use Rattle.std.proofs.Common.{sym, subst}
use Rattle.cpt_sections.specs.declared.section.Stage.{Stage}
use Rattle.cpt_sections.specs.Stages.{IsStage, Turns}
use Rattle.cpt_sections.proofs.StageLines.{section_turn}
use Rattle.cpt_sections.proofs.staging.take_line.Goals as goal

pub returns-in-First : goal.returns-in-First
returns-in-First c =
    let P : Stage → Type 0 = λ s. Turns c.args.task.now s c.args.line_number c.args.line.now c.at_first.result in
    subst P (sym c.in-First.is) (c.at_first.ensures c.args.task.now)

pub returns-in-Claimed : goal.returns-in-Claimed
returns-in-Claimed c =
    let P : Stage → Type 0 = λ s. Turns c.args.task.now s c.args.line_number c.args.line.now c.at_claim.result in
    subst P (sym c.in-Claimed.is) (c.at_claim.ensures c.args.task.now)

pub returns-in_ok-next-in-Within : goal.returns-in_ok-next-in-Within
returns-in_ok-next-in-Within c =
    let P : Stage → Type 0 = λ s. Turns c.args.task.now s c.args.line_number c.args.line.now c.turned.result in
    let formed = subst (IsStage c.args.task.now c.args.line_number) c.in-Within.is c.requires.stage in
    subst P (sym c.in-Within.is) (
    section_turn c.args.task.now c.in-Within.version c.in-Within.claim c.in-Within.section c.args.line_number c.args.line.now c.in_ok-next-in-Within.next c.turned.result c.turned.ensures formed.0
    c.in_ok-next-in-Within.ensures
    )
