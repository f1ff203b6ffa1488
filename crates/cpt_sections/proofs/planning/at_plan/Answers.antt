use Rattle.std.proofs.Common.{subst}
use Rattle.cpt_cert_form.specs.declared.forms.CertLine.{CertLine}
use Rattle.cpt_sections.specs.Sections.{IsLine}
use Rattle.cpt_sections.proofs.PlanLines.{few_items, first_may_end, stray_plan, head_moves}
use Rattle.cpt_sections.proofs.planning.at_plan.Goals as goal

pub returns-in-Plan : goal.returns-in-Plan
returns-in-Plan c =
    head_moves c.args.task.now c.args.makespan c.args.line_number c.in-Plan.left c.first_items-items.result c.args.line.now c.at_items.result c.in-Plan.is c.first_items-items.ensures c.at_items.ensures

pub returns-in_default : goal.returns-in_default
returns-in_default c v = stray_plan c.args.task.now v c.args.makespan c.args.line_number c.args.line.now c.in_default.not-Plan

pub at_items-requires : goal.at_items-requires
at_items-requires c =
    let P : CertLine → Type 0 = IsLine in
    first_may_end c.args.task.now c.args.makespan c.args.line_number c.in-Plan.left c.first_items-items.result c.requires.section (few_items c.in-Plan.left (subst P c.in-Plan.is c.requires.line)) c.first_items-items.ensures
