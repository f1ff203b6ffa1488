use Rattle.std.proofs.Common.{sym, subst}
use Rattle.cpt_sections.specs.declared.section.Section.{Section}
use Rattle.cpt_sections.specs.Sections.{Moves}
use Rattle.cpt_sections.proofs.staging.take_section.Goals as goal

pub returns-in-End : goal.returns-in-End
returns-in-End c =
    let P : Section → Type 0 = λ s. Moves c.args.task.now c.args.version s c.args.line_number c.args.line.now c.at_end.result in
    subst P (sym c.in-End.is) (c.at_end.ensures c.args.task.now c.args.version)

pub returns-in-CountedEnd : goal.returns-in-CountedEnd
returns-in-CountedEnd c =
    let P : Section → Type 0 = λ s. Moves c.args.task.now c.args.version s c.args.line_number c.args.line.now c.at_counted_end.result in
    subst P (sym c.in-CountedEnd.is) (c.at_counted_end.ensures c.args.task.now c.args.version)

pub returns-in-Done : goal.returns-in-Done
returns-in-Done c =
    let P : Section → Type 0 = λ s. Moves c.args.task.now c.args.version s c.args.line_number c.args.line.now c.at_nothing.result in
    subst P (sym c.in-Done.is) (c.at_nothing.ensures c.args.task.now c.args.version c.args.line.now)

pub returns-in-PairRows : goal.returns-in-PairRows
returns-in-PairRows c =
    let P : Section → Type 0 = λ s. Moves c.args.task.now c.args.version s c.args.line_number c.args.line.now c.at_pair_row.result in
    subst P (sym c.in-PairRows.is) c.at_pair_row.ensures

pub returns-in-DistRows : goal.returns-in-DistRows
returns-in-DistRows c =
    let P : Section → Type 0 = λ s. Moves c.args.task.now c.args.version s c.args.line_number c.args.line.now c.at_dist_row.result in
    subst P (sym c.in-DistRows.is) c.at_dist_row.ensures
