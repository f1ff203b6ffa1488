use Rattle.std.proofs.Common.{sym, ap, ◌∙◌, arith, ◌≡◌, length, subst, true, false}
use Rattle.cpt_cert_form.specs.declared.forms.CertLine.TheVariants as lines
use Rattle.cpt_cert_accept.specs.Reading.{is_row, values_of}
use Rattle.cpt_sections.specs.declared.section.DistRows.{DistRows}
use Rattle.cpt_sections.specs.declared.section.Section.TheVariants as sections
use Rattle.cpt_sections.specs.Sections.{Left, first_dist_rows}
use Rattle.cpt_sections.specs.Proceeding.{Proceeds}
use Rattle.cpt_sections.proofs.TableRows.{next_dist_row, row_count}
use Rattle.cpt_sections.proofs.RowMoves.{take_dist_row, false_dist_row, move_by}
use Rattle.cpt_sections.proofs.tabling.take_dist_row.Goals as goal

pub returns-then-is_row : goal.returns-then-is_row
returns-then-is_row c =
    let t = c.args.task.now in
    let v = c.args.version in
    let n = c.args.line_number in
    let old : DistRows = c.args.rows in
    let new : DistRows = c.with_dist_row.result in
    let puts = c.with_dist_row.ensures in
    let size = c.requires.section.dists.atoms in
    let acts = c.requires.section.dists.actions in
    let more = c.requires.section.more in
    let here = c.requires.section.line in
    let head = puts.head in
    let next = puts.next in
    let row : is_row v (length t.atoms) c.args.runs.now ≡ true = ap (λ m. is_row v m c.args.runs.now) (sym size ∙ sym c.atoms.ensures.value) ∙ sym c.is_row.ensures ∙ c.if-is_row.true in
    let count = row_count v (length t.atoms) c.args.runs.now row in
    let rows = ap (first_dist_rows new.dists) next ∙ next_dist_row old.dists new.dists old.next (values_of c.args.runs.now) puts.puts (omega (arith, more, acts)) (omega (arith, count, size)) in
    move_by t v (sections.DistRows old) (sections.DistRows new) n (lines.DistRow c.args.runs.now) c.after_dists.result (take_dist_row t v old new n c.args.runs.now puts.trees head puts.pairs next more row rows)
    (subst (λ k. Proceeds t v (Left t v (sections.DistRows new)) k c.after_dists.result) (omega (arith, here, head, next)) (c.after_dists.ensures v))

pub returns-else-is_row : goal.returns-else-is_row
returns-else-is_row c =
    let t = c.args.task.now in
    let v = c.args.version in
    let old : DistRows = c.args.rows in
    let row : is_row v (length t.atoms) c.args.runs.now ≡ false = ap (λ m. is_row v m c.args.runs.now) (sym c.requires.section.dists.atoms ∙ sym c.atoms.ensures.value) ∙ sym c.is_row.ensures ∙ c.if-is_row.false in
    (omega arith, λ ls. false_dist_row t v old c.args.line_number c.args.runs.now c.requires.section.more row ls)
