use Rattle.std.proofs.Common.{sym, ap, ◌∙◌, arith, ◌≡◌, ◌-◌, length, subst, true, false}
use Rattle.cpt_cert_form.specs.declared.forms.CertLine.TheVariants as lines
use Rattle.cpt_cert_accept.specs.Reading.{is_row, values_of}
use Rattle.cpt_sections.specs.declared.section.PairRows.{PairRows}
use Rattle.cpt_sections.specs.declared.section.Section.TheVariants as sections
use Rattle.cpt_sections.specs.Sections.{Left, first_pair_rows}
use Rattle.cpt_sections.specs.Proceeding.{Proceeds}
use Rattle.cpt_sections.proofs.TableRows.{next_pair_row, row_count}
use Rattle.cpt_sections.proofs.RowMoves.{take_pair_row, false_pair_row, move_by}
use Rattle.cpt_sections.proofs.tabling.take_pair_row.Goals as goal

pub returns-then-is_row : goal.returns-then-is_row
returns-then-is_row c =
    let t = c.args.task.now in
    let v = c.args.version in
    let n = c.args.line_number in
    let old : PairRows = c.args.rows in
    let new : PairRows = c.with_pair_row.result in
    let puts = c.with_pair_row.ensures in
    let size = c.requires.section.fits.size in
    let more = c.requires.section.more in
    let here = c.requires.section.line in
    let head = puts.head in
    let next = puts.next in
    let row : is_row v (length t.atoms - old.next) c.args.runs.now ≡ true =
    ap (λ m. is_row v (m - old.next) c.args.runs.now) (sym size ∙ sym c.atoms.ensures.value) ∙ sym c.is_row.ensures ∙ c.if-is_row.true in
    let count = row_count v (length t.atoms - old.next) c.args.runs.now row in
    let rows = ap (first_pair_rows new.pairs) next ∙ next_pair_row old.pairs new.pairs old.next (values_of c.args.runs.now) puts.puts (omega (arith, count, size, more)) in
    move_by t v (sections.PairRows old) (sections.PairRows new) n (lines.PairRow c.args.runs.now) c.after_pairs.result (take_pair_row t v old new n c.args.runs.now puts.aim head next more row rows)
    (subst (λ k. Proceeds t v (Left t v (sections.PairRows new)) k c.after_pairs.result) (omega (arith, here, head, next)) (c.after_pairs.ensures v))

pub returns-else-is_row : goal.returns-else-is_row
returns-else-is_row c =
    let t = c.args.task.now in
    let v = c.args.version in
    let old : PairRows = c.args.rows in
    let row : is_row v (length t.atoms - old.next) c.args.runs.now ≡ false =
    ap (λ m. is_row v (m - old.next) c.args.runs.now) (sym c.requires.section.fits.size ∙ sym c.atoms.ensures.value) ∙ sym c.is_row.ensures ∙ c.if-is_row.false in
    (omega arith, λ ls. false_pair_row t v old c.args.line_number c.args.runs.now c.requires.section.more row ls)
