use Rattle.std.proofs.Common.{sym, refl, arith, subst}
use Rattle.cpt_cert_form.specs.declared.forms.CertLine.TheVariants as lines
use Rattle.cpt_sections.specs.declared.section.DistRows.{DistRows}
use Rattle.cpt_sections.specs.declared.section.Section.TheVariants as sections
use Rattle.cpt_sections.specs.Sections.{Left, Moves}
use Rattle.cpt_sections.specs.Proceeding.{Proceeds}
use Rattle.cpt_sections.proofs.RowMoves.{begin_dists, strange_dists, move_by}
use Rattle.cpt_sections.proofs.tabling.at_dists.Goals as goal

pub returns-in_ok-dists-in-Dists : goal.returns-in_ok-dists-in-Dists
returns-in_ok-dists-in-Dists c = λ v.
    let t = c.args.task.now in
    let n = c.args.line_number in
    let r : DistRows = record { trees = c.args.trees; head = n; next = 0; pairs = c.args.pairs; dists = c.in_ok-dists-in-Dists.dists } in
    subst (λ line. Moves t v (sections.Dists c.args.trees c.args.pairs) n line c.after_dists.result) (sym c.in-Dists.is)
    (move_by t v (sections.Dists c.args.trees c.args.pairs) (sections.DistRows r) n lines.Dists c.after_dists.result (begin_dists t v c.args.trees c.args.pairs r n refl refl refl refl)
    (subst (λ k. Proceeds t v (Left t v (sections.DistRows r)) k c.after_dists.result) (omega arith) (c.after_dists.ensures v)))

pub returns-in_default : goal.returns-in_default
returns-in_default c = λ v. (omega arith, λ ls. strange_dists c.args.task.now v c.args.trees c.args.pairs c.args.line_number c.args.line.now c.in_default.not-Dists ls)
