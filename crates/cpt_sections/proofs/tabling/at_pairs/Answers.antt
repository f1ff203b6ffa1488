use Rattle.std.proofs.Common.{sym, refl, arith, subst}
use Rattle.cpt_cert_form.specs.declared.forms.CertLine.TheVariants as lines
use Rattle.cpt_sections.specs.declared.section.PairRows.{PairRows}
use Rattle.cpt_sections.specs.declared.section.Section.TheVariants as sections
use Rattle.cpt_sections.specs.Sections.{Left, Moves}
use Rattle.cpt_sections.specs.Proceeding.{Proceeds}
use Rattle.cpt_sections.proofs.RowMoves.{begin_pairs, strange_pairs, move_by}
use Rattle.cpt_sections.proofs.tabling.at_pairs.Goals as goal

pub returns-in_ok-pairs-in-Pairs : goal.returns-in_ok-pairs-in-Pairs
returns-in_ok-pairs-in-Pairs c = λ v.
    let t = c.args.task.now in
    let n = c.args.line_number in
    let r : PairRows = record { aim = c.args.aim; head = n; next = 0; pairs = c.in_ok-pairs-in-Pairs.pairs } in
    subst (λ line. Moves t v (sections.Pairs c.args.aim) n line c.after_pairs.result) (sym c.in-Pairs.is)
    (move_by t v (sections.Pairs c.args.aim) (sections.PairRows r) n lines.Pairs c.after_pairs.result (begin_pairs t v c.args.aim r n refl refl refl) (subst (λ k. Proceeds t v (Left t v (sections.PairRows r)) k c.after_pairs.result) (omega arith) (c.after_pairs.ensures v)))

pub returns-in_default : goal.returns-in_default
returns-in_default c = λ v. (omega arith, λ ls. strange_pairs c.args.task.now v c.args.aim c.args.line_number c.args.line.now c.in_default.not-Pairs ls)
