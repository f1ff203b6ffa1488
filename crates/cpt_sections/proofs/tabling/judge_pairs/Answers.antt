use Rattle.std.proofs.Common.{◌+◌, sym, subst, arith}
use Rattle.cpt_cert_accept.specs.declared.faults.Why.TheVariants as whys
use Rattle.cpt_cert_accept.specs.Reading.Outcome.{faulted}
use Rattle.cpt_sections.specs.declared.section.Section.TheVariants as sections
use Rattle.cpt_sections.specs.Sections.{Left, BehindPairs}
use Rattle.cpt_sections.proofs.RowMoves.{good_pairs, bad_pairs, proceed_by}
use Rattle.cpt_sections.proofs.tabling.judge_pairs.Goals as goal

pub returns-in-None : goal.returns-in-None
returns-in-None c = λ v.
    let r = c.args.rows in
    let n = r.head + 1 + r.next in
    let late = c.requires.rows.late in
    proceed_by c.args.task.now v (BehindPairs c.args.task.now v r.aim r.pairs) (Left c.args.task.now v (sections.PairRows r)) n c.leave_pairs.result
    (good_pairs c.args.task.now v r n c.requires.rows c.requires.all c.in-None.ensures.answer) (c.leave_pairs.ensures v n (omega (arith, late)))

pub returns-in-Some : goal.returns-in-Some
returns-in-Some c = λ v.
    let r = c.args.rows in
    let n = r.head + 1 + r.next in
    let fault = c.in-Some.ensures.answer in
    let le = fault.ordered in
    let lt = fault.within in
    let all = c.requires.all in
    let same = c.from.ensures in (
      omega (arith, le, lt, all, same),
      λ ls. subst (λ p. Left c.args.task.now v (sections.PairRows r) n ls (faulted (r.head + 1 + p) whys.Pair)) (sym same) (bad_pairs c.args.task.now v r n c.requires.rows all c.in-Some.fault fault ls),
    )
