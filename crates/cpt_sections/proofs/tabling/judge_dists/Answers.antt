use Rattle.std.proofs.Common.{◌+◌, sym, subst, arith}
use Rattle.cpt_cert_accept.specs.declared.faults.Why.TheVariants as whys
use Rattle.cpt_cert_accept.specs.Reading.Outcome.{faulted}
use Rattle.cpt_sections.specs.declared.section.Section.TheVariants as sections
use Rattle.cpt_sections.specs.Sections.{Left}
use Rattle.cpt_sections.proofs.RowMoves.{good_dists, bad_dists}
use Rattle.cpt_sections.proofs.tabling.judge_dists.Goals as goal

pub returns-in-None : goal.returns-in-None
returns-in-None c = λ v.
    let r = c.args.rows in
    let so = c.requires.rows in
    ((so.trees, record { pairs = so.pairs; dists = so.dists }), (λ k. tt), good_dists c.args.task.now v r (r.head + 1 + r.next) so c.requires.all c.in-None.ensures.answer)

pub returns-in-Some : goal.returns-in-Some
returns-in-Some c = λ v.
    let r = c.args.rows in
    let n = r.head + 1 + r.next in
    let fault = c.in-Some.ensures.answer in
    let lt = fault.action in
    let all = c.requires.all in
    let same = c.from.ensures in (
      omega (arith, lt, all, same),
      λ ls. subst (λ p. Left c.args.task.now v (sections.DistRows r) n ls (faulted (r.head + 1 + p) whys.Dist)) (sym same) (bad_dists c.args.task.now v r n c.requires.rows all c.in-Some.fault fault ls),
    )
