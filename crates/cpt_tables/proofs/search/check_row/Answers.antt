use Rattle.std.proofs.Common.{◌≡◌, ◌<◌, length, get_or, arith}
use Rattle.cpt_tables.specs.Scans.{IsOne, IsWithOne}
use Rattle.cpt_tables.proofs.PairScans.{first_start, first_more, first_all}
use Rattle.cpt_tables.proofs.ListLemmas.{place_in, contains_at}
use Rattle.cpt_tables.proofs.search.check_row.Goals as goal

pub loop-q-init : goal.loop-q-init
loop-q-init c = first_start c.args.pairs.now (λ j. IsOne c.args.p (get_or c.args.qs.now j 0) c.args.most) c.args.best

pub loop-q-preserved : goal.loop-q-preserved
loop-q-preserved c = first_more c.args.pairs.now (λ j. IsOne c.args.p (get_or c.args.qs.now j 0) c.args.most) c.loop-q.q-index c.args.best c.loop-q.best c.check_pair-best.result c.loop-q.invariant c.check_pair-best.ensures

pub returns : goal.returns
returns c =
    let end : length c.args.qs.now ≡ c.loop-q.q-index = omega arith in
    first_all c.args.pairs.now (λ j. IsOne c.args.p (get_or c.args.qs.now j 0) c.args.most) (IsWithOne c.args.p c.args.qs.now c.args.most) c.loop-q.q-index c.args.best c.loop-q.best
    (λ j lt p q v m. (m.0, contains_at c.args.qs.now q j (omega (arith, lt, end)) m.1, m.2))
    (λ p q v m. let at = place_in c.args.qs.now q m.1 in (at.0, (let lt : at.0 < length c.args.qs.now = at.1 in omega (arith, lt, end)), (m.0, at.2, m.2)))
    c.loop-q.invariant
