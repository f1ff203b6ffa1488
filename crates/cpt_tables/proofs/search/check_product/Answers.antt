use Rattle.std.proofs.Common.{◌≡◌, ◌<◌, length, get_or, arith}
use Rattle.cpt_tables.specs.Scans.{IsWithOne, IsAmongBoth}
use Rattle.cpt_tables.proofs.PairScans.{first_start, first_more, first_all}
use Rattle.cpt_tables.proofs.ListLemmas.{place_in, contains_at}
use Rattle.cpt_tables.proofs.search.check_product.Goals as goal

pub loop-p-init : goal.loop-p-init
loop-p-init c = first_start c.args.pairs.now (λ j. IsWithOne (get_or c.args.ps.now j 0) c.args.qs.now c.args.most) c.args.best

pub loop-p-preserved : goal.loop-p-preserved
loop-p-preserved c = first_more c.args.pairs.now (λ j. IsWithOne (get_or c.args.ps.now j 0) c.args.qs.now c.args.most) c.loop-p.p-index c.args.best c.loop-p.best c.check_row-best.result c.loop-p.invariant c.check_row-best.ensures

pub returns : goal.returns
returns c =
    let end : length c.args.ps.now ≡ c.loop-p.p-index = omega arith in
    first_all c.args.pairs.now (λ j. IsWithOne (get_or c.args.ps.now j 0) c.args.qs.now c.args.most) (IsAmongBoth c.args.ps.now c.args.qs.now c.args.most) c.loop-p.p-index c.args.best c.loop-p.best
    (λ j lt p q v m. (contains_at c.args.ps.now p j (omega (arith, lt, end)) m.0, m.1, m.2))
    (λ p q v m. let at = place_in c.args.ps.now p m.0 in (at.0, (let lt : at.0 < length c.args.ps.now = at.1 in omega (arith, lt, end)), (at.2, m.1, m.2)))
    c.loop-p.invariant
