use Rattle.std.proofs.Common.{◌≡◌, ◌<◌, arith}
use Rattle.cpt_tables.specs.Scans.{IsBesideOne, IsBesideAny}
use Rattle.cpt_tables.proofs.PairScans.{first_start, first_more, first_all}
use Rattle.cpt_tables.proofs.pairs.check_beside.Goals as goal

pub loop-q-init : goal.loop-q-init
loop-q-init c = first_start c.args.pairs.now (λ j. IsBesideOne c.args.pairs.now c.args.c.now j) c.args.best

pub loop-q-preserved : goal.loop-q-preserved
loop-q-preserved c = first_more c.args.pairs.now (λ j. IsBesideOne c.args.pairs.now c.args.c.now j) c.loop-q.q c.args.best c.loop-q.best c.check_beside_one-best.result c.loop-q.invariant c.check_beside_one-best.ensures

pub returns : goal.returns
returns c =
    let end : c.args.pairs.now.atoms ≡ c.loop-q.q = omega (arith, c.atoms-q-end.ensures.value, c.loop-q-test.false, c.loop-q.auto.q-end) in
    first_all c.args.pairs.now (λ j. IsBesideOne c.args.pairs.now c.args.c.now j) (IsBesideAny c.args.pairs.now c.args.c.now) c.loop-q.q c.args.best c.loop-q.best
    (λ j lt p q v m. (j, omega (arith, lt, end), m))
    (λ p q v m. (m.0, (let lt : m.0 < c.args.pairs.now.atoms = m.1 in omega (arith, lt, end)), m.2))
    c.loop-q.invariant
