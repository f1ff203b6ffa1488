use Rattle.cpt_tables.specs.Scans.{IsWithOne, IsBesideOne}
use Rattle.cpt_tables.proofs.PairScans.{pairs_same}
use Rattle.cpt_tables.proofs.pairs.check_beside_one.Goals as goal

pub returns-then-leaves : goal.returns-then-leaves
returns-then-leaves c =
    pairs_same c.args.pairs.now (IsWithOne c.args.q c.as_slice.result.now c.limit_with.result) (IsBesideOne c.args.pairs.now c.args.c.now c.args.q) c.args.best c.check_row.result
    (λ p q v m. (c.if-leaves.ensures, rw (c.as_slice.ensures.items, c.limit_with.ensures) at m))
    (λ p q v m. rw (c.as_slice.ensures.items, c.limit_with.ensures) m.1)
    c.check_row.ensures
