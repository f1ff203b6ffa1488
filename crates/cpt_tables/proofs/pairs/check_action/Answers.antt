use Rattle.std.proofs.Common.{◌⊎◌}
use Rattle.cpt_tables.specs.Admissible.{nth_action, limit_by_one}
use Rattle.cpt_tables.specs.Scans.{ScansPairs, IsAmongBoth, IsBesideAny, IsOfPartner}
use Rattle.cpt_tables.proofs.PairScans.{pairs_same, pairs_both}
use Rattle.cpt_tables.proofs.pairs.check_action.Goals as goal

pub returns : goal.returns
returns c =
    let h = c.args.pairs.now in
    let a = nth_action c.args.task.now c.args.act in
    let one : ScansPairs h (IsAmongBoth a.add a.add (limit_by_one h a)) c.args.best c.check_product-first.result =
    (pairs_same h (IsAmongBoth c.as_slice-adds.result.now c.as_slice-adds.result.now c.limit_of_one.result) (IsAmongBoth a.add a.add (limit_by_one h a)) c.args.best c.check_product-first.result
    (λ p q v m. rw (c.as_slice-adds.ensures.items, c.limit_of_one.ensures, c.served_action-c.ensures.action) at m)
    (λ p q v m. rw (c.as_slice-adds.ensures.items, c.limit_of_one.ensures, c.served_action-c.ensures.action) m)
    c.check_product-first.ensures) in
    let beside : ScansPairs h (IsBesideAny h a) c.check_product-first.result c.check_beside-second.result = rw (c.served_action-c.ensures.action) at c.check_beside-second.ensures in
    pairs_both h (λ p q v. IsAmongBoth a.add a.add (limit_by_one h a) p q v ⊎ IsBesideAny h a p q v) (IsOfPartner c.args.task.now h c.args.act) c.args.best c.check_beside-second.result c.check_partners.result
    (pairs_both h (IsAmongBoth a.add a.add (limit_by_one h a)) (IsBesideAny h a) c.args.best c.check_product-first.result c.check_beside-second.result one beside)
    c.check_partners.ensures
