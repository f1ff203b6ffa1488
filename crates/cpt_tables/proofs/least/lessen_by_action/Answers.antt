use Rattle.std.proofs.Common.{◌⊎◌}
use Rattle.cpt_tables.specs.Admissible.{nth_action}
use Rattle.cpt_tables.specs.Scans.{Lessens, IsOneHere, IsBesideHere, IsPartnerHere}
use Rattle.cpt_tables.proofs.LessenLemmas.{lessens_both}
use Rattle.cpt_tables.proofs.least.lessen_by_action.Goals as goal

pub returns : goal.returns
returns c =
    let h = c.args.pairs.now in
    let a = nth_action c.args.task.now c.args.act in
    let one : Lessens (IsOneHere h a c.args.p c.args.q) c.args.least c.lessen_by_one-one.result = rw (c.served_action-c.ensures.action) at c.lessen_by_one-one.ensures in
    let beside : Lessens (IsBesideHere h a c.args.p c.args.q) c.lessen_by_one-one.result c.lessen_beside-beside.result = rw (c.served_action-c.ensures.action) at c.lessen_beside-beside.ensures in
    let exchanged : Lessens (IsBesideHere h a c.args.q c.args.p) c.lessen_beside-beside.result c.lessen_beside-exchanged.result = rw (c.served_action-c.ensures.action) at c.lessen_beside-exchanged.ensures in
    lessens_both (λ v. (IsOneHere h a c.args.p c.args.q v ⊎ IsBesideHere h a c.args.p c.args.q v) ⊎ IsBesideHere h a c.args.q c.args.p v) (IsPartnerHere c.args.task.now h c.args.act c.args.p c.args.q) c.args.least c.lessen_beside-exchanged.result c.lessen_by_partners.result
    (lessens_both (λ v. IsOneHere h a c.args.p c.args.q v ⊎ IsBesideHere h a c.args.p c.args.q v) (IsBesideHere h a c.args.q c.args.p) c.args.least c.lessen_beside-beside.result c.lessen_beside-exchanged.result
    (lessens_both (IsOneHere h a c.args.p c.args.q) (IsBesideHere h a c.args.p c.args.q) c.args.least c.lessen_by_one-one.result c.lessen_beside-beside.result one beside) exchanged)
    c.lessen_by_partners.ensures
