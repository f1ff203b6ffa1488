use Rattle.std.proofs.Common.{◌≡◌, ◌<◌, ℕ, length, get_or, arith}
use Rattle.cpt_tables.specs.Scans.{IsAtomOne, IsAtomAmong}
use Rattle.cpt_tables.proofs.AtomScans.{atoms_start, atoms_more, atoms_same}
use Rattle.cpt_tables.proofs.ListLemmas.{place_in, contains_at}
use Rattle.cpt_tables.proofs.dists.check_atoms.Goals as goal

pub loop-p-init : goal.loop-p-init
loop-p-init c = atoms_start c.args.dists.now c.args.act (λ j. IsAtomOne (get_or c.args.ps.now j 0) c.args.most) c.args.best

pub loop-p-preserved : goal.loop-p-preserved
loop-p-preserved c = atoms_more c.args.dists.now c.args.act (λ j. IsAtomOne (get_or c.args.ps.now j 0) c.args.most) c.loop-p.p-index c.args.best c.loop-p.best c.check_atom-best.result c.loop-p.invariant c.check_atom-best.ensures

pub returns : goal.returns
returns c =
    let end : length c.args.ps.now ≡ c.loop-p.p-index = omega arith in
    atoms_same c.args.dists.now c.args.act (λ k v. (j : ℕ) × (j < c.loop-p.p-index) × IsAtomOne (get_or c.args.ps.now j 0) c.args.most k v) (IsAtomAmong c.args.ps.now c.args.most) c.args.best c.loop-p.best
    (λ k v m. (contains_at c.args.ps.now k m.0 (let lt : m.0 < c.loop-p.p-index = m.1 in omega (arith, lt, end)) m.2.0, m.2.1))
    (λ k v m. let at = place_in c.args.ps.now k m.0 in (at.0, (let lt : at.0 < length c.args.ps.now = at.1 in omega (arith, lt, end)), (at.2, m.1)))
    c.loop-p.invariant
