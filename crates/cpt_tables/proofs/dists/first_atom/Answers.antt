use Rattle.std.proofs.Common.{◌≡◌, ◌<◌, ℕ, None, List, length, ap, arith}
use Rattle.cpt_task.specs.declared.task.Action.{Action}
use Rattle.cpt_tables.specs.Admissible.{nth_action}
use Rattle.cpt_tables.specs.Scans.{ScansAtoms, IsAtomAmong, IsAfterHere, IsZeroHere}
use Rattle.cpt_tables.proofs.AtomScans.{atoms_more, atoms_same, atoms_both}
use Rattle.cpt_tables.proofs.dists.first_atom.Goals as goal

pub loop-j-preserved : goal.loop-j-preserved
loop-j-preserved c =
    atoms_more c.args.dists.now c.args.act (λ j. IsAfterHere c.args.dists.now c.args.act (nth_action c.args.task.now j)) c.loop-j.j c.first_late-best.result c.loop-j.best c.check_atoms-best.result c.loop-j.invariant
    (atoms_same c.args.dists.now c.args.act (IsAtomAmong c.as_slice.result.now c.limit_after.result) (IsAfterHere c.args.dists.now c.args.act (nth_action c.args.task.now c.loop-j.j)) c.loop-j.best c.check_atoms-best.result
    (λ k v m. rw (c.as_slice.ensures.items, c.limit_after.ensures, c.served_action-c.ensures.action) at m)
    (λ k v m. rw (c.as_slice.ensures.items, c.limit_after.ensures, c.served_action-c.ensures.action) m)
    c.check_atoms-best.ensures)

pub returns-clause-found : goal.returns-clause-found
returns-clause-found c =
    let count : length c.actions-count.result.now ≡ length c.args.task.now.actions = ap (λ (xs : List Action). length xs) c.actions-count.ensures.value in
    let end : length c.args.task.now.actions ≡ c.loop-j.j = omega (arith, count, c.loop-j-test.false, c.loop-j.auto.j-end) in
    let zero : ScansAtoms c.args.dists.now c.args.act (IsZeroHere c.args.pairs.now (nth_action c.args.task.now c.args.act)) None c.first_late-best.result = rw (c.served_action.ensures.action) at c.first_late-best.ensures in
    atoms_both c.args.dists.now c.args.act (IsZeroHere c.args.pairs.now (nth_action c.args.task.now c.args.act)) (λ k v. (j : ℕ) × (j < length c.args.task.now.actions) × IsAfterHere c.args.dists.now c.args.act (nth_action c.args.task.now j) k v) None c.first_late-best.result c.loop-j.best
    zero
    (atoms_same c.args.dists.now c.args.act (λ k v. (j : ℕ) × (j < c.loop-j.j) × IsAfterHere c.args.dists.now c.args.act (nth_action c.args.task.now j) k v) (λ k v. (j : ℕ) × (j < length c.args.task.now.actions) × IsAfterHere c.args.dists.now c.args.act (nth_action c.args.task.now j) k v) c.first_late-best.result c.loop-j.best
    (λ k v m. (m.0, (let lt : m.0 < c.loop-j.j = m.1 in omega (arith, lt, end)), m.2))
    (λ k v m. (m.0, (let lt : m.0 < length c.args.task.now.actions = m.1 in omega (arith, lt, end)), m.2))
    c.loop-j.invariant)
