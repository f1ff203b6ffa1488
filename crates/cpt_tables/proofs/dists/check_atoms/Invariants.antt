use Rattle.std.proofs.Common.{get_or}
use Rattle.cpt_tables.specs.Scans.{IsAtomOne}
use Rattle.cpt_tables.proofs.AtomScans.{AtomsFirst}
use Rattle.cpt_tables.proofs.dists.check_atoms.Given as goal

abbrev pub invariant-loop-p : goal.invariant-loop-p
invariant-loop-p l = AtomsFirst l.dists l.act (λ j. IsAtomOne (get_or l.ps j 0) l.most) l.p-index l.initial.best l.best
