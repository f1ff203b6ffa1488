-- no step loses a plan
use Rattle.cpt_calculus.specs.Rules.{change_of}
use Rattle.cpt_soundness.specs.Laws.{NarrowKeeps}
use Rattle.cpt_soundness.proofs.AdmitLemmas.{admit_change}
use Rattle.cpt_soundness.proofs.RuleLemmas.{safe}

pub narrow_keeps : NarrowKeeps
narrow_keeps t b s step plan f ok formed legal valid h = admit_change t plan f s (change_of s step) h (safe t b plan ok valid f s formed h step legal.allowed)
