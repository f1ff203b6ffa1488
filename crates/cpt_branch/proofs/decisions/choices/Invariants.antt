use Rattle.std.proofs.Common.{◌≡◌, map, take}
use Rattle.cpt_sheet.specs.View.{cands}
use Rattle.cpt_calculus.specs.Flaws.{choice}
use Rattle.cpt_branch.proofs.decisions.choices.Given as goal

abbrev pub invariant-loop-place : goal.invariant-loop-place
invariant-loop-place l = l.made.items ≡ map (choice l.x l.p) (take l.place (cands l.store.sheet l.x l.p))
