use Rattle.std.proofs.Common.{ℕ, ◌<◌, get_or}
use Rattle.cpt_sheet.specs.declared.data.Cand.{Cand}
use Rattle.cpt_sheet.specs.Gaps.{IsImpossibleBeside}
use Rattle.cpt_calculus.proofs.rules.are_impossible.Given as goal

abbrev pub invariant-loop-d : goal.invariant-loop-d
invariant-loop-d l = (k : ℕ) (e : Cand) → k < l.d-index → IsImpossibleBeside l.task l.tables l.sheet l.p l.q l.c (get_or l.list k e)
