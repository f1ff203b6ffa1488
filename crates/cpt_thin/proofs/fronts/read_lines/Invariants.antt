use Rattle.std.proofs.Common.{ℕ, List, Bor, map, take}
use Rattle.std.specs.List.{AllZip}
use Rattle.cpt_cert_form.specs.Forms.{IsReadAs}
use Rattle.cpt_thin.proofs.fronts.read_lines.Given as goal

abbrev pub invariant-loop-body : goal.invariant-loop-body
invariant-loop-body l = AllZip IsReadAs (take l.body-index (map (λ (b : Bor (List ℕ)). b.now) l.bodies)) l.lines.items
