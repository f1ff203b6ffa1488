use Rattle.std.proofs.Common.{◌≡◌, ℕ, List, Bor, All, false, map, take}
use Rattle.std.specs.List.{AllZip}
use Rattle.cpt_thin.specs.Fates.{is_dropped}
use Rattle.cpt_trim.specs.Fates.{Befits}
use Rattle.cpt_trim.proofs.fates.first_fates.Given as goal

abbrev pub invariant-loop-body : goal.invariant-loop-body
invariant-loop-body l = record {
  befit : AllZip Befits l.fates.items (take l.body-index (map (λ (b : Bor (List ℕ)). b.now) l.bodies));
  left : All (λ f. is_dropped f ≡ false) l.fates.items;
}
