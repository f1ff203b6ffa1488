use Rattle.std.proofs.Common.{Bool, true, false, MatchBool, refl}
use Rattle.std.proofs.lemmas.Bool.{both_ways}
use Rattle.std.specs.List.{Contains}
use Rattle.cpt_tables.specs.Admissible.{CanHoldWith}
use Rattle.cpt_tables.proofs.dists.stays.Goals as goal

-- where the first fact holds, a test of the second decides both
and_match : (P Q : Type 0) (b : Bool) → P → MatchBool b Q (Q → ⊥) → MatchBool b (P × Q) (P × Q → ⊥)
and_match P Q true p m = (p, m)
and_match P Q false p m = λ h. m h.1

pub returns-then-not-has : goal.returns-then-not-has
returns-then-not-has c =
    and_match (Contains c.args.a.now.dele c.args.p → ⊥) (CanHoldWith c.args.pairs.now c.args.p c.args.a.now.add) c.can_hold_with.result (λ k. both_ways false refl (c.if-not-has.ensures.1 k)) (rw (c.as_slice.ensures.items) at c.can_hold_with.ensures)
