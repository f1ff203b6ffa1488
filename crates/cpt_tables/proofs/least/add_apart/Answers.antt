use Rattle.std.proofs.Common.{◌≡◌, ◌↔◌, Bool, true, false, not, IsTrue, MatchBool, refl}
use Rattle.cpt_task.specs.Interference.{Interferes}
use Rattle.cpt_tables.specs.Scans.{AddBoth}
use Rattle.cpt_tables.proofs.least.add_apart.Goals as goal

-- where the first fact holds, a test that the second fails decides both
and_not : {P Q : Type 0} (b : Bool) → P → (IsTrue b ↔ Q) → MatchBool (not b) (P × (Q → ⊥)) (P × (Q → ⊥) → ⊥)
and_not true p iff = λ m. m.1 (iff.0 refl)
and_not false p iff = (p, λ q. let e : false ≡ true = iff.1 q in absurd (let z : ⊥ = cc e in z))

pub returns-then-add_both : goal.returns-then-add_both
returns-then-add_both c =
    and_not {P = AddBoth c.args.c.now c.args.d.now c.args.p c.args.q} {Q = Interferes c.args.c.now c.args.d.now} c.interfere.result c.if-add_both.ensures c.interfere.ensures
