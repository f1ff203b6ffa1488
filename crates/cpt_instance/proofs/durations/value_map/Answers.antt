use Rattle.std.proofs.Common.{◌≡◌, ◌∙◌, ◌∷◌, List, length, arith, ap, subst, take}
use Rattle.std.proofs.Math.Seq.{take-length}
use Rattle.cpt_facts.specs.declared.problem.Valued.{Valued}
use Rattle.cpt_instance.specs.Durations.{HasValues}
use Rattle.cpt_instance.proofs.MapLemmas.{has_more}
use Rattle.cpt_instance.proofs.durations.value_map.Goals as goal

pub loop-value-preserved : goal.loop-value-preserved
loop-value-preserved c =
    has_more c.args.values.now c.loop-value.value-index c.value-item.result c.loop-value.map c.insert.new.self c.in_ok-key.key
    (omega arith) c.value-item.is (c.in_ok-key.ensures ∙ ap (λ xs. c.value-item.result.func ∷ xs) c.as_slice.ensures)
    c.in_ok-insert.ensures.updates c.loop-value.invariant

pub returns : goal.returns
returns c =
    let all : take c.loop-value.value-index c.args.values.now ≡ c.args.values.now =
    ap (λ n. take n c.args.values.now) (let v : c.loop-value.value-index ≡ length c.args.values.now = omega arith in v) ∙ take-length c.args.values.now in
    subst (λ (xs : List Valued). HasValues xs c.loop-value.map) all c.loop-value.invariant
