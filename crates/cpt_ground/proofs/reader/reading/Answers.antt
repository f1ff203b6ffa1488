use Rattle.std.proofs.Common.{◌≡◌, List, length, ap, arith, subst, sym}
use Rattle.std.specs.Prelude.{All}
use Rattle.std.proofs.lemmas.Slice.Zip.{AllZip-long}
use Rattle.cpt_facts.specs.declared.problem.Valued.{Valued}
use Rattle.cpt_instance.specs.declared.instances.Instance.{Instance}
use Rattle.cpt_instance.specs.Durations.{HasValues}
use Rattle.cpt_instance.specs.Instances.{IsInstance}
use Rattle.cpt_ground.specs.Reading.{IsActionOf}
use Rattle.cpt_ground.proofs.ReadingLemmas.{each_instance}
use Rattle.cpt_ground.proofs.reader.reading.Goals as goal

pub instances_of-requires-clause-mapped : goal.instances_of-requires-clause-mapped
instances_of-requires-clause-mapped c = subst (λ (values : List Valued). HasValues values c.in_ok-values.values) c.as_slice.ensures c.in_ok-values.ensures

pub actions_of-requires-clause-mapped : goal.actions_of-requires-clause-mapped
actions_of-requires-clause-mapped c = subst (λ (values : List Valued). HasValues values c.in_ok-values.values) c.as_slice.ensures c.in_ok-values.ensures

pub actions_of-requires-clause-instances : goal.actions_of-requires-clause-instances
actions_of-requires-clause-instances c =
    subst (λ (xs : List Instance). All (IsInstance c.args.domain.now c.args.problem.now) xs) (sym c.as_slice-2.ensures)
    (each_instance c.args.domain.now c.args.problem.now c.in_ok-instances.instances c.in_ok-instances.ensures.exact.1)

pub returns-clause-few : goal.returns-clause-few
returns-clause-few c =
    let size : length c.in_ok-actions_of.field-0 ≡ length c.as_slice-2.result.now =
    AllZip-long (IsActionOf c.args.domain.now c.args.problem.now) c.as_slice-2.result.now c.in_ok-actions_of.field-0 c.in_ok-actions_of.ensures in
    let same : length c.as_slice-2.result.now ≡ length c.in_ok-instances.instances = ap (length {A = Instance}) c.as_slice-2.ensures in
    omega (arith, c.in_ok-instances.ensures.few)
