use Rattle.std.proofs.Common.{◌≡◌, ◌∙◌, List, ap, min, refl, subst, sym, length, arith}
use Rattle.cpt_instance.specs.Choices.{schemas_total}
use Rattle.cpt_instance.specs.Instances.{AreInstances, Instance, type_correct_lists}
use Rattle.cpt_instance.proofs.InstanceLemmas.{counted, listed, total_here}
use Rattle.cpt_instance.proofs.listing.instances_of.Goals as goal

pub returns-then-schemas_count-gt-INSTANCE_LIMIT-clause-exact : goal.returns-then-schemas_count-gt-INSTANCE_LIMIT-clause-exact
returns-then-schemas_count-gt-INSTANCE_LIMIT-clause-exact c =
    let n : c.schemas_count.result ≡ min (type_correct_lists c.args.domain.now c.args.problem.now) 1000001 =
    counted c.args.domain.now c.args.problem.now c.in_ok-types.types c.deref.result.now c.as_slice-schemas.result.now c.schemas_count.result
    c.in_ok-types.ensures (c.deref.ensures.value ∙ c.in_ok-kinds.ensures) c.as_slice-schemas.ensures c.schemas_count.ensures in
    (refl, omega arith)

pub returns-clause-exact : goal.returns-clause-exact
returns-clause-exact c =
    let n : c.schemas_count.result ≡ min (type_correct_lists c.args.domain.now c.args.problem.now) 1000001 =
    counted c.args.domain.now c.args.problem.now c.in_ok-types.types c.deref.result.now c.as_slice-schemas.result.now c.schemas_count.result
    c.in_ok-types.ensures (c.deref.ensures.value ∙ c.in_ok-kinds.ensures) c.as_slice-schemas.ensures c.schemas_count.ensures in
    let all : AreInstances c.args.domain.now c.args.problem.now c.in_ok-of_schemas.field-0.items =
    listed c.args.domain.now c.args.problem.now c.args.values.now c.in_ok-types.types c.deref-2.result.now c.as_slice-schemas.result.now c.in_ok-of_schemas.field-0.items
    c.in_ok-types.ensures (c.deref-2.ensures.value ∙ c.in_ok-kinds.ensures) c.as_slice-schemas.ensures c.requires.mapped c.in_ok-of_schemas.ensures.all in
    (omega arith, subst (λ (xs : List Instance). AreInstances c.args.domain.now c.args.problem.now xs) (sym c.from_vec.ensures) all)

pub returns-clause-few : goal.returns-clause-few
returns-clause-few c =
    let total : schemas_total c.in_ok-types.types c.deref-2.result.now c.as_slice-schemas.result.now
    ≡ type_correct_lists c.args.domain.now c.args.problem.now =
    total_here c.args.domain.now c.args.problem.now c.in_ok-types.types c.deref-2.result.now c.as_slice-schemas.result.now
    c.in_ok-types.ensures (c.deref-2.ensures.value ∙ c.in_ok-kinds.ensures) c.as_slice-schemas.ensures in
    let n : c.schemas_count.result ≡ min (type_correct_lists c.args.domain.now c.args.problem.now) 1000001 =
    counted c.args.domain.now c.args.problem.now c.in_ok-types.types c.deref.result.now c.as_slice-schemas.result.now c.schemas_count.result
    c.in_ok-types.ensures (c.deref.ensures.value ∙ c.in_ok-kinds.ensures) c.as_slice-schemas.ensures c.schemas_count.ensures in
    let same : length c.from_vec.result ≡ length c.in_ok-of_schemas.field-0.items = ap (length {A = Instance}) c.from_vec.ensures in
    omega (arith, c.in_ok-of_schemas.ensures.few)
