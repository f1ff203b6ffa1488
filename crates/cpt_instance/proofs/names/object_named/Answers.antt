use Rattle.std.proofs.Common.{refl}
use Rattle.cpt_instance.proofs.Objects.{in_constants, in_objects}
use Rattle.cpt_instance.proofs.names.object_named.Goals as goal

pub returns-in-Some : goal.returns-in-Some
returns-in-Some c = in_constants c.args.domain.now c.args.problem.now c.as_slice-constants.result.now c.args.word.now c.in-Some.object c.as_slice-constants.ensures c.in-Some.ensures

pub returns-in-None : goal.returns-in-None
returns-in-None c =
    in_objects c.args.domain.now c.args.problem.now c.as_slice-constants.result.now c.as_slice.result.now c.args.word.now _ c.named-in-None.result
    c.as_slice-constants.ensures c.as_slice.ensures refl c.in-None.ensures c.named-in-None.ensures
