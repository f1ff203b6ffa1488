use Rattle.cpt_instance.proofs.ValueLemmas.{of_value}
use Rattle.cpt_instance.proofs.bindings.duration_of.Goals as goal

pub returns-in-Value : goal.returns-in-Value
returns-in-Value c =
    of_value c.args.problem.now c.args.args.now c.args.dur.now c.in-Value.func _ _ _ c.value_for.result
    c.in-Value.is c.as_slice.ensures c.as_slice-in-Value.ensures c.value_for.ensures
