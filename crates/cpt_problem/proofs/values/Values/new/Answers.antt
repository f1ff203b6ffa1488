use Rattle.cpt_problem.proofs.KeyLemmas.{keys_none}
use Rattle.cpt_problem.proofs.values.Values.new.Goals as goal

pub invariant_of-result : goal.invariant_of-result
invariant_of-result c = record { keys = keys_none c.new.result.items c.new-2.result.keys c.new.ensures.items c.new-2.ensures.empty }
