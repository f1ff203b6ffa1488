use Rattle.cpt_json_form.specs.Reading.{NamesAction}
use Rattle.cpt_json_read.proofs.Firsts.{HoldsBefore}
use Rattle.cpt_json_read.proofs.plans.first_unknown.Given as goal

abbrev pub invariant-loop-k : goal.invariant-loop-k
invariant-loop-k l = HoldsBefore (NamesAction l.task) l.items l.k
