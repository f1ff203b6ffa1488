use Rattle.cpt_plan_text.proofs.FaultOrder.{faults_first, late_faults_next, faultless_read}
use Rattle.cpt_plan_text.proofs.laws.faults_come_in_order.Goals as goal

pub returns-clause-first : goal.returns-clause-first
returns-clause-first c = faults_first

pub returns-clause-second : goal.returns-clause-second
returns-clause-second c = late_faults_next

pub returns-clause-none : goal.returns-clause-none
returns-clause-none c = faultless_read
