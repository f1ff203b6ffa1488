use Rattle.cpt_plan_files.proofs.Writing.{whole_text}
use Rattle.cpt_plan_files.proofs.text.tight_text.Goals as goal

pub returns : goal.returns
returns c =
    whole_text c.args.task.now c.args.plan.now c.in_ok-tight.tight.plan c.in_ok-tight.tight.chain c.in_ok-text.text.items c.in_ok-makespan.makespan.items c.in_ok-critical.critical.items c.extend_from_slice.new.self.items
    c.extend_from_slice-2.new.self.items c.in_ok-tight.tight.makespan c.in_ok-tight.ensures.plan c.in_ok-tight.ensures.chain c.in_ok-tight.ensures.makespan (rw c.as_slice.ensures at c.in_ok-text.ensures) c.in_ok-makespan.ensures
    (rw (c.as_slice-2.ensures, c.as_slice-3.ensures) at c.in_ok-critical.ensures) (rw c.deref.ensures.value at c.in_ok-extend_from_slice.ensures.items) (rw c.deref-2.ensures.value at c.in_ok-extend_from_slice-2.ensures.items)
