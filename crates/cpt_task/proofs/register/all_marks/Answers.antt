use Rattle.std.proofs.Common.{◌<◌, arith}
use Rattle.std.proofs.lemmas.List.Elements.{All-more}
use Rattle.cpt_task.specs.declared.plan.Occ.{Occ}
use Rattle.cpt_task.specs.Timeline.{end_of, occurrence_at}
use Rattle.cpt_task.proofs.Order.{all_of_taken}
use Rattle.cpt_task.proofs.Counting.{step_marks}
use Rattle.cpt_task.proofs.register.all_marks.Goals as goal

pub loop-o-preserved : goal.loop-o-preserved
loop-o-preserved c =
    let idle : Occ = record { act = 0; start = 0 } in
    let noted = rw (c.moment_at.ensures, c.atoms_of.ensures, c.action_at.ensures.action) at c.in_ok-note.ensures in
    let lasts : (occurrence_at c.args.plan.now c.loop-o.o-index).start < end_of c.args.task.now (occurrence_at c.args.plan.now c.loop-o.o-index) = omega (arith, c.action_at.ensures.duration.0) in
    record {
      marks = step_marks c.args.task.now c.args.role c.args.border c.args.plan.now c.loop-o.o-index idle c.loop-o.marks.items c.note.new.marks.items c.loop-o-test.true noted c.loop-o.invariant.marks;
      lasting = All-more (λ o. o.start < end_of c.args.task.now o) c.args.plan.now c.loop-o.o-index idle c.loop-o-test.true c.loop-o.invariant.lasting lasts;
    }

pub returns-clause-lasting : goal.returns-clause-lasting
returns-clause-lasting c = all_of_taken (λ o. o.start < end_of c.args.task.now o) c.args.plan.now c.loop-o.o-index c.loop-o-test.false c.loop-o.invariant.lasting
