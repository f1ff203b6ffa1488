use Rattle.std.proofs.Common.{◌≡◌, ◌++◌, ◌<◌, All, take, drop}
use Rattle.cpt_task.specs.Timeline.{end_of}
use Rattle.cpt_task.specs.Register.{marks_of}
use Rattle.cpt_task.proofs.register.all_marks.Given as goal

abbrev pub invariant-loop-o : goal.invariant-loop-o
invariant-loop-o l = record {
  marks : l.marks.items ++ marks_of l.task l.role l.border (drop l.o-index l.plan) ≡ marks_of l.task l.role l.border l.plan;
  lasting : All (λ o. o.start < end_of l.task o) (take l.o-index l.plan);
}
