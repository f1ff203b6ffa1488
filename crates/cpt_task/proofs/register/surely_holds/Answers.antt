use Rattle.std.proofs.Common.{◌≡◌, true, leb-true, subst}
use Rattle.cpt_task.specs.Timeline.{is_in}
use Rattle.cpt_task.proofs.Holding.{holds_from_init, holds_unless_deleted, holds_after_deleted}
use Rattle.cpt_task.proofs.register.surely_holds.Goals as goal

pub returns-in-None-None : goal.returns-in-None-None
returns-in-None-None c =
    let none = rw c.in-None-None.is-0 at c.last_end.ensures in
    λ there. holds_from_init c.args.task.now c.args.plan.now c.args.times.now.dele.ends.items c.args.p c.args.time c.requires.times.dele.ends none (subst (λ xs. is_in c.args.p xs ≡ true) c.init.ensures.value (c.is_found.ensures there))

pub returns-in-None-Some : goal.returns-in-None-Some
returns-in-None-Some c =
    let none = rw c.in-None-Some.is-0 at c.last_end.ensures in
    λ there. holds_unless_deleted c.args.task.now c.args.plan.now c.args.times.now.dele.ends.items c.args.times.now.add.ends.items c.args.p c.args.time c.in-None-Some.field-0-1 c.requires.times.dele.ends c.requires.times.add.ends c.in-None-Some.ensures none

pub returns-in-Some-Some : goal.returns-in-Some-Some
returns-in-Some-Some c =
    λ there. holds_after_deleted c.args.task.now c.args.plan.now c.args.times.now.dele.ends.items c.args.times.now.add.ends.items c.args.p c.args.time c.in-Some-Some.came c.in-Some-Some.gone c.requires.times.dele.ends c.requires.times.add.ends c.in-Some-Some.ensures' c.in-Some-Some.ensures (leb-true _ _ there)
