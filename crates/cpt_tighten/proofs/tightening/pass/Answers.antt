use Rattle.std.proofs.Common.{◌≡◌, ◌<◌, false, length, Option, ap, ◌∙◌, arith, slice_index_or, slice_set}
use Rattle.std.proofs.lemmas.List.{get_or_default}
use Rattle.cpt_task.specs.Timeline.{action_of, occurrence_at}
use Rattle.cpt_tighten.specs.declared.agenda.Event.{Event}
use Rattle.cpt_tighten.specs.declared.moments.Finish.{Finish}
use Rattle.cpt_tighten.specs.Best.{finish_of}
use Rattle.cpt_tighten.specs.Links.{waiting}
use Rattle.cpt_tighten.specs.Records.{best_of, IsTaken}
use Rattle.cpt_tighten.proofs.Reading.{adders_within, pass_end, pass_start}
use Rattle.cpt_tighten.proofs.tightening.pass.Goals as goal

pub best_of-best-requires-clause-places : goal.best_of-best-requires-clause-places
best_of-best-requires-clause-places c =
    let within : c.args.k < length c.args.events.now = c.requires.within in
    adders_within c.args.task.now c.args.plan.now c.args.events.now c.args.k c.args.tight.now c.args.links.now c.args.records.now (omega (arith, within)) c.requires.underway

pub returns-then-event : goal.returns-then-event
returns-then-event c =
    let t = c.args.task.now in
    let none : Event = record { time = 0; starts = false; place = 0 } in
    let e : Event = slice_index_or c.args.events.now c.args.k (record { time = 0; starts = false; place = 0 }) in
    let best : c.best_of-best.result ≡ best_of t c.args.tight.now c.args.records.now (action_of t (occurrence_at c.args.plan.now e.place)) =
    c.best_of-best.ensures ∙ ap (best_of t c.args.tight.now c.args.records.now) c.action_at-action.ensures.action in
    pass_start t c.args.plan.now c.args.events.now c.args.k c.args.tight.now c.wait_for.new.tight c.args.links.now c.wait_for.new.links c.args.records.now e c.action_at-action.ensures.bounds c.requires.plan c.requires.underway
    c.requires.within (get_or_default c.args.events.now c.args.k none e c.requires.within) c.if-event.true
    (c.wait_for.ensures.tight ∙ ap (λ (b : Option Finish). slice_set c.args.tight.now e.place (waiting (occurrence_at c.args.tight.now e.place) b)) best)
    (c.wait_for.ensures.links ∙ ap (λ (b : Option Finish). slice_set c.args.links.now e.place b) best)

pub returns-else-event : goal.returns-else-event
returns-else-event c =
    let t = c.args.task.now in
    let none : Event = record { time = 0; starts = false; place = 0 } in
    let e : Event = slice_index_or c.args.events.now c.args.k (record { time = 0; starts = false; place = 0 }) in
    let taken : IsTaken c.args.records.now (action_of t (occurrence_at c.args.plan.now e.place)) (finish_of t c.args.tight.now e.place) (finish_of t c.args.plan.now e.place) c.take_end.new.records =
    rw (c.finish_at-now.ensures, c.finish_at-before.ensures, c.action_at-action.ensures.action) at c.take_end.ensures in
    pass_end t c.args.plan.now c.args.events.now c.args.k c.args.tight.now c.args.links.now c.args.records.now c.take_end.new.records e c.requires.underway c.requires.within
    (get_or_default c.args.events.now c.args.k none e c.requires.within) c.if-event.false taken
