use Rattle.std.proofs.Common.{inl, inr, Err, ap, ◌∙◌}
use Rattle.cpt_json_form.specs.declared.errors.JsonPlanError.TheVariants.{Duration}
use Rattle.cpt_json_form.specs.Reading.{lasts}
use Rattle.cpt_json_read.proofs.Wholes.{same_item_at}
use Rattle.cpt_json_read.proofs.plans.plan_of.Goals as goal

pub returns-in-Some-first_mistimed : goal.returns-in-Some-first_mistimed
returns-in-Some-first_mistimed c =
    let bad = c.in-Some-first_mistimed.ensures in
    let place = c.in-Some-first_mistimed.place in
    let same = same_item_at c.args.items.now place c.index-items-place.result bad.first c.index-items-place.is bad.here in
    inl (c.in_default.ensures, inl (c.if-not-start_early.ensures, inr (place, bad, ap (λ n. Err (Duration place n)) (c.lasts.ensures ∙ ap (lasts c.args.task.now) same))))
