use Rattle.std.proofs.Common.{◌≡◌, sym, ap, ◌∙◌, subst, arith}
use Rattle.serde_json.specs.View.{view}
use Rattle.cpt_json_form.proofs.Counting.{plan_short}
use Rattle.cpt_json_form.specs.Reading.{IsValueOf}
use Rattle.cpt_json_form.specs.Values.{plan_value}
use Rattle.cpt_json_read.proofs.Wholes.{plan_is_judgeable, plan_is_short, plan_read, value_found}
use Rattle.cpt_json_read.proofs.plans.read_plan_json.Goals as goal

pub plan_of-requires : goal.plan_of-requires
plan_of-requires c =
    let is : view c.in-Some.value ≡ plan_value c.as_slice.result.now = c.in_ok-items.ensures ∙ ap plan_value (sym c.as_slice.ensures) in
    let short = plan_short c.args.text.now c.as_slice.result.now (subst (IsValueOf c.args.text.now) is (value_found c.args.text.now c.in_ok-value.field-0 c.in-Some.value c.in-Some.is c.in_ok-value.ensures)) in
    omega (arith, short, c.requires)

pub returns-clause-exact : goal.returns-clause-exact
returns-clause-exact c =
    let is : view c.in-Some.value ≡ plan_value c.as_slice.result.now = c.in_ok-items.ensures ∙ ap plan_value (sym c.as_slice.ensures) in
    plan_read c.args.task.now c.args.text.now (view c.in-Some.value) c.as_slice.result.now c.plan_of.result (value_found c.args.text.now c.in_ok-value.field-0 c.in-Some.value c.in-Some.is c.in_ok-value.ensures) is c.plan_of.ensures

pub returns-clause-short : goal.returns-clause-short
returns-clause-short c =
    let is : view c.in-Some.value ≡ plan_value c.as_slice.result.now = c.in_ok-items.ensures ∙ ap plan_value (sym c.as_slice.ensures) in
    let short = plan_short c.args.text.now c.as_slice.result.now (subst (IsValueOf c.args.text.now) is (value_found c.args.text.now c.in_ok-value.field-0 c.in-Some.value c.in-Some.is c.in_ok-value.ensures)) in
    plan_is_short c.args.task.now c.as_slice.result.now c.plan_of.result (omega (arith, short, c.requires)) c.plan_of.ensures

pub returns-clause-plan : goal.returns-clause-plan
returns-clause-plan c = plan_is_judgeable c.args.task.now c.as_slice.result.now c.plan_of.result c.plan_of.ensures
