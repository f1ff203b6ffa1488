use Rattle.std.proofs.Common.{ap, ◌∙◌}
use Rattle.std.proofs.lemmas.Result.{IfOk-weaker}
use Rattle.serde_json.specs.Data.{string}
use Rattle.serde_json.specs.View.{view}
use Rattle.cpt_line.specs.Names.{is_name}
use Rattle.cpt_json_form.specs.Values.{numbers_value}
use Rattle.cpt_json_write.proofs.Arrays.{action_is}
use Rattle.cpt_json_write.proofs.tasks.ActionToJson.to_json.Goals as goal

pub returns : goal.returns
returns c =
    IfOk-weaker c.action_object.result _ _
    (λ v is named. action_is c.args.self.now (view v) (view c.in_ok-add.add) (view c.in_ok-del.del) (view c.in_ok-name.name) (view c.in_ok-pre.pre) is (c.in_ok-add.ensures (λ k d lt. tt) ∙ ap numbers_value c.as_slice.ensures.items)
    (c.in_ok-del.ensures (λ k d lt. tt) ∙ ap numbers_value c.as_slice-2.ensures.items) (c.in_ok-name.ensures (ap is_name c.as_slice-3.ensures ∙ named) ∙ ap string c.as_slice-3.ensures) (c.in_ok-pre.ensures (λ k d lt. tt) ∙ ap numbers_value c.as_slice-4.ensures.items))
    c.action_object.ensures
