use Rattle.std.proofs.Common.{◌≡◌, true, ap, ◌∙◌}
use Rattle.std.proofs.lemmas.Result.{IfOk-weaker}
use Rattle.serde_json.specs.Data.{string}
use Rattle.serde_json.specs.View.{view}
use Rattle.cpt_task.specs.declared.task.Action.{Action}
use Rattle.cpt_line.specs.Names.{is_name}
use Rattle.cpt_json_form.specs.Values.{action_value, numbers_value}
use Rattle.cpt_json_write.proofs.Arrays.{all_unmapped, task_is, written}
use Rattle.cpt_json_write.proofs.tasks.value_of.Goals as goal

pub returns : goal.returns
returns c =
    let t = c.args.task.now in
    IfOk-weaker c.task_object.result _ _
    (λ v is plain. task_is t (view v) (view c.in_ok-actions.actions) (view c.in_ok-atoms.atoms) (view c.in_ok-goal.goal) (view c.in_ok-init.init) is
    (written action_value (λ (a : Action). is_name a.name ≡ true) c.actions.result.now t.actions (view c.in_ok-actions.actions) c.actions.ensures.value c.in_ok-actions.ensures (all_unmapped (λ n. is_name n ≡ true) (λ (a : Action). a.name) t.actions plain.actions.legal))
    (written string (λ n. is_name n ≡ true) c.atoms.result.now t.atoms (view c.in_ok-atoms.atoms) c.atoms.ensures.value c.in_ok-atoms.ensures plain.atoms.legal) (c.in_ok-goal.ensures (λ k d lt. tt) ∙ ap numbers_value c.goal.ensures.value)
    (c.in_ok-init.ensures (λ k d lt. tt) ∙ ap numbers_value c.init.ensures.value)) c.task_object.ensures
