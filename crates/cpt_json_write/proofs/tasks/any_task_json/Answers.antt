use Rattle.std.proofs.Common.{◌≤◌, Some, sym, ap, ◌∙◌, subst}
use Rattle.serde_json.specs.Data.{depth}
use Rattle.serde_json.specs.Read.{max_depth}
use Rattle.serde_json.specs.Written.{compact_text, has_float}
use Rattle.cpt_json_form.proofs.Plain.{plain_is_read}
use Rattle.cpt_json_form.proofs.Texts.{flat_task, whole_task}
use Rattle.cpt_json_write.proofs.tasks.any_task_json.Goals as goal

pub returns-clause-text : goal.returns-clause-text
returns-clause-text c =
    λ plain.
    let seen = c.in_ok-value.ensures plain in
    c.in_ok-to_vec.ensures.text (ap has_float seen ∙ whole_task c.args.task.now) ∙ ap compact_text seen

pub returns-clause-again : goal.returns-clause-again
returns-clause-again c =
    λ plain.
    let seen = c.in_ok-value.ensures plain in
    plain_is_read c.in_ok-to_vec.field-0.items c.args.task.now plain
    (record { utf8 = c.in_ok-to_vec.ensures.utf8; reads = c.in_ok-to_vec.ensures.reads_back (subst (λ d. depth d ≤ max_depth) (sym seen) (flat_task c.args.task.now)) ∙ ap Some seen })
