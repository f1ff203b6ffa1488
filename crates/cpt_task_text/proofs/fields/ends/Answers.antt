use Rattle.std.proofs.Common.{sym, ◌∙◌}
use Rattle.cpt_task_text.proofs.Parts.{not_ended, not_empty}
use Rattle.cpt_task_text.proofs.fields.ends.Goals as goal

pub returns-else-is_empty : goal.returns-else-is_empty
returns-else-is_empty c = not_ended c.args.number c.args.text.now (not_empty c.args.text.now (sym c.is_empty.ensures ∙ c.if-is_empty.false))
