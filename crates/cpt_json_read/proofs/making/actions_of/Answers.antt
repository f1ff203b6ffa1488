use Rattle.std.proofs.Common.{sym, subst, arith}
use Rattle.cpt_json_form.specs.Reading.{HasAtoms}
use Rattle.cpt_json_read.proofs.making.actions_of.Goals as goal

pub action_of-requires-clause-atoms : goal.action_of-requires-clause-atoms
action_of-requires-clause-atoms c = subst (HasAtoms c.args.count) (sym c.form-item.is) (c.requires.atoms c.loop-form.form-index c.form-item.result (omega arith))
