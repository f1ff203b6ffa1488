use Rattle.std.proofs.Common.{◌≡◌, take, vec_len}
use Rattle.cpt_json_read.proofs.making.actions_of.Given as goal

abbrev pub invariant-loop-form : goal.invariant-loop-form
invariant-loop-form l = record { items : l.actions.items ≡ take l.form-index l.forms; len : vec_len l.actions ≡ l.form-index }
