use Rattle.std.proofs.Common.{[], ap, ◌∙◌}
use Rattle.std.proofs.lemmas.Result.{IfOk-weaker}
use Rattle.serde_json.specs.Data.{string}
use Rattle.cpt_line.specs.Names.{is_name}
use Rattle.cpt_json_write.proofs.reports.atom_value.Goals as goal

pub returns : goal.returns
returns c = IfOk-weaker c.name_value.result _ _ (λ v is. is (ap is_name c.atom_name.ensures ∙ c.requires.plain.atoms.legal c.args.atom [] c.requires.atom) ∙ ap string c.atom_name.ensures) c.name_value.ensures
