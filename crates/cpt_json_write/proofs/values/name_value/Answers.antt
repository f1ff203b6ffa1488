use Rattle.std.proofs.Common.{◌≡◌, string_bytes, ap, ◌∙◌, rules}
use Rattle.serde_json.specs.Data.{string}
use Rattle.serde_json.specs.View.{view}
use Rattle.serde_json.specs.declared.value.Value.{String, the_lemmas}
use Rattle.cpt_json_write.proofs.Names.{name_utf8}
use Rattle.cpt_json_write.proofs.values.name_value.Goals as goal

pub returns : goal.returns
returns c =
    λ named.
    let text = c.in_ok-from_utf8_lossy.field-0 in
    let seen : view (String text) ≡ string (string_bytes text) = search (rules, the_lemmas) in
    seen ∙ ap string (c.in_ok-from_utf8_lossy.ensures.ok (name_utf8 c.args.name.now named))
