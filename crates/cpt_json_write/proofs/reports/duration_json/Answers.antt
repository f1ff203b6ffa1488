use Rattle.std.proofs.Common.{ap, ◌∙◌}
use Rattle.serde_json.specs.Written.{compact_text, has_float}
use Rattle.cpt_json_form.proofs.Texts.{whole_duration}
use Rattle.cpt_json_write.proofs.reports.duration_json.Goals as goal

pub returns : goal.returns
returns c =
    let seen = c.in_ok-value.ensures in
    c.in_ok-to_vec.ensures.text (ap has_float seen ∙ whole_duration c.args.place c.args.dur) ∙ ap compact_text seen
