use Rattle.std.proofs.Common.{◌≤◌, ◌∙◌, sym, length, string_bytes, arith}
use Rattle.cpt_options.proofs.Behind.{behind_two}
use Rattle.cpt_options.proofs.options.+options_behind.Goals as goal

pub returns-in_ok-given-in-len2-up : goal.returns-in_ok-given-in-len2-up
returns-in_ok-given-in-len2-up t c =
    let two : 2 ≤ length c.args.words.now = omega (arith, c.in-len2-up.len_at_least) in
    c.options_behind.ensures
    ∙ behind_two c.args.given c.in_ok-given-in-len2-up.given string_bytes c.args.words.now c.word-item.result c.value-item.result c.as_str.result.now c.as_str-in-len2-up.result.now two c.word-item.is c.value-item.is c.as_str.ensures.value
    c.as_str-in-len2-up.ensures.value (sym c.with_option.ensures ∙ c.in_ok-given-in-len2-up.was)
