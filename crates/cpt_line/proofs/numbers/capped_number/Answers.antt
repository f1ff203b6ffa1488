use Rattle.std.proofs.Common.{◌≡◌, ◌+◌, ◌∙◌, get_or, arith}
use Rattle.std.specs.Char.{digit_value}
use Rattle.std.proofs.lemmas.Str.{digit_value_digit}
use Rattle.cpt_line.proofs.LineLemmas.{number_more}
use Rattle.cpt_line.proofs.numbers.capped_number.Goals as goal

pub loop-b-preserved : goal.loop-b-preserved
loop-b-preserved c =
    let digit = get_or c.args.digits.now c.loop-b.b-index 0 in
    let e : digit_value digit + 48 ≡ digit = digit_value_digit digit (c.requires.digits c.loop-b.b-index 0 c.loop-b-test.true) in
    c.min-number.ensures ∙ number_more c.args.most c.args.digits.now c.loop-b.b-index c.loop-b.number c.from.result c.loop-b-test.true (omega (arith, c.from.ensures, e)) c.loop-b.invariant
