use Rattle.std.proofs.Common.{sym}
use Rattle.std.proofs.lemmas.List.Elements.{All-more}
use Rattle.std.specs.Char.{IsAsciiDigit}
use Rattle.cpt_line.proofs.LineLemmas.{digit_more}
use Rattle.cpt_line.proofs.numbers.count_digits.Goals as goal

pub loop-i-preserved : goal.loop-i-preserved
loop-i-preserved c = record {
  digits = All-more IsAsciiDigit c.args.bytes.now c.loop-i.i 0 c.loop-i-test.true c.loop-i.invariant.digits c.if-not-is_ascii_digit.ensures.cases;
  count = digit_more c.args.bytes.now c.loop-i.i c.loop-i-test.true (sym c.if-not-is_ascii_digit.ensures.value) c.loop-i.invariant.count;
}
