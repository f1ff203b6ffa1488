use Rattle.std.proofs.Common.{◌≡◌, ◌+◌, All, take, drop}
use Rattle.std.specs.Char.{IsAsciiDigit}
use Rattle.cpt_line.specs.Digits.{digit_count}
use Rattle.cpt_line.proofs.numbers.count_digits.Given as goal

abbrev pub invariant-loop-i : goal.invariant-loop-i
invariant-loop-i l = record {
  digits : All IsAsciiDigit (take l.i l.bytes);
  count : l.i + digit_count (drop l.i l.bytes) ≡ digit_count l.bytes;
}
