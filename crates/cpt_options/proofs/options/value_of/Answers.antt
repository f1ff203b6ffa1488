use Rattle.std.proofs.Common.{arith}
use Rattle.cpt_cert_read.proofs.Numerals.{digit_more}
use Rattle.cpt_options.proofs.options.value_of.Goals as goal

pub overflow_mul-value : goal.overflow_mul-value
overflow_mul-value c =
    let m = digit_more c.args.digits.now c.loop-b.b-index c.requires.decimal c.requires.short c.loop-b-test.true in
    omega arith

pub overflow_sub-b : goal.overflow_sub-b
overflow_sub-b c =
    let m = digit_more c.args.digits.now c.loop-b.b-index c.requires.decimal c.requires.short c.loop-b-test.true in
    omega arith

pub overflow_add-value : goal.overflow_add-value
overflow_add-value c =
    let m = digit_more c.args.digits.now c.loop-b.b-index c.requires.decimal c.requires.short c.loop-b-test.true in
    omega arith

pub loop-b-preserved : goal.loop-b-preserved
loop-b-preserved c =
    let m = digit_more c.args.digits.now c.loop-b.b-index c.requires.decimal c.requires.short c.loop-b-test.true in
    omega arith
