use Rattle.std.proofs.Common.{◌<◌, length, sym, arith}
use Rattle.cpt_trim.proofs.FateLists.{text_more}
use Rattle.cpt_trim.proofs.fates.text_of.Goals as goal

pub loop-place-preserved : goal.loop-place-preserved
loop-place-preserved c =
    let test = c.loop-place-test.true in
    let same = c.requires in
    let inside : c.loop-place.place < length c.args.fates.now = omega (arith, test, same) in
    rw (c.in_ok-put_line.ensures, c.loop-place.invariant) (sym (text_more c.args.fates.now c.args.bodies.now c.loop-place.place _ _ inside same))
