use Rattle.std.proofs.Common.{◌≡◌, ◌-◌, ◌<◌, ◌++◌, length, take, vec_len, arith, length-append}
use Rattle.std.proofs.lemmas.List.{length-take-le}
use Rattle.cpt_io.proofs.Progress.{pulled, longer}
use Rattle.cpt_io.proofs.reading.read_all.Goals as goal

pub returns-then-most-len-clause-bytes : goal.returns-then-most-len-clause-bytes
returns-then-most-len-clause-bytes g c =
    let piece = c.pull.new.piece in
    let front = take c.in_ok-count.count piece in
    let size : length front ≡ c.in_ok-count.count = length-take-le c.in_ok-count.count piece c.in_ok-count.ensures.bound in
    let over : c.args.most - vec_len c.loop-bytes.bytes < c.in_ok-count.count = omega arith in
    longer (g.L.Library.holds c.args.lib.now) c.args.name.now (c.loop-bytes.bytes.items ++ front) c.args.most _
    (pulled (g.L.Library.holds c.args.lib.now) c.args.name.now c.loop-bytes.bytes.items piece c.in_ok-count.count _ _ c.loop-bytes.invariant.remains c.in_ok-count.ensures.bytes)
    (omega (arith, size, over, length-append c.loop-bytes.bytes.items front))
