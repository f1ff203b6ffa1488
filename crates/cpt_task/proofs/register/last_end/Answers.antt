use Rattle.std.proofs.Common.{◌-◌, arith}
use Rattle.cpt_task.proofs.Latest.{last_read, none_read}
use Rattle.cpt_task.proofs.register.last_end.Goals as goal

pub returns-then-mark-atom : goal.returns-then-mark-atom
returns-then-mark-atom c =
    let ranked = rw c.deref.ensures.value at c.rank-ended.ensures in
    last_read c.args.register.now.ends.items c.args.atom c.args.time c.rank-ended.result (c.rank-ended.result - 1) c.index-mark.result.now c.requires.sorted (omega (arith, c.if-ended-eq0.false)) ranked.within ranked.parted c.index-mark.ensures c.if-mark-atom.true

pub returns-else-mark-atom : goal.returns-else-mark-atom
returns-else-mark-atom c =
    let ranked = rw c.deref.ensures.value at c.rank-ended.ensures in
    none_read c.args.register.now.ends.items c.args.atom c.args.time c.rank-ended.result (c.rank-ended.result - 1) c.index-mark.result.now c.requires.sorted (omega (arith, c.if-ended-eq0.false)) ranked.within ranked.parted c.index-mark.ensures c.if-mark-atom.false
