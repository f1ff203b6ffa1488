use Rattle.std.proofs.Common.{rules, ◌≡◌, ◌-◌, ◌++◌, take, length, ℕ, ap}
use Rattle.cpt_cert_read.proofs.Keeping.{kept_more}
use Rattle.cpt_cert_read.proofs.lines.keep.Goals as goal

pub returns-clause-ok : goal.returns-clause-ok
returns-clause-ok c =
    let old = c.args.pending.now.items in
    let e : c.len-room.result ≡ length old = search rules in
    rw (c.in_ok-extend_from_slice.ensures.items, c.front.ensures, kept_more old c.args.more.now c.requires) (ap (λ (n : ℕ). old ++ take (65537 - n) c.args.more.now) e)
