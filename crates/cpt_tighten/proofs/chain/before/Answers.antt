use Rattle.std.proofs.Common.{◌≡◌, Some, refl}
use Rattle.cpt_tighten.specs.Best.{entry}
use Rattle.cpt_tighten.proofs.chain.before.Goals as goal

pub returns-in-Some : goal.returns-in-Some
returns-in-Some c =
    let e : entry c.args.links.now c.args.place ≡ Some c.in-Some.f = c.in-Some.is in
    let d = c.requires.links.down c.args.place c.in-Some.f e in
    ((c.in-Some.f, e, refl), d.0, d.1)
