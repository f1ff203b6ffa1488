use Rattle.std.proofs.Common.{arith, sym}
use Rattle.cpt_pddl.proofs.PlaceLemmas.{place_below}
use Rattle.cpt_declared.proofs.kind_run.Reading.enter.Goals as goal

pub enter_kind-requires-in-Some : goal.enter_kind-requires-in-Some
enter_kind-requires-in-Some c =
    let below = place_below c.args.self.now.names c.args.bytes.now c.in-Some.kind (sym c.in-Some.ensures) in
    let marked = c.args.self.now.marked in
    omega (arith, below, marked)
