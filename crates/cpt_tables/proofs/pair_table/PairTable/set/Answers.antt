use Rattle.std.proofs.Common.{◌≡◌, ap, arith}
use Rattle.cpt_tables.specs.Shapes.{PairShape}
use Rattle.cpt_tables.proofs.PlaceLemmas.{sets_pair}
use Rattle.cpt_tables.proofs.pair_table.PairTable.set.Goals as goal

pub returns-clause-sets : goal.returns-clause-sets
returns-clause-sets c =
    let size : c.self.inside.atoms ≡ c.args.self.now.atoms = ap (λ (h : PairShape). h.atoms) c.self.view_is in
    rw (← c.self.view_is, c.place_of.ensures) (sets_pair (record { atoms = c.self.inside.atoms; values = c.self.inside.values.items }) c.args.p c.args.q c.args.value c.self.invariant.0 (omega (arith, size, c.requires.first)) (omega (arith, size, c.requires.second)))
