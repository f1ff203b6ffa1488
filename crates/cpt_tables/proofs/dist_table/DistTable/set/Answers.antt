use Rattle.std.proofs.Common.{◌≡◌, ap, arith}
use Rattle.cpt_tables.specs.Shapes.{DistShape}
use Rattle.cpt_tables.proofs.PlaceLemmas.{sets_dist}
use Rattle.cpt_tables.proofs.dist_table.DistTable.set.Goals as goal

pub returns-clause-sets : goal.returns-clause-sets
returns-clause-sets c =
    let rows : c.self.inside.actions ≡ c.args.self.now.actions = ap (λ (d : DistShape). d.actions) c.self.view_is in
    let width : c.self.inside.atoms ≡ c.args.self.now.atoms = ap (λ (d : DistShape). d.atoms) c.self.view_is in
    rw (c.place_of-place.ensures.place, ← c.self.view_is) (sets_dist (record { actions = c.self.inside.actions; atoms = c.self.inside.atoms; values = c.self.inside.values.items }) c.args.act c.args.atom c.args.value c.self.invariant.0 (omega (arith, rows, c.requires.act)) (omega (arith, width, c.requires.atom)))
