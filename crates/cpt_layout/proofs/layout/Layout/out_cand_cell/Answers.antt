use Rattle.std.proofs.Common.{rules, arith, ◌≡◌, ◌<◌, ◌^◌, ◌+◌, ℕ}
use Rattle.cpt_sheet.specs.declared.data.Cand.TheVariants.{Out}
use Rattle.cpt_layout.specs.Places.{member, atom_at, adders_at, place_in}
use Rattle.cpt_layout.proofs.Numbering.{cell_below}
use Rattle.cpt_layout.proofs.layout.Layout.out_cand_cell.Goals as goal

pub overflow_add-result-3 : goal.overflow_add-result-3
overflow_add-result-3 c =
    let s = c.args.self.now.frame in
    let x : ℕ = c.args.x in
    let j : ℕ = c.args.j in
    let b = cell_below s (member x j (Out c.args.a)) c.requires.there in
    let p : c.place_of-place.result ≡ place_in c.args.a (adders_at s (atom_at s x j)) = search rules in
    let k : c.head_at.result + (2 + x + c.place_of-place.result) < 2 ^ 64 = omega (arith, c.requires.fits, c.head_at.ensures) in
    search rules
