use Rattle.std.proofs.Common.{rules, arith, ◌≡◌, ◌<◌, ℕ, List, length, get_or, ap, sym, subst}
use Rattle.cpt_sheet.specs.declared.data.Cand.TheVariants.{Out}
use Rattle.cpt_layout.specs.Places.{Frame, IsThere, adders_at, atom_at, member, needs_at, place_in}
use Rattle.cpt_cells.specs.Shapes.{CellsShape}
use Rattle.cpt_cells.proofs.Listed.{adders_in, out_is_there, place_nth, token_in}
use Rattle.cpt_cells.proofs.cells.Cells.outs_cell.Goals as goal

pub out_cand_cell-requires-clause-there : goal.out_cand_cell-requires-clause-there
out_cand_cell-requires-clause-there c =
    let s : Frame = c.self.inside.layout.frame in
    let x : ℕ = c.args.x in
    let j : ℕ = c.args.j in
    let bs : List ℕ = adders_at s (atom_at s x j) in
    let l : x < length s.kinds = token_in s c.self.inside.trail.cells c.args.self.now x (ap (λ (t : CellsShape). t.sheet) c.self.view_is) c.requires.token in
    let n : j < length (needs_at s x) = subst (λ (t : CellsShape). j < length (needs_at t.frame x)) (sym c.self.view_is) c.requires.need in
    let z : 0 < length c.adders-adders.result.now = search rules in
    let e : c.adders-adders.result.now ≡ bs = adders_in s x j c.needs.result.now c.adders-adders.result.now c.needs.ensures c.adders-adders.ensures.adders in
    let m : length c.adders-adders.result.now ≡ length bs = ap (λ (zs : List ℕ). length zs) e in
    let o : 0 < length bs = omega arith in
    let f : get_or c.adders-adders.result.now 0 0 ≡ get_or bs 0 0 = ap (λ (zs : List ℕ). get_or zs 0 0) e in
    let p : place_in (get_or bs 0 0) bs ≡ 0 = place_nth bs 0 (c.self.invariant.adders (atom_at s x j)) o in
    subst (λ (a : ℕ). IsThere s (member x j (Out a))) (sym f) (out_is_there s x j (get_or bs 0 0) l n (let z : place_in (get_or bs 0 0) bs < length bs = omega arith in z))
