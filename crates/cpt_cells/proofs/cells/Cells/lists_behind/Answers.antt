use Rattle.std.proofs.Common.{rules, arith, ◌≡◌, ◌<◌, ◌+◌, ◌^◌, ◌==◌, ◌∙◌, ℕ, List, length, get_or, ap, sym, subst}
use Rattle.cpt_sheet.specs.declared.data.Cand.TheVariants.{Out}
use Rattle.cpt_sheet.specs.View.{has}
use Rattle.cpt_layout.specs.Numbers.{cell_of}
use Rattle.cpt_layout.specs.Places.{Frame, Place, adders_at, atom_at, member, needs_at, place_in}
use Rattle.cpt_layout.specs.Sheets.{number_at}
use Rattle.cpt_layout.proofs.Numbering.{cell_below}
use Rattle.cpt_block.specs.Blocks.{list_in}
use Rattle.cpt_cells.specs.Shapes.{CellsShape}
use Rattle.cpt_cells.proofs.Listed.{out_is_there, out_listed, place_nth, token_in}
use Rattle.cpt_cells.proofs.cells.Cells.lists_behind.Goals as goal

pub overflow_add-first : goal.overflow_add-first
overflow_add-first c =
    let s : Frame = c.self.inside.layout.frame in
    let x : ℕ = c.args.x in
    let j : ℕ = c.args.j in
    let bs : List ℕ = adders_at s (atom_at s x j) in
    let l : x < length s.kinds = token_in s c.self.inside.trail.cells c.args.self.now x (ap (λ (t : CellsShape). t.sheet) c.self.view_is) c.requires.token in
    let n : j < length (needs_at s x) = subst (λ (t : CellsShape). j < length (needs_at t.frame x)) (sym c.self.view_is) c.requires.need in
    let k : c.args.place < length bs = subst (λ (t : CellsShape). c.args.place < length (adders_at t.frame (atom_at t.frame x j))) (sym c.self.view_is) c.requires.place in
    let o : 0 < length bs = omega arith in
    let p : place_in (get_or bs 0 0) bs ≡ 0 = place_nth bs 0 (c.self.invariant.adders (atom_at s x j)) o in
    let q : place_in (get_or bs c.args.place 0) bs ≡ c.args.place = place_nth bs c.args.place (c.self.invariant.adders (atom_at s x j)) k in
    let h : c.args.first ≡ cell_of s (member x j (Out (get_or bs 0 0))) = subst (λ (t : CellsShape). c.args.first ≡ cell_of t.frame (member x j (Out (get_or (adders_at t.frame (atom_at t.frame x j)) 0 0)))) (sym c.self.view_is) c.requires.first in
    let m : c.args.first + c.args.place ≡ cell_of s (member x j (Out (get_or bs c.args.place 0))) = omega arith in
    let b = cell_below s (member x j (Out (get_or bs c.args.place 0))) (out_is_there s x j (get_or bs c.args.place 0) l n (let z : place_in (get_or bs c.args.place 0) bs < length bs = omega arith in z)) in
    let z : c.args.first + c.args.place < 2 ^ 64 = omega (arith, c.self.invariant.cells, c.self.invariant.fits) in
    search rules

pub get-requires : goal.get-requires
get-requires c =
    let s : Frame = c.self.inside.layout.frame in
    let x : ℕ = c.args.x in
    let j : ℕ = c.args.j in
    let bs : List ℕ = adders_at s (atom_at s x j) in
    let l : x < length s.kinds = token_in s c.self.inside.trail.cells c.args.self.now x (ap (λ (t : CellsShape). t.sheet) c.self.view_is) c.requires.token in
    let n : j < length (needs_at s x) = subst (λ (t : CellsShape). j < length (needs_at t.frame x)) (sym c.self.view_is) c.requires.need in
    let k : c.args.place < length bs = subst (λ (t : CellsShape). c.args.place < length (adders_at t.frame (atom_at t.frame x j))) (sym c.self.view_is) c.requires.place in
    let o : 0 < length bs = omega arith in
    let p : place_in (get_or bs 0 0) bs ≡ 0 = place_nth bs 0 (c.self.invariant.adders (atom_at s x j)) o in
    let q : place_in (get_or bs c.args.place 0) bs ≡ c.args.place = place_nth bs c.args.place (c.self.invariant.adders (atom_at s x j)) k in
    let h : c.args.first ≡ cell_of s (member x j (Out (get_or bs 0 0))) = subst (λ (t : CellsShape). c.args.first ≡ cell_of t.frame (member x j (Out (get_or (adders_at t.frame (atom_at t.frame x j)) 0 0)))) (sym c.self.view_is) c.requires.first in
    let m : c.args.first + c.args.place ≡ cell_of s (member x j (Out (get_or bs c.args.place 0))) = omega arith in
    let b = cell_below s (member x j (Out (get_or bs c.args.place 0))) (out_is_there s x j (get_or bs c.args.place 0) l n (let z : place_in (get_or bs c.args.place 0) bs < length bs = omega arith in z)) in
    omega (arith, c.self.invariant.cells)

pub returns : goal.returns
returns c =
    let s : Frame = c.self.inside.layout.frame in
    let v : Place → ℕ = number_at s c.self.inside.trail.cells in
    let x : ℕ = c.args.x in
    let j : ℕ = c.args.j in
    let bs : List ℕ = adders_at s (atom_at s x j) in
    let l : x < length s.kinds = token_in s c.self.inside.trail.cells c.args.self.now x (ap (λ (t : CellsShape). t.sheet) c.self.view_is) c.requires.token in
    let n : j < length (needs_at s x) = subst (λ (t : CellsShape). j < length (needs_at t.frame x)) (sym c.self.view_is) c.requires.need in
    let k : c.args.place < length bs = subst (λ (t : CellsShape). c.args.place < length (adders_at t.frame (atom_at t.frame x j))) (sym c.self.view_is) c.requires.place in
    let o : 0 < length bs = omega arith in
    let p : place_in (get_or bs 0 0) bs ≡ 0 = place_nth bs 0 (c.self.invariant.adders (atom_at s x j)) o in
    let q : place_in (get_or bs c.args.place 0) bs ≡ c.args.place = place_nth bs c.args.place (c.self.invariant.adders (atom_at s x j)) k in
    let h : c.args.first ≡ cell_of s (member x j (Out (get_or bs 0 0))) = subst (λ (t : CellsShape). c.args.first ≡ cell_of t.frame (member x j (Out (get_or (adders_at t.frame (atom_at t.frame x j)) 0 0)))) (sym c.self.view_is) c.requires.first in
    let m : c.args.first + c.args.place ≡ cell_of s (member x j (Out (get_or bs c.args.place 0))) = omega arith in
    let b = cell_below s (member x j (Out (get_or bs c.args.place 0))) (out_is_there s x j (get_or bs c.args.place 0) l n (let z : place_in (get_or bs c.args.place 0) bs < length bs = omega arith in z)) in
    ap (λ (i : ℕ). i == 1) (c.get.ensures ∙ ap (λ (i : ℕ). get_or c.self.inside.trail.cells i 0) m)
    ∙ (out_listed s v x j (get_or bs c.args.place 0) l n (let z : place_in (get_or bs c.args.place 0) bs < length bs = omega arith in z)
    ∙ ap (λ (t : CellsShape). has (Out (get_or (adders_at t.frame (atom_at t.frame x j)) c.args.place 0)) (list_in t.sheet x j)) c.self.view_is)
