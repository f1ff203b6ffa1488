use Rattle.std.proofs.Common.{◌≡◌, ◌<◌, ◌≤◌, ◌∙◌, ℕ, List, [], length, ap, sym, subst}
use Rattle.std.proofs.lemmas.Bool.{eqb-true}
use Rattle.cpt_sheet.specs.View.{cands}
use Rattle.cpt_layout.specs.Places.{Frame, Place, atom_at, needs_at}
use Rattle.cpt_layout.specs.Puts.{IsFirstIn}
use Rattle.cpt_layout.specs.Sheets.{number_at}
use Rattle.cpt_block.specs.Blocks.{list_in}
use Rattle.cpt_cells.specs.Shapes.{CellsShape}
use Rattle.cpt_cells.proofs.Listed.{token_in}
use Rattle.cpt_cells.proofs.Ordered.{list_at_place, list_nowhere}
use Rattle.cpt_cells.proofs.cells.Cells.place.Goals as goal

pub needs-requires : goal.needs-requires
needs-requires c = token_in c.self.inside.layout.frame c.self.inside.trail.cells c.args.self.now c.args.x (ap (λ (t : CellsShape). t.sheet) c.self.view_is) c.requires

pub returns-clause-atom : goal.returns-clause-atom
returns-clause-atom c l =
    let s : Frame = c.self.inside.layout.frame in
    let j : ℕ = c.place_of.result in
    let f : IsFirstIn (needs_at s c.args.x) c.args.p j = subst (λ (ns : List ℕ). IsFirstIn ns c.args.p j) c.needs.ensures (record { within = c.place_of.ensures.within; none_before = c.place_of.ensures.none_before; here = c.place_of.ensures.here }) in
    let b : j < length (needs_at s c.args.x) = subst (λ (t : CellsShape). j < length (needs_at t.frame c.args.x)) (sym c.self.view_is) l in
    ap (λ (t : CellsShape). atom_at t.frame c.args.x j) (sym c.self.view_is) ∙ eqb-true (atom_at s c.args.x j) c.args.p (f.here b)

pub returns-clause-list : goal.returns-clause-list
returns-clause-list c l =
    let s : Frame = c.self.inside.layout.frame in
    let v : Place → ℕ = number_at s c.self.inside.trail.cells in
    let j : ℕ = c.place_of.result in
    let k : c.args.x < length s.kinds = token_in s c.self.inside.trail.cells c.args.self.now c.args.x (ap (λ (t : CellsShape). t.sheet) c.self.view_is) c.requires in
    let f : IsFirstIn (needs_at s c.args.x) c.args.p j = subst (λ (ns : List ℕ). IsFirstIn ns c.args.p j) c.needs.ensures (record { within = c.place_of.ensures.within; none_before = c.place_of.ensures.none_before; here = c.place_of.ensures.here }) in
    let b : j < length (needs_at s c.args.x) = subst (λ (t : CellsShape). j < length (needs_at t.frame c.args.x)) (sym c.self.view_is) l in
    subst (λ (t : CellsShape). cands t.sheet c.args.x c.args.p ≡ list_in t.sheet c.args.x j) c.self.view_is (list_at_place s v c.args.x c.args.p j k c.self.invariant.adders f b)

pub returns-clause-none : goal.returns-clause-none
returns-clause-none c l =
    let s : Frame = c.self.inside.layout.frame in
    let v : Place → ℕ = number_at s c.self.inside.trail.cells in
    let j : ℕ = c.place_of.result in
    let k : c.args.x < length s.kinds = token_in s c.self.inside.trail.cells c.args.self.now c.args.x (ap (λ (t : CellsShape). t.sheet) c.self.view_is) c.requires in
    let f : IsFirstIn (needs_at s c.args.x) c.args.p j = subst (λ (ns : List ℕ). IsFirstIn ns c.args.p j) c.needs.ensures (record { within = c.place_of.ensures.within; none_before = c.place_of.ensures.none_before; here = c.place_of.ensures.here }) in
    let b : length (needs_at s c.args.x) ≤ j = subst (λ (t : CellsShape). length (needs_at t.frame c.args.x) ≤ j) (sym c.self.view_is) l in
    subst (λ (t : CellsShape). cands t.sheet c.args.x c.args.p ≡ []) c.self.view_is (list_nowhere s v c.args.x c.args.p j k f b)
