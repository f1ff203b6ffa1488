use Rattle.std.proofs.Common.{arith, ◌≡◌, ◌<◌, ◌≤◌, ◌==◌, ◌∙◌, ℕ, List, length, get_or, ap, sym, subst}
use Rattle.cpt_sheet.specs.declared.data.Cand.TheVariants.{Out}
use Rattle.cpt_sheet.specs.View.{has}
use Rattle.cpt_layout.specs.Places.{Frame, Place, adders_at, atom_at, member, needs_at, place_in}
use Rattle.cpt_layout.specs.Sheets.{number_at, seen}
use Rattle.cpt_layout.proofs.Numbering.{cell_below}
use Rattle.cpt_layout.proofs.Views.{tokens_are}
use Rattle.cpt_block.specs.Blocks.{list_in}
use Rattle.cpt_cells.specs.Shapes.{CellsShape}
use Rattle.cpt_cells.proofs.Listed.{out_is_there, out_listed, out_unlisted}
use Rattle.cpt_cells.proofs.cells.Cells.lists_out.Goals as goal

token : (s : Frame) (cells : List ℕ) (t : CellsShape) (x : ℕ) → seen s cells ≡ t.sheet → x < length t.sheet.tokens → x < length s.kinds
token s cells t x e h = (let n = tokens_are s (number_at s cells) in let m : length t.sheet.tokens ≡ length (seen s cells).tokens = ap (λ z. length z.tokens) (sym e) in omega arith)

atom : (s : Frame) (x j : ℕ) (ns bs : List ℕ) → ns ≡ needs_at s x → bs ≡ adders_at s (get_or ns j 0) → bs ≡ adders_at s (atom_at s x j)
atom s x j ns bs e h = h ∙ ap (λ (ms : List ℕ). adders_at s (get_or ms j 0)) e

within : (a n : ℕ) (bs cs : List ℕ) → bs ≡ cs → n ≡ place_in a bs → n < length bs → place_in a cs < length cs
within a n bs cs e h l = subst (λ (ds : List ℕ). place_in a ds < length ds) e (subst (λ (i : ℕ). i < length bs) h l)

without : (a n : ℕ) (bs cs : List ℕ) → bs ≡ cs → n ≡ place_in a bs → length bs ≤ n → place_in a cs < length cs → ⊥
without a n bs cs e h l k =
    let m : length bs ≡ length cs = ap (λ (ds : List ℕ). length ds) e in
    let q : n ≡ place_in a cs = h ∙ ap (λ (ds : List ℕ). place_in a ds) e in
    absurd (omega arith)

pub out_cand_cell-requires-clause-there : goal.out_cand_cell-requires-clause-there
out_cand_cell-requires-clause-there c =
    let s : Frame = c.self.inside.layout.frame in
    let l : c.args.x < length s.kinds = token s c.self.inside.trail.cells c.args.self.now c.args.x (ap (λ (t : CellsShape). t.sheet) c.self.view_is) c.requires.token in
    let n : c.args.j < length (needs_at s c.args.x) = subst (λ (t : CellsShape). c.args.j < length (needs_at t.frame c.args.x)) (sym c.self.view_is) c.requires.need in
    let e : c.adders-adders.result.now ≡ adders_at s (atom_at s c.args.x c.args.j) = atom s c.args.x c.args.j c.needs.result.now c.adders-adders.result.now c.needs.ensures c.adders-adders.ensures.adders in
    out_is_there s c.args.x c.args.j c.args.a l n (within c.args.a c.place_of.result c.adders-adders.result.now (adders_at s (atom_at s c.args.x c.args.j)) e c.place_of.ensures.place (omega (arith, c.if-place_of-adders.true)))

pub get-requires : goal.get-requires
get-requires c =
    let s : Frame = c.self.inside.layout.frame in
    let l : c.args.x < length s.kinds = token s c.self.inside.trail.cells c.args.self.now c.args.x (ap (λ (t : CellsShape). t.sheet) c.self.view_is) c.requires.token in
    let n : c.args.j < length (needs_at s c.args.x) = subst (λ (t : CellsShape). c.args.j < length (needs_at t.frame c.args.x)) (sym c.self.view_is) c.requires.need in
    let e : c.adders-adders.result.now ≡ adders_at s (atom_at s c.args.x c.args.j) = atom s c.args.x c.args.j c.needs.result.now c.adders-adders.result.now c.needs.ensures c.adders-adders.ensures.adders in
    let b = cell_below s (member c.args.x c.args.j (Out c.args.a)) (out_is_there s c.args.x c.args.j c.args.a l n (within c.args.a c.place_of.result c.adders-adders.result.now (adders_at s (atom_at s c.args.x c.args.j)) e c.place_of.ensures.place (omega (arith, c.if-place_of-adders.true)))) in
    omega (arith, c.out_cand_cell.ensures, c.self.invariant.cells)

pub returns-then-place_of-adders : goal.returns-then-place_of-adders
returns-then-place_of-adders c =
    let s : Frame = c.self.inside.layout.frame in
    let v : Place → ℕ = number_at s c.self.inside.trail.cells in
    let l : c.args.x < length s.kinds = token s c.self.inside.trail.cells c.args.self.now c.args.x (ap (λ (t : CellsShape). t.sheet) c.self.view_is) c.requires.token in
    let n : c.args.j < length (needs_at s c.args.x) = subst (λ (t : CellsShape). c.args.j < length (needs_at t.frame c.args.x)) (sym c.self.view_is) c.requires.need in
    let e : c.adders-adders.result.now ≡ adders_at s (atom_at s c.args.x c.args.j) = atom s c.args.x c.args.j c.needs.result.now c.adders-adders.result.now c.needs.ensures c.adders-adders.ensures.adders in
    let b = within c.args.a c.place_of.result c.adders-adders.result.now (adders_at s (atom_at s c.args.x c.args.j)) e c.place_of.ensures.place (omega (arith, c.if-place_of-adders.true)) in
    ap (λ (i : ℕ). i == 1) (c.get.ensures ∙ ap (λ (i : ℕ). get_or c.self.inside.trail.cells i 0) c.out_cand_cell.ensures)
    ∙ (out_listed s v c.args.x c.args.j c.args.a l n b ∙ ap (λ (t : CellsShape). has (Out c.args.a) (list_in t.sheet c.args.x c.args.j)) c.self.view_is)

pub returns-else-place_of-adders : goal.returns-else-place_of-adders
returns-else-place_of-adders c =
    let s : Frame = c.self.inside.layout.frame in
    let v : Place → ℕ = number_at s c.self.inside.trail.cells in
    let l : c.args.x < length s.kinds = token s c.self.inside.trail.cells c.args.self.now c.args.x (ap (λ (t : CellsShape). t.sheet) c.self.view_is) c.requires.token in
    let n : c.args.j < length (needs_at s c.args.x) = subst (λ (t : CellsShape). c.args.j < length (needs_at t.frame c.args.x)) (sym c.self.view_is) c.requires.need in
    let e : c.adders-adders.result.now ≡ adders_at s (atom_at s c.args.x c.args.j) = atom s c.args.x c.args.j c.needs.result.now c.adders-adders.result.now c.needs.ensures c.adders-adders.ensures.adders in
    let b : (place_in c.args.a (adders_at s (atom_at s c.args.x c.args.j)) < length (adders_at s (atom_at s c.args.x c.args.j)) → ⊥) =
    without c.args.a c.place_of.result c.adders-adders.result.now (adders_at s (atom_at s c.args.x c.args.j)) e c.place_of.ensures.place (omega (arith, c.if-place_of-adders.false)) in
    out_unlisted s v c.args.x c.args.j c.args.a l n b ∙ ap (λ (t : CellsShape). has (Out c.args.a) (list_in t.sheet c.args.x c.args.j)) c.self.view_is
