use Rattle.cpt_sheet.specs.declared.data.Sheet.{Sheet}
use Rattle.cpt_sheet.specs.declared.data.Token.{Token}
use Rattle.std.proofs.Common.{arith, ◌≡◌, ◌<◌, ◌∙◌, ℕ, List, length, ap, sym, subst}
use Rattle.cpt_sheet.specs.declared.data.Cand.{Cand}
use Rattle.cpt_sheet.specs.declared.data.Cand.TheVariants.{Tok, Out}
use Rattle.cpt_layout.specs.Places.{Place, Frame, IsThere}
use Rattle.cpt_layout.specs.Numbers.{cell_of}
use Rattle.cpt_cells.specs.Shapes.{CellsShape}
use Rattle.cpt_layout.specs.Sheets.{sheet_from}
use Rattle.cpt_layout.specs.Sheets.{seen, number_at}
use Rattle.cpt_layout.proofs.Numbering.{cell_below}
use Rattle.std.specs.Prelude.{true}
use Rattle.cpt_sheet.specs.View.{has, cands}
use Rattle.cpt_layout.specs.Places.{member, needs_at, adders_at, NoTwice}
use Rattle.cpt_layout.specs.Puts.{IsNeedAt, IsFirstIn, IsCandCell}
use Rattle.cpt_layout.proofs.Views.{tokens_are}
use Rattle.cpt_layout.proofs.Taking.{need_in, listed_there}
use Rattle.cpt_cells.proofs.cells.Cells.cand_cell.Goals as goal

token : (s : Frame) (cells : List ℕ) (t : CellsShape) (x : ℕ) → x < length t.sheet.tokens → t.sheet.tokens ≡ (seen s cells).tokens → x < length s.kinds
token s cells t x h e = (let n = tokens_are s (number_at s cells) in let m : length t.sheet.tokens ≡ length (seen s cells).tokens = ap (λ (ts : List Token). length ts) e in omega arith)

pub needs-requires : goal.needs-requires
needs-requires c = token c.self.inside.layout.frame c.self.inside.trail.cells c.args.self.now c.args.x c.requires.token (ap (λ (t : CellsShape). t.sheet.tokens) (sym c.self.view_is))

pub token_cand_cell-requires-clause-there : goal.token_cand_cell-requires-clause-there
token_cand_cell-requires-clause-there c =
    let s : Frame = c.self.inside.layout.frame in
    let v : Place → ℕ = number_at s c.self.inside.trail.cells in
    let x : ℕ = c.args.x in
    let p : ℕ = c.args.p in
    let j : ℕ = c.place_of-place.result in
    let l : x < length s.kinds = token s c.self.inside.trail.cells c.args.self.now x c.requires.token (ap (λ (t : CellsShape). t.sheet.tokens) (sym c.self.view_is)) in
    let h : has c.args.c (cands (sheet_from s v) x p) ≡ true = ap (λ (t : CellsShape). has c.args.c (cands t.sheet x p)) c.self.view_is ∙ c.requires.listed in
    let f : IsFirstIn c.needs.result.now p j = record { within = c.place_of-place.ensures.within; none_before = c.place_of-place.ensures.none_before; here = c.place_of-place.ensures.here } in
    let n : IsNeedAt s x p j = need_in s v x p j c.args.c c.needs.result.now l c.self.invariant.adders c.needs.ensures f h in
    subst (λ (d : Cand). IsThere s (member x j d)) c.in-Tok.is (listed_there s v x p j c.args.c l n h)

pub out_cand_cell-requires-clause-there : goal.out_cand_cell-requires-clause-there
out_cand_cell-requires-clause-there c =
    let s : Frame = c.self.inside.layout.frame in
    let v : Place → ℕ = number_at s c.self.inside.trail.cells in
    let x : ℕ = c.args.x in
    let p : ℕ = c.args.p in
    let j : ℕ = c.place_of-place.result in
    let l : x < length s.kinds = token s c.self.inside.trail.cells c.args.self.now x c.requires.token (ap (λ (t : CellsShape). t.sheet.tokens) (sym c.self.view_is)) in
    let h : has c.args.c (cands (sheet_from s v) x p) ≡ true = ap (λ (t : CellsShape). has c.args.c (cands t.sheet x p)) c.self.view_is ∙ c.requires.listed in
    let f : IsFirstIn c.needs.result.now p j = record { within = c.place_of-place.ensures.within; none_before = c.place_of-place.ensures.none_before; here = c.place_of-place.ensures.here } in
    let n : IsNeedAt s x p j = need_in s v x p j c.args.c c.needs.result.now l c.self.invariant.adders c.needs.ensures f h in
    subst (λ (d : Cand). IsThere s (member x j d)) c.in-Out.is (listed_there s v x p j c.args.c l n h)

made : (s : Frame) (cells : List ℕ) (t : CellsShape) (x p j n : ℕ) (d e : Cand) (ns : List ℕ) → s ≡ t.frame → seen s cells ≡ t.sheet → x < length t.sheet.tokens → ((q : ℕ) → NoTwice (adders_at s q)) →
    has d (cands t.sheet x p) ≡ true → ns ≡ needs_at s x → IsFirstIn ns p j → d ≡ e → n ≡ cell_of s (member x j e) → IsCandCell t.frame x p d n
made s cells t x p j n d e ns fr sh l a h en f q c =
    let v : Place → ℕ = number_at s cells in
    let k : x < length s.kinds = token s cells t x l (ap (λ (z : Sheet). z.tokens) (sym sh)) in
    let y : has d (cands (sheet_from s v) x p) ≡ true = ap (λ (z : Sheet). has d (cands z x p)) sh ∙ h in
    let need : IsNeedAt s x p j = need_in s v x p j d ns k a en f y in
    let th : IsThere s (member x j d) = listed_there s v x p j d k need y in
    let w : n ≡ cell_of s (member x j d) = c ∙ ap (λ (z : Cand). cell_of s (member x j z)) (sym q) in
    let b = cell_below s (member x j d) th in
    subst (λ (z : Frame). IsCandCell z x p d n) fr (record { place = j; need = need; there = th; cell = w; below = omega arith })

pub returns-in-Tok : goal.returns-in-Tok
returns-in-Tok c = record {
  there = made c.self.inside.layout.frame c.self.inside.trail.cells c.args.self.now c.args.x c.args.p c.place_of-place.result c.token_cand_cell.result c.args.c (Tok c.in-Tok.y) c.needs.result.now
      (ap (λ (t : CellsShape). t.frame) c.self.view_is) (ap (λ (t : CellsShape). t.sheet) c.self.view_is) c.requires.token c.self.invariant.adders c.requires.listed c.needs.ensures
      (record { within = c.place_of-place.ensures.within; none_before = c.place_of-place.ensures.none_before; here = c.place_of-place.ensures.here }) c.in-Tok.is c.token_cand_cell.ensures;
}

pub returns-in-Out : goal.returns-in-Out
returns-in-Out c = record {
  there = made c.self.inside.layout.frame c.self.inside.trail.cells c.args.self.now c.args.x c.args.p c.place_of-place.result c.out_cand_cell.result c.args.c (Out c.in-Out.a) c.needs.result.now
      (ap (λ (t : CellsShape). t.frame) c.self.view_is) (ap (λ (t : CellsShape). t.sheet) c.self.view_is) c.requires.token c.self.invariant.adders c.requires.listed c.needs.ensures
      (record { within = c.place_of-place.ensures.within; none_before = c.place_of-place.ensures.none_before; here = c.place_of-place.ensures.here }) c.in-Out.is c.out_cand_cell.ensures;
}
