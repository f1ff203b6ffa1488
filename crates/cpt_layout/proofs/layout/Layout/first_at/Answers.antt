use Rattle.std.proofs.Common.{arith, ◌≡◌, ◌<◌, ◌∙◌, ◌+◌, ℕ, List, length, get_or, ap, sym}
use Rattle.cpt_layout.specs.Shapes.{LayoutShape}
use Rattle.cpt_layout.specs.Places.{Frame}
use Rattle.cpt_layout.specs.Numbers.{needs_before}
use Rattle.cpt_layout.specs.Laid.{frame_of}
use Rattle.cpt_layout.proofs.Lists.{length-table, get_at}
use Rattle.cpt_layout.proofs.layout.Layout.first_at.Goals as goal

pub bounds-as_slice-x : goal.bounds-as_slice-x
bounds-as_slice-x c =
    let s : Frame = frame_of c.self.inside in
    let l : length c.self.inside.firsts.items ≡ length c.self.inside.kinds.items = ap (λ (xs : List ℕ). length xs) c.self.invariant.firsts ∙ length-table (needs_before s) 0 (length c.self.inside.kinds.items) in
    let k : length c.args.self.now.frame.kinds ≡ length c.self.inside.kinds.items = ap (λ (t : LayoutShape). length t.frame.kinds) (sym c.self.view_is) in
    let e : length c.as_slice.result.now ≡ length c.self.inside.firsts.items = ap (λ (xs : List ℕ). length xs) c.as_slice.ensures.value in
    omega arith

pub returns : goal.returns
returns c =
    let s : Frame = frame_of c.self.inside in
    let k : length c.args.self.now.frame.kinds ≡ length c.self.inside.kinds.items = ap (λ (t : LayoutShape). length t.frame.kinds) (sym c.self.view_is) in
    let l : c.args.x < length c.self.inside.kinds.items = omega arith in
    ap (λ (xs : List ℕ). get_or xs c.args.x 0) (c.as_slice.ensures.value ∙ c.self.invariant.firsts)
    ∙ (get_at (needs_before s) 0 (length c.self.inside.kinds.items) c.args.x 0 l
    ∙ (ap (λ (i : ℕ). needs_before s i) (let z : 0 + c.args.x ≡ c.args.x = omega arith in z) ∙ ap (λ (t : LayoutShape). needs_before t.frame c.args.x) c.self.view_is))
