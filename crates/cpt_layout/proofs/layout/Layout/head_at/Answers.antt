use Rattle.std.proofs.Common.{rules, arith, ◌≡◌, ◌<◌, ◌+◌, ◌∙◌, ℕ, List, length, get_or, ap, sym, subst}
use Rattle.cpt_layout.specs.Shapes.{LayoutShape}
use Rattle.cpt_layout.specs.Places.{Frame, needs_at}
use Rattle.cpt_layout.specs.Numbers.{needs_before, head}
use Rattle.cpt_layout.specs.Laid.{frame_of}
use Rattle.cpt_layout.proofs.Numbering.{need_below}
use Rattle.cpt_layout.proofs.layout.Layout.head_at.Goals as goal

pub bounds-as_slice-number : goal.bounds-as_slice-number
bounds-as_slice-number c =
    let s : Frame = frame_of c.self.inside in
    let x : c.args.x < length s.kinds = subst (λ (t : LayoutShape). c.args.x < length t.frame.kinds) (sym c.self.view_is) c.requires.token in
    let j : c.args.j < length (needs_at s c.args.x) = subst (λ (t : LayoutShape). c.args.j < length (needs_at t.frame c.args.x)) (sym c.self.view_is) c.requires.need in
    let b = need_below s c.args.x c.args.j x j in
    let n : c.number_of-number.result ≡ needs_before s c.args.x + c.args.j = c.number_of-number.ensures ∙ ap (λ (t : LayoutShape). needs_before t.frame c.args.x + c.args.j) (sym c.self.view_is) in
    let l : length c.as_slice.result.now ≡ length c.self.inside.heads.items = ap (λ (xs : List ℕ). length xs) c.as_slice.ensures.value in
    omega (arith, c.self.invariant.count)

pub returns : goal.returns
returns c =
    let s : Frame = frame_of c.self.inside in
    let x : c.args.x < length s.kinds = subst (λ (t : LayoutShape). c.args.x < length t.frame.kinds) (sym c.self.view_is) c.requires.token in
    let j : c.args.j < length (needs_at s c.args.x) = subst (λ (t : LayoutShape). c.args.j < length (needs_at t.frame c.args.x)) (sym c.self.view_is) c.requires.need in
    let n : c.number_of-number.result ≡ needs_before s c.args.x + c.args.j = c.number_of-number.ensures ∙ ap (λ (t : LayoutShape). needs_before t.frame c.args.x + c.args.j) (sym c.self.view_is) in
    ap (λ (xs : List ℕ). get_or xs c.number_of-number.result 0) c.as_slice.ensures.value
    ∙ (ap (λ (i : ℕ). get_or c.self.inside.heads.items i 0) n
    ∙ (c.self.invariant.heads c.args.x c.args.j x j ∙ ap (λ (t : LayoutShape). head t.frame c.args.x c.args.j) c.self.view_is))

pub offset_bounds-as_slice-number : goal.offset_bounds-as_slice-number
offset_bounds-as_slice-number c =
    let s : Frame = frame_of c.self.inside in
    let x : c.args.x < length s.kinds = subst (λ (t : LayoutShape). c.args.x < length t.frame.kinds) (sym c.self.view_is) c.requires.token in
    let j : c.args.j < length (needs_at s c.args.x) = subst (λ (t : LayoutShape). c.args.j < length (needs_at t.frame c.args.x)) (sym c.self.view_is) c.requires.need in
    let b = need_below s c.args.x c.args.j x j in
    let n : c.number_of-number.result ≡ needs_before s c.args.x + c.args.j = c.number_of-number.ensures ∙ ap (λ (t : LayoutShape). needs_before t.frame c.args.x + c.args.j) (sym c.self.view_is) in
    let l : length c.as_slice.result.now ≡ length c.self.inside.heads.items = ap (λ (xs : List ℕ). length xs) c.as_slice.ensures.value in
    let k : c.number_of-number.result < length c.as_slice.result.now = omega (arith, c.self.invariant.count) in
    search rules
