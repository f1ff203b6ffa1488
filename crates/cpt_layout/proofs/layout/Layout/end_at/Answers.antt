use Rattle.std.proofs.Common.{rules, arith, ◌≡◌, ◌<◌, ◌∙◌, ◌+◌, ℕ, List, length, get_or, ap, vec_len}
use Rattle.cpt_layout.specs.Shapes.{LayoutShape}
use Rattle.cpt_layout.specs.Places.{Frame}
use Rattle.cpt_layout.specs.Numbers.{base}
use Rattle.cpt_layout.specs.Laid.{frame_of}
use Rattle.cpt_layout.proofs.Lists.{length-table, get_at}
use Rattle.cpt_layout.proofs.layout.Layout.end_at.Goals as goal

pub bounds-as_slice-tokens : goal.bounds-as_slice-tokens
bounds-as_slice-tokens c =
    let s : Frame = frame_of c.self.inside in
    let v : vec_len c.self.inside.kinds ≡ length c.self.inside.kinds.items = search rules in
    let l : length c.self.inside.bases.items ≡ length c.self.inside.kinds.items = ap (λ (xs : List ℕ). length xs) c.self.invariant.bases ∙ length-table (base s) 0 (length c.self.inside.kinds.items) in
    let e : length c.as_slice.result.now ≡ length c.self.inside.bases.items = ap (λ (xs : List ℕ). length xs) c.as_slice.ensures.value in
    omega (arith, c.len.ensures, c.if-tokens-len.true)

pub offset_bounds-as_slice-tokens : goal.offset_bounds-as_slice-tokens
offset_bounds-as_slice-tokens c =
    let s : Frame = frame_of c.self.inside in
    let v : vec_len c.self.inside.kinds ≡ length c.self.inside.kinds.items = search rules in
    let l : length c.self.inside.bases.items ≡ length c.self.inside.kinds.items = ap (λ (xs : List ℕ). length xs) c.self.invariant.bases ∙ length-table (base s) 0 (length c.self.inside.kinds.items) in
    let e : length c.as_slice.result.now ≡ length c.self.inside.bases.items = ap (λ (xs : List ℕ). length xs) c.as_slice.ensures.value in
    let k : c.args.tokens < length c.as_slice.result.now = omega (arith, c.len.ensures, c.if-tokens-len.true) in
    search rules

pub returns-then-tokens-len : goal.returns-then-tokens-len
returns-then-tokens-len c =
    let s : Frame = frame_of c.self.inside in
    let v : vec_len c.self.inside.kinds ≡ length c.self.inside.kinds.items = search rules in
    let l : c.args.tokens < length c.self.inside.kinds.items = omega (arith, c.len.ensures, c.if-tokens-len.true) in
    ap (λ (xs : List ℕ). get_or xs c.args.tokens 0) (c.as_slice.ensures.value ∙ c.self.invariant.bases)
    ∙ (get_at (base s) 0 (length c.self.inside.kinds.items) c.args.tokens 0 l
    ∙ (ap (λ (i : ℕ). base s i) (let z : 0 + c.args.tokens ≡ c.args.tokens = omega arith in z) ∙ ap (λ (t : LayoutShape). base t.frame c.args.tokens) c.self.view_is))
