use Rattle.std.proofs.Common.{rules, arith, ◌≡◌, ◌<◌, ◌+◌, ℕ, List, length, ap, sym, subst}
use Rattle.cpt_layout.specs.Shapes.{LayoutShape}
use Rattle.cpt_layout.specs.Places.{Frame, needs_at}
use Rattle.cpt_layout.specs.Numbers.{needs_before}
use Rattle.cpt_layout.specs.Laid.{frame_of}
use Rattle.cpt_layout.proofs.Numbering.{need_below}
use Rattle.cpt_layout.proofs.layout.Layout.number_of.Goals as goal
use Rattle.std.proofs.Common.{◌^◌}

pub overflow_add-result : goal.overflow_add-result
overflow_add-result c =
    let s : Frame = frame_of c.self.inside in
    let x : c.args.x < length s.kinds = subst (λ (t : LayoutShape). c.args.x < length t.frame.kinds) (sym c.self.view_is) c.requires.token in
    let j : c.args.j < length (needs_at s c.args.x) = subst (λ (t : LayoutShape). c.args.j < length (needs_at t.frame c.args.x)) (sym c.self.view_is) c.requires.need in
    let b = need_below s c.args.x c.args.j x j in
    let l : length c.as_slice-heads.result.now ≡ length c.self.inside.heads.items = ap (λ (xs : List ℕ). length xs) c.as_slice-heads.ensures.value in
    let m : length c.as_slice-heads.result.now < 2 ^ 64 = c.as_slice-heads.type_inv.0 in
    let e : needs_before s c.args.x ≡ needs_before c.args.self.now.frame c.args.x = ap (λ (t : LayoutShape). needs_before t.frame c.args.x) c.self.view_is in
    let k : c.first_at-first.result + c.args.j < 2 ^ 64 = omega (arith, c.self.invariant.count, c.first_at-first.ensures) in
    search rules
