use Rattle.std.proofs.Common.{rules, arith, ◌≡◌, ◌<◌, ◌^◌, ◌+◌, ◌*◌, ℕ}
use Rattle.std.specs.Prelude.{nat_lt}
use Rattle.std.proofs.lemmas.Bool.{lt-ltb}
use Rattle.cpt_layout.specs.Places.{Frame, order}
use Rattle.cpt_layout.specs.Numbers.{cell_of, base}
use Rattle.cpt_layout.proofs.Lists.{if_true, if_false}
use Rattle.cpt_layout.proofs.Numbering.{cell_below, lt_no}
use Rattle.cpt_layout.proofs.layout.Layout.order_cell.Goals as goal

pub overflow_add-result-then-x-y : goal.overflow_add-result-then-x-y
overflow_add-result-then-x-y c =
    let s : Frame = c.args.self.now.frame in
    let x : ℕ = c.args.x in
    let y : ℕ = c.args.y in
    let b = cell_below s (order x y) c.requires.there in
    let e : cell_of s (order x y) ≡ base s y + (2 + 2 * x) = if_true (nat_lt x y) (base s y + (2 + 2 * x)) (base s x + (3 + 2 * y)) (lt-ltb x y c.if-x-y.true) in
    let k : c.base_at.result + (2 + 2 * x) < 2 ^ 64 = omega (arith, c.requires.fits, c.base_at.ensures) in
    search rules

pub overflow_add-result-else-x-y-2 : goal.overflow_add-result-else-x-y-2
overflow_add-result-else-x-y-2 c =
    let s : Frame = c.args.self.now.frame in
    let x : ℕ = c.args.x in
    let y : ℕ = c.args.y in
    let b = cell_below s (order x y) c.requires.there in
    let e : cell_of s (order x y) ≡ base s x + (3 + 2 * y) = if_false (nat_lt x y) (base s y + (2 + 2 * x)) (base s x + (3 + 2 * y)) (lt_no x y c.if-x-y.false) in
    let k : c.base_at-else-x-y.result + (3 + 2 * y) < 2 ^ 64 = omega (arith, c.requires.fits, c.base_at-else-x-y.ensures) in
    search rules
