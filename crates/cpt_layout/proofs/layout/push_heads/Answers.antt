use Rattle.std.proofs.Common.{rules, arith, ◌≡◌, ◌<◌, ◌+◌, ◌^◌, ◌∙◌, [], ℕ, List, length, get_or, ap, vec_len}
use Rattle.std.proofs.lemmas.List.{length-append}
use Rattle.cpt_layout.specs.Places.{table}
use Rattle.cpt_layout.specs.Numbers.{own_cells}
use Rattle.cpt_layout.proofs.Lists.{length-table}
use Rattle.cpt_layout.proofs.Laying.{own_most, own_next, row_next}
use Rattle.cpt_layout.proofs.layout.push_heads.Goals as goal

pub push_reserved-requires : goal.push_reserved-requires
push_reserved-requires c =
    let f : ℕ → ℕ = λ j. c.args.first + own_cells c.args.adders.now c.args.token c.args.needs.now j in
    let l : c.loop-p.p-index < length c.args.needs.now = search rules in
    let n : vec_len c.loop-p.heads ≡ length c.loop-p.heads.items = search rules in
    let o : vec_len c.args.heads.now ≡ length c.args.heads.now.items = search rules in
    let e = ap (λ (xs : List ℕ). length xs) c.loop-p.invariant.0 in
    let a = length-append c.args.heads.now.items (table f 0 c.loop-p.p-index) in
    let t = length-table f 0 c.loop-p.p-index in
    omega (arith, c.requires.room, c.loop-p.invariant.1)

pub overflow_add-next-in-loop-p : goal.overflow_add-next-in-loop-p
overflow_add-next-in-loop-p c =
    let l : c.loop-p.p-index < length c.args.needs.now = search rules in
    let r : c.count_adders.result ≡ length (get_or c.args.adders.now (get_or c.args.needs.now c.loop-p.p-index 0) []) = search rules in
    let m = own_most c.args.adders.now c.args.token c.args.needs.now (c.loop-p.p-index + 1) (length c.args.needs.now) (omega arith) in
    let n = own_next c.args.adders.now c.args.token c.args.needs.now c.loop-p.p-index in
    let k : 2 + c.args.token + c.count_adders.result < 2 ^ 64 = omega (arith, c.requires.fits) in
    search rules

pub overflow_add-next-in-loop-p-2 : goal.overflow_add-next-in-loop-p-2
overflow_add-next-in-loop-p-2 c =
    let l : c.loop-p.p-index < length c.args.needs.now = search rules in
    let r : c.count_adders.result ≡ length (get_or c.args.adders.now (get_or c.args.needs.now c.loop-p.p-index 0) []) = search rules in
    let m = own_most c.args.adders.now c.args.token c.args.needs.now (c.loop-p.p-index + 1) (length c.args.needs.now) (omega arith) in
    let n = own_next c.args.adders.now c.args.token c.args.needs.now c.loop-p.p-index in
    let k : c.loop-p.next + (2 + c.args.token + c.count_adders.result) < 2 ^ 64 = omega (arith, c.requires.fits, c.loop-p.invariant.2) in
    search rules

pub loop-p-preserved : goal.loop-p-preserved
loop-p-preserved c =
    let f : ℕ → ℕ = λ j. c.args.first + own_cells c.args.adders.now c.args.token c.args.needs.now j in
    let r : c.count_adders.result ≡ length (get_or c.args.adders.now (get_or c.args.needs.now c.loop-p.p-index 0) []) = search rules in
    let n = own_next c.args.adders.now c.args.token c.args.needs.now c.loop-p.p-index in (
      row_next f c.args.heads.now.items c.loop-p.heads.items c.push_reserved.new.self.items c.loop-p.p-index c.loop-p.next c.loop-p.invariant.0 c.push_reserved.ensures.items c.loop-p.invariant.2,
      c.push_reserved.ensures.capacity ∙ c.loop-p.invariant.1,
      omega (arith, c.loop-p.invariant.2),
    )
