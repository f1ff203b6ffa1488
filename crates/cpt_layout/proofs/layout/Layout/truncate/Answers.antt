use Rattle.std.proofs.Common.{rules, arith, ◌≡◌, ◌<◌, ◌≤◌, ◌∙◌, ◌+◌, ◌-◌, ℕ, List, length, get_or, take, ap, sym, subst, vec_len, vec_capacity}
use Rattle.std.specs.Prelude.{min}
use Rattle.cpt_sheet.specs.declared.data.Kind.{Kind}
use Rattle.cpt_layout.specs.Shapes.{LayoutShape}
use Rattle.cpt_layout.specs.Places.{Frame, cut}
use Rattle.cpt_layout.specs.Numbers.{base, needs_before}
use Rattle.cpt_layout.specs.Laid.{frame_of, IsLaid}
use Rattle.cpt_layout.proofs.Lists.{length-table, get_at}
use Rattle.cpt_layout.proofs.Laying.{laid_cut, before_most, room_three}
use Rattle.cpt_layout.proofs.layout.Layout.truncate.Goals as goal

pub bounds-as_slice-tokens : goal.bounds-as_slice-tokens
bounds-as_slice-tokens c =
    let s : Frame = frame_of c.self.inside in
    let v : vec_len c.self.inside.kinds ≡ length c.self.inside.kinds.items = search rules in
    let l : length c.self.inside.firsts.items ≡ length c.self.inside.kinds.items = ap (λ (xs : List ℕ). length xs) c.self.invariant.firsts ∙ length-table (needs_before s) 0 (length c.self.inside.kinds.items) in
    let e : length c.as_slice.result.now ≡ length c.self.inside.firsts.items = ap (λ (xs : List ℕ). length xs) c.as_slice.ensures.value in
    omega (arith, c.len.ensures, c.if-tokens-len.true)

pub invariant_of-self : goal.invariant_of-self
invariant_of-self c =
    let i = c.self.inside in
    let s : Frame = frame_of i in
    let n : ℕ = c.args.tokens in
    let h = c.self.invariant in
    let v : vec_len i.kinds ≡ length i.kinds.items = search rules in
    let l : n < length i.kinds.items = omega (arith, c.len.ensures, c.if-tokens-len.true) in
    let z : 0 + n ≡ n = omega arith in
    let d : get_or c.as_slice.result.now n 0 ≡ needs_before s n = ap (λ (xs : List ℕ). get_or xs n 0) (c.as_slice.ensures.value ∙ h.firsts) ∙ (get_at (needs_before s) 0 (length i.kinds.items) n 0 l ∙ ap (λ (j : ℕ). needs_before s j) z) in
    let e : c.truncate.new.self.items ≡ take (needs_before s n) i.heads.items = c.truncate.ensures.items ∙ ap (λ (j : ℕ). take j i.heads.items) d in
    subst (λ (ks : List Kind). IsLaid (record s { kinds = ks }) c.truncate-then-tokens-len-2.new.self.items c.truncate-then-tokens-len.new.self.items c.truncate.new.self.items) (sym c.truncate-then-tokens-len-3.ensures.items)
    (subst (λ (bs : List ℕ). IsLaid (cut s n) bs c.truncate-then-tokens-len.new.self.items c.truncate.new.self.items) (sym c.truncate-then-tokens-len-2.ensures.items)
    (subst (λ (fs : List ℕ). IsLaid (cut s n) (take n i.bases.items) fs c.truncate.new.self.items) (sym c.truncate-then-tokens-len.ensures.items)
    (subst (λ (hs : List ℕ). IsLaid (cut s n) (take n i.bases.items) (take n i.firsts.items) hs) (sym e)
    (laid_cut s n i.bases.items i.firsts.items i.heads.items (omega arith) h))))

pub returns-then-tokens-len-clause-token_room : goal.returns-then-tokens-len-clause-token_room
returns-then-tokens-len-clause-token_room c =
    let i = c.self.inside in
    let s : Frame = frame_of i in
    let n : ℕ = c.args.tokens in
    let k : ℕ = length i.kinds.items in
    let h = c.self.invariant in
    let vk : vec_len i.kinds ≡ length i.kinds.items = search rules in
    let vb : vec_len i.bases ≡ length i.bases.items = search rules in
    let vf : vec_len i.firsts ≡ length i.firsts.items = search rules in
    let lb : length i.bases.items ≡ k = ap (λ (xs : List ℕ). length xs) h.bases ∙ length-table (base s) 0 k in
    let lf : length i.firsts.items ≡ k = ap (λ (xs : List ℕ). length xs) h.firsts ∙ length-table (needs_before s) 0 k in
    let ck : vec_len i.kinds ≤ vec_capacity i.kinds = search rules in
    let cb : vec_len i.bases ≤ vec_capacity i.bases = search rules in
    let cf : vec_len i.firsts ≤ vec_capacity i.firsts = search rules in
    let l : n < k = omega (arith, c.len.ensures, c.if-tokens-len.true) in
    let nk : vec_len c.truncate-then-tokens-len-3.new.self ≡ n = omega (arith, c.truncate-then-tokens-len-3.ensures.len) in
    let nb : vec_len c.truncate-then-tokens-len-2.new.self ≡ n = omega (arith, c.truncate-then-tokens-len-2.ensures.len) in
    let nf : vec_len c.truncate-then-tokens-len.new.self ≡ n = omega (arith, c.truncate-then-tokens-len.ensures.len) in
    let room : c.args.self.now.token_room + length c.args.self.now.frame.kinds ≡ min (vec_capacity i.kinds - vec_len i.kinds) (min (vec_capacity i.bases - vec_len i.bases) (vec_capacity i.firsts - vec_len i.firsts)) + k = ap (λ (t : LayoutShape). t.token_room + length t.frame.kinds) (sym c.self.view_is) in
    let f : ℕ → ℕ → ℕ → ℕ = λ x y z. min (x - vec_len c.truncate-then-tokens-len-3.new.self) (min (y - vec_len c.truncate-then-tokens-len-2.new.self) (z - vec_len c.truncate-then-tokens-len.new.self)) + n in
    ap (λ (x : ℕ). f x (vec_capacity c.truncate-then-tokens-len-2.new.self) (vec_capacity c.truncate-then-tokens-len.new.self)) c.truncate-then-tokens-len-3.ensures.capacity
    ∙ (ap (λ (y : ℕ). f (vec_capacity i.kinds) y (vec_capacity c.truncate-then-tokens-len.new.self)) c.truncate-then-tokens-len-2.ensures.capacity
    ∙ (ap (λ (z : ℕ). f (vec_capacity i.kinds) (vec_capacity i.bases) z) c.truncate-then-tokens-len.ensures.capacity
    ∙ (room_three (vec_len i.kinds) (vec_len i.bases) (vec_len i.firsts) (vec_len c.truncate-then-tokens-len-3.new.self) (vec_len c.truncate-then-tokens-len-2.new.self) (vec_len c.truncate-then-tokens-len.new.self) k n (vec_capacity i.kinds) (vec_capacity i.bases) (vec_capacity i.firsts)
    vk (vb ∙ lb) (vf ∙ lf) nk nb nf (omega arith) (omega arith) (omega arith) (omega arith)
    ∙ sym room)))

pub returns-then-tokens-len-clause-need_room : goal.returns-then-tokens-len-clause-need_room
returns-then-tokens-len-clause-need_room c =
    let i = c.self.inside in
    let s : Frame = frame_of i in
    let n : ℕ = c.args.tokens in
    let k : ℕ = length i.kinds.items in
    let h = c.self.invariant in
    let vk : vec_len i.kinds ≡ length i.kinds.items = search rules in
    let vh : vec_len i.heads ≡ length i.heads.items = search rules in
    let ch : vec_len i.heads ≤ vec_capacity i.heads = search rules in
    let l : n < k = omega (arith, c.len.ensures, c.if-tokens-len.true) in
    let z : 0 + n ≡ n = omega arith in
    let d : get_or c.as_slice.result.now n 0 ≡ needs_before s n = ap (λ (xs : List ℕ). get_or xs n 0) (c.as_slice.ensures.value ∙ h.firsts) ∙ (get_at (needs_before s) 0 k n 0 l ∙ ap (λ (j : ℕ). needs_before s j) z) in
    let m = before_most s n k (omega arith) in
    let a : needs_before s n ≡ needs_before c.args.self.now.frame n = ap (λ (t : LayoutShape). needs_before t.frame n) c.self.view_is in
    let b : needs_before s k ≡ needs_before c.args.self.now.frame (length c.args.self.now.frame.kinds) = ap (λ (t : LayoutShape). needs_before t.frame (length t.frame.kinds)) c.self.view_is in
    let r : c.args.self.now.need_room ≡ vec_capacity i.heads - vec_len i.heads = ap (λ (t : LayoutShape). t.need_room) (sym c.self.view_is) in
    let e : vec_len c.truncate.new.self + (vec_len i.heads - get_or c.as_slice.result.now n 0) ≡ vec_len i.heads = c.truncate.ensures.len in
    let q = h.count in
    let w = c.truncate.ensures.capacity in
    omega arith
