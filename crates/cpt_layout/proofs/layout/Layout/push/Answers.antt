use Rattle.std.proofs.Common.{rules, arith, ◌≡◌, ◌<◌, ◌∙◌, ◌+◌, ◌-◌, ◌*◌, ◌^◌, ◌++◌, ◌∷◌, [], ℕ, List, length, ap, sym, subst, vec_len, vec_capacity}
use Rattle.std.proofs.lemmas.List.{length-append}
use Rattle.cpt_sheet.specs.declared.data.Kind.{Kind}
use Rattle.cpt_layout.specs.Shapes.{LayoutShape}
use Rattle.cpt_layout.specs.Places.{Frame, extended, table, needs_by, needs_by_lists}
use Rattle.cpt_layout.specs.Numbers.{base, own_cells, cells_in}
use Rattle.cpt_layout.specs.Laid.{frame_of, IsLaid}
use Rattle.cpt_layout.proofs.Lists.{length-table}
use Rattle.cpt_layout.proofs.Laying.{laid_more, new_heads, new_end}
use Rattle.cpt_layout.proofs.layout.Layout.push.Goals as goal

pub overflow_add-end : goal.overflow_add-end
overflow_add-end c =
    let i = c.self.inside in
    let s : Frame = frame_of i in
    let vk : vec_len i.kinds ≡ length i.kinds.items = search rules in
    let vh : vec_len i.heads ≡ length i.heads.items = search rules in
    let fit : cells_in (extended s (c.args.kind ∷ [])) < 2 ^ 64 = subst (λ (t : LayoutShape). cells_in (extended t.frame (c.args.kind ∷ [])) < 2 ^ 64) (sym c.self.view_is) c.requires.fits in
    let e : c.args.end ≡ base s (length i.kinds.items) = c.requires.end ∙ ap (λ (t : LayoutShape). cells_in t.frame) (sym c.self.view_is) in
    let n = new_end s c.args.kind in
    let k : c.args.end + (2 + 2 * c.len-token.result + c.len-first.result) < 2 ^ 64 = omega (arith, c.len-token.ensures, c.len-first.ensures, c.self.invariant.count) in
    search rules

pub push_heads-requires-clause-fits : goal.push_heads-requires-clause-fits
push_heads-requires-clause-fits c =
    let i = c.self.inside in
    let s : Frame = frame_of i in
    let vk : vec_len i.kinds ≡ length i.kinds.items = search rules in
    let vh : vec_len i.heads ≡ length i.heads.items = search rules in
    let fit : cells_in (extended s (c.args.kind ∷ [])) < 2 ^ 64 = subst (λ (t : LayoutShape). cells_in (extended t.frame (c.args.kind ∷ [])) < 2 ^ 64) (sym c.self.view_is) c.requires.fits in
    let e : c.args.end ≡ base s (length i.kinds.items) = c.requires.end ∙ ap (λ (t : LayoutShape). cells_in t.frame) (sym c.self.view_is) in
    let n = new_end s c.args.kind in
    let d : c.needs_of_kind-needs.result.now ≡ needs_by s c.args.kind = c.needs_of_kind-needs.ensures ∙ (ap (λ (ps : List (List ℕ)). needs_by_lists ps c.as_slice-2.result.now c.args.kind) c.as_slice.ensures ∙ ap (λ (gs : List ℕ). needs_by_lists i.pre gs c.args.kind) c.as_slice-2.ensures) in
    let t : c.len-token.result ≡ length i.kinds.items = c.len-token.ensures ∙ vk in
    let own : own_cells c.as_slice-3.result.now c.len-token.result c.needs_of_kind-needs.result.now (length c.needs_of_kind-needs.result.now) ≡ own_cells s.adders (length i.kinds.items) (needs_by s c.args.kind) (length (needs_by s c.args.kind)) =
    ap (λ (ad : List (List ℕ)). own_cells ad c.len-token.result c.needs_of_kind-needs.result.now (length c.needs_of_kind-needs.result.now)) c.as_slice-3.ensures
    ∙ (ap (λ (x : ℕ). own_cells i.adders x c.needs_of_kind-needs.result.now (length c.needs_of_kind-needs.result.now)) t
    ∙ ap (λ (ns : List ℕ). own_cells i.adders (length i.kinds.items) ns (length ns)) d) in
    omega (arith, c.len-first.ensures, c.self.invariant.count)

pub invariant_of-self : goal.invariant_of-self
invariant_of-self c =
    let i = c.self.inside in
    let s : Frame = frame_of i in
    let vk : vec_len i.kinds ≡ length i.kinds.items = search rules in
    let vh : vec_len i.heads ≡ length i.heads.items = search rules in
    let e : c.args.end ≡ base s (length i.kinds.items) = c.requires.end ∙ ap (λ (t : LayoutShape). cells_in t.frame) (sym c.self.view_is) in
    let d : c.needs_of_kind-needs.result.now ≡ needs_by s c.args.kind = c.needs_of_kind-needs.ensures ∙ (ap (λ (ps : List (List ℕ)). needs_by_lists ps c.as_slice-2.result.now c.args.kind) c.as_slice.ensures ∙ ap (λ (gs : List ℕ). needs_by_lists i.pre gs c.args.kind) c.as_slice-2.ensures) in
    let t : c.len-token.result ≡ length i.kinds.items = c.len-token.ensures ∙ vk in
    let f : c.len-first.result ≡ length i.heads.items = c.len-first.ensures ∙ vh in
    let made : List (List ℕ) → ℕ → ℕ → List ℕ → List ℕ = λ ad x y ns. i.heads.items ++ table (λ j. c.args.end + (2 + 2 * x + y) + own_cells ad x ns j) 0 (length ns) in
    let hs : c.push_heads.new.heads.items ≡ i.heads.items ++ new_heads s c.args.kind (c.args.end + (2 + 2 * length i.kinds.items + length i.heads.items)) =
    c.push_heads.ensures.items
    ∙ (ap (λ (ad : List (List ℕ)). made ad c.len-token.result c.len-first.result c.needs_of_kind-needs.result.now) c.as_slice-3.ensures
    ∙ (ap (λ (x : ℕ). made i.adders x c.len-first.result c.needs_of_kind-needs.result.now) t
    ∙ (ap (λ (y : ℕ). made i.adders (length i.kinds.items) y c.needs_of_kind-needs.result.now) f
    ∙ ap (λ (ns : List ℕ). made i.adders (length i.kinds.items) (length i.heads.items) ns) d))) in
    let fs : c.push_reserved-3.new.self.items ≡ i.firsts.items ++ length i.heads.items ∷ [] = c.push_reserved-3.ensures.items ∙ ap (λ (y : ℕ). i.firsts.items ++ y ∷ []) f in
    subst (λ (ks : List Kind). IsLaid (record s { kinds = ks }) c.push_reserved-2.new.self.items c.push_reserved-3.new.self.items c.push_heads.new.heads.items) (sym c.push_reserved.ensures.items)
    (subst (λ (bs : List ℕ). IsLaid (extended s (c.args.kind ∷ [])) bs c.push_reserved-3.new.self.items c.push_heads.new.heads.items) (sym c.push_reserved-2.ensures.items)
    (subst (λ (gs : List ℕ). IsLaid (extended s (c.args.kind ∷ [])) (i.bases.items ++ c.args.end ∷ []) gs c.push_heads.new.heads.items) (sym fs)
    (subst (λ (gs : List ℕ). IsLaid (extended s (c.args.kind ∷ [])) (i.bases.items ++ c.args.end ∷ []) (i.firsts.items ++ length i.heads.items ∷ []) gs) (sym hs)
    (laid_more s c.args.kind i.bases.items i.firsts.items i.heads.items c.args.end c.self.invariant e))))

pub returns-clause-need_room : goal.returns-clause-need_room
returns-clause-need_room c =
    let i = c.self.inside in
    let s : Frame = frame_of i in
    let d : c.needs_of_kind-needs.result.now ≡ needs_by s c.args.kind = c.needs_of_kind-needs.ensures ∙ (ap (λ (ps : List (List ℕ)). needs_by_lists ps c.as_slice-2.result.now c.args.kind) c.as_slice.ensures ∙ ap (λ (gs : List ℕ). needs_by_lists i.pre gs c.args.kind) c.as_slice-2.ensures) in
    let f : ℕ → ℕ = λ j. c.args.end + (2 + 2 * c.len-token.result + c.len-first.result) + own_cells c.as_slice-3.result.now c.len-token.result c.needs_of_kind-needs.result.now j in
    let vh : vec_len i.heads ≡ length i.heads.items = search rules in
    let vn : vec_len c.push_heads.new.heads ≡ length c.push_heads.new.heads.items = search rules in
    let a : length c.push_heads.new.heads.items ≡ length i.heads.items + length (table f 0 (length c.needs_of_kind-needs.result.now)) = ap (λ (xs : List ℕ). length xs) c.push_heads.ensures.items ∙ length-append i.heads.items (table f 0 (length c.needs_of_kind-needs.result.now)) in
    let b = length-table f 0 (length c.needs_of_kind-needs.result.now) in
    let n : length c.needs_of_kind-needs.result.now ≡ length (needs_by c.args.self.now.frame c.args.kind) = ap (λ (ns : List ℕ). length ns) d ∙ ap (λ (t : LayoutShape). length (needs_by t.frame c.args.kind)) c.self.view_is in
    let r : c.args.self.now.need_room ≡ vec_capacity i.heads - vec_len i.heads = ap (λ (t : LayoutShape). t.need_room) (sym c.self.view_is) in
    let q = c.requires.need_room in
    let w = c.push_heads.ensures.capacity in
    omega arith
