use Rattle.std.proofs.Common.{arith, ◌≡◌, ◌<◌, ◌≤◌, ◌+◌, ◌∙◌, ℕ, List, length, ap, sym}
use Rattle.cpt_sheet.specs.declared.data.Cand.{Cand}
use Rattle.cpt_sheet.specs.declared.data.Sheet.{Sheet}
use Rattle.cpt_sheet.specs.View.{cands}
use Rattle.cpt_layout.specs.Places.{Frame, atom_at, needs_at}
use Rattle.cpt_block.specs.Blocks.{list_in}
use Rattle.cpt_cells.specs.Lists.{tokens_in}
use Rattle.cpt_cells.proofs.Nths.{count_is}
use Rattle.cpt_cells.proofs.cells.Cells.count.Goals as goal

pub returns-then-j-needs : goal.returns-then-j-needs
returns-then-j-needs c =
    let s : Sheet = c.args.self.now.sheet in
    let f : Frame = c.args.self.now.frame in
    let x : ℕ = c.args.x in
    let p : ℕ = c.args.p in
    let j : ℕ = c.place-j.result in
    let n : length c.needs.result.now ≡ length (needs_at f x) = ap (λ (zs : List ℕ). length zs) c.needs.ensures.value in
    let b : j < length (needs_at f x) = omega arith in
    ap (λ (m : ℕ). m + c.count_outs.result) c.count_tokens.ensures.value
    ∙ (ap (λ (m : ℕ). length (tokens_in (list_in s x j) (length f.kinds)) + m) c.count_outs.ensures.value
    ∙ count_is f p (atom_at f x j) (cands s x p) (list_in s x j) c.keeps_order.ensures.order (c.place-j.ensures.list b) (c.place-j.ensures.atom b))

pub returns-else-j-needs : goal.returns-else-j-needs
returns-else-j-needs c =
    let s : Sheet = c.args.self.now.sheet in
    let f : Frame = c.args.self.now.frame in
    let x : ℕ = c.args.x in
    let p : ℕ = c.args.p in
    let j : ℕ = c.place-j.result in
    let n : length c.needs.result.now ≡ length (needs_at f x) = ap (λ (zs : List ℕ). length zs) c.needs.ensures.value in
    let b : length (needs_at f x) ≤ j = omega arith in
    ap (λ (cs : List Cand). length cs) (sym (c.place-j.ensures.none b))
