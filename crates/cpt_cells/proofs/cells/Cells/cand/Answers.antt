use Rattle.std.proofs.Common.{arith, ◌≡◌, ◌<◌, ◌+◌, ◌-◌, ℕ, List, length, ap, inl, inr}
use Rattle.std.proofs.lemmas.Bool.{cases_lt}
use Rattle.cpt_sheet.specs.declared.data.Cand.{Cand}
use Rattle.cpt_sheet.specs.declared.data.Cand.TheVariants.{Tok, Out}
use Rattle.cpt_sheet.specs.declared.data.Sheet.{Sheet}
use Rattle.cpt_sheet.specs.View.{cands}
use Rattle.cpt_layout.specs.Places.{Frame, adders_at, atom_at, needs_at}
use Rattle.cpt_block.specs.Blocks.{list_in}
use Rattle.cpt_cells.specs.Lists.{outs_in, tokens_in}
use Rattle.cpt_cells.proofs.Nths.{cand_left, cand_right, count_is}
use Rattle.cpt_cells.proofs.cells.Cells.cand.Goals as goal

pub count_tokens-tokens-requires-clause-need : goal.count_tokens-tokens-requires-clause-need
count_tokens-tokens-requires-clause-need c =
    let s : Sheet = c.args.self.now.sheet in
    let f : Frame = c.args.self.now.frame in
    let x : ℕ = c.args.x in
    let p : ℕ = c.args.p in
    let j : ℕ = c.place-j.result in
    let b : j < length (needs_at f x) = elim (cases_lt j (length (needs_at f x))) [
      | inl l ↦ l
      | inr m ↦ absurd (let e : length (cands s x p) ≡ 0 = ap (λ (cs : List Cand). length cs) (c.place-j.ensures.none m) in omega (arith, c.requires.place))
    ] in
    b

pub nth_token-requires-clause-need : goal.nth_token-requires-clause-need
nth_token-requires-clause-need c =
    let s : Sheet = c.args.self.now.sheet in
    let f : Frame = c.args.self.now.frame in
    let x : ℕ = c.args.x in
    let p : ℕ = c.args.p in
    let j : ℕ = c.place-j.result in
    let b : j < length (needs_at f x) = elim (cases_lt j (length (needs_at f x))) [
      | inl l ↦ l
      | inr m ↦ absurd (let e : length (cands s x p) ≡ 0 = ap (λ (cs : List Cand). length cs) (c.place-j.ensures.none m) in omega (arith, c.requires.place))
    ] in
    b

pub nth_out-requires-clause-need : goal.nth_out-requires-clause-need
nth_out-requires-clause-need c =
    let s : Sheet = c.args.self.now.sheet in
    let f : Frame = c.args.self.now.frame in
    let x : ℕ = c.args.x in
    let p : ℕ = c.args.p in
    let j : ℕ = c.place-j.result in
    let b : j < length (needs_at f x) = elim (cases_lt j (length (needs_at f x))) [
      | inl l ↦ l
      | inr m ↦ absurd (let e : length (cands s x p) ≡ 0 = ap (λ (cs : List Cand). length cs) (c.place-j.ensures.none m) in omega (arith, c.requires.place))
    ] in
    b

pub nth_token-requires-clause-place : goal.nth_token-requires-clause-place
nth_token-requires-clause-place c = omega (arith, c.count_tokens-tokens.ensures.value)

pub nth_out-requires-clause-place : goal.nth_out-requires-clause-place
nth_out-requires-clause-place c =
    let s : Sheet = c.args.self.now.sheet in
    let f : Frame = c.args.self.now.frame in
    let x : ℕ = c.args.x in
    let p : ℕ = c.args.p in
    let j : ℕ = c.place-j.result in
    let b : j < length (needs_at f x) = elim (cases_lt j (length (needs_at f x))) [
      | inl l ↦ l
      | inr m ↦ absurd (let e : length (cands s x p) ≡ 0 = ap (λ (cs : List Cand). length cs) (c.place-j.ensures.none m) in omega (arith, c.requires.place))
    ] in
    let k : length (tokens_in (list_in s x j) (length f.kinds)) + length (outs_in (list_in s x j) (adders_at f (atom_at f x j))) ≡ length (cands s x p) =
    count_is f p (atom_at f x j) (cands s x p) (list_in s x j) c.keeps_order.ensures.order (c.place-j.ensures.list b) (c.place-j.ensures.atom b) in
    omega (arith, c.count_tokens-tokens.ensures.value, c.requires.place)

pub returns-then-place-tokens : goal.returns-then-place-tokens
returns-then-place-tokens c =
    let s : Sheet = c.args.self.now.sheet in
    let f : Frame = c.args.self.now.frame in
    let x : ℕ = c.args.x in
    let p : ℕ = c.args.p in
    let j : ℕ = c.place-j.result in
    let b : j < length (needs_at f x) = elim (cases_lt j (length (needs_at f x))) [
      | inl l ↦ l
      | inr m ↦ absurd (let e : length (cands s x p) ≡ 0 = ap (λ (cs : List Cand). length cs) (c.place-j.ensures.none m) in omega (arith, c.requires.place))
    ] in
    cand_left f p (atom_at f x j) (cands s x p) (list_in s x j) c.keeps_order.ensures.order (c.place-j.ensures.list b) (c.place-j.ensures.atom b) c.args.place (Tok c.nth_token.result)
    (let l : c.args.place < length (tokens_in (list_in s x j) (length f.kinds)) = omega (arith, c.count_tokens-tokens.ensures.value) in l) c.nth_token.ensures

pub returns-else-place-tokens : goal.returns-else-place-tokens
returns-else-place-tokens c =
    let s : Sheet = c.args.self.now.sheet in
    let f : Frame = c.args.self.now.frame in
    let x : ℕ = c.args.x in
    let p : ℕ = c.args.p in
    let j : ℕ = c.place-j.result in
    let b : j < length (needs_at f x) = elim (cases_lt j (length (needs_at f x))) [
      | inl l ↦ l
      | inr m ↦ absurd (let e : length (cands s x p) ≡ 0 = ap (λ (cs : List Cand). length cs) (c.place-j.ensures.none m) in omega (arith, c.requires.place))
    ] in
    cand_right f p (atom_at f x j) (cands s x p) (list_in s x j) c.keeps_order.ensures.order (c.place-j.ensures.list b) (c.place-j.ensures.atom b) c.args.place (c.args.place - c.count_tokens-tokens.result) (Out c.nth_out.result)
    (let l : length (tokens_in (list_in s x j) (length f.kinds)) + (c.args.place - c.count_tokens-tokens.result) ≡ c.args.place = omega (arith, c.count_tokens-tokens.ensures.value) in l) c.nth_out.ensures
