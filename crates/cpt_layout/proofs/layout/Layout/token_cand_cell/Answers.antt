use Rattle.std.proofs.Common.{rules, arith, ◌≡◌, ◌<◌, ◌^◌, ◌+◌, ◌*◌, ℕ}
use Rattle.std.specs.Prelude.{nat_lt}
use Rattle.std.proofs.lemmas.Bool.{lt-ltb}
use Rattle.cpt_sheet.specs.declared.data.Cand.TheVariants.{Tok}
use Rattle.cpt_layout.specs.Places.{member, atom_at}
use Rattle.cpt_layout.specs.Numbers.{cell_of, base, head, needs_before}
use Rattle.cpt_layout.proofs.Lists.{if_true, if_false}
use Rattle.cpt_layout.proofs.Numbering.{cell_below, lt_no, in_tokens}
use Rattle.cpt_layout.proofs.layout.Layout.token_cand_cell.Goals as goal

pub base_at-requires : goal.base_at-requires
base_at-requires c = in_tokens c.args.self.now.frame (atom_at c.args.self.now.frame c.args.x c.args.j) c.args.y c.requires.there.2

pub overflow_add-result-then-y-x : goal.overflow_add-result-then-y-x
overflow_add-result-then-y-x c =
    let s = c.args.self.now.frame in
    let x : ℕ = c.args.x in
    let y : ℕ = c.args.y in
    let j : ℕ = c.args.j in
    let b = cell_below s (member x j (Tok y)) c.requires.there in
    let e : cell_of s (member x j (Tok y)) ≡ head s x j + (2 + y) = if_true (nat_lt y x) (head s x j + (2 + y)) (base s y + (2 + 2 * y + (needs_before s x + j))) (lt-ltb y x c.if-y-x.true) in
    let k : c.head_at.result + (2 + y) < 2 ^ 64 = omega (arith, c.requires.fits, c.head_at.ensures) in
    search rules

pub overflow_add-result-else-y-x-3 : goal.overflow_add-result-else-y-x-3
overflow_add-result-else-y-x-3 c =
    let s = c.args.self.now.frame in
    let x : ℕ = c.args.x in
    let y : ℕ = c.args.y in
    let j : ℕ = c.args.j in
    let b = cell_below s (member x j (Tok y)) c.requires.there in
    let e : cell_of s (member x j (Tok y)) ≡ base s y + (2 + 2 * y + (needs_before s x + j)) = if_false (nat_lt y x) (head s x j + (2 + y)) (base s y + (2 + 2 * y + (needs_before s x + j))) (lt_no y x c.if-y-x.false) in
    let k : c.base_at.result + (2 + 2 * y + c.number_of.result) < 2 ^ 64 = omega (arith, c.requires.fits, c.base_at.ensures, c.number_of.ensures) in
    search rules

pub overflow_add-result-else-y-x-2 : goal.overflow_add-result-else-y-x-2
overflow_add-result-else-y-x-2 c =
    let s = c.args.self.now.frame in
    let x : ℕ = c.args.x in
    let y : ℕ = c.args.y in
    let j : ℕ = c.args.j in
    let b = cell_below s (member x j (Tok y)) c.requires.there in
    let e : cell_of s (member x j (Tok y)) ≡ base s y + (2 + 2 * y + (needs_before s x + j)) = if_false (nat_lt y x) (head s x j + (2 + y)) (base s y + (2 + 2 * y + (needs_before s x + j))) (lt_no y x c.if-y-x.false) in
    let k : 2 + 2 * y + c.number_of.result < 2 ^ 64 = omega (arith, c.requires.fits, c.base_at.ensures, c.number_of.ensures) in
    search rules
