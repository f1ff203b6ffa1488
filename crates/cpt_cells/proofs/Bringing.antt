-- decisions
use Rattle.std.proofs.Common.{◌≡◌, ◌≢◌, ℕ, ◌+◌, ◌<◌, List, [], ◌∷◌, ◌++◌, true, length, sym, ◌∙◌, ap, subst, arith}
use Rattle.std.specs.Prelude.{map}
use Rattle.std.proofs.lemmas.List.{length-append, length-map}
use Rattle.cpt_task.specs.Shape.{TaskShape}
use Rattle.cpt_sheet.specs.declared.data.Cand.{Cand}
use Rattle.cpt_sheet.specs.declared.data.Cand.TheVariants.{Tok, Out}
use Rattle.cpt_sheet.specs.declared.data.Decision.TheVariants.{Bring}
use Rattle.cpt_sheet.specs.declared.data.Kind.{Kind}
use Rattle.cpt_sheet.specs.declared.data.Kind.TheVariants.{Act}
use Rattle.cpt_sheet.specs.declared.data.Token.{Token}
use Rattle.cpt_sheet.specs.declared.data.Sheet.{Sheet}
use Rattle.cpt_sheet.specs.Edits.{with_posted}
use Rattle.cpt_sheet.specs.Formed.{IsFormed, IsPlaced}
use Rattle.cpt_sheet.specs.View.{cands, has, hi, list_for, lo, span_of, token_at}
use Rattle.cpt_calculus.specs.Decisions.{applied, beside, joined, offered}
use Rattle.cpt_calculus.proofs.Brings.{beside_new, map_at, offer_list, token_old}
use Rattle.cpt_calculus.proofs.Reading.{cand_there}
use Rattle.cpt_calculus.proofs.Views.{count_with_list}
use Rattle.cpt_layout.specs.Sheets.{number_of}
use Rattle.cpt_block.specs.Blocks.{beside_new as with_new_token, grown, new_token}
use Rattle.cpt_block.proofs.Parts.{brings_by_parts}
use Rattle.cpt_cells.proofs.Rooting.{interval_number, small_below}

-- the order of two tokens of a sheet, the second of which is not the start
pub placed : (s : Sheet) (x y : ℕ) → x < length s.tokens → y < length s.tokens → x ≢ y → (x ≡ 1 → y ≡ 0 → ⊥) → IsPlaced s x y
placed s x y a b d f = record { first = a; second = b; different = d; forward = λ e. f e.0 e.1 }

pub grown_count : (t : TaskShape) (s : Sheet) (k : Kind) (lo hi : ℕ) → length (grown t s k lo hi).tokens ≡ length s.tokens + 1
grown_count t s k lo hi =
    let old : List Token = map (with_new_token k (length s.tokens)) s.tokens in
    let a : length (old ++ new_token t s k lo hi ∷ []) ≡ length old + 1 = length-append old (new_token t s k lo hi ∷ []) in
    let b : length old ≡ length s.tokens = length-map s.tokens (with_new_token k (length s.tokens)) in
    omega arith

-- where the outside action stands in a list, its new token does
pub grown_listed : (t : TaskShape) (s : Sheet) (x p a lo hi : ℕ) → x < length s.tokens → has (Out a) (cands s x p) ≡ true →
    has (Tok (length s.tokens)) (cands (grown t s (Act a) lo hi) x p) ≡ true
grown_listed t s x p a lo hi l h =
    let n : ℕ = length s.tokens in
    let u : Sheet = record s { tokens = map (offered a n) s.tokens } in
    let b : length u.tokens ≡ n = length-map s.tokens (offered a n) in
    let at : token_at (grown t s (Act a) lo hi) x ≡ offered a n (token_at s x) = token_old u (new_token t s (Act a) lo hi) x x (omega arith) ∙ map_at a n s.tokens x in
    let e : cands (grown t s (Act a) lo hi) x p ≡ beside a n (cands s x p) = ap (λ (z : Token). list_for p z.lists) at ∙ offer_list a n p (token_at s x).lists in
    subst (λ (cs : List Cand). has (Tok n) cs ≡ true) (sym e) (beside_new a n (cands s x p) h)

pub joined_count : (s : Sheet) (x p y : ℕ) → length (joined s x p y).tokens ≡ length s.tokens
joined_count s x p y = count_with_list s x p (λ (cs : List Cand). Tok y ∷ [])

-- the token, the named list and the three orders are the decision
pub bring_is : (t : TaskShape) (s : Sheet) (x p a : ℕ) → IsFormed t s → has (Out a) (cands s x p) ≡ true →
    (let n = length s.tokens in with_posted (with_posted (with_posted (joined (grown t s (Act a) (number_of (lo s (Out a))) (hi s (Out a))) x p n) 0 n) n 1) n x ≡ applied t s (Bring x p a))
bring_is t s x p a f h = sym (brings_by_parts t s x p a (number_of (lo s (Out a))) (hi s (Out a)) (cand_there s x p (Out a) h) (interval_number (span_of s (Out a)) (small_below (lo s (Out a)) (f.outs_below a))))
