-- a decision that brings a token is made in parts: the token, the named list, and three orders
use Rattle.std.proofs.Common.{◌≡◌, ℕ, ◌<◌, List, [], ◌∷◌, ◌++◌, length, set, unwrap_or, slice_get, sym, ◌∙◌, ap, arith}
use Rattle.std.specs.Prelude.{map}
use Rattle.std.proofs.lemmas.List.{get_or_append_left, set-append_left}
use Rattle.std.proofs.lemmas.Option.{unwrap_or-slice_get}
use Rattle.cpt_tables.specs.Admissible.{nth_action}
use Rattle.cpt_sheet.specs.declared.data.Cand.{Cand}
use Rattle.cpt_sheet.specs.declared.data.Cand.TheVariants.{Tok}
use Rattle.cpt_sheet.specs.declared.data.Interval.{Interval}
use Rattle.cpt_sheet.specs.declared.data.Kind.TheVariants.{Act}
use Rattle.cpt_sheet.specs.declared.data.Sheet.{Sheet}
use Rattle.cpt_sheet.specs.declared.data.Token.{Token}
use Rattle.cpt_sheet.specs.Edits.{posted, revised}
use Rattle.cpt_sheet.specs.View.{no_token, token_at}
use Rattle.cpt_calculus.specs.Decisions.{brought, joined, need_for, offered, with_offers}
use Rattle.cpt_calculus.proofs.Brings.{map_count}
use Rattle.cpt_calculus.proofs.Views.{count_with_list}
use Rattle.cpt_block.specs.Blocks.{BringsByParts, grown, new_token}

token_left : (xs ys : List Token) (x : ℕ) → x < length xs → unwrap_or (slice_get (xs ++ ys) x) no_token ≡ unwrap_or (slice_get xs x) no_token
token_left xs ys x l = unwrap_or-slice_get (xs ++ ys) x no_token ∙ (get_or_append_left xs ys no_token x l ∙ sym (unwrap_or-slice_get xs x no_token))

abbrev only_by : ℕ → ℕ → Token → Token
only_by p n z = record z { lists = revised p (λ cs. Tok n ∷ []) z.lists }

abbrev with_parts : Sheet → List Token → ℕ → ℕ → Sheet
with_parts s zs x m = record s { tokens = zs; orders = posted m x (posted m 1 (posted 0 m s.orders)) }

pub brings_by_parts : BringsByParts
brings_by_parts t s x p a lo hi l e =
    let n : ℕ = length s.tokens in
    let old : List Token = map (offered a n) s.tokens in
    let z : Token = new_token t s (Act a) lo hi in
    let made : Interval → Token = λ i. record { kind = Act a; span = i; lists = map (need_for t s) (nth_action t a).pre } in
    let same : z ≡ brought t s a = ap (λ (i : Interval). made i) e in
    let c : length old ≡ n = map_count a n s.tokens in
    let m : length (joined (with_offers s a n) x p n).tokens ≡ n = count_with_list (with_offers s a n) x p (λ (cs : List Cand). Tok n ∷ []) ∙ c in
    let b : x < length old = omega arith in
    let at : token_at (grown t s (Act a) lo hi) x ≡ token_at (with_offers s a n) x = token_left old (z ∷ []) x b in
    let named : (joined (grown t s (Act a) lo hi) x p n).tokens ≡ (joined (with_offers s a n) x p n).tokens ++ z ∷ [] =
    ap (λ (y : Token). set (old ++ z ∷ []) x (only_by p n y)) at ∙ set-append_left old (z ∷ []) x (only_by p n (token_at (with_offers s a n) x)) b in
    sym (
    ap (λ (zs : List Token). with_parts s zs x n) (named ∙ ap (λ (y : Token). (joined (with_offers s a n) x p n).tokens ++ y ∷ []) same)
    ∙ ap (λ (i : ℕ). with_parts s ((joined (with_offers s a n) x p n).tokens ++ brought t s a ∷ []) x i) (sym m)
    )
