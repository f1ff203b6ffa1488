-- what the tokens of a sheet stand for
use Rattle.std.proofs.Common.{◌≡◌, ℕ, zero, suc, ◌+◌, ◌≤◌, List, [], ◌∷◌, ◌++◌, length, refl, ◌∙◌, ap, arith, length-set, length-append, get_or, map, set}
use Rattle.std.proofs.lemmas.List.{length-map, map-append}
use Rattle.std.proofs.lemmas.Option.{unwrap_or-slice_get}
use Rattle.cpt_task.specs.Shape.{TaskShape}
use Rattle.cpt_sheet.specs.declared.data.Cand.TheVariants.{Tok, Out}
use Rattle.cpt_sheet.specs.declared.data.Sheet.{Sheet}
use Rattle.cpt_sheet.specs.declared.data.Decision.{Decision}
use Rattle.cpt_sheet.specs.declared.data.Decision.TheVariants.{Join, Bring, Before}
use Rattle.cpt_sheet.specs.declared.data.Change.{Change}
use Rattle.cpt_sheet.specs.declared.data.Change.TheVariants.{Raise, Lower, Take, Post}
use Rattle.cpt_sheet.specs.declared.data.Kind.{Kind}
use Rattle.cpt_sheet.specs.declared.data.Token.{Token}
use Rattle.cpt_sheet.specs.View.{token_at, no_token}
use Rattle.cpt_sheet.specs.Edits.{changed}
use Rattle.cpt_calculus.specs.Decisions.{applied, joined, with_offers, brought, offered}
use Rattle.cpt_index.specs.Index.{kinds_of}
use Rattle.cpt_store.specs.Held.{brings, kinds_with}

-- the kinds of the tokens stay
set_kinds : (xs : List Token) (x : ℕ) (z : Token) → z.kind ≡ (get_or xs x no_token).kind → map (λ (w : Token). w.kind) (set xs x z) ≡ map (λ (w : Token). w.kind) xs
set_kinds [] x z e = refl
set_kinds (y ∷ ys) zero z e = ap (λ (k : Kind). k ∷ map (λ (w : Token). w.kind) ys) e
set_kinds (y ∷ ys) (suc x) z e = ap (λ ks. y.kind ∷ ks) (set_kinds ys x z e)

here : (s : Sheet) (x : ℕ) → (token_at s x).kind ≡ (get_or s.tokens x no_token).kind
here s x = ap (λ (w : Token). w.kind) (unwrap_or-slice_get s.tokens x no_token)

pub kinds_changed : (s : Sheet) (ch : Change) → kinds_of (changed s ch) ≡ kinds_of s
kinds_changed s (Raise (Tok x) v) = set_kinds s.tokens x _ (here s x)
kinds_changed s (Raise (Out a) v) = refl
kinds_changed s (Lower (Tok x) v) = set_kinds s.tokens x _ (here s x)
kinds_changed s (Lower (Out a) v) = refl
kinds_changed s (Take x p c) = set_kinds s.tokens x _ (here s x)
kinds_changed s (Post x y) = refl

-- a decision brings one token at most
pub tokens_applied : (t : TaskShape) (s : Sheet) (d : Decision) → length (applied t s d).tokens ≤ length s.tokens + 1
tokens_applied t s (Join x p y) = let e : (z : ℕ) → length (applied t s (Join x p y)).tokens ≡ length s.tokens = λ z. length-set s.tokens x _ in let k = e 0 in omega arith
tokens_applied t s (Before x y) = omega arith
tokens_applied t s (Bring x p a) =
    let n = length s.tokens in
    let e = length-append (joined (with_offers s a n) x p n).tokens (brought t s a ∷ []) in
    let f : (z : ℕ) → length (joined (with_offers s a n) x p n).tokens ≡ length (with_offers s a n).tokens = λ z. length-set (with_offers s a n).tokens x _ in
    let k = f 0 in
    let m : length (with_offers s a n).tokens ≡ n = length-map s.tokens (offered a n) in
    omega arith

-- what the tokens stand for after a decision
offered_kinds : (a n : ℕ) (zs : List Token) → map (λ (w : Token). w.kind) (map (offered a n) zs) ≡ map (λ (w : Token). w.kind) zs
offered_kinds a n [] = refl
offered_kinds a n (z ∷ zs) = ap (λ ks. z.kind ∷ ks) (offered_kinds a n zs)

pub kinds_applied : (t : TaskShape) (s : Sheet) (d : Decision) → kinds_of (applied t s d) ≡ kinds_with (kinds_of s) (brings d)
kinds_applied t s (Join x p y) = set_kinds s.tokens x _ (here s x)
kinds_applied t s (Before x y) = refl
kinds_applied t s (Bring x p a) =
    map-append (λ (w : Token). w.kind) (joined (with_offers s a (length s.tokens)) x p (length s.tokens)).tokens (brought t s a ∷ [])
    ∙ ap (λ (ks : List Kind). ks ++ (brought t s a).kind ∷ [])
    (set_kinds (with_offers s a (length s.tokens)).tokens x _ (here (with_offers s a (length s.tokens)) x) ∙ offered_kinds a (length s.tokens) s.tokens)
