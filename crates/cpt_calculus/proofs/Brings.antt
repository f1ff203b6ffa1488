-- what is read once a token is brought
use Rattle.std.proofs.Common.{◌≡◌, ℕ, suc, zero, ◌<◌, ◌==◌, List, [], ◌∷◌, ◌++◌, map, Bool, true, false, if◌then◌else◌, length, slice_get, unwrap_or, refl, sym, ◌∙◌, ap, subst, arith, inl, inr, ◌⊎◌}
use Rattle.std.proofs.lemmas.Bool.{or_left, or_right, or_cases}
use Rattle.std.proofs.lemmas.List.{get_or_append_left, length-append}
use Rattle.std.proofs.Math.Seq.{get_or-append_seam}
use Rattle.std.proofs.lemmas.Option.{unwrap_or-slice_get}
use Rattle.cpt_task.specs.Shape.{TaskShape}
use Rattle.cpt_sheet.specs.declared.data.Cand.{Cand}
use Rattle.cpt_sheet.specs.declared.data.Cand.TheVariants.{Tok, Out}
use Rattle.cpt_sheet.specs.declared.data.Need.{Need}
use Rattle.cpt_sheet.specs.declared.data.Token.{Token}
use Rattle.cpt_sheet.specs.declared.data.Sheet.{Sheet}
use Rattle.cpt_sheet.specs.declared.data.Decision.TheVariants.{Bring}
use Rattle.cpt_sheet.specs.View.{no_token, token_at, span_of, kind_of, cands, list_for, has_need, before, has_order, has, same}
use Rattle.cpt_sheet.specs.Edits.{posted}
use Rattle.cpt_calculus.specs.Decisions.{behind_tokens, beside, offer, offered, with_offers, joined, with_new, brought, applied}
use Rattle.cpt_calculus.proofs.Parts.{same_self}
use Rattle.cpt_calculus.proofs.Below.{list_cons, posted_cases}
use Rattle.cpt_calculus.proofs.Views.{need_from_atoms, count_with_list, kind_with_list, span_with_list, atoms_with_list, cands_with_list}

-- the list with the new token beside the outside action
behind_new : (n : ℕ) (cs : List Cand) → has (Tok n) (behind_tokens n cs) ≡ true
behind_new n [] = or_left (same (Tok n) (Tok n)) false (same_self (Tok n))
behind_new n (Tok y ∷ cs) = or_right (same (Tok y) (Tok n)) (has (Tok n) (behind_tokens n cs)) (behind_new n cs)
behind_new n (Out a ∷ cs) = or_left (same (Tok n) (Tok n)) (has (Tok n) (Out a ∷ cs)) (same_self (Tok n))

behind_old : (n : ℕ) (c : Cand) (cs : List Cand) → has c cs ≡ true → has c (behind_tokens n cs) ≡ true
behind_old n c [] h = cc
behind_old n c (Tok y ∷ cs) h =
    elim (or_cases (same (Tok y) c) (has c cs) h) [
      | inl e ↦ or_left (same (Tok y) c) (has c (behind_tokens n cs)) e
      | inr e ↦ or_right (same (Tok y) c) (has c (behind_tokens n cs)) (behind_old n c cs e)
    ]
behind_old n c (Out a ∷ cs) h = or_right (same (Tok n) c) (has c (Out a ∷ cs)) h

pub beside_new : (a n : ℕ) (cs : List Cand) → has (Out a) cs ≡ true → has (Tok n) (beside a n cs) ≡ true
beside_new a n cs h = subst (λ (b : Bool). has (Tok n) (if b then behind_tokens n cs else cs) ≡ true) (sym h) (behind_new n cs)

pub beside_old : (a n : ℕ) (c : Cand) (cs : List Cand) → has c cs ≡ true → has c (beside a n cs) ≡ true
beside_old a n c cs h = elim (has (Out a) cs) as (λ (b : Bool). has c (if b then behind_tokens n cs else cs) ≡ true) [ true ↦ behind_old n c cs h | false ↦ h ]

-- the offers
pub offer_list : (a n q : ℕ) (ns : List Need) → list_for q (map (offer a n) ns) ≡ beside a n (list_for q ns)
offer_list a n q [] = refl
offer_list a n q (m ∷ ns) =
    list_cons q (offer a n m) (map (offer a n) ns)
    ∙ (go (m.atom == q) (offer_list a n q ns) ∙ ap (λ cs. beside a n cs) (sym (list_cons q m ns)))
  where
    go : (b : Bool) → list_for q (map (offer a n) ns) ≡ beside a n (list_for q ns) → (if b then beside a n m.cands else list_for q (map (offer a n) ns)) ≡ beside a n (if b then m.cands else list_for q ns)
    go true e = refl
    go false e = e

pub offered_atoms : (a n : ℕ) (ns : List Need) → map (λ (m : Need). m.atom) (map (offer a n) ns) ≡ map (λ (m : Need). m.atom) ns
offered_atoms a n [] = refl
offered_atoms a n (m ∷ ns) = ap (λ l. m.atom ∷ l) (offered_atoms a n ns)

pub map_at : (a n : ℕ) (zs : List Token) (x : ℕ) → unwrap_or (slice_get (map (offered a n) zs) x) no_token ≡ offered a n (unwrap_or (slice_get zs x) no_token)
map_at a n [] x = refl
map_at a n (z ∷ zs) zero = refl
map_at a n (z ∷ zs) (suc x) = map_at a n zs x

pub map_count : (a n : ℕ) (zs : List Token) → length (map (offered a n) zs) ≡ length zs
map_count a n [] = refl
map_count a n (z ∷ zs) = ap suc (map_count a n zs)

-- one more token
pub token_old : (s : Sheet) (z : Token) (x y : ℕ) → y < length s.tokens → token_at (with_new s z x) y ≡ token_at s y
token_old s z x y l =
    unwrap_or-slice_get (s.tokens ++ z ∷ []) y no_token ∙ (get_or_append_left s.tokens (z ∷ []) no_token y l ∙ sym (unwrap_or-slice_get s.tokens y no_token))

pub token_last : (s : Sheet) (z : Token) (x : ℕ) → token_at (with_new s z x) (length s.tokens) ≡ z
token_last s z x = unwrap_or-slice_get (s.tokens ++ z ∷ []) (length s.tokens) no_token ∙ get_or-append_seam s.tokens z [] no_token

module _ (t : TaskShape) (s : Sheet) (x p a : ℕ) where
  base_count : length (joined (with_offers s a (length s.tokens)) x p (length s.tokens)).tokens ≡ length s.tokens
  base_count = count_with_list (with_offers s a (length s.tokens)) x p (λ cs. Tok (length s.tokens) ∷ []) ∙ map_count a (length s.tokens) s.tokens

  pub bring_count : length (applied t s (Bring x p a)).tokens ≡ suc (length s.tokens)
  bring_count = let k = base_count in length-append (joined (with_offers s a (length s.tokens)) x p (length s.tokens)).tokens (brought t s a ∷ []) ∙ omega (arith, k)

  pub bring_old : (y : ℕ) → y < length s.tokens → token_at (applied t s (Bring x p a)) y ≡ token_at (joined (with_offers s a (length s.tokens)) x p (length s.tokens)) y
  bring_old y l = let k = base_count in token_old (joined (with_offers s a (length s.tokens)) x p (length s.tokens)) (brought t s a) x y (omega (arith, l, k))

  pub bring_token : token_at (applied t s (Bring x p a)) (length s.tokens) ≡ brought t s a
  bring_token = subst (λ n. token_at (applied t s (Bring x p a)) n ≡ brought t s a) base_count (token_last (joined (with_offers s a (length s.tokens)) x p (length s.tokens)) (brought t s a) x)

  pub bring_kind : (y : ℕ) → y < length s.tokens → kind_of (applied t s (Bring x p a)) (Tok y) ≡ kind_of s (Tok y)
  bring_kind y l =
      ap (λ (z : Token). z.kind) (bring_old y l)
      ∙ (kind_with_list (with_offers s a (length s.tokens)) x p (λ cs. Tok (length s.tokens) ∷ []) y ∙ ap (λ (z : Token). z.kind) (map_at a (length s.tokens) s.tokens y))

  pub bring_span : (y : ℕ) → y < length s.tokens → span_of (applied t s (Bring x p a)) (Tok y) ≡ span_of s (Tok y)
  bring_span y l =
      ap (λ (z : Token). z.span) (bring_old y l)
      ∙ (span_with_list (with_offers s a (length s.tokens)) x p (λ cs. Tok (length s.tokens) ∷ []) (Tok y) ∙ ap (λ (z : Token). z.span) (map_at a (length s.tokens) s.tokens y))

  pub bring_atoms : (y : ℕ) → y < length s.tokens → map (λ (n : Need). n.atom) (token_at (applied t s (Bring x p a)) y).lists ≡ map (λ (n : Need). n.atom) (token_at s y).lists
  bring_atoms y l =
      ap (λ (z : Token). map (λ (n : Need). n.atom) z.lists) (bring_old y l)
      ∙ (atoms_with_list (with_offers s a (length s.tokens)) x p (λ cs. Tok (length s.tokens) ∷ []) y
      ∙ (ap (λ (z : Token). map (λ (n : Need). n.atom) z.lists) (map_at a (length s.tokens) s.tokens y) ∙ offered_atoms a (length s.tokens) (token_at s y).lists))

  pub bring_need : (y q : ℕ) → y < length s.tokens → has_need (applied t s (Bring x p a)) y q ≡ has_need s y q
  bring_need y q l = need_from_atoms q (token_at (applied t s (Bring x p a)) y).lists (token_at s y).lists (bring_atoms y l)

  offers_cands : (y q : ℕ) → cands (with_offers s a (length s.tokens)) y q ≡ beside a (length s.tokens) (cands s y q)
  offers_cands y q = ap (λ (z : Token). list_for q z.lists) (map_at a (length s.tokens) s.tokens y) ∙ offer_list a (length s.tokens) q (token_at s y).lists

  pub bring_cands : (y q : ℕ) → y < length s.tokens →
      (cands (applied t s (Bring x p a)) y q ≡ beside a (length s.tokens) (cands s y q)) ⊎ ((y ≡ x) × (q ≡ p) × (cands (applied t s (Bring x p a)) y q ≡ Tok (length s.tokens) ∷ []))
  bring_cands y q l =
      let e = ap (λ (z : Token). list_for q z.lists) (bring_old y l) in
      elim (cands_with_list (with_offers s a (length s.tokens)) x p (λ cs. Tok (length s.tokens) ∷ []) y q) [
        | inl k ↦ inl (e ∙ (k ∙ offers_cands y q))
        | inr k ↦ inr (k.0, k.1, e ∙ k.2)
      ]

  -- an order of the new sheet is one of the three that are posted or an old one
  abbrev pub IsOrder : ℕ → ℕ → ℕ → Type 0
  IsOrder n y z = (((y ≡ n) × (z ≡ x)) ⊎ ((y ≡ n) × (z ≡ 1))) ⊎ (((y ≡ 0) × (z ≡ n)) ⊎ (before s y z ≡ true))

  pub bring_orders : (y z : ℕ) → before (applied t s (Bring x p a)) y z ≡ true → IsOrder (length s.tokens) y z
  bring_orders y z h = subst (λ n. IsOrder n y z) base_count (go (length (joined (with_offers s a (length s.tokens)) x p (length s.tokens)).tokens) h)
    where
      go : (n : ℕ) → has_order y z (posted n x (posted n 1 (posted 0 n s.orders))) ≡ true → IsOrder n y z
      go n k =
          elim (posted_cases n x y z (posted n 1 (posted 0 n s.orders)) k) [
            | inl e ↦ inl (inl (sym e.0, sym e.1))
            | inr k1 ↦ elim (posted_cases n 1 y z (posted 0 n s.orders) k1) [
              | inl e ↦ inl (inr (sym e.0, sym e.1))
              | inr k2 ↦ elim (posted_cases 0 n y z s.orders k2) [ inl e ↦ inr (inl (sym e.0, sym e.1)) | inr k3 ↦ inr (inr k3) ]
            ]
          ]

  pub bring_posted : (applied t s (Bring x p a)).orders ≡ posted (length s.tokens) x (posted (length s.tokens) 1 (posted 0 (length s.tokens) s.orders))
  bring_posted = ap (λ n. posted n x (posted n 1 (posted 0 n s.orders))) base_count
