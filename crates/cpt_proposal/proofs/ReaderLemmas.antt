-- facts on what a store reads
use Rattle.std.proofs.Common.{◌≡◌, ℕ, suc, zero, ◌<◌, length, slice_index_or, if◌then◌else◌, arith, All, Contains, ◌∷◌, [], List, Bool, true, false, ◌==◌, refl, sym, ◌∙◌, ap, inl, inr, subst}
use Rattle.std.specs.List.{AllByRecursion as ByRecursion}
use Rattle.std.proofs.lemmas.Bool.{or_cases, or_left, or_right}
use Rattle.std.proofs.lemmas.List.Elements.{recursion_from_All, All-contains}
use Rattle.cpt_task.specs.Shape.{TaskShape}
use Rattle.cpt_tables.specs.declared.tables.Tables.{Tables}
use Rattle.cpt_sheet.specs.declared.data.Cand.{Cand}
use Rattle.cpt_sheet.specs.declared.data.Cand.TheVariants.{Tok, Out}
use Rattle.cpt_sheet.specs.declared.data.Need.{Need}
use Rattle.cpt_sheet.specs.Formed.{IsFormed}
use Rattle.cpt_sheet.specs.View.{token_at, lo, hi, no_token, cands, has, has_need, has_atom, list_for, same}
use Rattle.cpt_calculus.proofs.Parts.{same_self, same_is}
use Rattle.cpt_calculus.proofs.Below.{at_within}
use Rattle.cpt_sheet.specs.Live.{IsLive, IsLiveToken}
use Rattle.cpt_task.specs.declared.span.Span.TheVariants.{At}
use Rattle.cpt_tables.specs.Spans.{◌≤ˢ◌}
use Rattle.cpt_calculus.proofs.Below.{list_cons}
use Rattle.cpt_sheet.specs.declared.data.Sheet.{Sheet}
use Rattle.cpt_calculus.specs.Rules.{only, IsToken}
use Rattle.cpt_index.specs.Lists.{Lists, Covers, IsOffer}
use Rattle.cpt_store.specs.Stores.{StoreShape}
use Rattle.cpt_proposal.specs.Lent.{CanPropose}

pub each_of : {A : Type 0} (P : A → Type 0) (x : A) (l : List A) → All P l → Contains l x → P x
each_of P x l h k = All-contains P l x h k

-- who stands in a list is an offer, and what has a list is a need
pub offered : (t : TaskShape) (s : Sheet) (x p : ℕ) (c : Cand) → IsFormed t s → has c (cands s x p) ≡ true → IsOffer t s p c
offered t s x p (Tok y) f h = let k = f.supply x p (Tok y) h in (k.0, k.2)
offered t s x p (Out a) f h = f.supply x p (Out a) h

need_listed : (p : ℕ) (c : Cand) (ns : List Need) → has c (list_for p ns) ≡ true → has_atom p ns ≡ true
need_listed p c [] h = cc
need_listed p c (n ∷ ns) h = go (n.atom == p) refl (λ k. need_listed p c ns k)
  where
    go : (w : Bool) → (n.atom == p) ≡ w → (has c (list_for p ns) ≡ true → has_atom p ns ≡ true) → has_atom p (n ∷ ns) ≡ true
    go true e ih = or_left (n.atom == p) (has_atom p ns) e
    go false e ih = or_right (n.atom == p) (has_atom p ns) (ih (subst (λ z. has c z ≡ true) (list_cons p n ns ∙ ap (λ z. if z then n.cands else list_for p ns) e) h))

pub need_of : (s : Sheet) (x p : ℕ) (c : Cand) → has c (cands s x p) ≡ true → has_need s x p ≡ true
need_of s x p c h = need_listed p c (token_at s x).lists h

-- a list that is one token has it
pub one_listed : (s : Sheet) (x p y : ℕ) → IsToken (cands s x p) y → has (Tok y) (cands s x p) ≡ true
one_listed s x p y e = subst (λ (l : List Cand). has (Tok y) l ≡ true) (sym e) (or_left (same (Tok y) (Tok y)) false (same_self (Tok y)))

pub one_need : (s : Sheet) (x p y : ℕ) → IsToken (cands s x p) y → has_need s x p ≡ true
one_need s x p y e = need_of s x p (Tok y) (one_listed s x p y e)

pub one_only : (s : Sheet) (x p y : ℕ) → IsToken (cands s x p) y → only (cands s x p) ≡ y
one_only s x p y e = ap only e

pub one_same : (s : Sheet) (x p y z : ℕ) → IsToken (cands s x p) y → IsToken (cands s x p) z → y ≡ z
one_same s x p y z e f = sym (ap only e) ∙ ap only f

pub has_at : (l : List Cand) (k : ℕ) (d : Cand) → k < length l → has (slice_index_or l k d) l ≡ true
has_at [] k d lt = absurd (omega (arith, lt))
has_at (c ∷ cs) zero d lt = or_left (same c c) (has c cs) (same_self c)
has_at (c ∷ cs) (suc k) d lt = or_right (same c (slice_index_or cs k d)) (has (slice_index_or cs k d) cs) (has_at cs k d (omega (arith, lt)))

-- a token of a live sheet has a moment
pub token_open : (s : Sheet) (x : ℕ) → IsLive s → x < length s.tokens → lo s (Tok x) ≤ˢ At (hi s (Tok x))
token_open s x live lt = (at_within s.tokens no_token IsLiveToken x (recursion_from_All IsLiveToken s.tokens live) lt).0

-- the offers cover each list, and the one token a list that is one token
pub covers_offers : (t : TaskShape) (b : Tables) (h : StoreShape) (x p : ℕ) (l : List Cand) → CanPropose t b h → Lists (IsOffer h.task h.sheet p) l → Covers h.sheet x p l
covers_offers t b h x p l lent lists = record { each = λ c e. lists.complete c (subst (λ z. IsOffer z h.sheet p c) (sym lent.lent.task) (offered t h.sheet x p c lent.lent.formed e)) }

pub covers_one : (s : Sheet) (x p y : ℕ) → IsToken (cands s x p) y → Covers s x p (Tok y ∷ [])
covers_one s x p y one = record { each = λ c e. is_one c (subst (λ (l : List Cand). has c l ≡ true) one e) }
  where
    is_one : (c : Cand) → has c (Tok y ∷ []) ≡ true → Contains (Tok y ∷ []) c
    is_one c e = elim (or_cases (same (Tok y) c) false e) [ inl k ↦ (0, omega arith, same_is (Tok y) c k) | inr k ↦ absurd (cc) ]

pub tok_is : (x y : ℕ) → Tok x ≡ Tok y → x ≡ y
tok_is x y e = cc

-- what is so of each candidate is so of one that is listed
listed_by : (P : Cand → Type 0) (c : Cand) (cs : List Cand) → ByRecursion P cs → has c cs ≡ true → P c
listed_by P c [] h e = cc
listed_by P c (d ∷ cs) h e =
    elim (or_cases (same d c) (has c cs) e) [
      | inl k ↦ subst (λ z. P z) (same_is d c k) h.0
      | inr k ↦ listed_by P c cs h.1 k
    ]

pub each_listed : (P : Cand → Type 0) (c : Cand) (cs : List Cand) → All P cs → has c cs ≡ true → P c
each_listed P c cs h e = listed_by P c cs (recursion_from_All P cs h) e
