-- what is read of a sheet: who is there, who stands in a list, who interferes
use Rattle.std.proofs.Common.{◌≡◌, ℕ, zero, suc, ◌<◌, ◌==◌, ◌||◌, nat_eq, List, [], ◌∷◌, length, Bool, true, false, if◌then◌else◌, All, Contains, slice_index_or, refl, sym, ◌∙◌, ap, subst, arith, inl, inr, ◌⊎◌}
use Rattle.std.specs.List.{AllByRecursion as ByRecursion}
use Rattle.std.specs.Cmp.{nat_eq_equiv}
use Rattle.std.proofs.lemmas.Bool.{cases_lt, cases_Bool, or_cases, or_left, or_right, both_ways, eqb-true}
use Rattle.std.proofs.lemmas.List.Elements.{recursion_from_All}
use Rattle.std.proofs.lemmas.Map.Views.{Contains-from_any, list_any-from_Contains}
use Rattle.std.proofs.Math.ListN.{get_or-eq_default}
use Rattle.cpt_task.specs.declared.span.Span.{Span}
use Rattle.cpt_task.specs.declared.span.Span.TheVariants.{At, Never}
use Rattle.cpt_task.specs.declared.task.Action.{Action}
use Rattle.cpt_task.specs.Shape.{TaskShape}
use Rattle.cpt_task.specs.Timeline.{idle, is_in}
use Rattle.cpt_tables.specs.Admissible.{nth_action}
use Rattle.cpt_tables.specs.Spans.{◌≤ˢ◌, ◌<ˢ◌}
use Rattle.cpt_sheet.specs.declared.data.Cand.{Cand}
use Rattle.cpt_sheet.specs.declared.data.Cand.TheVariants.{Tok, Out}
use Rattle.cpt_sheet.specs.declared.data.Kind.{Kind}
use Rattle.cpt_sheet.specs.declared.data.Kind.TheVariants.{Start, End, Act}
use Rattle.cpt_sheet.specs.declared.data.Need.{Need}
use Rattle.cpt_sheet.specs.declared.data.Token.{Token}
use Rattle.cpt_sheet.specs.declared.data.Sheet.{Sheet}
use Rattle.cpt_sheet.specs.Roles.{Adds, Deletes, Clash}
use Rattle.cpt_sheet.specs.Live.{IsLive, IsLiveToken, IsOpen}
use Rattle.cpt_sheet.specs.View.{token_at, no_token, kind_of, span_of, cands, has, has_need, has_atom, list_for, same}
use Rattle.cpt_sheet.specs.Formed.{IsFormed}
use Rattle.cpt_sheet.proofs.FormedLemmas.{at_past}
use Rattle.cpt_calculus.specs.Rules.{IsToken, only}
use Rattle.cpt_calculus.proofs.Below.{at_within, list_cons}
use Rattle.cpt_calculus.proofs.Parts.{same_is, same_self}

-- spans, one after the other
pub lt_le : (a b c : Span) → a <ˢ b → b ≤ˢ c → a <ˢ c
lt_le (At a) (At b) (At c) h k = omega arith
lt_le (At a) (At b) Never h k = tt
lt_le (At a) Never (At c) h k = absurd k
lt_le (At a) Never Never h k = tt
lt_le Never b c h k = absurd h

pub lt_to_le : (a b : Span) → a <ˢ b → a ≤ˢ b
lt_to_le (At a) (At b) h = omega arith
lt_to_le (At a) Never h = tt
lt_to_le Never b h = absurd h

pub tok_is : (x y : ℕ) → Tok x ≡ Tok y → x ≡ y
tok_is x y e = cc

pub out_is : (a b : ℕ) → Out a ≡ Out b → a ≡ b
out_is a b e = cc

-- membership, as a fact and as a test
pub in_list : (p : ℕ) (xs : List ℕ) → is_in p xs ≡ true → Contains xs p
in_list p xs e = Contains-from_any {eq = nat_eq} (λ x y h. eqb-true x y h) p xs e

pub listed_in : (p : ℕ) (xs : List ℕ) → Contains xs p → is_in p xs ≡ true
listed_in p xs h = list_any-from_Contains nat_eq_equiv p xs h

pub in_or_not : (p : ℕ) (xs : List ℕ) → Contains xs p ⊎ (Contains xs p → ⊥)
in_or_not p xs =
    elim (cases_Bool (is_in p xs)) [
      | inl e ↦ inl (in_list p xs e)
      | inr e ↦ inr (λ h. both_ways (is_in p xs) e (listed_in p xs h))
    ]

pub nothing_in : (q : ℕ) → Contains [] q → ⊥
nothing_in q e = let l = e.1 in omega arith

pub has_at : (l : List Cand) (k : ℕ) (d : Cand) → k < length l → has (slice_index_or l k d) l ≡ true
has_at [] k d lt = absurd (omega arith)
has_at (c ∷ cs) zero d lt = or_left (same c c) (has c cs) (same_self c)
has_at (c ∷ cs) (suc k) d lt = or_right (same c (slice_index_or cs k d)) (has (slice_index_or cs k d) cs) (has_at cs k d (omega arith))

-- what is so of each candidate, or of each precondition's atom, is so of one
pub each_listed : (P : Cand → Type 0) (c : Cand) (cs : List Cand) → All P cs → has c cs ≡ true → P c
each_listed P c cs h e = go cs (recursion_from_All P cs h) e
  where
    go : (cs : List Cand) → ByRecursion P cs → has c cs ≡ true → P c
    go [] h e = cc
    go (d ∷ cs) h e = elim (or_cases (same d c) (has c cs) e) [ inl k ↦ subst (λ z. P z) (same_is d c k) h.0 | inr k ↦ go cs h.1 k ]

pub each_need : (P : ℕ → Type 0) (p : ℕ) (ns : List Need) → All (λ n. P n.atom) ns → has_atom p ns ≡ true → P p
each_need P p ns h e = go ns (recursion_from_All (λ (n : Need). P n.atom) ns h) e
  where
    go : (ns : List Need) → ByRecursion (λ (n : Need). P n.atom) ns → has_atom p ns ≡ true → P p
    go [] h e = cc
    go (n ∷ ns) h e = elim (or_cases (n.atom == p) (has_atom p ns) e) [ inl k ↦ subst (λ z. P z) (eqb-true n.atom p k) h.0 | inr k ↦ go ns h.1 k ]

-- who stands in a list shows that the atom is needed, and an atom that is not needed has no list
pub listed_need : (p : ℕ) (c : Cand) (ns : List Need) → has c (list_for p ns) ≡ true → has_atom p ns ≡ true
listed_need p c [] h = absurd (cc)
listed_need p c (n ∷ ns) h = go (n.atom == p) (subst (λ (l : List Cand). has c l ≡ true) (list_cons p n ns) h) (λ k. listed_need p c ns k)
  where
    go : (b : Bool) → has c (if b then n.cands else list_for p ns) ≡ true → (has c (list_for p ns) ≡ true → has_atom p ns ≡ true) → (b || has_atom p ns) ≡ true
    go true k ih = refl
    go false k ih = ih k

pub need_of : (s : Sheet) (x p : ℕ) (c : Cand) → has c (cands s x p) ≡ true → has_need s x p ≡ true
need_of s x p c h = listed_need p c (token_at s x).lists h

pub no_need_no_list : (p : ℕ) (ns : List Need) → has_atom p ns ≡ false → list_for p ns ≡ []
no_need_no_list p [] e = refl
no_need_no_list p (n ∷ ns) e = go (n.atom == p) refl e (λ k. no_need_no_list p ns k)
  where
    go : (b : Bool) → (n.atom == p) ≡ b → (b || has_atom p ns) ≡ false → (has_atom p ns ≡ false → list_for p ns ≡ []) → list_for p (n ∷ ns) ≡ []
    go true h k ih = absurd (cc)
    go false h k ih = list_cons p n ns ∙ (ap (λ b. if b then n.cands else list_for p ns) h ∙ ih k)

-- a list that is one token
pub one_listed : (s : Sheet) (x p y : ℕ) → IsToken (cands s x p) y → has (Tok y) (cands s x p) ≡ true
one_listed s x p y e = subst (λ (l : List Cand). has (Tok y) l ≡ true) (sym e) (or_left (same (Tok y) (Tok y)) false (same_self (Tok y)))

pub one_need : (s : Sheet) (x p y : ℕ) → IsToken (cands s x p) y → has_need s x p ≡ true
one_need s x p y e = need_of s x p (Tok y) (one_listed s x p y e)

pub one_only : (s : Sheet) (x p y : ℕ) → IsToken (cands s x p) y → only (cands s x p) ≡ y
one_only s x p y e = ap only e

pub one_same : (s : Sheet) (x p y z : ℕ) → IsToken (cands s x p) y → IsToken (cands s x p) z → y ≡ z
one_same s x p y z e f = sym (ap only e) ∙ ap only f

-- what is so of a token and not of what is read past the last one tells that the token is there
pub token_there : (P : Token → Type 0) (s : Sheet) (x : ℕ) → (P no_token → ⊥) → P (token_at s x) → x < length s.tokens
token_there P s x none h =
    elim (cases_lt x (length s.tokens)) [
      | inl l ↦ l
      | inr m ↦ absurd (none (subst (λ z. P z) (at_past s.tokens no_token x m) h))
    ]

pub need_there : (s : Sheet) (x p : ℕ) → has_need s x p ≡ true → x < length s.tokens
need_there s x p h = token_there (λ z. has_atom p z.lists ≡ true) s x (λ k. cc) h

pub cand_there : (s : Sheet) (x p : ℕ) (c : Cand) → has c (cands s x p) ≡ true → x < length s.tokens
cand_there s x p c h = need_there s x p (need_of s x p c h)

pub deleter_there : (t : TaskShape) (s : Sheet) (d p : ℕ) → Deletes t (kind_of s (Tok d)) p → d < length s.tokens
deleter_there t s d p h = token_there (λ z. Deletes t z.kind p) s d (λ k. nothing_in p k) h

pub first_there : (t : TaskShape) (s : Sheet) (x : ℕ) (k : Kind) → Clash t (kind_of s (Tok x)) k → x < length s.tokens
first_there t s x k h = token_there (λ z. Clash t z.kind k) s x (λ e. e) h

-- the one token of a list is there
pub lone_there : (t : TaskShape) (s : Sheet) (x p y : ℕ) → IsFormed t s → IsToken (cands s x p) y → y < length s.tokens
lone_there t s x p y f e = (f.supply x p (Tok y) (one_listed s x p y e)).0

-- the same of an action
pub action_there : (P : Action → Type 0) (t : TaskShape) (a : ℕ) → (P idle → ⊥) → P (nth_action t a) → a < length t.actions
action_there P t a none h =
    elim (cases_lt a (length t.actions)) [
      | inl l ↦ l
      | inr m ↦ absurd (none (subst (λ z. P z) (get_or-eq_default t.actions idle m) h))
    ]

pub deletes_there : (t : TaskShape) (a p : ℕ) → Contains (nth_action t a).dele p → a < length t.actions
deletes_there t a p h = action_there (λ z. Contains z.dele p) t a (λ k. nothing_in p k) h

pub needs_there : (t : TaskShape) (a p : ℕ) → Contains (nth_action t a).pre p → a < length t.actions
needs_there t a p h = action_there (λ z. Contains z.pre p) t a (λ k. nothing_in p k) h

pub clash_there : (t : TaskShape) (k : Kind) (a : ℕ) → Clash t k (Act a) → a < length t.actions
clash_there t Start a h = absurd h
clash_there t End a h = absurd h
clash_there t (Act b) a h = h.second

-- who interferes
pub clash_swap : (t : TaskShape) (j k : Kind) → Clash t j k → Clash t k j
clash_swap t (Act a) (Act b) h = record { first = h.second; second = h.first; interfere = record { interfere = elim h.interfere.interfere [ inl e ↦ inr e | inr e ↦ inl e ] } }
clash_swap t (Act a) Start h = absurd h
clash_swap t (Act a) End h = absurd h
clash_swap t Start k h = absurd h
clash_swap t End k h = absurd h

-- two that delete each other's atoms interfere
pub delete_clash : (t : TaskShape) (j k : Kind) (p q : ℕ) → Deletes t j q → Deletes t k p → Adds t k q → Clash t j k
delete_clash t Start k p q d e m = absurd (nothing_in q d)
delete_clash t End k p q d e m = absurd (nothing_in q d)
delete_clash t (Act a) Start p q d e m = absurd (nothing_in p e)
delete_clash t (Act a) End p q d e m = absurd (nothing_in p e)
delete_clash t (Act a) (Act b) p q d e m = record {
  first = deletes_there t a q d;
  second = deletes_there t b p e;
  interfere = record { interfere = inl (inr (q, d, m)) };
}

-- a token of a live sheet has a moment
pub token_open : (s : Sheet) (x : ℕ) → IsLive s → x < length s.tokens → IsOpen (span_of s (Tok x))
token_open s x live lt = (at_within s.tokens no_token IsLiveToken x (recursion_from_All IsLiveToken s.tokens live) lt).0

-- a candidate of a formed sheet adds the atom
pub listed_adds : (t : TaskShape) (s : Sheet) (x p : ℕ) (c : Cand) → IsFormed t s → has c (cands s x p) ≡ true → Adds t (kind_of s c) p
listed_adds t s x p (Tok y) f h = (f.supply x p (Tok y) h).2
listed_adds t s x p (Out a) f h = (f.supply x p (Out a) h).1
