-- what is read of a sheet after a change
use Rattle.std.proofs.Common.{◌≡◌, ℕ, ◌≤◌, List, [], ◌∷◌, Bool, true, false, ◌||◌, ◌==◌, if◌then◌else◌, length, get_or, set, map, refl, sym, ◌∙◌, ap, subst, inl, inr, ◌⊎◌, get_or-set_same, get_or-set_other, length-set, slice_get, unwrap_or}
use Rattle.std.specs.List.{list_any}
use Rattle.std.proofs.lemmas.Option.{unwrap_or-slice_get}
use Rattle.std.proofs.Math.ListN.{get_or-eq_default}
use Rattle.std.proofs.lemmas.Bool.{cases_eq, cases_lt, cases_Bool, eqb-true}
use Rattle.cpt_sheet.specs.declared.data.Cand.{Cand}
use Rattle.cpt_sheet.specs.declared.data.Cand.TheVariants.{Tok, Out}
use Rattle.cpt_sheet.specs.declared.data.Interval.{Interval}
use Rattle.cpt_sheet.specs.declared.data.Need.{Need}
use Rattle.cpt_sheet.specs.declared.data.Token.{Token}
use Rattle.cpt_sheet.specs.declared.data.Sheet.{Sheet}
use Rattle.cpt_sheet.specs.View.{no_span, no_token, token_at, span_of, kind_of, cands, has_need, list_for, has_atom}
use Rattle.cpt_sheet.specs.Edits.{with_token, with_span, with_list, revised}
use Rattle.cpt_calculus.proofs.Below.{list_cons}

at_set : {X : Type 0} (xs : List X) (i k : ℕ) (v d : X) → (get_or (set xs i v) k d ≡ get_or xs k d) ⊎ ((k ≡ i) × (get_or (set xs i v) k d ≡ v))
at_set xs i k v d =
    elim (cases_eq k i) [
      | inl e ↦ elim (cases_lt i (length xs)) [
        | inl l ↦ inr (e, subst (λ j. get_or (set xs i v) j d ≡ v) (sym e) (get_or-set_same xs i v d l))
        | inr m ↦ inl (get_or-eq_default (set xs i v) d (rw length-set (subst (λ j. length xs ≤ j) (sym e) m)) ∙ sym (get_or-eq_default xs d (subst (λ j. length xs ≤ j) (sym e) m)))
      ]
      | inr n ↦ inl (get_or-set_other xs i k v d n)
    ]

got_set : {X : Type 0} (xs : List X) (i k : ℕ) (v d : X) → (unwrap_or (slice_get (set xs i v) k) d ≡ unwrap_or (slice_get xs k) d) ⊎ ((k ≡ i) × (unwrap_or (slice_get (set xs i v) k) d ≡ v))
got_set xs i k v d =
    elim (at_set xs i k v d) [
      | inl e ↦ inl (unwrap_or-slice_get (set xs i v) k d ∙ (e ∙ sym (unwrap_or-slice_get xs k d)))
      | inr e ↦ inr (e.0, unwrap_or-slice_get (set xs i v) k d ∙ e.1)
    ]

-- a token is the old one, or the new one at its place
pub token_with : (s : Sheet) (x y : ℕ) (t : Token) → (token_at (with_token s x t) y ≡ token_at s y) ⊎ ((y ≡ x) × (token_at (with_token s x t) y ≡ t))
token_with s x y t = got_set s.tokens x y t no_token

pub count_with : (s : Sheet) (x : ℕ) (t : Token) → length (with_token s x t).tokens ≡ length s.tokens
count_with s x t = length-set s.tokens x t

pub span_with : (s : Sheet) (c d : Cand) (i : Interval) → (span_of (with_span s c i) d ≡ span_of s d) ⊎ ((d ≡ c) × (span_of (with_span s c i) d ≡ i))
span_with s (Tok x) (Tok y) i =
    elim (token_with s x y (record (token_at s x) { span = i }))
    [ inl e ↦ inl (ap (λ t. t.span) e) | inr e ↦ inr (ap Tok e.0, ap (λ t. t.span) e.1) ]
span_with s (Tok x) (Out b) i = inl refl
span_with s (Out a) (Tok y) i = inl refl
span_with s (Out a) (Out b) i = elim (got_set s.outs a b i no_span) [ inl e ↦ inl e | inr e ↦ inr (ap Out e.0, e.1) ]

-- a part of the tokens that the new one shares with the old one at its place
same_at : {X : Type 0} (f : Token → X) (s : Sheet) (x y : ℕ) (t : Token) → f t ≡ f (token_at s x) → f (token_at (with_token s x t) y) ≡ f (token_at s y)
same_at f s x y t h =
    elim (token_with s x y t) [
      | inl e ↦ ap f e
      | inr e ↦ ap f e.1 ∙ (h ∙ sym (ap (λ z. f (token_at s z)) e.0))
    ]

pub kind_with_span : (s : Sheet) (c : Cand) (i : Interval) (y : ℕ) → kind_of (with_span s c i) (Tok y) ≡ kind_of s (Tok y)
kind_with_span s (Tok x) i y = same_at (λ z. z.kind) s x y (record (token_at s x) { span = i }) refl
kind_with_span s (Out a) i y = refl

pub lists_with_span : (s : Sheet) (c : Cand) (i : Interval) (y : ℕ) → (token_at (with_span s c i) y).lists ≡ (token_at s y).lists
lists_with_span s (Tok x) i y = same_at (λ z. z.lists) s x y (record (token_at s x) { span = i }) refl
lists_with_span s (Out a) i y = refl

pub tokens_with_span : (s : Sheet) (c : Cand) (i : Interval) → length (with_span s c i).tokens ≡ length s.tokens
tokens_with_span s (Tok x) i = length-set s.tokens x (record (token_at s x) { span = i })
tokens_with_span s (Out a) i = refl

pub outs_with_span : (s : Sheet) (c : Cand) (i : Interval) → length (with_span s c i).outs ≡ length s.outs
outs_with_span s (Tok x) i = refl
outs_with_span s (Out a) i = length-set s.outs a i

pub orders_with_span : (s : Sheet) (c : Cand) (i : Interval) → (with_span s c i).orders ≡ s.orders
orders_with_span s (Tok y) i = refl
orders_with_span s (Out a) i = refl

pub bound_with_span : (s : Sheet) (c : Cand) (i : Interval) → (with_span s c i).bound ≡ s.bound
bound_with_span s (Tok y) i = refl
bound_with_span s (Out a) i = refl

-- the same where another list is put
module _ (s : Sheet) (x p : ℕ) (f : List Cand → List Cand) where
  pub kind_with_list : (y : ℕ) → kind_of (with_list s x p f) (Tok y) ≡ kind_of s (Tok y)
  kind_with_list y = same_at (λ z. z.kind) s x y (record (token_at s x) { lists = revised p f (token_at s x).lists }) refl

  pub span_with_list : (c : Cand) → span_of (with_list s x p f) c ≡ span_of s c
  span_with_list (Tok y) = same_at (λ z. z.span) s x y (record (token_at s x) { lists = revised p f (token_at s x).lists }) refl
  span_with_list (Out a) = refl

  pub atoms_with_list : (y : ℕ) → map (λ (n : Need). n.atom) (token_at (with_list s x p f) y).lists ≡ map (λ (n : Need). n.atom) (token_at s y).lists
  atoms_with_list y = same_at (λ z. map (λ (n : Need). n.atom) z.lists) s x y (record (token_at s x) { lists = revised p f (token_at s x).lists }) (atoms_revised (token_at s x).lists)
    where
      atoms_revised : (ns : List Need) → map (λ (n : Need). n.atom) (revised p f ns) ≡ map (λ (n : Need). n.atom) ns
      atoms_revised [] = refl
      atoms_revised (n ∷ ns) =
          elim (n.atom == p) as (λ t. map (λ (n : Need). n.atom) (if t then (record n { cands = f n.cands } ∷ ns) else (n ∷ revised p f ns)) ≡ (n.atom ∷ map (λ (n : Need). n.atom) ns))
          [ true ↦ refl | false ↦ ap (λ l. n.atom ∷ l) (atoms_revised ns) ]

-- whether an atom is needed, from the atoms alone
pub need_from_atoms : (q : ℕ) (ns ms : List Need) → map (λ (m : Need). m.atom) ns ≡ map (λ (m : Need). m.atom) ms → has_atom q ns ≡ has_atom q ms
need_from_atoms q ns ms e = by_atoms ns ∙ (ap (λ l. list_any (λ a. a == q) l) e ∙ sym (by_atoms ms))
  where
    by_atoms : (l : List Need) → has_atom q l ≡ list_any (λ a. a == q) (map (λ (m : Need). m.atom) l)
    by_atoms [] = refl
    by_atoms (m ∷ l) = ap (λ b. (m.atom == q) || b) (by_atoms l)

pub need_with_list : (s : Sheet) (x p : ℕ) (f : List Cand → List Cand) (y q : ℕ) → has_need (with_list s x p f) y q ≡ has_need s y q
need_with_list s x p f y q = need_from_atoms q (token_at (with_list s x p f) y).lists (token_at s y).lists (atoms_with_list s x p f y)

pub count_with_list : (s : Sheet) (x p : ℕ) (f : List Cand → List Cand) → length (with_list s x p f).tokens ≡ length s.tokens
count_with_list s x p f = count_with s x (record (token_at s x) { lists = revised p f (token_at s x).lists })

-- the list of an atom is the old one, or that of the changed atom
abbrev Edited : ℕ → ℕ → (List Cand → List Cand) → List Cand → List Cand → Type 0
Edited p q f old new = (new ≡ old) ⊎ ((q ≡ p) × (new ≡ f old))

list_revised : (p q : ℕ) (f : List Cand → List Cand) (ns : List Need) → Edited p q f (list_for q ns) (list_for q (revised p f ns))
list_revised p q f [] = inl refl
list_revised p q f (n ∷ ns) =
    elim (cases_Bool (n.atom == p)) [
      | inl e ↦ subst (λ b. Edited p q f (list_for q (n ∷ ns)) (list_for q (if b then (record n { cands = f n.cands } ∷ ns) else (n ∷ revised p f ns)))) (sym e)
          (subst (λ l. Edited p q f l (list_for q (record n { cands = f n.cands } ∷ ns))) (sym (list_cons q n ns))
          (subst (λ l. Edited p q f (if n.atom == q then n.cands else list_for q ns) l) (sym (list_cons q (record n { cands = f n.cands }) ns)) (go (n.atom == q) refl e)))
      | inr e ↦ subst (λ b. Edited p q f (list_for q (n ∷ ns)) (list_for q (if b then (record n { cands = f n.cands } ∷ ns) else (n ∷ revised p f ns)))) (sym e)
          (subst (λ l. Edited p q f l (list_for q (n ∷ revised p f ns))) (sym (list_cons q n ns))
          (subst (λ l. Edited p q f (if n.atom == q then n.cands else list_for q ns) l) (sym (list_cons q n (revised p f ns))) (skip (n.atom == q) (list_revised p q f ns))))
    ]
  where
    go : (b : Bool) → (n.atom == q) ≡ b → (n.atom == p) ≡ true → Edited p q f (if b then n.cands else list_for q ns) (if b then f n.cands else list_for q ns)
    go true h k = inr (sym (eqb-true n.atom q h) ∙ eqb-true n.atom p k, refl)
    go false h k = inl refl

    skip : (b : Bool) → Edited p q f (list_for q ns) (list_for q (revised p f ns)) → Edited p q f (if b then n.cands else list_for q ns) (if b then n.cands else list_for q (revised p f ns))
    skip true h = inl refl
    skip false h = h

pub cands_with_list : (s : Sheet) (x p : ℕ) (f : List Cand → List Cand) (y q : ℕ) →
    (cands (with_list s x p f) y q ≡ cands s y q) ⊎ ((y ≡ x) × (q ≡ p) × (cands (with_list s x p f) y q ≡ f (cands s y q)))
cands_with_list s x p f y q =
    elim (token_with s x y (record (token_at s x) { lists = revised p f (token_at s x).lists })) [
      | inl e ↦ inl (ap (λ t. list_for q t.lists) e)
      | inr e ↦ elim (list_revised p q f (token_at s x).lists) [
        | inl k ↦ inl (ap (λ t. list_for q t.lists) e.1 ∙ (k ∙ sym (ap (λ z. cands s z q) e.0)))
        | inr k ↦ inr (e.0, k.0, ap (λ t. list_for q t.lists) e.1 ∙ (k.1 ∙ sym (ap (λ z. f (cands s z q)) e.0)))
      ]
    ]
