-- what a store is seen as
use Rattle.std.proofs.Common.{◌≡◌, ℕ, ◌+◌, ◌≤◌, ◌<◌, Bool, List, [], ◌∷◌, Option, None, true, false, length, slice_get, unwrap_or, inl, inr, refl, sym, ◌∙◌, ap, subst, arith}
use Rattle.std.proofs.lemmas.Option.{slice_get_past}
use Rattle.std.proofs.lemmas.Bool.{cases_lt, or_left, or_right}
use Rattle.cpt_task.specs.Shape.{TaskShape}
use Rattle.cpt_sheet.specs.declared.data.Cand.{Cand}
use Rattle.cpt_sheet.specs.declared.data.Cand.TheVariants.{Tok, Out}
use Rattle.cpt_sheet.specs.declared.data.Kind.TheVariants.{Start}
use Rattle.cpt_sheet.specs.declared.data.Sheet.{Sheet}
use Rattle.cpt_sheet.specs.declared.data.Step.{Step}
use Rattle.cpt_sheet.specs.declared.data.Token.{Token}
use Rattle.cpt_sheet.specs.Formed.{IsAscending, IsFormed, IsPlaced, CanAdd, Precedes}
use Rattle.cpt_sheet.specs.View.{before, cands, has, kind_of, list_for, no_span, no_token, same, span_of}
use Rattle.cpt_calculus.specs.Rules.{IsToken}
use Rattle.cpt_cells.specs.Lists.{IsStepOf}
use Rattle.cpt_calculus.proofs.Parts.{same_self}
use Rattle.cpt_index.specs.Lists.{Lists}
use Rattle.cpt_store.specs.Held.{IsLegalFor}
use Rattle.cpt_store.specs.Stores.{CanNarrow, StoreShape}

pub seen : {A : Type 0} (P : StoreShape → A → Type 0) (h g : StoreShape) (l m : List A) → g ≡ h → l ≡ m → Lists (P g) m → Lists (P h) l
seen P h g l m e f w = subst (λ z. Lists (P z) l) e (subst (λ z. Lists (P g) z) (sym f) w)

pub legal_for : (s : StoreShape) (t : TaskShape) (u : Sheet) (step : Step) → t ≡ s.task → u ≡ s.sheet → CanNarrow s step → IsLegalFor t u step
legal_for s t u step e f can =
    subst (λ (z : TaskShape). IsLegalFor z u step) (sym e) (subst (λ (z : Sheet). IsLegalFor s.task z step) (sym f) (record { tables = can.tables; legal = can.legal }))

pub step_of : (t : TaskShape) (s : Sheet) (step : Step) → IsFormed t s → IsLegalFor t s step → IsStepOf s step
step_of t s step f can = record { task = t; tables = can.tables; formed = f; legal = can.legal }

-- a token that is not there has no list
list_past : (s : Sheet) (x p : ℕ) → length s.tokens ≤ x → cands s x p ≡ []
list_past s x p le = ap (λ (o : Option Token). list_for p (unwrap_or o no_token).lists) (slice_get_past s.tokens x le)

pub token_listed : (s : Sheet) (x p i : ℕ) → i < length (cands s x p) → x < length s.tokens
token_listed s x p i lt =
    elim (cases_lt x (length s.tokens)) [
      | inl h ↦ h
      | inr le ↦ absurd (let e = ap length (list_past s x p le) in omega arith)
    ]

pub first_past : (s : Sheet) (x p : ℕ) → length s.tokens ≤ x → slice_get (cands s x p) 0 ≡ None
first_past s x p le = ap (λ (cs : List Cand). slice_get cs 0) (list_past s x p le)

pub none_past : (s : Sheet) (x p : ℕ) (c : Cand) → length s.tokens ≤ x → has c (cands s x p) ≡ false
none_past s x p c le = ap (λ (cs : List Cand). has c cs) (list_past s x p le)

pub single_past : (s : Sheet) (x p y : ℕ) → length s.tokens ≤ x → IsToken (cands s x p) y → ⊥
single_past s x p y le e = let l = ap length (sym e ∙ list_past s x p le) in omega arith

pub kind_past : (s : Sheet) (x : ℕ) → length s.tokens ≤ x → kind_of s (Tok x) ≡ Start
kind_past s x le = ap (λ (o : Option Token). (unwrap_or o no_token).kind) (slice_get_past s.tokens x le)

pub span_past : (s : Sheet) (x : ℕ) → length s.tokens ≤ x → span_of s (Tok x) ≡ no_span
span_past s x le = ap (λ (o : Option Token). (unwrap_or o no_token).span) (slice_get_past s.tokens x le)

-- two that are not placed have no order
pub not_before : (t : TaskShape) (s : Sheet) (x y : ℕ) → IsFormed t s → (IsPlaced s x y → ⊥) → before s x y ≡ false
not_before t s x y f h = go (before s x y) refl
  where
    go : (b : Bool) → before s x y ≡ b → before s x y ≡ false
    go true e = absurd (h (f.orders x y e))
    go false e = e

-- the place of a candidate among n tokens and the outside actions behind them
abbrev rank : ℕ → Cand → ℕ
rank n (Tok x) = x
rank n (Out a) = n + a

abbrev IsIn : ℕ → ℕ → Cand → Type 0
IsIn n m (Tok x) = x < n
IsIn n m (Out a) = a < m

rank_below : (n m : ℕ) (c : Cand) → IsIn n m c → rank n c < n + m
rank_below n m (Tok x) lt = omega arith
rank_below n m (Out a) lt = omega arith

rank_rises : (n m : ℕ) (c d : Cand) → IsIn n m c → Precedes c d → rank n c < rank n d
rank_rises n m (Tok x) (Tok y) i h = h
rank_rises n m (Tok x) (Out a) i h = omega arith
rank_rises n m (Out a) (Tok y) i h = absurd h
rank_rises n m (Out a) (Out b) i h = omega arith

count_from : (n m k : ℕ) (cs : List Cand) → IsAscending cs → k ≤ n + m → ((d : Cand) → has d cs ≡ true → IsIn n m d) → ((d : Cand) → has d cs ≡ true → k ≤ rank n d) → k + length cs ≤ n + m
count_from n m k [] up le each low = omega arith
count_from n m k (c ∷ cs) up le each low =
    let self : has c (c ∷ cs) ≡ true = or_left (same c c) (has c cs) (same_self c) in
    let a : rank n c < n + m = rank_below n m c (each c self) in
    let b : k ≤ rank n c = low c self in
    let e : (rank n c + 1) + length cs ≤ n + m =
    count_from n m (rank n c + 1) cs up.1 (omega arith) (λ d h. each d (or_right (same c d) (has d cs) h))
    (λ d h. let lt = rank_rises n m c d (each c self) (up.0 d h) in omega arith) in
    omega arith

is_in : (t : TaskShape) (s : Sheet) (x p : ℕ) (c : Cand) → CanAdd t s x p c → IsIn (length s.tokens) (length t.actions) c
is_in t s x p (Tok y) h = h.0
is_in t s x p (Out a) h = h.0

-- a candidate list of a store has fewer than 2^32 candidates
pub list_small : (t : TaskShape) (s : Sheet) (x p : ℕ) → IsFormed t s → length t.actions ≤ 4096 → length s.tokens ≤ 4200000000 → length (cands s x p) ≤ 4200004096
list_small t s x p f acts few =
    let e = count_from (length s.tokens) (length t.actions) 0 (cands s x p) (f.ascending x p) (omega arith) (λ d h. is_in t s x p d (f.supply x p d h)) (λ d h. omega arith) in
    omega arith
