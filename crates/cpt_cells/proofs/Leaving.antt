-- one list of a sheet is changed more than once, until one candidate is left
use Rattle.std.proofs.Common.{◌≡◌, ◌≢◌, ℕ, suc, ◌+◌, ◌<◌, ◌==◌, ◌||◌, List, [], ◌∷◌, Bool, true, false, if◌then◌else◌, length, get_or, set, refl, sym, ◌∙◌, ap, subst, arith, inl, inr}
use Rattle.std.proofs.lemmas.Bool.{cases_eq, true≢false, false≢true, or_cases}
use Rattle.std.proofs.lemmas.List.{get_or-set_same, set-get_or, set-set}
use Rattle.std.proofs.lemmas.Option.{unwrap_or-slice_get}
use Rattle.cpt_sheet.specs.declared.data.Cand.{Cand}
use Rattle.cpt_sheet.specs.declared.data.Cand.TheVariants.{Tok, Out}
use Rattle.cpt_sheet.specs.declared.data.Need.{Need}
use Rattle.cpt_sheet.specs.declared.data.Sheet.{Sheet}
use Rattle.cpt_sheet.specs.declared.data.Token.{Token}
use Rattle.cpt_sheet.specs.Edits.{revised, with_list, with_token, without}
use Rattle.cpt_sheet.specs.View.{cands, has, list_for, no_token, same, token_at}
use Rattle.cpt_calculus.specs.Decisions.{joined}
use Rattle.cpt_calculus.proofs.Below.{list_cons}
use Rattle.cpt_calculus.proofs.Views.{count_with_list}
use Rattle.cpt_layout.specs.Places.{Frame, In, NoTwice, adders_at, all_cands, kept}
use Rattle.cpt_layout.proofs.Cands.{kept_drop, same_false, same_self, same_true}
use Rattle.cpt_layout.proofs.Lists.{either, if_false, if_true, when}
use Rattle.cpt_block.proofs.Kepts.{kept_none}
use Rattle.cpt_cells.specs.Lists.{IsSameBut}
use Rattle.cpt_cells.proofs.Listed.{kept_in, out_there, tok_there}

-- the first of these needs with another list, or those behind it
abbrev step : ℕ → (List Cand → List Cand) → Need → List Need → Bool → List Need
step p f n ns b = if b then (record n { cands = f n.cands } ∷ ns) else (n ∷ revised p f ns)

revised_own : (p : ℕ) (cs : List Cand) (ns : List Need) → cs ≡ list_for p ns → revised p (λ ds. cs) ns ≡ ns
revised_own p cs [] h = refl
revised_own p cs (n ∷ ns) h =
    elim (either (n.atom == p)) [
      | inl t ↦
          let made : List Cand → List Need = λ ds. record { atom = n.atom; cands = ds } ∷ ns in
          ap (λ (b : Bool). step p (λ ds. cs) n ns b) t
          ∙ ap made (h ∙ (list_cons p n ns ∙ ap (λ (b : Bool). if b then n.cands else list_for p ns) t))
      | inr f ↦
          ap (λ (b : Bool). step p (λ ds. cs) n ns b) f
          ∙ ap (λ (ms : List Need). n ∷ ms) (revised_own p cs ns (h ∙ (list_cons p n ns ∙ ap (λ (b : Bool). if b then n.cands else list_for p ns) f)))
    ]

revised_twice : (p : ℕ) (f g : List Cand → List Cand) (ns : List Need) → revised p g (revised p f ns) ≡ revised p (λ ds. g (f ds)) ns
revised_twice p f g [] = refl
revised_twice p f g (n ∷ ns) =
    elim (either (n.atom == p)) [
      | inl t ↦
          let m : Need = record n { cands = f n.cands } in
          ap (λ (b : Bool). revised p g (step p f n ns b)) t
          ∙ (ap (λ (b : Bool). step p g m ns b) t ∙ sym (ap (λ (b : Bool). step p (λ ds. g (f ds)) n ns b) t))
      | inr e ↦
          ap (λ (b : Bool). revised p g (step p f n ns b)) e
          ∙ (ap (λ (b : Bool). step p g n (revised p f ns) b) e
          ∙ (ap (λ (ms : List Need). n ∷ ms) (revised_twice p f g ns) ∙ sym (ap (λ (b : Bool). step p (λ ds. g (f ds)) n ns b) e)))
    ]

list_revised : (p : ℕ) (f : List Cand → List Cand) (ns : List Need) → f [] ≡ [] → list_for p (revised p f ns) ≡ f (list_for p ns)
list_revised p f [] h = sym h
list_revised p f (n ∷ ns) h =
    elim (either (n.atom == p)) [
      | inl t ↦
          let m : Need = record n { cands = f n.cands } in
          ap (λ (b : Bool). list_for p (step p f n ns b)) t
          ∙ (list_cons p m ns
          ∙ (ap (λ (b : Bool). if b then m.cands else list_for p ns) t
          ∙ ap f (sym (list_cons p n ns ∙ ap (λ (b : Bool). if b then n.cands else list_for p ns) t))))
      | inr e ↦
          ap (λ (b : Bool). list_for p (step p f n ns b)) e
          ∙ (list_cons p n (revised p f ns)
          ∙ (ap (λ (b : Bool). if b then n.cands else list_for p (revised p f ns)) e
          ∙ (list_revised p f ns h ∙ ap f (sym (list_cons p n ns ∙ ap (λ (b : Bool). if b then n.cands else list_for p ns) e)))))
    ]

-- the token that was put
put_there : (s : Sheet) (x : ℕ) (t : Token) → x < length s.tokens → token_at (with_token s x t) x ≡ t
put_there s x t l = unwrap_or-slice_get (set s.tokens x t) x no_token ∙ get_or-set_same s.tokens x t no_token l

with_list_twice : (s : Sheet) (x p : ℕ) (f g : List Cand → List Cand) → x < length s.tokens → with_list (with_list s x p f) x p g ≡ with_list s x p (λ ds. g (f ds))
with_list_twice s x p f g l =
    let z : Token = token_at s x in
    let u : Token = record z { lists = revised p f z.lists } in
    let v : List Need → Token = λ ns. record z { lists = ns } in
    ap (λ (t : Token). with_token (with_token s x u) x (record t { lists = revised p g t.lists })) (put_there s x u l)
    ∙ (ap (λ (ns : List Need). with_token (with_token s x u) x (v ns)) (revised_twice p f g z.lists)
    ∙ ap (λ (ts : List Token). (let r : Sheet = record s { tokens = ts } in r)) (set-set s.tokens x u (v (revised p (λ ds. g (f ds)) z.lists))))

with_list_own : (s : Sheet) (x p : ℕ) (cs : List Cand) → cs ≡ cands s x p → with_list s x p (λ ds. cs) ≡ s
with_list_own s x p cs h =
    let z : Token = token_at s x in
    let v : List Need → Token = λ ns. record z { lists = ns } in
    let put : List Token → Sheet = λ ts. record s { tokens = ts } in
    ap (λ (ns : List Need). put (set s.tokens x (v ns))) (revised_own p cs z.lists h)
    ∙ (ap (λ (t : Token). put (set s.tokens x t)) (unwrap_or-slice_get s.tokens x no_token)
    ∙ ap put (set-get_or s.tokens x no_token))

pub list_with : (s : Sheet) (x p : ℕ) (f : List Cand → List Cand) → x < length s.tokens → f [] ≡ [] → cands (with_list s x p f) x p ≡ f (cands s x p)
list_with s x p f l h =
    let z : Token = token_at s x in
    let u : Token = record z { lists = revised p f z.lists } in
    ap (λ (t : Token). list_for p t.lists) (put_there s x u l) ∙ list_revised p f z.lists h

-- sheets that are the same but for one list
pub but_none : (s : Sheet) (x p : ℕ) → IsSameBut s s x p
but_none s x p = record { same = λ cs. refl; tokens = refl }

pub but_with : (s t : Sheet) (x p : ℕ) (f : List Cand → List Cand) → x < length s.tokens → t ≡ with_list s x p f → IsSameBut s t x p
but_with s t x p f l e = record {
  same = λ cs. ap (λ (z : Sheet). with_list z x p (λ ds. cs)) e ∙ with_list_twice s x p f (λ ds. cs) l;
  tokens = ap (λ (z : Sheet). length z.tokens) e ∙ count_with_list s x p f;
}

pub but_then : (s t u : Sheet) (x p : ℕ) → IsSameBut s t x p → IsSameBut t u x p → IsSameBut s u x p
but_then s t u x p h k = record { same = λ cs. k.same cs ∙ h.same cs; tokens = k.tokens ∙ h.tokens }

pub but_one : (s t : Sheet) (x p y : ℕ) → IsSameBut s t x p → cands t x p ≡ Tok y ∷ [] → t ≡ joined s x p y
but_one s t x p y h e =
    sym (with_list_own t x p (cands t x p) refl)
    ∙ (ap (λ (cs : List Cand). with_list t x p (λ ds. cs)) e ∙ h.same (Tok y ∷ []))

-- a candidate of a list passes its test
passes : (f : Cand → Bool) (c : Cand) (ds : List Cand) → has c (kept f ds) ≡ true → f c ≡ true
passes f c [] h = absurd (false≢true h)
passes f c (d ∷ ds) h =
    elim (either (f d)) [
      | inl t ↦
          elim (or_cases (same d c) (has c (kept f ds)) (sym (ap (λ (b : Bool). has c (when b d (kept f ds))) t) ∙ h)) [
            | inl k ↦ ap f (sym (same_true d c k)) ∙ t
            | inr k ↦ passes f c ds k
          ]
      | inr n ↦ passes f c ds (sym (ap (λ (b : Bool). has c (when b d (kept f ds))) n) ∙ h)
    ]

not_passed : (f : Cand → Bool) (c : Cand) (ds : List Cand) → f c ≡ false → has c (kept f ds) ≡ false
not_passed f c ds h = elim (either (has c (kept f ds))) [ inl t ↦ absurd (true≢false (sym (passes f c ds t) ∙ h)) | inr n ↦ n ]

-- the one that is left out
abbrev but : (Cand → Bool) → Cand → Cand → Bool
but f c d = if same d c then false else f d

-- once it is taken it is gone, since it was there once
pub taken_gone : (c : Cand) (cs ds : List Cand) → cs ≡ kept (λ d. has d cs) ds → NoTwice ds → has c cs ≡ true → has c (without c cs) ≡ false
taken_gone c cs ds e n h =
    let f : Cand → Bool = λ d. has d cs in
    let off : but f c c ≡ false = if_true (same c c) false (f c) (same_self c) in
    let others : (d : Cand) → In d ds → d ≢ c → but f c d ≡ f d = λ d r q. if_false (same d c) false (f d) (elim (either (same d c)) [ inl t ↦ absurd (q (same_true d c t)) | inr k ↦ k ]) in
    ap (λ (xs : List Cand). has c (without c xs)) e
    ∙ (ap (λ (xs : List Cand). has c xs) (sym (kept_drop f (but f c) c ds n h off others)) ∙ not_passed (but f c) c ds off)

pub others_left : (c d : Cand) (cs : List Cand) → d ≢ c → has d (without c cs) ≡ has d cs
others_left c d [] q = refl
others_left c d (x ∷ cs) q =
    elim (either (same x c)) [
      | inl t ↦
          let k : same x d ≡ false = elim (either (same x d)) [ inl y ↦ absurd (q (sym (same_true x d y) ∙ same_true x c t)) | inr y ↦ y ] in
          ap (λ (b : Bool). has d (if b then cs else x ∷ without c cs)) t ∙ sym (ap (λ (b : Bool). b || has d cs) k)
      | inr n ↦
          ap (λ (b : Bool). has d (if b then cs else x ∷ without c cs)) n ∙ ap (λ (b : Bool). same x d || b) (others_left c d cs q)
    ]

-- the one that passes
pub kept_one : (f : Cand → Bool) (c : Cand) (ds : List Cand) → NoTwice ds → In c ds → f c ≡ true → ((d : Cand) → In d ds → d ≢ c → f d ≡ false) → kept f ds ≡ c ∷ []
kept_one f c [] n i t h = absurd i
kept_one f c (d ∷ ds) n (inl e) t h =
    let rest : kept f ds ≡ [] = kept_none f ds (λ x r. h x (inr r) (λ q. n.0 (subst (λ (y : Cand). In y ds) (q ∙ sym e) r))) in
    if_true (f d) (d ∷ kept f ds) (kept f ds) (ap f e ∙ t)
    ∙ (ap (λ (xs : List Cand). d ∷ xs) rest ∙ ap (λ (x : Cand). x ∷ []) e)
kept_one f c (d ∷ ds) n (inr r) t h =
    let q : d ≢ c = λ e. n.0 (subst (λ (y : Cand). In y ds) (sym e) r) in
    if_false (f d) (d ∷ kept f ds) (kept f ds) (h d (inl refl) q) ∙ kept_one f c ds n.1 r t (λ x i. h x (inr i))

in_at : (a : ℕ) (bs : List ℕ) → In a bs → (k : ℕ) × (k < length bs) × (get_or bs k 0 ≡ a)
in_at a [] h = absurd h
in_at a (b ∷ bs) (inl e) = (0, omega arith, e)
in_at a (b ∷ bs) (inr r) = (let t = in_at a bs r in (suc t.0, (let l = t.1 in omega arith), t.2))

-- the list of which all but one were taken
pub one_left : (f : Frame) (p y : ℕ) (cs : List Cand) → cs ≡ kept (λ c. has c cs) (all_cands f p) → NoTwice (all_cands f p) → has (Tok y) cs ≡ true →
    ((z : ℕ) → z < length f.kinds → z ≢ y → has (Tok z) cs ≡ false) → ((k : ℕ) → k < length (adders_at f p) → has (Out (get_or (adders_at f p) k 0)) cs ≡ false) → cs ≡ Tok y ∷ []
one_left f p y cs e n t h g =
    e ∙ kept_one (λ c. has c cs) (Tok y) (all_cands f p) n (kept_in (λ c. has c cs) (Tok y) (all_cands f p) (ap (λ (ds : List Cand). has (Tok y) ds) (sym e) ∙ t)) t others
  where
    others : (d : Cand) → In d (all_cands f p) → d ≢ Tok y → has d cs ≡ false
    others (Tok z) i q = h z (tok_there f p z i) (λ k. q (ap (λ (j : ℕ). Tok j) k))
    others (Out a) i q = (let r = in_at a (adders_at f p) (out_there f p a i) in ap (λ (j : ℕ). has (Out j) cs) (sym r.2) ∙ g r.0 r.1)

pub fewer_left : (c : Cand) (old new : List Cand) → has c new ≡ false → ((d : Cand) → d ≢ c → has d new ≡ has d old) → (d : Cand) → has d old ≡ false → has d new ≡ false
fewer_left c old new g h d k = elim (either (same d c)) [
  | inl t ↦ ap (λ (e : Cand). has e new) (same_true d c t) ∙ g
  | inr n ↦ h d (same_false d c n) ∙ k
]

-- a token more, and an outside action more, is taken
pub more_gone : (z y : ℕ) (old new : List Cand) → (z ≢ y → has (Tok z) new ≡ false) → ((d : Cand) → d ≢ Tok z → has d new ≡ has d old) → ((k : ℕ) → k < z → k ≢ y → has (Tok k) old ≡ false) →
    (k : ℕ) → k < z + 1 → k ≢ y → has (Tok k) new ≡ false
more_gone z y old new here others h k l q = elim (cases_eq k z) [
  | inl e ↦ ap (λ (i : ℕ). has (Tok i) new) e ∙ here (λ r. q (e ∙ r))
  | inr n ↦ others (Tok k) (λ r. n (cc)) ∙ h k (omega arith) q
]

pub more_out : (i : ℕ) (bs : List ℕ) (old new : List Cand) → has (Out (get_or bs i 0)) new ≡ false → ((d : Cand) → has d old ≡ false → has d new ≡ false) → ((k : ℕ) → k < i → has (Out (get_or bs k 0)) old ≡ false) →
    (k : ℕ) → k < i + 1 → has (Out (get_or bs k 0)) new ≡ false
more_out i bs old new here fewer h k l = elim (cases_eq k i) [
  | inl e ↦ ap (λ (j : ℕ). has (Out (get_or bs j 0)) new) e ∙ here
  | inr n ↦ fewer (Out (get_or bs k 0)) (h k (omega arith))
]
