-- who may ever be in a list, and a list without one of them
use Rattle.std.proofs.Common.{◌≡◌, ◌≢◌, ℕ, suc, zero, List, [], ◌∷◌, ◌++◌, Bool, true, false, if◌then◌else◌, length, refl, sym, ◌∙◌, ap, subst, arith, inl, inr}
use Rattle.std.specs.Prelude.{map}
use Rattle.std.proofs.lemmas.Bool.{true≢false, false≢true, eqb-true, eq-eqb}
use Rattle.cpt_sheet.specs.declared.data.Cand.{Cand}
use Rattle.cpt_sheet.specs.declared.data.Cand.TheVariants.{Tok, Out}
use Rattle.cpt_sheet.specs.View.{same}
use Rattle.cpt_sheet.specs.Edits.{without}
use Rattle.cpt_layout.specs.Places.{Frame, table, kept, all_cands, adders_at, In, NoTwice}
use Rattle.cpt_layout.proofs.Lists.{either, in_table, in_append, when, kept_same}

pub same_true : (c d : Cand) → same c d ≡ true → c ≡ d
same_true (Tok x) (Tok y) h = ap (λ (i : ℕ). Tok i) (eqb-true x y h)
same_true (Out x) (Out y) h = ap (λ (i : ℕ). Out i) (eqb-true x y h)
same_true (Tok x) (Out y) h = absurd (false≢true h)
same_true (Out x) (Tok y) h = absurd (false≢true h)

pub same_self : (c : Cand) → same c c ≡ true
same_self (Tok x) = eq-eqb x x refl
same_self (Out x) = eq-eqb x x refl

pub same_false : (c d : Cand) → same c d ≡ false → c ≢ d
same_false c d h e = true≢false (sym (same_self c) ∙ (ap (λ (z : Cand). same c z) e ∙ h))

pub in_outs : (ns : List ℕ) (c : Cand) → In c (map Out ns) → (a : ℕ) × (In a ns) × (c ≡ Out a)
in_outs [] c h = absurd h
in_outs (a ∷ ns) c (inl e) = (a, inl refl, sym e)
in_outs (a ∷ ns) c (inr r) = let t = in_outs ns c r in (t.0, inr t.1, t.2)

pub outs_in : (ns : List ℕ) (a : ℕ) → In a ns → In (Out a) (map Out ns)
outs_in [] a h = absurd h
outs_in (b ∷ ns) a (inl e) = inl (ap (λ (i : ℕ). Out i) e)
outs_in (b ∷ ns) a (inr r) = inr (outs_in ns a r)

no_twice_tokens : (i n : ℕ) → NoTwice (table Tok i n)
no_twice_tokens i zero = tt
no_twice_tokens i (suc n) = ((λ h. (let z = in_table Tok (suc i) n (Tok i) h in let e : z.0 ≡ i = (let q = z.3 in cc) in let a = z.1 in absurd (omega arith))), no_twice_tokens (suc i) n)

no_twice_outs : (ns : List ℕ) → NoTwice ns → NoTwice (map Out ns)
no_twice_outs [] h = tt
no_twice_outs (a ∷ ns) h = ((λ r. (let z = in_outs ns (Out a) r in let e : z.0 ≡ a = (let q = z.2 in cc) in h.0 (subst (λ (i : ℕ). In i ns) e z.1))), no_twice_outs ns h.1)

no_twice_append : (xs ys : List Cand) → NoTwice xs → NoTwice ys → ((c : Cand) → In c xs → In c ys → ⊥) → NoTwice (xs ++ ys)
no_twice_append [] ys h k d = k
no_twice_append (x ∷ xs) ys h k d = ((λ r. elim (in_append x xs ys r) [ inl a ↦ h.0 a | inr b ↦ d x (inl refl) b ]), no_twice_append xs ys h.1 k (λ c a b. d c (inr a) b))

pub no_twice : (s : Frame) (p : ℕ) → NoTwice (adders_at s p) → NoTwice (all_cands s p)
no_twice s p h = no_twice_append (table Tok 0 (length s.kinds)) (map Out (adders_at s p)) (no_twice_tokens 0 (length s.kinds)) (no_twice_outs (adders_at s p) h)
    (λ c a b. (let y = in_table Tok 0 (length s.kinds) c a in let z = in_outs (adders_at s p) c b in let q = y.3 in let r = z.2 in let e : Tok y.0 ≡ Out z.0 = q ∙ r in cc))

pulled : (x c : Cand) (b : Bool) (xs : List Cand) → same x c ≡ false → without c (when b x xs) ≡ when b x (without c xs)
pulled x c true xs e = ap (λ (b : Bool). if b then xs else x ∷ without c xs) e
pulled x c false xs e = refl

-- one of them leaves
pub kept_drop : (f g : Cand → Bool) (c : Cand) (xs : List Cand) → NoTwice xs → f c ≡ true → g c ≡ false → ((d : Cand) → In d xs → d ≢ c → g d ≡ f d) → kept g xs ≡ without c (kept f xs)
kept_drop f g c [] n t u h = refl
kept_drop f g c (x ∷ xs) n t u h =
    elim (either (same x c)) [
      | inl e ↦
          let q : x ≡ c = same_true x c e in
          let rest : kept g xs ≡ kept f xs = kept_same f g xs (λ d r. h d (inr r) (λ z. n.0 (subst (λ (y : Cand). In y xs) (z ∙ sym q) r))) in
          ap (λ (b : Bool). when b x (kept g xs)) (ap g q ∙ u)
          ∙ (rest ∙ sym (ap (λ (b : Bool). without c (when b x (kept f xs))) (ap f q ∙ t) ∙ ap (λ (b : Bool). if b then kept f xs else x ∷ without c (kept f xs)) e))
      | inr e ↦
          let q : x ≢ c = same_false x c e in
          let rest : kept g xs ≡ without c (kept f xs) = kept_drop f g c xs n.1 t u (λ d r. h d (inr r)) in
          ap (λ (b : Bool). when b x (kept g xs)) (h x (inl refl) q)
          ∙ (ap (λ (ys : List Cand). when (f x) x ys) rest ∙ sym (pulled x c (f x) (kept f xs) e))
    ]
