-- one flaw as the first of those that are looked at, and the first of all
use Rattle.std.proofs.Common.{◌≡◌, ◌≢◌, ℕ, ◌+◌, ◌<◌, ◌⊎◌, inl, inr, true, false, List, [], ◌∷◌, length, Contains, get_or, Option, Some, None, refl, sym, subst, ◌∙◌, arith}
use Rattle.std.specs.Option.{is_some}
use Rattle.std.proofs.lemmas.Bool.{cases_order, or_left}
use Rattle.cpt_task.specs.Shape.{TaskShape}
use Rattle.cpt_sheet.specs.declared.data.Cand.{Cand}
use Rattle.cpt_sheet.specs.declared.data.Cand.TheVariants.{Tok}
use Rattle.cpt_sheet.specs.declared.data.Kind.{Kind}
use Rattle.cpt_sheet.specs.declared.data.Kind.TheVariants.{Start, End, Act}
use Rattle.cpt_sheet.specs.declared.data.Sheet.{Sheet}
use Rattle.cpt_sheet.specs.declared.data.Flaw.{Flaw}
use Rattle.cpt_sheet.specs.declared.data.Flaw.TheVariants.{Threat, OpenNeed, Clash}
use Rattle.cpt_sheet.specs.Roles.{Deletes, Clash as Interfere}
use Rattle.cpt_sheet.specs.View.{before, cands, has, kind_of, same}
use Rattle.cpt_calculus.specs.Flaws.{IsChosenBefore, IsClash, IsFlaw, IsOpenNeed, IsThreat}
use Rattle.cpt_calculus.specs.Rules.{IsToken}
use Rattle.cpt_calculus.proofs.Parts.{same_self}
use Rattle.cpt_calculus.proofs.Reading.{cand_there, clash_swap, first_there, need_there, one_need, one_same}
use Rattle.cpt_fresh.proofs.FlawLemmas.{choice_is_order}
use Rattle.cpt_index.specs.Lists.{IsRival, Lists}
use Rattle.cpt_outcome.proofs.LeafLemmas.{index-same}
use Rattle.cpt_branch.specs.Choosing.{AreBelow, IsAbout, IsChoice, IsClashOf, IsClashWith, IsFirstOf, IsOfToken, IsThreatBy}
use Rattle.cpt_branch.proofs.ChoosingLemmas.{first-next, first-same}

-- no flaw is chosen before itself
not-itself : (s : Sheet) (f g : Flaw) → g ≡ f → IsChosenBefore s g f → ⊥
not-itself s f g e b = (choice_is_order s).other f (subst (λ z. IsChosenBefore s z f) e b)

-- the threat of d, and that there is none
pub threat-found : (t : TaskShape) (s : Sheet) (x p y d : ℕ) → IsToken (cands s x p) y → Deletes t (kind_of s (Tok d)) p → d ≢ x → d ≢ y → before s d y ≡ false → before s x d ≡ false →
    IsFirstOf s (IsThreatBy t s x p d) (Some (Threat x p d))
threat-found t s x p y d one del other different ahead behind =
    ((refl, (y, record { need = one_need s x p y one; one = one; deletes = del; other = other; different = different }, ahead, behind)), λ f k b. not-itself s (Threat x p d) f k.0 b)

pub threat-none : (t : TaskShape) (s : Sheet) (x p y d : ℕ) → IsToken (cands s x p) y → (d ≢ x → d ≢ y → before s d y ≡ false → before s x d ≡ false → ⊥) → IsFirstOf s (IsThreatBy t s x p d) None
threat-none t s x p y d one not = λ f h. refuse h.1
  where
    refuse : IsThreat t s x p d → ⊥
    refuse h =
        let e : h.0 ≡ y = one_same s x p h.0 y h.1.one one in
        not h.1.other (subst (λ z. d ≢ z) e h.1.different) (subst (λ z. before s d z ≡ false) e h.2) h.3

-- the clash of x and y, and that there is none
pub clash-found : (t : TaskShape) (s : Sheet) (x y : ℕ) → IsClash t s x y → IsFirstOf s (IsClashWith t s x y) (Some (Clash x y))
clash-found t s x y c = ((refl, c), λ f k b. not-itself s (Clash x y) f k.0 b)

pub clash-none : (t : TaskShape) (s : Sheet) (x y : ℕ) → (IsClash t s x y → ⊥) → IsFirstOf s (IsClashWith t s x y) None
clash-none t s x y not = λ f h. not h.1

-- the clashes of an action token are those with its rivals
pub rivals-of-token : (t : TaskShape) (s : Sheet) (x a : ℕ) (rivals : List ℕ) (r : Option Flaw) → kind_of s (Tok x) ≡ Act a → Lists (IsRival t s a) rivals →
    IsFirstOf s (AreBelow (λ i. IsClashWith t s x (get_or rivals i 0)) (length rivals)) r → IsFirstOf s (IsClashOf t s x) r
rivals-of-token t s x a rivals r kind all h = first-same s (AreBelow (λ i. IsClashWith t s x (get_or rivals i 0)) (length rivals)) (IsClashOf t s x) r to back h
  where
    to : (f : Flaw) → AreBelow (λ i. IsClashWith t s x (get_or rivals i 0)) (length rivals) f → IsClashOf t s x f
    to f (i, lt, h) = (get_or rivals i 0, h)

    back : (f : Flaw) → IsClashOf t s x f → AreBelow (λ i. IsClashWith t s x (get_or rivals i 0)) (length rivals) f
    back f (y, h) =
        let c : Contains rivals y = all.complete y (subst (λ k. Interfere t (kind_of s (Tok y)) k) kind (clash_swap t (kind_of s (Tok x)) (kind_of s (Tok y)) h.1.interfere)) in
        (c.0, c.1, subst (λ z. IsClashWith t s x z f) (sym (index-same rivals c.0 0 y c.1 ∙ c.2)) h)

-- the start and the end clash with no one
pub idle-token : (t : TaskShape) (s : Sheet) (x : ℕ) → ((a : ℕ) → kind_of s (Tok x) ≡ Act a → ⊥) → IsFirstOf s (IsClashOf t s x) None
idle-token t s x not = λ f h. go (kind_of s (Tok x)) refl (kind_of s (Tok h.0)) h.1.1.interfere
  where
    go : (k : Kind) → kind_of s (Tok x) ≡ k → (l : Kind) → Interfere t k l → ⊥
    go Start e l h = h
    go End e l h = h
    go (Act a) e l h = not a e

-- a clash of a token, where no earlier token has one, is the first of all
pub clash-first : (t : TaskShape) (s : Sheet) (x n : ℕ) (f : Flaw) → x < n → IsFirstOf s (AreBelow (IsClashOf t s) x) None → IsFirstOf s (IsClashOf t s x) (Some f) → IsFirstOf s (AreBelow (IsClashOf t s) n) (Some f)
clash-first t s x n f lt none h = ((x, lt, h.0), first)
  where
    later : (z : ℕ) (g f : Flaw) → x < z → IsClashOf t s z g → IsClashOf t s x f → IsChosenBefore s g f → ⊥
    later z g f lt (v, (e, c)) (y, (i, d)) b = after (subst (λ k. IsChosenBefore s k (Clash x y)) e (subst (λ k. IsChosenBefore s g k) i b))
      where
        after : IsChosenBefore s (Clash z v) (Clash x y) → ⊥
        after (inl l) = omega arith
        after (inr l) = let k = l.0 in omega arith

    first : (g : Flaw) → AreBelow (IsClashOf t s) n g → IsChosenBefore s g f → ⊥
    first g (z, l, k) b =
        elim (cases_order z x) [
          | inl e ↦ h.1 g (subst (λ v. IsClashOf t s v g) e k) b
          | inr o ↦ elim o [ inl m ↦ none g (z, m, k) | inr m ↦ later z g f m k h.0 b ]
        ]

-- the same where the token's clashes are told by a test
pub clash-some : (t : TaskShape) (s : Sheet) (x n : ℕ) (r : Option Flaw) → is_some r ≡ true → x < n → IsFirstOf s (AreBelow (IsClashOf t s) x) None → IsFirstOf s (IsClashOf t s x) r → IsFirstOf s (AreBelow (IsClashOf t s) n) r
clash-some t s x n None e lt before h = absurd (cc)
clash-some t s x n (Some f) e lt before h = clash-first t s x n f lt before h

pub clash-further : (t : TaskShape) (s : Sheet) (x : ℕ) (r : Option Flaw) → is_some r ≡ false → IsFirstOf s (AreBelow (IsClashOf t s) x) None → IsFirstOf s (IsClashOf t s x) r → IsFirstOf s (AreBelow (IsClashOf t s) (x + 1)) None
clash-further t s x None e before h = first-next s (IsClashOf t s) x None None None before h refl
clash-further t s x (Some f) e before h = absurd (cc)

-- a list that has a flaw is that of a token
threat-there : (t : TaskShape) (s : Sheet) (x p d : ℕ) → IsThreat t s x p d → x < length s.tokens
threat-there t s x p d h = need_there s x p h.1.need

pub open-there : (s : Sheet) (x p : ℕ) → IsOpenNeed s x p → x < length s.tokens
open-there s x p h = go (cands s x p) refl h.0
  where
    go : (cs : List Cand) → cands s x p ≡ cs → (cands s x p ≢ []) → x < length s.tokens
    go [] e some = absurd (some e)
    go (c ∷ cs) e some = cand_there s x p c (subst (λ z. has c z ≡ true) (sym e) (or_left (same c c) (has c cs) (same_self c)))

-- a flaw is one of a token's lists, or a clash
of-lists : (t : TaskShape) (s : Sheet) (f : Flaw) → IsFlaw t s f → AreBelow (IsOfToken t s) (length s.tokens) f ⊎ AreBelow (IsClashOf t s) (length s.tokens) f
of-lists t s (Threat x p d) h = inl (x, threat-there t s x p d h, (p, ((refl, refl), h)))
of-lists t s (OpenNeed x p) h = inl (x, open-there s x p h, (p, ((refl, refl), h)))
of-lists t s (Clash x y) h = inr (x, first_there t s x (kind_of s (Tok y)) h.interfere, (y, (refl, h)))

-- no clash is chosen before a flaw of a list
not-before : (t : TaskShape) (s : Sheet) (x z : ℕ) (f g : Flaw) → IsClashOf t s z g → IsOfToken t s x f → IsChosenBefore s g f → ⊥
not-before t s x z f g (v, (e, c)) (p, (a, h)) b = go f a (subst (λ k. IsChosenBefore s k f) e b)
  where
    go : (f : Flaw) → IsAbout x p f → IsChosenBefore s (Clash z v) f → ⊥
    go (Threat y q d) a b = b
    go (OpenNeed y q) a b = b
    go (Clash y q) a b = a

-- the first flaw of all lists is the first of all
pub lists-first : (t : TaskShape) (s : Sheet) (f : Flaw) → IsFirstOf s (AreBelow (IsOfToken t s) (length s.tokens)) (Some f) → IsChoice t s (Some f)
lists-first t s f ((x, lt, (p, (a, h))), first) = record {
  stands = h;
  first = λ g k b. elim (of-lists t s g k) [ inl l ↦ first g l b | inr (z, m, c) ↦ not-before t s x z f g c (p, (a, h)) b ];
}

-- where no list has a flaw, the first clash is the first of all
pub clashes-first : (t : TaskShape) (s : Sheet) (r : Option Flaw) → IsFirstOf s (AreBelow (IsOfToken t s) (length s.tokens)) None → IsFirstOf s (AreBelow (IsClashOf t s) (length s.tokens)) r → IsChoice t s r
clashes-first t s None none h = λ f k. elim (of-lists t s f k) [ inl l ↦ none f l | inr l ↦ h f l ]
clashes-first t s (Some f) none ((x, lt, (y, (e, c))), first) = record {
  stands = subst (IsFlaw t s) (sym e) c;
  first = λ g k b. elim (of-lists t s g k) [ inl l ↦ none g l | inr l ↦ first g l b ];
}
