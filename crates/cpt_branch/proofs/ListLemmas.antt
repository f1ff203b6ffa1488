-- the flaws of a list, of a token, and of all tokens
use Rattle.std.proofs.Common.{◌≡◌, ◌≢◌, ℕ, true, List, [], ◌∷◌, length, Contains, get_or, Option, Some, None, refl, sym, subst, ap, ◌∙◌, arith}
use Rattle.cpt_task.specs.Shape.{TaskShape}
use Rattle.cpt_sheet.specs.declared.data.Cand.TheVariants.{Tok}
use Rattle.cpt_sheet.specs.declared.data.Sheet.{Sheet}
use Rattle.cpt_sheet.specs.declared.data.Flaw.{Flaw}
use Rattle.cpt_sheet.specs.declared.data.Flaw.TheVariants.{Threat, OpenNeed, Clash}
use Rattle.cpt_sheet.specs.Roles.{deletes_of, Deletes}
use Rattle.cpt_sheet.specs.declared.data.Cand.{Cand}
use Rattle.cpt_sheet.specs.View.{cands, has, has_need, kind_of, same, token_at}
use Rattle.cpt_soundness.proofs.ViewLemmas.{same_self}
use Rattle.std.proofs.lemmas.Bool.{or_left}
use Rattle.cpt_fresh.proofs.ExtendLemmas.{listed_need}
use Rattle.cpt_calculus.specs.Flaws.{IsThreat, IsOpenNeed, IsChosenBefore}
use Rattle.cpt_calculus.specs.Rules.{IsToken}
use Rattle.cpt_fresh.proofs.FlawLemmas.{choice_is_order}
use Rattle.cpt_index.specs.Lists.{IsDeleter, IsNeed, Lists}
use Rattle.cpt_outcome.proofs.LeafLemmas.{listed, in-list, index-same}
use Rattle.cpt_branch.specs.Choosing.{AreBelow, IsFirstOf, IsOfList, IsOfToken, IsThreatBy}
use Rattle.cpt_branch.proofs.ChoosingLemmas.{first-same}

-- whoever is in a list of deleters deletes
pub deleter-deletes : (t : TaskShape) (s : Sheet) (p d : ℕ) → IsDeleter t s p d → Deletes t (kind_of s (Tok d)) p
deleter-deletes t s p d h = in-list p (deletes_of t (kind_of s (Tok d))) h

threat-same : (t : TaskShape) (s : Sheet) (y q x p d : ℕ) → y ≡ x → q ≡ p → IsThreat t s y q d → IsThreat t s x p d
threat-same t s y q x p d e f h = subst (λ z. IsThreat t s z p d) e (subst (λ z. IsThreat t s y z d) f h)

-- where a list is one token, its flaws are the threats of those that delete the atom
pub threats-of-list : (t : TaskShape) (s : Sheet) (x p y : ℕ) (foes : List ℕ) (r : Option Flaw) → IsToken (cands s x p) y → Lists (IsDeleter t s p) foes →
    IsFirstOf s (AreBelow (λ i. IsThreatBy t s x p (get_or foes i 0)) (length foes)) r → IsFirstOf s (IsOfList t s x p) r
threats-of-list t s x p y foes r one all h = first-same s (AreBelow (λ i. IsThreatBy t s x p (get_or foes i 0)) (length foes)) (IsOfList t s x p) r to back h
  where
    to : (f : Flaw) → AreBelow (λ i. IsThreatBy t s x p (get_or foes i 0)) (length foes) f → IsOfList t s x p f
    to f (i, lt, (e, threat)) = subst (IsOfList t s x p) (sym e) ((refl, refl), threat)

    back : (f : Flaw) → IsOfList t s x p f → AreBelow (λ i. IsThreatBy t s x p (get_or foes i 0)) (length foes) f
    back (Threat y' q d) ((e, g), h) =
        let k : IsThreat t s x p d = threat-same t s y' q x p d e g h in
        let c : Contains foes d = all.complete d (listed p (deletes_of t (kind_of s (Tok d))) k.1.deletes) in
        (c.0, c.1, (place (get_or foes c.0 0) (at c), subst (IsThreat t s x p) (sym (at c)) k))
      where
        at : (c : Contains foes d) → get_or foes c.0 0 ≡ d
        at c = index-same foes c.0 0 d c.1 ∙ c.2

        place : (z : ℕ) → z ≡ d → Threat y' q d ≡ Threat x p z
        place z same = cc
    back (OpenNeed y' q) ((e, g), h) = absurd (h.1 y (subst (λ z. IsToken (cands s z q) y) (sym e) (subst (λ z. IsToken (cands s x z) y) (sym g) one)))
    back (Clash v z) (a, h) = absurd a

-- no flaw of an empty list, and the open need of one that is neither empty nor one token
pub empty-list : (t : TaskShape) (s : Sheet) (x p : ℕ) → ((y : ℕ) → IsToken (cands s x p) y → ⊥) → length (cands s x p) ≡ 0 → IsFirstOf s (IsOfList t s x p) None
empty-list t s x p none e (Threat y q d) ((a, b), h) = (let k = threat-same t s y q x p d a b h in none k.0 k.1.one)
empty-list t s x p none e (OpenNeed y q) ((a, b), h) = (subst (λ z. IsOpenNeed s z p) a (subst (λ z. IsOpenNeed s y z) b h)).0 (nothing (cands s x p) e)
  where
    nothing : {A : Type 0} (xs : List A) → length xs ≡ 0 → xs ≡ []
    nothing [] e = refl
    nothing (z ∷ xs) e = absurd (omega arith)
empty-list t s x p none e (Clash v z) (a, h) = a

pub open-list : (t : TaskShape) (s : Sheet) (x p : ℕ) → ((y : ℕ) → IsToken (cands s x p) y → ⊥) → length (cands s x p) ≢ 0 → IsFirstOf s (IsOfList t s x p) (Some (OpenNeed x p))
open-list t s x p none some = (((refl, refl), ((λ e. some (ap length e)), none)), first)
  where
    first : (f : Flaw) → IsOfList t s x p f → IsChosenBefore s f (OpenNeed x p) → ⊥
    first (Threat y q d) ((a, b), h) before = (let k = threat-same t s y q x p d a b h in none k.0 k.1.one)
    first (OpenNeed y q) ((a, b), h) before = (choice_is_order s).other (OpenNeed x p) (subst (λ z. IsChosenBefore s (OpenNeed z p) (OpenNeed x p)) a (subst (λ z. IsChosenBefore s (OpenNeed y z) (OpenNeed x p)) b before))
    first (Clash v z) (a, h) before = a

-- what a flaw of a list is about is needed
flaw-need : (t : TaskShape) (s : Sheet) (x p : ℕ) (f : Flaw) → IsOfList t s x p f → has_need s x p ≡ true
flaw-need t s x p (Threat y q d) ((a, b), h) = let k = threat-same t s y q x p d a b h in k.1.need
flaw-need t s x p (OpenNeed y q) ((a, b), h) = go (cands s x p) refl (subst (λ z. IsOpenNeed s z p) a (subst (λ z. IsOpenNeed s y z) b h)).0
  where
    go : (cs : List Cand) → cands s x p ≡ cs → (cands s x p ≢ []) → has_need s x p ≡ true
    go [] e some = absurd (some e)
    go (c ∷ cs) e some = listed_need p c (token_at s x).lists (subst (λ z. has c z ≡ true) (sym e) (or_left (same c c) (has c cs) (same_self c)))
flaw-need t s x p (Clash v z) (a, h) = absurd a

-- the flaws of a token are those of the lists of what it needs
pub lists-of-token : (t : TaskShape) (s : Sheet) (x : ℕ) (needs : List ℕ) (r : Option Flaw) → Lists (IsNeed s x) needs →
    IsFirstOf s (AreBelow (λ i. IsOfList t s x (get_or needs i 0)) (length needs)) r → IsFirstOf s (IsOfToken t s x) r
lists-of-token t s x needs r all h = first-same s (AreBelow (λ i. IsOfList t s x (get_or needs i 0)) (length needs)) (IsOfToken t s x) r to back h
  where
    to : (f : Flaw) → AreBelow (λ i. IsOfList t s x (get_or needs i 0)) (length needs) f → IsOfToken t s x f
    to f (i, lt, h) = (get_or needs i 0, h)

    back : (f : Flaw) → IsOfToken t s x f → AreBelow (λ i. IsOfList t s x (get_or needs i 0)) (length needs) f
    back f (p, h) =
        let c : Contains needs p = all.complete p (flaw-need t s x p f h) in
        (c.0, c.1, subst (λ z. IsOfList t s x z f) (sym (index-same needs c.0 0 p c.1 ∙ c.2)) h)
