-- the fresh sheets of lists of decisions
use Rattle.std.proofs.Common.{◌≡◌, ℕ, ◌≤◌, List, [], ◌∷◌, ◌++◌, Option, Some, None, refl, sym, ap, ◌∙◌, subst}
use Rattle.std.proofs.lemmas.List.{same_from_push}
use Rattle.cpt_task.specs.Shape.{TaskShape, InBounds}
use Rattle.cpt_tables.specs.declared.tables.Tables.{Tables}
use Rattle.cpt_sheet.specs.declared.data.Sheet.{Sheet}
use Rattle.cpt_sheet.specs.declared.data.Decision.{Decision}
use Rattle.cpt_sheet.specs.Formed.{IsFormed}
use Rattle.cpt_sheet.specs.Gaps.{FitsTask}
use Rattle.cpt_calculus.specs.Closing.{ClosesTo, IsFresh}
use Rattle.cpt_calculus.specs.Closing.IsFresh.{at_root, decided}
use Rattle.cpt_calculus.specs.Decisions.{applied}
use Rattle.cpt_calculus.specs.Root.{root_of}
use Rattle.cpt_calculus.proofs.ApplyFormed.{applied_formed}
use Rattle.cpt_calculus.proofs.Confluence.{closes_live, closes_dead, one_end}
use Rattle.cpt_calculus.proofs.RootFormed.{root_formed}
use Rattle.cpt_fresh.specs.Fresh.IsBeginning.{here, after}
use Rattle.cpt_fresh.specs.Fresh.{IsBeginning, IsDecidedFrom, OneFresh, FreshAtRoot, FreshAfter, OneBeginning, BeginningClosesFresh, ReachesFresh}

no_last : {A : Type 0} (xs : List A) (x : A) → [] ≡ xs ++ x ∷ [] → ⊥
no_last [] x e = cc
no_last (y ∷ ys) x e = cc

module _ (rules : List ℕ) (t : TaskShape) (tables : Tables) (b : ℕ) where
  -- how a fresh sheet comes: from the root, or from the fresh sheet of the earlier decisions
  data Comes (ds : List Decision) (r : Option Sheet) : Type 0 where
    from_root : ds ≡ [] → ClosesTo rules t tables (root_of t tables b) r → Comes ds r
    from_last : (es : List Decision) (d : Decision) (s : Sheet) → ds ≡ es ++ d ∷ [] → IsDecidedFrom rules t tables b es d r s → Comes ds r

  comes : (ds : List Decision) (r : Option Sheet) → IsFresh rules t tables b ds r → Comes ds r
  comes ds r (at_root q h) = from_root refl h
  comes ds r (decided es s d q f fits h) = from_last es d s refl (record { fresh = f; fits = fits; closes = h })

  at_start : (ds : List Decision) (r : Option Sheet) → ds ≡ [] → Comes ds r → ClosesTo rules t tables (root_of t tables b) r
  at_start ds r e (from_root g h) = h
  at_start ds r e (from_last es d s g h) = absurd (no_last es d (sym e ∙ g))

  after_last : (ds es : List Decision) (d : Decision) (r : Option Sheet) → es ≡ ds ++ d ∷ [] → Comes es r → (s : Sheet) × IsDecidedFrom rules t tables b ds d r s
  after_last ds es d r e (from_root g h) = absurd (no_last ds d (sym g ∙ e))
  after_last ds es d r e (from_last fs c s g h) =
      let same = same_from_push fs ds c d (sym g ∙ e) in (s, subst (λ z. IsDecidedFrom rules t tables b ds z r s) same.1 (subst (λ z. IsDecidedFrom rules t tables b z c r s) same.0 h))

  some_same : (s u : Sheet) → Some s ≡ Some u → s ≡ u
  some_same s u e = cc

pub fresh_at_root : FreshAtRoot
fresh_at_root rules t tables b r h = at_start rules t tables b [] r refl (comes rules t tables b [] r h)

pub fresh_after : FreshAfter
fresh_after rules t tables b ds d r h = after_last rules t tables b ds (ds ++ d ∷ []) d r refl (comes rules t tables b (ds ++ d ∷ []) r h)

pub one_fresh : OneFresh
one_fresh rules t tables b ds r q (at_root p h) k = one_end rules t tables (root_of t tables b) p q h (fresh_at_root rules t tables b q k)
one_fresh rules t tables b ds r q (decided es s d p f fits h) k =
    let l = fresh_after rules t tables b es d q k in
    let same : s ≡ l.0 = some_same rules t tables b s l.0 (one_fresh rules t tables b es (Some s) (Some l.0) f l.1.fresh) in
    one_end rules t tables (applied t s d) p q h (subst (λ z. ClosesTo rules t tables (applied t z d) q) (sym same) l.1.closes)

pub one_beginning : OneBeginning
one_beginning rules t tables b ds s u (here e h) (here g k) = h ∙ sym k
one_beginning rules t tables b ds s u (here e h) (after es d v g f fits k) = absurd (no_last es d (sym e ∙ g))
one_beginning rules t tables b ds s u (after es d v g f fits k) (here e h) = absurd (no_last es d (sym e ∙ g))
one_beginning rules t tables b ds s u (after es d v e f fits h) (after fs c w g i fits' k) =
    let same = same_from_push es fs d c (sym e ∙ g) in
    let one : v ≡ w = some_same rules t tables b v w (one_fresh rules t tables b fs (Some v) (Some w) (subst (λ z. IsFresh rules t tables b z (Some v)) same.0 f) i) in
    h ∙ (ap (λ z. applied t z d) one ∙ (ap (λ z. applied t w z) same.1 ∙ sym k))

pub beginning_closes_fresh : BeginningClosesFresh
beginning_closes_fresh rules t tables b ds s r (here e h) c =
    subst (λ z. IsFresh rules t tables b z r) (sym e) (at_root r (subst (λ z. ClosesTo rules t tables z r) h c))
beginning_closes_fresh rules t tables b ds s r (after es d u e f fits h) c =
    subst (λ z. IsFresh rules t tables b z r) (sym e) (decided es u d r f fits (subst (λ z. ClosesTo rules t tables z r) h c))

-- a fresh sheet that is there is formed
pub fresh_formed : (rules : List ℕ) (t : TaskShape) (tables : Tables) (b : ℕ) (ds : List Decision) (r : Option Sheet) (u : Sheet) → r ≡ Some u → IsFresh rules t tables b ds r → IsFormed t u
fresh_formed rules t tables b ds r u e (at_root q c) = (subst (λ z. ClosesTo rules t tables (root_of t tables b) z) e c).end.formed
fresh_formed rules t tables b ds r u e (decided es s d q f fits c) = (subst (λ z. ClosesTo rules t tables (applied t s d) z) e c).end.formed

pub beginning_formed : (rules : List ℕ) (t : TaskShape) (tables : Tables) (b : ℕ) (ds : List Decision) (s : Sheet) → InBounds t → FitsTask t tables → b ≤ 1000000 →
    IsBeginning rules t tables b ds s → IsFormed t s
beginning_formed rules t tables b ds s i fits small (here e h) = subst (λ z. IsFormed t z) (sym h) (root_formed t tables b i fits small)
beginning_formed rules t tables b ds s i fits small (after es d u e f fit h) =
    subst (λ z. IsFormed t z) (sym h) (applied_formed t u d fit (fresh_formed rules t tables b es (Some u) u refl f))

pub reaches_fresh : ReachesFresh
reaches_fresh rules t tables b ds s u steps i fits small begins leads = record {
  closed = λ live closed. beginning_closes_fresh rules t tables b ds s (Some u) begins
      (closes_live rules t tables steps s u (beginning_formed rules t tables b ds s i fits small begins) leads live closed);
  dead = λ dead. beginning_closes_fresh rules t tables b ds s None begins (closes_dead rules t tables steps s u leads dead);
}
