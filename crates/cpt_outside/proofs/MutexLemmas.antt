-- what rule 13 proposes
use Rattle.std.proofs.Common.{◌≡◌, ◌≢◌, All, ℕ, List, true, false, slice_index_or, refl, sym, ◌∙◌, subst, inl, inr, arith}
use Rattle.cpt_task.specs.Shape.{TaskShape}
use Rattle.cpt_tables.specs.declared.tables.Tables.{Tables}
use Rattle.cpt_sheet.specs.declared.data.Cand.{Cand}
use Rattle.cpt_sheet.specs.declared.data.Cand.TheVariants.{Tok, Out}
use Rattle.cpt_sheet.specs.declared.data.Sheet.{Sheet}
use Rattle.cpt_sheet.specs.declared.data.Step.TheVariants.{R10, R11After, R11Ahead, R12After, R12Ahead, R13}
use Rattle.cpt_sheet.specs.declared.data.Kind.{Kind}
use Rattle.cpt_sheet.specs.declared.data.Kind.TheVariants.{Start, End, Act}
use Rattle.cpt_sheet.specs.Roles.{Adds, Deletes, Clash}
use Rattle.cpt_steps.proofs.LandingLemmas.{deletes_there}
use Rattle.cpt_sheet.specs.View.{cands, has, kind_of}
use Rattle.cpt_sheet.specs.Gaps.{IsImpossibleBeside}
use Rattle.cpt_calculus.specs.Rules.{IsLegal}
use Rattle.cpt_steps.specs.Landing.{IsClosedAt}
use Rattle.cpt_proposal.proofs.ReaderLemmas.{tok_is, each_listed}
use Rattle.cpt_store.specs.Stores.{StoreShape}
use Rattle.cpt_index.specs.Lists.{Covers, Lists, IsOffer, IsNeed}
use Rattle.cpt_proposal.specs.Lent.{CanPropose}
use Rattle.cpt_store.specs.Proposals.{IsProposed}
use Rattle.cpt_proposal.proofs.ReaderLemmas.{each_of, offered, need_of, has_at}
use Rattle.cpt_outside.specs.NoStep.{outside_rules, HasPartner, IsNoPartner, IsMatched, IsMatchedEach, AreMatched}

pub no_partner : (t : TaskShape) (b : Tables) (s : Sheet) (x p q : ℕ) (c d : Cand) → has d (cands s x q) ≡ false → IsNoPartner t b s x p q c d
no_partner t b s x p q c d e = record { beside = λ k. (let w = sym e ∙ k in cc) }

pub proposes13 : (t : TaskShape) (b : Tables) (h : StoreShape) (x p : ℕ) (c : Cand) (q : ℕ) (l : List Cand) → CanPropose t b h → has c (cands h.sheet x p) ≡ true → IsNeed h.sheet x q → q ≢ p →
    Covers h.sheet x q l → All (IsNoPartner t b h.sheet x p q c) l → IsProposed outside_rules t b h.sheet (Tok x) (R13 x p c q)
proposes13 t b h x p c q l lent listed need different lists none = record {
  rule = refl;
  legal = record {
    live = lent.live;
    allowed = record {
      listed = record { need = need_of h.sheet x p c listed; listed = listed };
      second = record { need = need; different = different };
      none = record { none = λ k d lt. here (slice_index_or (cands h.sheet x q) k d) (has_at (cands h.sheet x q) k d lt) };
    };
    moves = listed;
  };
  lands = refl;
  tight = tt;
}
  where
    here : (d : Cand) → has d (cands h.sheet x q) ≡ true → IsImpossibleBeside t b h.sheet p q c d
    here d e = (each_of (IsNoPartner t b h.sheet x p q c) d l none (lists.each d e)).beside e

pub same_need : (t : TaskShape) (b : Tables) (s : Sheet) (x p : ℕ) (c : Cand) (q : ℕ) → q ≡ p → IsMatched t b s x p c q
same_need t b s x p c q e = record { none = λ k. k.second.different e }

pub with_partner : (t : TaskShape) (b : Tables) (s : Sheet) (x p : ℕ) (c : Cand) (q : ℕ) (d : Cand) → HasPartner t b s x p q c d → IsMatched t b s x p c q
with_partner t b s x p c q d h = record { none = λ k. h.possible (each_listed (IsImpossibleBeside t b s p q c) d (cands s x q) k.none.none h.listed) }

pub matched_out : (t : TaskShape) (b : Tables) (s : Sheet) (x p : ℕ) (c : Cand) → has c (cands s x p) ≡ false → IsMatchedEach t b s x p c
matched_out t b s x p c e = record { each = λ q k. (let w = sym e ∙ k.listed.listed in cc) }

pub matched_each : (t : TaskShape) (b : Tables) (s : Sheet) (x p : ℕ) (c : Cand) (l : List ℕ) → Lists (IsNeed s x) l → All (IsMatched t b s x p c) l → IsMatchedEach t b s x p c
matched_each t b s x p c l lists all = record { each = λ q k. (each_of (IsMatched t b s x p c) q l all (lists.complete q k.second.need)).none k }

pub are_matched : (t : TaskShape) (b : Tables) (s : Sheet) (x p : ℕ) (l : List Cand) → Covers s x p l → All (IsMatchedEach t b s x p) l → AreMatched t b s x p
are_matched t b s x p l lists all = record { all = λ c q k. (each_of (IsMatchedEach t b s x p) c l all (lists.each c k.listed.listed)).each q k }

pub closed13 : (t : TaskShape) (b : Tables) (s : Sheet) (x : ℕ) (l : List ℕ) → Lists (IsNeed s x) l → All (AreMatched t b s x) l → IsClosedAt outside_rules t b s (Tok x)
closed13 t b s x l lists all (R13 z p c q) o legal lands =
    let m : IsLegal t b s (R13 x p c q) = subst (λ k. IsLegal t b s (R13 k p c q)) (tok_is z x lands) legal in
    (each_of (AreMatched t b s x) p l all (lists.complete p m.allowed.listed.need)).all c q m.allowed
closed13 t b s x l lists all (R10 a p v) o legal lands = cc
closed13 t b s x l lists all (R11After z p a v) o legal lands = cc
closed13 t b s x l lists all (R11Ahead z p a v) o legal lands = cc
closed13 t b s x l lists all (R12After z a v) o legal lands = cc
closed13 t b s x l lists all (R12Ahead z a v) o legal lands = cc
closed13 t b s x l lists all step o legal lands = cc

-- two that delete each other's atoms interfere, so who does not interfere with a candidate is possible beside it
pub delete_clash : (t : TaskShape) (j k : Kind) (p q : ℕ) → Deletes t j q → Deletes t k p → Adds t k q → Clash t j k
delete_clash t Start k p q d e m = absurd (omega (arith, d.1))
delete_clash t End k p q d e m = absurd (omega (arith, d.1))
delete_clash t (Act a) Start p q d e m = absurd (omega (arith, e.1))
delete_clash t (Act a) End p q d e m = absurd (omega (arith, e.1))
delete_clash t (Act a) (Act b) p q d e m = record {
  first = deletes_there t a q d;
  second = deletes_there t b p e;
  interfere = record { interfere = inl (inr (q, d, m)) };
}

adds_offer : (t : TaskShape) (s : Sheet) (q : ℕ) (d : Cand) → IsOffer t s q d → Adds t (kind_of s d) q
adds_offer t s q (Tok y) o = o.1
adds_offer t s q (Out a) o = o.1

pub no_clash : (t : TaskShape) (b : Tables) (h : StoreShape) (x p q : ℕ) (c d : Cand) → CanPropose t b h → has d (cands h.sheet x q) ≡ true → (Clash t (kind_of h.sheet c) (kind_of h.sheet d) → ⊥) → HasPartner t b h.sheet x p q c d
no_clash t b h x p q c d lent e n = record { listed = e; possible = λ k. elim k.exclude [ inl s ↦ n s.clash | inr m ↦ n (delete_clash t (kind_of h.sheet c) (kind_of h.sheet d) p q m.first m.second (adds_offer t h.sheet q d (offered t h.sheet x q d lent.lent.formed e))) ] }
