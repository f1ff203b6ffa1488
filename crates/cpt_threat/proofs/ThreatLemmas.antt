-- what rules 8 and 9 propose
use Rattle.std.proofs.Common.{◌≡◌, ◌≢◌, All, ℕ, List, true, false, refl, sym, subst}
use Rattle.cpt_task.specs.Shape.{TaskShape}
use Rattle.cpt_tables.specs.declared.tables.Tables.{Tables}
use Rattle.cpt_sheet.specs.declared.data.Cand.{Cand}
use Rattle.cpt_sheet.specs.declared.data.Cand.TheVariants.{Tok, Out}
use Rattle.cpt_sheet.specs.declared.data.Sheet.{Sheet}
use Rattle.cpt_sheet.specs.declared.data.Step.TheVariants.{R8, R9After, R9Ahead}
use Rattle.cpt_sheet.specs.View.{before, kind_of, cands, has, same}
use Rattle.cpt_sheet.specs.Gaps.{CanPrecede}
use Rattle.cpt_sheet.specs.Roles.{deletes_of}
use Rattle.cpt_calculus.specs.Rules.{IsLegal, IsStep8, IsToken}
use Rattle.cpt_proposal.specs.Gains.{HasStep9After, HasStep9Ahead}
use Rattle.cpt_steps.specs.Landing.{IsClosedAt}
use Rattle.cpt_proposal.proofs.ReaderLemmas.{tok_is}
use Rattle.cpt_store.specs.Stores.{StoreShape}
use Rattle.cpt_index.specs.Lists.{Covers, Lists, IsConsumer, IsDeleter, IsNeed}
use Rattle.cpt_proposal.specs.Lent.{CanPropose}
use Rattle.cpt_store.specs.Proposals.{IsProposed}
use Rattle.cpt_proposal.proofs.ReaderLemmas.{each_of, need_of, one_need, one_only, one_same}
use Rattle.cpt_index.proofs.NeedLemmas.{in_list, listed_in, listed_each}
use Rattle.cpt_threat.specs.NoStep.{threat_rules, SparesAll, IsUnharmedBy, IsUnharmed, IsNotAheadOf}

pub is_proposed8 : (t : TaskShape) (b : Tables) (h : StoreShape) (x p : ℕ) (c : Cand) (d : ℕ) → CanPropose t b h → IsDeleter t h.sheet p d → d ≢ x → (CanPrecede t b h.sheet (Tok x) (Tok d) → ⊥) →
    has c (cands h.sheet x p) ≡ true → same (Tok d) c ≡ false → (CanPrecede t b h.sheet (Tok d) c → ⊥) → IsProposed threat_rules t b h.sheet (Tok x) (R8 x p c d)
is_proposed8 t b h x p c d lent deletes other passed listed different late = record {
  rule = refl;
  legal = record {
    live = lent.live;
    allowed = record {
      listed = record { need = need_of h.sheet x p c listed; listed = listed };
      deletes = in_list p (deletes_of t (kind_of h.sheet (Tok d))) deletes;
      other = other;
      different = different;
      not_ahead = late;
      not_after = passed;
    };
    moves = listed;
  };
  lands = refl;
  tight = tt;
}

pub spares_past : (t : TaskShape) (b : Tables) (s : Sheet) (x p d : ℕ) → CanPrecede t b s (Tok x) (Tok d) → SparesAll t b s x p d
spares_past t b s x p d can = record { none = λ c k. k.not_after can }

pub spares_all : (t : TaskShape) (b : Tables) (s : Sheet) (x p d : ℕ) (l : List Cand) → Covers s x p l → All (λ c. IsStep8 t b s x p c d → ⊥) l → SparesAll t b s x p d
spares_all t b s x p d l lists none = record { none = λ c k. each_of (λ e. IsStep8 t b s x p e d → ⊥) c l none (lists.each c k.listed.listed) k }

pub is_proposed9 : (t : TaskShape) (b : Tables) (h : StoreShape) (x p d y : ℕ) → CanPropose t b h → IsDeleter t h.sheet p d → d ≢ x → IsToken (cands h.sheet x p) y → d ≢ y → before h.sheet x d ≡ false →
    (CanPrecede t b h.sheet (Tok d) (Tok y) → ⊥) → IsProposed threat_rules t b h.sheet (Tok x) (R9After x p d)
is_proposed9 t b h x p d y lent deletes other one different new late = record {
  rule = refl;
  legal = record {
    live = lent.live;
    allowed = (y, record { need = one_need h.sheet x p y one; one = one; deletes = in_list p (deletes_of t (kind_of h.sheet (Tok d))) deletes; other = other; different = different }, late);
    moves = new;
  };
  lands = refl;
  tight = tt;
}

pub none9 : (t : TaskShape) (b : Tables) (s : Sheet) (x p d y : ℕ) → IsToken (cands s x p) y → ((d ≢ y) → before s x d ≡ false → (CanPrecede t b s (Tok d) (Tok y) → ⊥) → ⊥) → HasStep9After t b s x p d → ⊥
none9 t b s x p d y one not' k =
    let e : k.condition.0 ≡ y = one_same s x p k.condition.0 y k.condition.1.one one in
    not' (subst (λ z. d ≢ z) e k.condition.1.different) k.new (subst (λ z. CanPrecede t b s (Tok d) (Tok z) → ⊥) e k.condition.2)

pub is_proposed9_ahead : (t : TaskShape) (b : Tables) (h : StoreShape) (x p d y : ℕ) → CanPropose t b h → IsDeleter t h.sheet p d → IsToken (cands h.sheet x p) y → d ≢ x → d ≢ y → before h.sheet d y ≡ false →
    (CanPrecede t b h.sheet (Tok x) (Tok d) → ⊥) → IsProposed threat_rules t b h.sheet (Tok d) (R9Ahead x p d)
is_proposed9_ahead t b h x p d y lent deletes one other different new late = record {
  rule = refl;
  legal = record {
    live = lent.live;
    allowed = (y, record { need = one_need h.sheet x p y one; one = one; deletes = in_list p (deletes_of t (kind_of h.sheet (Tok d))) deletes; other = other; different = different }, late);
    moves = subst (λ z. before h.sheet d z ≡ false) (sym (one_only h.sheet x p y one)) new;
  };
  lands = refl;
  tight = tt;
}

pub none9_ahead : (t : TaskShape) (b : Tables) (s : Sheet) (x p d y : ℕ) → IsToken (cands s x p) y → (d ≢ x → d ≢ y → before s d y ≡ false → (CanPrecede t b s (Tok x) (Tok d) → ⊥) → ⊥) → HasStep9Ahead t b s x p d → ⊥
none9_ahead t b s x p d y one not' k =
    let e : k.condition.0 ≡ y = one_same s x p k.condition.0 y k.condition.1.one one in
    not' k.condition.1.other (subst (λ z. d ≢ z) e k.condition.1.different) (subst (λ z. before s d z ≡ false) (one_only s x p y one) k.new) k.condition.2

pub unharmed : (t : TaskShape) (b : Tables) (h : StoreShape) (x p : ℕ) (l : List ℕ) → CanPropose t b h → Lists (IsDeleter h.task h.sheet p) l → All (IsUnharmedBy t b h.sheet x p) l → IsUnharmed t b h.sheet x p
unharmed t b h x p l lent lists all = record {
  from = λ d. record {
    kept = record { none = λ c k. ((here d (listed_in p (deletes_of t (kind_of h.sheet (Tok d))) k.deletes)).kept).none c k };
    after = λ k. (here d (listed_in p (deletes_of t (kind_of h.sheet (Tok d))) k.condition.1.deletes)).after k;
  };
}
  where
    here : (d : ℕ) → IsDeleter t h.sheet p d → IsUnharmedBy t b h.sheet x p d
    here d k = each_of (IsUnharmedBy t b h.sheet x p) d l all (lists.complete d (subst (λ z. IsDeleter z h.sheet p d) (sym lent.lent.task) k))

pub deleters_sound : (t : TaskShape) (b : Tables) (h : StoreShape) (p : ℕ) (l : List ℕ) → CanPropose t b h → Lists (IsDeleter h.task h.sheet p) l → All (IsDeleter t h.sheet p) l
deleters_sound t b h p l lent lists = subst (λ z. All (IsDeleter z h.sheet p) l) lent.lent.task lists.sound

pub not_ahead : (t : TaskShape) (b : Tables) (s : Sheet) (d p : ℕ) (l : List ℕ) → Lists (IsConsumer s p) l → All (λ x. HasStep9Ahead t b s x p d → ⊥) l → IsNotAheadOf t b s d p
not_ahead t b s d p l lists none = record { none = λ x k. each_of (λ x. HasStep9Ahead t b s x p d → ⊥) x l none (lists.complete x k.condition.1.need) k }

-- what one deletes it deletes
pub deletes_each : (t : TaskShape) (s : Sheet) (d : ℕ) (l : List ℕ) → l ≡ deletes_of t (kind_of s (Tok d)) → All (λ p. IsDeleter t s p d) l
deletes_each t s d l e = subst (λ z. All (λ p. IsDeleter t s p d) z) (sym e) (listed_each (deletes_of t (kind_of s (Tok d))))

pub is_closed : (t : TaskShape) (b : Tables) (h : StoreShape) (x : ℕ) (l : List ℕ) → CanPropose t b h → Lists (IsNeed h.sheet x) l → All (IsUnharmed t b h.sheet x) l →
    All (IsNotAheadOf t b h.sheet x) (deletes_of t (kind_of h.sheet (Tok x))) → IsClosedAt threat_rules t b h.sheet (Tok x)
is_closed t b h x l lent lists unharmed aheads (R8 z p c d) o legal lands =
    let m : IsLegal t b h.sheet (R8 x p c d) = subst (λ k. IsLegal t b h.sheet (R8 k p c d)) (tok_is z x lands) legal in
    (((each_of (IsUnharmed t b h.sheet x) p l unharmed (lists.complete p m.allowed.listed.need)).from d).kept).none c m.allowed
is_closed t b h x l lent lists unharmed aheads (R9After z p d) o legal lands =
    let m : IsLegal t b h.sheet (R9After x p d) = subst (λ k. IsLegal t b h.sheet (R9After k p d)) (tok_is z x lands) legal in
    ((each_of (IsUnharmed t b h.sheet x) p l unharmed (lists.complete p m.allowed.1.need)).from d).after (record { condition = m.allowed; new = m.moves })
is_closed t b h x l lent lists unharmed aheads (R9Ahead z p d) o legal lands =
    let m : IsLegal t b h.sheet (R9Ahead z p x) = subst (λ k. IsLegal t b h.sheet (R9Ahead z p k)) (tok_is d x lands) legal in
    (each_of (IsNotAheadOf t b h.sheet x) p (deletes_of t (kind_of h.sheet (Tok x))) aheads m.allowed.1.deletes).none z (record { condition = m.allowed; new = m.moves })
is_closed t b h x l lent lists unharmed aheads step o legal lands = cc

pub no_out : (t : TaskShape) (b : Tables) (s : Sheet) (a : ℕ) → IsClosedAt threat_rules t b s (Out a)
no_out t b s a (R8 x p c d) o legal lands = cc
no_out t b s a (R9After x p d) o legal lands = cc
no_out t b s a (R9Ahead x p d) o legal lands = cc
no_out t b s a step o legal lands = cc
