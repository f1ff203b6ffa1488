-- what rules 11 and 12 propose
use Rattle.std.proofs.Common.{◌≡◌, All, ℕ, ◌<◌, List, true, length, refl, sym, ◌∙◌, ap, subst}
use Rattle.cpt_task.specs.declared.span.Span.{Span}
use Rattle.cpt_task.specs.declared.span.Span.TheVariants.{At}
use Rattle.cpt_task.specs.Shape.{TaskShape}
use Rattle.cpt_tables.specs.declared.tables.Tables.{Tables}
use Rattle.cpt_tables.specs.Spans.{◌≤ˢ◌, ◌<ˢ◌, IsBelow}
use Rattle.cpt_tables.proofs.SpanLemmas.{le_refl}
use Rattle.cpt_sheet.specs.declared.data.Cand.TheVariants.{Tok, Out}
use Rattle.cpt_sheet.specs.declared.data.Kind.TheVariants.{Act}
use Rattle.cpt_sheet.specs.declared.data.Sheet.{Sheet}
use Rattle.cpt_sheet.specs.declared.data.Step.TheVariants.{R11After, R11Ahead, R12After, R12Ahead}
use Rattle.cpt_sheet.specs.Roles.{Clash, deletes_of}
use Rattle.cpt_sheet.specs.View.{lo, hi, cands, has_need}
use Rattle.cpt_sheet.specs.Gaps.{arrival, deadline, CanPrecede}
use Rattle.cpt_calculus.specs.Rules.{IsToken}
use Rattle.cpt_proposal.specs.Gains.{HasStep11After, HasStep11Ahead, IsApart}
use Rattle.cpt_steps.proofs.LandingLemmas.{need_there, token_there}
use Rattle.cpt_steps.specs.Tight.{ArrivalsFit}
use Rattle.cpt_store.specs.Stores.{StoreShape}
use Rattle.cpt_index.specs.Lists.{Lists, IsConsumer, IsRival}
use Rattle.cpt_proposal.specs.Lent.{CanPropose}
use Rattle.cpt_store.specs.Proposals.{IsProposed}
use Rattle.cpt_proposal.proofs.ReaderLemmas.{each_of, one_need, one_only, one_same}
use Rattle.cpt_index.proofs.NeedLemmas.{in_list}
use Rattle.cpt_outside.specs.NoStep.{outside_rules, IsPeaceful, IsPeacefulFor, IsErased}

rival_there : (t : TaskShape) (s : Sheet) (a x : ℕ) → IsRival t s a x → x < length s.tokens
rival_there t s a x h = token_there (λ z. Clash t z.kind (Act a)) s x (λ k. k) h

pub proposes_after12 : (t : TaskShape) (b : Tables) (h : StoreShape) (a x : ℕ) (v : Span) → CanPropose t b h → ArrivalsFit t b h.sheet → IsRival t h.sheet a x → (CanPrecede t b h.sheet (Out a) (Tok x) → ⊥) →
    v ≡ arrival t b h.sheet (Tok x) (Out a) → lo h.sheet (Out a) <ˢ v → IsProposed outside_rules t b h.sheet (Out a) (R12After x a v)
proposes_after12 t b h a x v lent fit rival late e later = record {
  rule = refl;
  legal = record {
    live = lent.live;
    allowed = record {
      clash = rival;
      late = late;
      after = record {
        limit = subst (λ w. v ≤ˢ w) e (le_refl v);
        moment = subst (λ w. IsBelow 2000000000000000 w) (sym e) (fit.tokens x (Out a) (rival_there t h.sheet a x rival));
      };
    };
    moves = later;
  };
  lands = refl;
  tight = e;
}

pub proposes_ahead12 : (t : TaskShape) (b : Tables) (h : StoreShape) (a x : ℕ) (v : Span) → CanPropose t b h → IsRival t h.sheet a x → (CanPrecede t b h.sheet (Tok x) (Out a) → ⊥) →
    v ≡ deadline t b h.sheet (Out a) (Tok x) → v <ˢ At (hi h.sheet (Out a)) → IsProposed outside_rules t b h.sheet (Out a) (R12Ahead x a v)
proposes_ahead12 t b h a x v lent rival late e sooner = record {
  rule = refl;
  legal = record { live = lent.live; allowed = record { clash = rival; late = late; ahead = subst (λ w. w ≤ˢ v) e (le_refl v) }; moves = sooner };
  lands = refl;
  tight = e;
}

pub apart_all : (t : TaskShape) (b : Tables) (h : StoreShape) (a : ℕ) (l : List ℕ) → CanPropose t b h → Lists (IsRival h.task h.sheet a) l → All (λ x. IsApart t b h.sheet x a) l → (x : ℕ) → IsApart t b h.sheet x a
apart_all t b h a l lent lists all x = record { after = λ k. (here k.clash).after k; ahead = λ k. (here k.clash).ahead k }
  where
    here : IsRival t h.sheet a x → IsApart t b h.sheet x a
    here r = each_of (λ x. IsApart t b h.sheet x a) x l all (lists.complete x (subst (λ z. IsRival z h.sheet a x) (sym lent.lent.task) r))

pub rivals_sound : (t : TaskShape) (b : Tables) (h : StoreShape) (a : ℕ) (l : List ℕ) → CanPropose t b h → Lists (IsRival h.task h.sheet a) l → All (IsRival t h.sheet a) l
rivals_sound t b h a l lent lists = subst (λ z. All (IsRival z h.sheet a) l) lent.lent.task lists.sound

pub proposes_after11 : (t : TaskShape) (b : Tables) (h : StoreShape) (a p x y : ℕ) (v : Span) → CanPropose t b h → ArrivalsFit t b h.sheet → IsErased t a p → IsToken (cands h.sheet x p) y →
    (CanPrecede t b h.sheet (Out a) (Tok y) → ⊥) → v ≡ arrival t b h.sheet (Tok x) (Out a) → lo h.sheet (Out a) <ˢ v → IsProposed outside_rules t b h.sheet (Out a) (R11After x p a v)
proposes_after11 t b h a p x y v lent fit deletes one late e later =
    let need : has_need h.sheet x p ≡ true = one_need h.sheet x p y one in
    record {
      rule = refl;
      legal = record {
        live = lent.live;
        allowed = (
          y,
          record { need = need; one = one; deletes = in_list p (deletes_of t (Act a)) deletes },
          late,
          record {
            limit = subst (λ w. v ≤ˢ w) e (le_refl v);
            moment = subst (λ w. IsBelow 2000000000000000 w) (sym e) (fit.tokens x (Out a) (need_there h.sheet x p need));
          },
        );
        moves = later;
      };
      lands = refl;
      tight = e;
    }

pub proposes_ahead11 : (t : TaskShape) (b : Tables) (h : StoreShape) (a p x y : ℕ) (v : Span) → CanPropose t b h → IsErased t a p → IsToken (cands h.sheet x p) y → (CanPrecede t b h.sheet (Tok x) (Out a) → ⊥) →
    v ≡ deadline t b h.sheet (Out a) (Tok y) → v <ˢ At (hi h.sheet (Out a)) → IsProposed outside_rules t b h.sheet (Out a) (R11Ahead x p a v)
proposes_ahead11 t b h a p x y v lent deletes one late e sooner = record {
  rule = refl;
  legal = record {
    live = lent.live;
    allowed = (
      y,
      record { need = one_need h.sheet x p y one; one = one; deletes = in_list p (deletes_of t (Act a)) deletes },
      late,
      subst (λ w. w ≤ˢ v) e (le_refl v),
    );
    moves = sooner;
  };
  lands = refl;
  tight = subst (λ z. v ≡ deadline t b h.sheet (Out a) (Tok z)) (sym (one_only h.sheet x p y one)) e;
}

pub can_after11 : (t : TaskShape) (b : Tables) (s : Sheet) (a p x y : ℕ) → IsToken (cands s x p) y → CanPrecede t b s (Out a) (Tok y) → (z : ℕ) → HasStep11After t b s x p a z → ⊥
can_after11 t b s a p x y one can z k = k.late (subst (λ w. CanPrecede t b s (Out a) (Tok w)) (one_same s x p y z one k.threat.one) can)

pub not_later11 : (t : TaskShape) (b : Tables) (s : Sheet) (a p x : ℕ) (v : Span) → v ≡ arrival t b s (Tok x) (Out a) → (lo s (Out a) <ˢ v → ⊥) → (z : ℕ) → HasStep11After t b s x p a z → ⊥
not_later11 t b s a p x v e n z k = n (subst (λ w. lo s (Out a) <ˢ w) (sym e) k.later)

pub not_sooner11 : (t : TaskShape) (b : Tables) (s : Sheet) (a p x y : ℕ) (v : Span) → IsToken (cands s x p) y → v ≡ deadline t b s (Out a) (Tok y) → (v <ˢ At (hi s (Out a)) → ⊥) →
    (z : ℕ) → HasStep11Ahead t b s x p a z → ⊥
not_sooner11 t b s a p x y v one e n z k =
    n (subst (λ w. w <ˢ At (hi s (Out a))) (ap (λ w. deadline t b s (Out a) (Tok w)) (one_same s x p z y k.threat.one one) ∙ sym e) k.sooner)

pub peaceful_open : (t : TaskShape) (b : Tables) (s : Sheet) (a p x : ℕ) → ((y : ℕ) → IsToken (cands s x p) y → ⊥) → IsPeaceful t b s a p x
peaceful_open t b s a p x none = record { after = λ y k. none y k.threat.one; ahead = λ y k. none y k.threat.one }

pub peaceful_for : (t : TaskShape) (b : Tables) (s : Sheet) (a p : ℕ) (l : List ℕ) → Lists (IsConsumer s p) l → All (IsPeaceful t b s a p) l → IsPeacefulFor t b s a p
peaceful_for t b s a p l lists all = record {
  each = λ x. record { after = λ y k. (here x k.threat.need).after y k; ahead = λ y k. (here x k.threat.need).ahead y k };
}
  where
    here : (x : ℕ) → has_need s x p ≡ true → IsPeaceful t b s a p x
    here x e = each_of (IsPeaceful t b s a p) x l all (lists.complete x e)
