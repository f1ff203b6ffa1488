-- what stands in a sheet stands in those that extend it
use Rattle.std.proofs.Common.{◌≡◌, ℕ, ◌<◌, ◌==◌, ◌||◌, inl, inr, Bool, true, false, List, [], ◌∷◌, length, map, refl, sym, ap, ◌∙◌, subst, arith, if◌then◌else◌, get_or-set_same}
use Rattle.std.proofs.lemmas.Option.{unwrap_or-slice_get}
use Rattle.std.proofs.lemmas.List.Elements.{length_all_zip}
use Rattle.cpt_task.specs.Shape.{TaskShape}
use Rattle.cpt_sheet.specs.declared.data.Cand.{Cand}
use Rattle.cpt_sheet.specs.declared.data.Cand.TheVariants.{Tok, Out}
use Rattle.cpt_sheet.specs.declared.data.Decision.TheVariants.{Join, Bring, Before}
use Rattle.cpt_sheet.specs.declared.data.Need.{Need}
use Rattle.cpt_sheet.specs.declared.data.Token.{Token}
use Rattle.cpt_sheet.specs.declared.data.Sheet.{Sheet}
use Rattle.cpt_sheet.specs.Below.{Part, TokenBelow}
use Rattle.cpt_sheet.specs.Edits.{posted, revised, with_token, with_list}
use Rattle.cpt_sheet.specs.View.{has, has_order, has_need, has_atom, list_for, token_at, no_token, cands}
use Rattle.cpt_calculus.specs.Decisions.{applied, beside, joined, with_offers}
use Rattle.cpt_calculus.specs.Rules.{IsToken}
use Rattle.cpt_calculus.proofs.Adders.{has_one}
use Rattle.cpt_calculus.proofs.Below.{kinds, parts, same_need, live_lists, list_cons, posted_here, posted_more}
use Rattle.cpt_calculus.proofs.Parts.{Part-one}
use Rattle.cpt_calculus.proofs.Views.{need_from_atoms, count_with_list, need_with_list, kind_with_list, cands_with_list}
use Rattle.cpt_calculus.proofs.Brings.{map_at, offered_atoms, bring_count, bring_token, bring_kind, bring_need, bring_cands, bring_posted, bring_old}
use Rattle.cpt_calculus.proofs.Reading.{need_of, need_there}
pub use Rattle.cpt_calculus.proofs.Reading.{listed_need}
use Rattle.cpt_fresh.specs.Extending.{Extends, ExtendsItself, ExtendsOn, LiveExtends, DecisionsExtend, DecisionsAreCarried, BroughtIsNew, CarriedOn, DecisionsBringOne}

pub extends_itself : ExtendsItself
extends_itself s = record { count = omega arith; kinds = λ x l. refl; needs = λ x p l. refl; suppliers = λ x p y n e. e; orders = λ x y o. o }

pub extends_on : ExtendsOn
extends_on s u v f g = record {
  count = (let a = f.count in let b = g.count in omega arith);
  kinds = λ x l. g.kinds x (let a = f.count in omega arith) ∙ f.kinds x l;
  needs = λ x p l. g.needs x p (let a = f.count in omega arith) ∙ f.needs x p l;
  suppliers = λ x p y n e. g.suppliers x p y (f.needs x p (need_there s x p n) ∙ n) (f.suppliers x p y n e);
  orders = λ x y o. g.orders x y (f.orders x y o);
}

pub live_extends : LiveExtends
live_extends s u below live = record {
  count = (let e = length_all_zip TokenBelow s.tokens u.tokens below.tokens in omega arith);
  kinds = λ x l. kinds s u below (Tok x);
  needs = λ x p l. same_need s u below x p;
  suppliers = λ x p y n e. Part-one (cands u x p) (Tok y) (subst (λ c. Part (cands u x p) c) e (parts s u below x p)) (live_lists u live x p (same_need s u below x p ∙ n));
  orders = below.orders;
}

-- where the list that a decision fixes was one token, it was this one
only_joined : (s : Sheet) (x p y v q z : ℕ) → has (Tok y) (cands s x p) ≡ true → v ≡ x → q ≡ p → IsToken (cands s v q) z → Tok y ∷ [] ≡ Tok z ∷ []
only_joined s x p y v q z fits ev eq e =
    let here : cands s x p ≡ Tok z ∷ [] = subst (λ w. cands s w p ≡ Tok z ∷ []) ev (subst (λ w. cands s v w ≡ Tok z ∷ []) eq e) in
    ap (λ w. w ∷ []) (sym (has_one (Tok y) (Tok z) (subst (λ w. has (Tok y) w ≡ true) here fits)))

join_extends : (s : Sheet) (x p y : ℕ) → has (Tok y) (cands s x p) ≡ true → Extends s (joined s x p y)
join_extends s x p y fits = record {
  count = (let e = count_with_list s x p (λ cs. Tok y ∷ []) in omega arith);
  kinds = λ v l. kind_with_list s x p (λ cs. Tok y ∷ []) v;
  needs = λ v q l. need_with_list s x p (λ cs. Tok y ∷ []) v q;
  suppliers = λ v q z n e. elim (cands_with_list s x p (λ cs. Tok y ∷ []) v q) [ inl k ↦ k ∙ e | inr k ↦ k.2 ∙ only_joined s x p y v q z fits k.0 k.1 e ];
  orders = λ v z o. o;
}

before_extends : (t : TaskShape) (s : Sheet) (x y : ℕ) → Extends s (applied t s (Before x y))
before_extends t s x y = record {
  count = omega arith;
  kinds = λ v l. refl;
  needs = λ v q l. refl;
  suppliers = λ v q z n e. e;
  orders = λ v z o. posted_more x y v z s.orders o;
}

not_brought : (s : Sheet) (x p a v q z : ℕ) → has (Out a) (cands s x p) ≡ true → v ≡ x → q ≡ p → IsToken (cands s v q) z → ⊥
not_brought s x p a v q z fits ev eq e =
    let here : cands s x p ≡ Tok z ∷ [] = subst (λ w. cands s w p ≡ Tok z ∷ []) ev (subst (λ w. cands s v w ≡ Tok z ∷ []) eq e) in
    let one : Tok z ≡ Out a = has_one (Out a) (Tok z) (subst (λ w. has (Out a) w ≡ true) here fits) in cc

bring_extends : (t : TaskShape) (s : Sheet) (x p a : ℕ) → has (Out a) (cands s x p) ≡ true → Extends s (applied t s (Bring x p a))
bring_extends t s x p a fits = record {
  count = (let e = bring_count t s x p a in omega arith);
  kinds = λ v l. bring_kind t s x p a v l;
  needs = λ v q l. bring_need t s x p a v q l;
  suppliers = λ v q z n e. elim (bring_cands t s x p a v q (need_there s v q n)) [
    | inl k ↦ k ∙ ap (beside a (length s.tokens)) e
    | inr k ↦ absurd (not_brought s x p a v q z fits k.0 k.1 e)
  ];
  orders = λ v z o. subst (λ w. has_order v z w ≡ true) (sym (bring_posted t s x p a))
      (posted_more (length s.tokens) x v z (posted (length s.tokens) 1 (posted 0 (length s.tokens) s.orders))
      (posted_more (length s.tokens) 1 v z (posted 0 (length s.tokens) s.orders) (posted_more 0 (length s.tokens) v z s.orders o)));
}

pub decisions_extend : DecisionsExtend
decisions_extend t s (Join x p y) fits = join_extends s x p y fits
decisions_extend t s (Bring x p a) fits = bring_extends t s x p a fits
decisions_extend t s (Before x y) fits = before_extends t s x y

-- the list that is changed
revised_here : (p : ℕ) (g : List Cand → List Cand) (ns : List Need) → has_atom p ns ≡ true → list_for p (revised p g ns) ≡ g (list_for p ns)
revised_here p g [] h = absurd (cc)
revised_here p g (n ∷ ns) h = go (n.atom == p) refl h (λ k. revised_here p g ns k)
  where
    pick : (b c : Bool) → b ≡ c → (l m : List Cand) → (if b then l else m) ≡ (if c then l else m)
    pick b c e l m = ap (λ d. if d then l else m) e

    go : (b : Bool) → (n.atom == p) ≡ b → (b || has_atom p ns) ≡ true → (has_atom p ns ≡ true → list_for p (revised p g ns) ≡ g (list_for p ns)) → list_for p (revised p g (n ∷ ns)) ≡ g (list_for p (n ∷ ns))
    go true e k ih =
        subst (λ c. list_for p (if c then (record n { cands = g n.cands } ∷ ns) else (n ∷ revised p g ns)) ≡ g (list_for p (n ∷ ns))) (sym e)
        (list_cons p (record n { cands = g n.cands }) ns ∙ (pick (n.atom == p) true e (g n.cands) (list_for p ns) ∙ ap g (sym (list_cons p n ns ∙ pick (n.atom == p) true e n.cands (list_for p ns)))))
    go false e k ih =
        subst (λ c. list_for p (if c then (record n { cands = g n.cands } ∷ ns) else (n ∷ revised p g ns)) ≡ g (list_for p (n ∷ ns))) (sym e)
        (list_cons p n (revised p g ns) ∙ (pick (n.atom == p) false e n.cands (list_for p (revised p g ns)) ∙ (ih k ∙ ap g (sym (list_cons p n ns ∙ pick (n.atom == p) false e n.cands (list_for p ns))))))

token_here : (s : Sheet) (x : ℕ) (z : Token) → x < length s.tokens → token_at (with_token s x z) x ≡ z
token_here s x z l = unwrap_or-slice_get (with_token s x z).tokens x no_token ∙ get_or-set_same s.tokens x z no_token l

cands_here : (s : Sheet) (x p : ℕ) (g : List Cand → List Cand) → has_need s x p ≡ true → cands (with_list s x p g) x p ≡ g (cands s x p)
cands_here s x p g n =
    ap (λ (z : Token). list_for p z.lists) (token_here s x (record (token_at s x) { lists = revised p g (token_at s x).lists }) (need_there s x p n)) ∙ revised_here p g (token_at s x).lists n

offers_need : (s : Sheet) (a n x p : ℕ) → has_need (with_offers s a n) x p ≡ has_need s x p
offers_need s a n x p =
    need_from_atoms p (token_at (with_offers s a n) x).lists (token_at s x).lists
    (ap (λ (z : Token). map (λ (m : Need). m.atom) z.lists) (map_at a n s.tokens x) ∙ offered_atoms a n (token_at s x).lists)

pub brought_is_new : BroughtIsNew
brought_is_new t s x p a fits =
    let n = need_of s x p (Out a) fits in
    ap (λ (z : Token). list_for p z.lists) (bring_old t s x p a x (need_there s x p n))
    ∙ cands_here (with_offers s a (length s.tokens)) x p (λ cs. Tok (length s.tokens) ∷ []) (offers_need s a (length s.tokens) x p ∙ n)

pub decisions_are_carried : DecisionsAreCarried
decisions_are_carried t s (Join x p y) fits =
    let n = need_of s x p (Tok y) fits in (need_with_list s x p (λ cs. Tok y ∷ []) x p ∙ n, cands_here s x p (λ cs. Tok y ∷ []) n)
decisions_are_carried t s (Bring x p a) fits =
    let n = need_of s x p (Out a) fits in (
      bring_need t s x p a x p (need_there s x p n) ∙ n,
      (length s.tokens, (let c = bring_count t s x p a in omega arith), ap (λ (z : Token). z.kind) (bring_token t s x p a), brought_is_new t s x p a fits),
    )
decisions_are_carried t s (Before x y) fits = posted_here x y s.orders

pub carried_on : CarriedOn
carried_on s u (Join x p y) e h = (e.needs x p (need_there s x p h.0) ∙ h.0, e.suppliers x p y h.0 h.1)
carried_on s u (Bring x p a) e h = (
  e.needs x p (need_there s x p h.0) ∙ h.0,
  (h.1.0, (let c = e.count in let l = h.1.1 in omega arith), e.kinds h.1.0 h.1.1 ∙ h.1.2, e.suppliers x p h.1.0 h.0 h.1.3),
)
carried_on s u (Before x y) e h = e.orders x y h

pub decisions_bring_one : DecisionsBringOne
decisions_bring_one t s (Join x p y) = let e = count_with_list s x p (λ cs. Tok y ∷ []) in omega arith
decisions_bring_one t s (Bring x p a) = let e = bring_count t s x p a in omega arith
decisions_bring_one t s (Before x y) = omega arith
