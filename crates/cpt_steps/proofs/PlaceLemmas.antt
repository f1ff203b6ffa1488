-- the place of a precondition
use Rattle.std.proofs.Common.{◌≡◌, ℕ, zero, suc, ◌<◌, ◌==◌, ◌||◌, List, [], ◌∷◌, Bool, true, false, if◌then◌else◌, slice_get, unwrap_or, refl, sym, ◌∙◌, ap, arith}
use Rattle.cpt_sheet.specs.declared.data.Need.{Need}
use Rattle.cpt_sheet.specs.View.{has_atom, list_for, no_need, token_at}
use Rattle.cpt_calculus.specs.Places.{IsPlaceFor}
use Rattle.cpt_calculus.proofs.Below.{list_cons}
use Rattle.cpt_calculus.proofs.Reading.{need_of}
use Rattle.cpt_steps.specs.Landing.{IsNeedAt, NeedsHavePlaces, ListedHavePlaces}

place_of : (p : ℕ) (ns : List Need) → has_atom p ns ≡ true → (j : ℕ) × IsNeedAt ns p j
place_of p [] h = absurd (cc)
place_of p (n ∷ ns) h = go (n.atom == p) refl h (λ k. place_of p ns k)
  where
    list_is : (b : Bool) → (n.atom == p) ≡ b → list_for p (n ∷ ns) ≡ (if b then n.cands else list_for p ns)
    list_is b e = list_cons p n ns ∙ ap (λ c. if c then n.cands else list_for p ns) e

    before_next : (j : ℕ) → (n.atom == p) ≡ false → IsPlaceFor ns p j → (k : ℕ) → k < suc j → ((unwrap_or (slice_get (n ∷ ns) k) no_need).atom == p) ≡ false
    before_next j e place zero l = e
    before_next j e place (suc k) l = place.none_before k (omega arith)

    next : (j : ℕ) → (n.atom == p) ≡ false → IsNeedAt ns p j → IsNeedAt (n ∷ ns) p (suc j)
    next j e at = record {
      there = (let l = at.there in omega arith);
      place = record { within = (let l = at.place.within in omega arith); none_before = before_next j e at.place; here = λ l. at.place.here at.there };
      list = at.list ∙ sym (list_is false e);
    }

    go : (b : Bool) → (n.atom == p) ≡ b → (b || has_atom p ns) ≡ true → (has_atom p ns ≡ true → (j : ℕ) × IsNeedAt ns p j) → (j : ℕ) × IsNeedAt (n ∷ ns) p j
    go true e k ih = (
      0,
      record {
        there = omega arith;
        place = record { within = omega arith; none_before = λ i l. absurd (omega arith); here = λ l. e };
        list = sym (list_is true e);
      },
    )
    go false e k ih = let r = ih k in (suc r.0, next r.0 e r.1)

pub needs_have_places : NeedsHavePlaces
needs_have_places s x p h = place_of p (token_at s x).lists h

pub listed_have_places : ListedHavePlaces
listed_have_places s x p c h = needs_have_places s x p (need_of s x p c h)
