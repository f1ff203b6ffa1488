-- subjects that were asked
use Rattle.std.proofs.Common.{◌≡◌, ℕ, ◌+◌, ◌≤◌, ◌<◌, List, length, Option, Contains, slice_index_or, refl, sym, ◌∙◌, ap, subst, arith, inl, inr, ◌⊎◌}
use Rattle.std.proofs.lemmas.Bool.{cases_lt}
use Rattle.std.proofs.lemmas.List.{get_or_default}
use Rattle.cpt_task.specs.Shape.{TaskShape}
use Rattle.cpt_tables.specs.declared.tables.Tables.{Tables}
use Rattle.cpt_sheet.specs.declared.data.Cand.{Cand}
use Rattle.cpt_sheet.specs.declared.data.Cand.TheVariants.{Tok, Out}
use Rattle.cpt_sheet.specs.declared.data.Sheet.{Sheet}
use Rattle.cpt_sheet.specs.declared.data.Step.{Step}
use Rattle.cpt_steps.specs.Landing.{IsThere}
use Rattle.cpt_store.specs.Stores.{StoreShape}
use Rattle.cpt_agenda.specs.Agendas.{AgendaShape, HasMark, Keeps}
use Rattle.cpt_agenda.specs.Asked.{AreAsked, AreThere, CanAsk, ForFront, ForOne, IsActionBelow, IsAsked, IsAskedOne, IsFront, IsFrontToken, IsListed, IsTokenBelow}

pub keeps_refl : (a : AgendaShape) → Keeps a a
keeps_refl a = record { kept = λ d h. h; tokens = refl; acts = refl; room = refl }

pub keeps_trans : (a b c : AgendaShape) → Keeps a b → Keeps b c → Keeps a c
keeps_trans a b c h k = record { kept = λ d e. k.kept d (h.kept d e); tokens = k.tokens ∙ h.tokens; acts = k.acts ∙ h.acts; room = k.room ∙ h.room }

pub mark_there : (t : TaskShape) (b : Tables) (h : StoreShape) (a : AgendaShape) (c : Cand) → CanAsk t b h a → IsThere t h.sheet c → HasMark a c
mark_there t b h a (Tok x) k l = let n = k.tokens in omega arith
mark_there t b h a (Out x) k l = let n = k.acts in omega arith

pub can_after : (t : TaskShape) (b : Tables) (h : StoreShape) (old new : AgendaShape) → CanAsk t b h old → Keeps old new → CanAsk t b h new
can_after t b h old new c k = record {
  lent = c.lent;
  live = c.live;
  tokens = (let n = c.tokens in let e = k.tokens in omega arith);
  acts = (let n = c.acts in let e = k.acts in omega arith);
}

-- who stands before the next place
pub front_next : {A : Type 0} (xs : List A) (n : ℕ) (d x : A) → n < length xs → IsFront xs (n + 1) x → IsFront xs n x ⊎ (x ≡ slice_index_or xs n d)
front_next xs n d x lt h =
    elim (cases_lt h.place n) [
      | inl l ↦ inl (record { place = h.place; before = l; within = h.within; here = h.here })
      | inr g ↦ inr (
          let b = h.before in
          let e : h.place ≡ n = omega arith in
          sym h.here ∙ (ap (λ k. slice_index_or xs k x) e ∙ get_or_default xs n x d lt))
    ]

pub front_none : {A : Type 0} (xs : List A) (x : A) → IsFront xs 0 x → ⊥
front_none xs x h = let b = h.before in omega arith

pub front_all : {A : Type 0} (xs : List A) (n : ℕ) (x : A) → length xs ≤ n → Contains xs x → IsFront xs n x
front_all xs n x le (k, lt, e) = record { place = k; before = omega arith; within = lt; here = e }

pub token_next : (xs : List ℕ) (n d : ℕ) (c : Cand) → n < length xs → IsFrontToken xs (n + 1) c → IsFrontToken xs n c ⊎ (c ≡ Tok (slice_index_or xs n d))
token_next xs n d (Tok x) lt h = elim (front_next xs n d x lt h) [ inl e ↦ inl e | inr e ↦ inr (ap Tok e) ]
token_next xs n d (Out a) lt h = absurd h

pub token_none : (xs : List ℕ) (c : Cand) → IsFrontToken xs 0 c → ⊥
token_none xs (Tok x) h = front_none xs x h
token_none xs (Out a) h = h

pub token_all : (xs : List ℕ) (n : ℕ) (c : Cand) → length xs ≤ n → IsListed xs c → IsFrontToken xs n c
token_all xs n (Tok x) le h = front_all xs n x le h
token_all xs n (Out a) le h = absurd h

pub atom_next : (P : ℕ → Cand → Type 0) (ps : List ℕ) (n d : ℕ) (c : Cand) → n < length ps → ForFront P ps (n + 1) c → ForFront P ps n c ⊎ P (slice_index_or ps n d) c
atom_next P ps n d c lt h =
    elim (front_next ps n d h.atom lt h.listed) [
      | inl e ↦ inl (record { atom = h.atom; listed = e; holds = h.holds })
      | inr e ↦ inr (subst (λ p. P p c) e h.holds)
    ]

pub atom_none : (P : ℕ → Cand → Type 0) (ps : List ℕ) (c : Cand) → ForFront P ps 0 c → ⊥
atom_none P ps c h = front_none ps h.atom h.listed

pub atom_all : (P : ℕ → Cand → Type 0) (ps : List ℕ) (n : ℕ) (c : Cand) → length ps ≤ n → ForOne P ps c → ForFront P ps n c
atom_all P ps n c le h = record { atom = h.atom; listed = front_all ps n h.atom le h.listed; holds = h.holds }

pub below_next : (n : ℕ) (c : Cand) → IsTokenBelow (n + 1) c → IsTokenBelow n c ⊎ (c ≡ Tok n)
below_next n (Tok x) h = elim (cases_lt x n) [ inl l ↦ inl l | inr g ↦ inr (let e : x ≡ n = omega arith in ap Tok e) ]
below_next n (Out a) h = absurd h

pub below_none : (c : Cand) → IsTokenBelow 0 c → ⊥
below_none (Tok x) h = omega arith
below_none (Out a) h = h

pub action_next : (n : ℕ) (c : Cand) → IsActionBelow (n + 1) c → IsActionBelow n c ⊎ (c ≡ Out n)
action_next n (Tok x) h = absurd h
action_next n (Out a) h = elim (cases_lt a n) [ inl l ↦ inl l | inr g ↦ inr (let e : a ≡ n = omega arith in ap Out e) ]

pub action_none : (c : Cand) → IsActionBelow 0 c → ⊥
action_none (Tok x) h = h
action_none (Out a) h = omega arith

module _ (rules : List ℕ) (t : TaskShape) (b : Tables) (s : Sheet) (cause : Option Step) where
  asked_kept : (old new : AgendaShape) (d : Cand) → Keeps old new → IsAsked rules t b s cause old d → IsAsked rules t b s cause new d
  asked_kept old new d k h = elim h [ inl e ↦ inl (k.kept d e) | inr e ↦ inr e ]

  -- no one is asked
  pub asked_none : (P : Cand → Type 0) (a : AgendaShape) → ((d : Cand) → P d → ⊥) → AreAsked rules t b s cause P a a
  asked_none P a none = record { keeps = keeps_refl a; within = λ h. h; only = λ d h. inr h; asked = λ d p. absurd (none d p) }

  -- one is asked
  pub asked_one : (c : Cand) (old new : AgendaShape) → IsThere t s c → IsAskedOne rules t b s cause c old new → AreAsked rules t b s cause (λ d. d ≡ c) old new
  asked_one c old new there h = record {
    keeps = h.keeps;
    within = h.within;
    only = λ d w. elim (h.only d w) [ inl e ↦ inl (subst (λ z. IsThere t s z) (sym e) there) | inr e ↦ inr e ];
    asked = λ d e. subst (λ z. IsAsked rules t b s cause new z) (sym e) h.asked;
  }

  -- some are asked, and then others
  pub asked_then : (P Q R : Cand → Type 0) (old mid new : AgendaShape) → ((d : Cand) → R d → P d ⊎ Q d) → AreAsked rules t b s cause P old mid → AreAsked rules t b s cause Q mid new →
      AreAsked rules t b s cause R old new
  asked_then P Q R old mid new each h k = record {
    keeps = keeps_trans old mid new h.keeps k.keeps;
    within = λ l. k.within (h.within l);
    only = λ d w. elim (k.only d w) [ inl e ↦ inl e | inr e ↦ h.only d e ];
    asked = λ d r. elim (each d r) [ inl e ↦ asked_kept mid new d k.keeps (h.asked d e) | inr e ↦ k.asked d e ];
  }

  -- of some that are asked
  pub asked_of : (P Q : Cand → Type 0) (old new : AgendaShape) → ((d : Cand) → Q d → P d) → AreAsked rules t b s cause P old new → AreAsked rules t b s cause Q old new
  asked_of P Q old new each h = record { keeps = h.keeps; within = h.within; only = h.only; asked = λ d q. h.asked d (each d q) }

  -- only those that are there wait
  pub asked_there : (P : Cand → Type 0) (old new : AgendaShape) → AreAsked rules t b s cause P old new → AreThere t s old.waiting → AreThere t s new.waiting
  asked_there P old new h k = record { there = λ d w. elim (h.only d w) [ inl e ↦ e | inr e ↦ k.there d e ] }
