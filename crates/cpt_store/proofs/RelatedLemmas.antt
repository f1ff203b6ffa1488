-- what no test of a list finds is not there
use Rattle.std.proofs.Common.{◌≡◌, ◌≤◌, ℕ, List, All, true, length, sym, ◌∙◌, ap, subst, inl, inr, unwrap_or}
use Rattle.std.proofs.lemmas.List.Elements.{All-contains}
use Rattle.std.proofs.lemmas.Option.{slice_get_past}
use Rattle.cpt_task.specs.Shape.{TaskShape}
use Rattle.cpt_tables.specs.Admissible.{nth_action}
use Rattle.cpt_sheet.specs.declared.data.Cand.{Cand}
use Rattle.cpt_sheet.specs.declared.data.Cand.TheVariants.{Tok}
use Rattle.cpt_sheet.specs.declared.data.Kind.{Kind}
use Rattle.cpt_sheet.specs.declared.data.Kind.TheVariants.{Act}
use Rattle.cpt_sheet.specs.declared.data.Sheet.{Sheet}
use Rattle.cpt_sheet.specs.declared.data.Token.{Token}
use Rattle.cpt_sheet.specs.Roles.{adds_of, Deletes}
use Rattle.cpt_sheet.specs.View.{kind_of, cands, has_need, has_atom, no_token}
use Rattle.cpt_calculus.specs.Rules.{IsToken, only}
use Rattle.cpt_waking.specs.Waking.{Feeds, Harms, Helps, Loses, TakenWakes}
use Rattle.cpt_index.specs.Lists.{IsNeed, Lists}
use Rattle.cpt_store.specs.Related.{IsNotAdded, IsNotDeleted, IsNotHeld}

pub no_feeds : (s : Sheet) (c : Cand) (x : ℕ) (ps : List ℕ) → Lists (IsNeed s x) ps → All (IsNotHeld s c x) ps → Feeds s c x → ⊥
no_feeds s c x ps l h k = (All-contains (IsNotHeld s c x) ps k.0 h (l.complete k.0 k.1)).none k.2

pub no_harms : (t : TaskShape) (s : Sheet) (d : Cand) (x : ℕ) (k : Kind) (ps : List ℕ) → k ≡ kind_of s d → Lists (IsNeed s x) ps → All (IsNotDeleted t k) ps → Harms t s d x → ⊥
no_harms t s d x k ps e l h w = (All-contains (IsNotDeleted t k) ps w.0 h (l.complete w.0 w.1)).none (subst (λ z. Deletes t z w.0) (sym e) w.2)

-- a token that is not there needs nothing
need_past : (s : Sheet) (x p : ℕ) → length s.tokens ≤ x → has_need s x p ≡ true → ⊥
need_past s x p le h =
    let e : has_atom p no_token.lists ≡ true = subst (λ (z : Token). has_atom p z.lists ≡ true) (ap (λ o. unwrap_or o no_token) (slice_get_past s.tokens x le)) h in
    cc

pub harms_past : (t : TaskShape) (s : Sheet) (d : Cand) (x : ℕ) → length s.tokens ≤ x → Harms t s d x → ⊥
harms_past t s d x le w = need_past s x w.0 le w.1

pub no_helps : (t : TaskShape) (k : Kind) (a : ℕ) → All (IsNotAdded t k) (nth_action t a).pre → Helps t k a → ⊥
no_helps t k a h m = (All-contains (IsNotAdded t k) (nth_action t a).pre m.0 h m.1).none m.2

pub no_loses : (t : TaskShape) (k : Kind) (a : ℕ) → All (IsNotDeleted t (Act a)) (adds_of t k) → Loses t k a → ⊥
no_loses t k a h m = (All-contains (IsNotDeleted t (Act a)) (adds_of t k) m.0 h m.1).none m.2

pub no_taken : (t : TaskShape) (s : Sheet) (x p y : ℕ) (c : Cand) → IsToken (cands s x p) y → (Tok y ≡ c → ⊥) → (Deletes t (kind_of s c) p → ⊥) → TakenWakes t s x p c → ⊥
no_taken t s x p y c e h k w =
    elim w.whom [
      | inl m ↦ h (sym (ap (λ l. Tok (only l)) e) ∙ m)
      | inr m ↦ k m
    ]
