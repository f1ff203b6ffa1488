-- facts on a sheet are decidable
use Rattle.std.proofs.Common.{◌≡◌, ◌≢◌, ℕ, ◌⊎◌, inl, inr, true, false, List, [], ◌∷◌, length, get_or, Contains, refl, sym, subst}
use Rattle.std.proofs.lemmas.List.Elements.{Contains-get_or}
use Rattle.cpt_task.specs.Shape.{TaskShape}
use Rattle.cpt_task.specs.declared.span.Span.TheVariants.{At}
use Rattle.cpt_tables.specs.declared.tables.Tables.{Tables}
use Rattle.cpt_tables.specs.Admissible.{nth_action}
use Rattle.cpt_tables.proofs.SpanLemmas.{le_cases}
use Rattle.cpt_sheet.specs.declared.data.Cand.{Cand}
use Rattle.cpt_sheet.specs.declared.data.Cand.TheVariants.{Tok, Out}
use Rattle.cpt_sheet.specs.declared.data.Kind.{Kind}
use Rattle.cpt_sheet.specs.declared.data.Kind.TheVariants.{Start, End, Act}
use Rattle.cpt_sheet.specs.declared.data.Interval.{Interval}
use Rattle.cpt_sheet.specs.declared.data.Need.{Need}
use Rattle.cpt_sheet.specs.declared.data.Token.{Token}
use Rattle.cpt_sheet.specs.declared.data.Sheet.{Sheet}
use Rattle.cpt_sheet.specs.declared.data.Decision.{Decision}
use Rattle.cpt_sheet.specs.declared.data.Decision.TheVariants.{Join, Bring, Before}
use Rattle.cpt_sheet.specs.declared.data.Flaw.{Flaw}
use Rattle.cpt_sheet.specs.declared.data.Flaw.TheVariants as flaws
use Rattle.cpt_sheet.specs.Roles.{adds_of, deletes_of, Adds, Deletes, Clash}
use Rattle.cpt_sheet.specs.View.{hi, kind_of, cands, before, same, has_need}
use Rattle.cpt_sheet.specs.Live.{IsOpen, IsShut, IsDeadToken, IsLiveToken, IsDead, IsLive}
use Rattle.cpt_sheet.specs.Gaps.{arrival, ordered, CanPrecede, IsStuck, Exclude, IsImpossibleBeside}
use Rattle.cpt_calculus.specs.Rules.{IsToken, IsThreatOf}
use Rattle.cpt_calculus.specs.Flaws.{IsFlaw}
use Rattle.cpt_decidable.specs.Decidable.{IsDecidable}
use Rattle.cpt_decidable.proofs.Deciding.{like, both, either, denied, is_less, is_equal, is_test, are_all, is_some_in, is_in_list}
use Rattle.cpt_decidable.proofs.Faults.{is_earlier, is_no_later}
use Rattle.cpt_decidable.proofs.Plans.{is_interfering}

-- lists of candidates
pub is_empty : (cs : List Cand) → IsDecidable (cs ≡ [])
is_empty [] = inl refl
is_empty (c ∷ cs) = inr (λ e. absurd (cc))

-- the list is one token of which Q holds
pub is_one_token : (Q : ℕ → Type 0) → ((y : ℕ) → IsDecidable (Q y)) → (cs : List Cand) → IsDecidable ((y : ℕ) × IsToken cs y × Q y)
is_one_token Q known [] = inr (λ h. let e : [] ≡ Tok h.0 ∷ [] = h.1 in absurd (cc))
is_one_token Q known (Out a ∷ cs) = inr (λ h. let e : Out a ∷ cs ≡ Tok h.0 ∷ [] = h.1 in let f : Out a ≡ Tok h.0 = cc in absurd (cc))
is_one_token Q known (Tok y ∷ c ∷ cs) = inr (λ h. let e : Tok y ∷ c ∷ cs ≡ Tok h.0 ∷ [] = h.1 in let f : c ∷ cs ≡ [] = cc in absurd (cc))
is_one_token Q known (Tok y ∷ []) = like (λ q. (y, refl, q)) (λ h. subst Q (number h.0 h.1) h.2) (known y)
  where
    number : (z : ℕ) → Tok y ∷ [] ≡ Tok z ∷ [] → z ≡ y
    number z e = let f : Tok y ≡ Tok z = cc in let g : y ≡ z = cc in sym g

-- intervals, tokens and sheets
pub is_open : (i : Interval) → IsDecidable (IsOpen i)
is_open i = is_no_later i.lo (At i.hi)

pub is_shut : (i : Interval) → IsDecidable (IsShut i)
is_shut i = is_earlier (At i.hi) i.lo

pub is_dead : (s : Sheet) → IsDecidable (IsDead s)
is_dead s = is_some_in IsDeadToken (λ t. either (is_shut t.span) (is_some_in (λ (n : Need). n.cands ≡ []) (λ n. is_empty n.cands) t.lists)) s.tokens

pub is_live : (s : Sheet) → IsDecidable (IsLive s)
is_live s = are_all IsLiveToken (λ t. both (is_open t.span) (are_all (λ (n : Need). n.cands ≢ []) (λ n. denied (is_empty n.cands)) t.lists)) s.tokens

-- a token is dead or live
token_dead_or_live : (z : Token) → IsDeadToken z ⊎ IsLiveToken z
token_dead_or_live z = go (le_cases z.span.lo (At z.span.hi)) (is_some_in (λ (n : Need). n.cands ≡ []) (λ n. is_empty n.cands) z.lists)
  where
    go : (IsOpen z.span ⊎ IsShut z.span) → IsDecidable ((n : Need) × Contains z.lists n × (n.cands ≡ [])) → IsDeadToken z ⊎ IsLiveToken z
    go (inr shut) d = inl (inl shut)
    go (inl opens) (inl empty) = inl (inr empty)
    go (inl opens) (inr none) = inr (opens, λ k d lt e. none (get_or z.lists k d, Contains-get_or z.lists k d lt, e))

pub dead_or_live : (s : Sheet) → IsDead s ⊎ IsLive s
dead_or_live s = go (is_dead s)
  where
    live : ((z : Token) × Contains s.tokens z × IsDeadToken z → ⊥) → (z : Token) → Contains s.tokens z → IsDeadToken z ⊎ IsLiveToken z → IsLiveToken z
    live none z has (inl dead) = absurd (none (z, has, dead))
    live none z has (inr alive) = alive

    go : IsDecidable (IsDead s) → IsDead s ⊎ IsLive s
    go (inl dead) = inl dead
    go (inr none) = inr (λ k d lt. live none (get_or s.tokens k d) (Contains-get_or s.tokens k d lt) (token_dead_or_live (get_or s.tokens k d)))

-- kinds
pub does_add : (t : TaskShape) (k : Kind) (p : ℕ) → IsDecidable (Adds t k p)
does_add t k p = is_in_list (adds_of t k) p

pub does_delete : (t : TaskShape) (k : Kind) (p : ℕ) → IsDecidable (Deletes t k p)
does_delete t k p = is_in_list (deletes_of t k) p

pub do_clash : (t : TaskShape) (j k : Kind) → IsDecidable (Clash t j k)
do_clash t (Act a) (Act b) =
    like (λ h. record { first = h.0; second = h.1.0; interfere = record { interfere = h.1.1 } }) (λ h. (h.first, (h.second, h.interfere.interfere)))
    (both (is_less a (length t.actions)) (both (is_less b (length t.actions)) (is_interfering (nth_action t a) (nth_action t b))))
do_clash t (Act a) Start = inr (λ h. h)
do_clash t (Act a) End = inr (λ h. h)
do_clash t Start k = inr (λ h. h)
do_clash t End k = inr (λ h. h)

pub can_precede : (t : TaskShape) (b : Tables) (s : Sheet) (c d : Cand) → IsDecidable (CanPrecede t b s c d)
can_precede t b s c d = like (λ h. record { in_time = h.0; free = h.1 }) (λ h. (h.in_time, h.free)) (both (is_no_later (arrival t b s c d) (At (hi s d))) (is_test (ordered s d c) false))

pub is_stuck : (t : TaskShape) (b : Tables) (s : Sheet) (c d : Cand) → IsDecidable (IsStuck t b s c d)
is_stuck t b s c d =
    like (λ h. record { clash = h.0; not_first = h.1.0; not_last = h.1.1 }) (λ h. (h.clash, (h.not_first, h.not_last)))
    (both (do_clash t (kind_of s c) (kind_of s d)) (both (denied (can_precede t b s c d)) (denied (can_precede t b s d c))))

pub do_exclude : (t : TaskShape) (b : Tables) (s : Sheet) (p q : ℕ) (c d : Cand) → IsDecidable (Exclude t b s p q c d)
do_exclude t b s p q c d =
    either (is_stuck t b s c d) (like (λ h. record { first = h.0; second = h.1 }) (λ h. (h.first, h.second)) (both (does_delete t (kind_of s c) q) (does_delete t (kind_of s d) p)))

pub is_impossible : (t : TaskShape) (b : Tables) (s : Sheet) (p q : ℕ) (c d : Cand) → IsDecidable (IsImpossibleBeside t b s p q c d)
is_impossible t b s p q c d = like (λ h. record { other = h.0; exclude = h.1 }) (λ h. (h.other, h.exclude)) (both (is_test (same d c) false) (do_exclude t b s p q c d))

-- flaws
pub is_threat_of : (t : TaskShape) (s : Sheet) (x p d : ℕ) (Q : ℕ → Type 0) → ((y : ℕ) → IsDecidable (Q y)) → IsDecidable ((y : ℕ) × IsThreatOf t s x p d y × Q y)
is_threat_of t s x p d Q known =
    like (λ h. (h.1.0, record { need = h.0.0; one = h.1.1; deletes = h.0.1.0; other = h.0.1.1; different = h.1.2.0 }, h.1.2.1))
    (λ h. ((h.1.need, (h.1.deletes, h.1.other)), (h.0, h.1.one, (h.1.different, h.2))))
    (both (both (is_test (has_need s x p) true) (both (does_delete t (kind_of s (Tok d)) p) (denied (is_equal d x))))
    (is_one_token (λ y. (d ≢ y) × Q y) (λ y. both (denied (is_equal d y)) (known y)) (cands s x p)))

pub is_flaw : (t : TaskShape) (s : Sheet) (f : Flaw) → IsDecidable (IsFlaw t s f)
is_flaw t s (flaws.Threat x p d) =
    like (λ h. (h.0, h.1, h.2.0, h.2.1)) (λ h. (h.0, h.1, (h.2, h.3)))
    (is_threat_of t s x p d (λ y. (before s d y ≡ false) × (before s x d ≡ false)) (λ y. both (is_test (before s d y) false) (is_test (before s x d) false)))
is_flaw t s (flaws.OpenNeed x p) =
    both (denied (is_empty (cands s x p))) (like (λ n y e. n (y, e, tt)) (λ f h. f h.0 h.1) (denied (is_one_token (λ y. Unit {0}) (λ y. inl tt) (cands s x p))))
is_flaw t s (flaws.Clash x y) =
    like (λ h. record { ordered = h.0; interfere = h.1.0; not_first = h.1.1.0; not_last = h.1.1.1 }) (λ h. (h.ordered, (h.interfere, (h.not_first, h.not_last))))
    (both (is_less x y) (both (do_clash t (kind_of s (Tok x)) (kind_of s (Tok y))) (both (is_test (before s x y) false) (is_test (before s y x) false))))

-- decisions
join_parts : (x p y u q z : ℕ) → Join x p y ≡ Join u q z → (x ≡ u) × ((p ≡ q) × (y ≡ z))
join_parts x p y u q z e = (cc, (cc, cc))

bring_parts : (x p a u q c : ℕ) → Bring x p a ≡ Bring u q c → (x ≡ u) × ((p ≡ q) × (a ≡ c))
bring_parts x p a u q c e = (cc, (cc, cc))

before_parts : (x y u z : ℕ) → Before x y ≡ Before u z → (x ≡ u) × (y ≡ z)
before_parts x y u z e = (cc, cc)

pub is_decision : (d e : Decision) → IsDecidable (d ≡ e)
is_decision (Join x p y) (Join u q z) =
    like (λ h. let a = h.0 in let b = h.1.0 in let c = h.1.1 in cc) (join_parts x p y u q z) (both (is_equal x u) (both (is_equal p q) (is_equal y z)))
is_decision (Bring x p a) (Bring u q c) =
    like (λ h. let i = h.0 in let j = h.1.0 in let k = h.1.1 in cc) (bring_parts x p a u q c) (both (is_equal x u) (both (is_equal p q) (is_equal a c)))
is_decision (Before x y) (Before u z) = like (λ h. let i = h.0 in let j = h.1 in cc) (before_parts x y u z) (both (is_equal x u) (is_equal y z))
is_decision (Join x p y) (Bring u q c) = inr (λ e. absurd (cc))
is_decision (Join x p y) (Before u z) = inr (λ e. absurd (cc))
is_decision (Bring x p a) (Join u q z) = inr (λ e. absurd (cc))
is_decision (Bring x p a) (Before u z) = inr (λ e. absurd (cc))
is_decision (Before x y) (Join u q z) = inr (λ e. absurd (cc))
is_decision (Before x y) (Bring u q c) = inr (λ e. absurd (cc))
