-- laws of rules, and of looking at them
use Rattle.std.proofs.Common.{◌≡◌, ℕ, suc, ◌+◌, ◌<◌, ◌⊎◌, min, inl, inr, List, [], ◌∷◌, ◌++◌, All, Contains, refl, sym, subst, ◌∙◌, arith}
use Rattle.std.proofs.lemmas.Bool.{cases_eq}
use Rattle.std.proofs.lemmas.List.Elements.{All-contains, All-append, All-weaker, Contains-append_left, Contains-append_right}
use Rattle.cpt_task.specs.declared.span.Span.{Span}
use Rattle.cpt_task.specs.declared.span.Span.TheVariants.{At, Never}
use Rattle.cpt_task.specs.declared.task.Action.{Action}
use Rattle.cpt_task.specs.Interference.{Interferes}
use Rattle.cpt_tables.specs.Spans.{◌≤ˢ◌, ◌+ˢ◌, span_max}
use Rattle.cpt_tables.specs.Shapes.{PairShape, pair_at, pair_place, set_span_of}
use Rattle.cpt_tables.specs.Admissible.{limit_by_one, limit_by_two}
use Rattle.cpt_tables.proofs.SpanLemmas.{le_refl, le_trans, le_never, max_left, max_right, max_le, add_mono}
use Rattle.cpt_tables.proofs.PlaceLemmas.{place_within}
use Rattle.cpt_h2.specs.Board.{IsUnder, MarksShape, BoardShape, IsUnmarked, IsQuiet, IsGood, IsWithin, Drops, AllBelow}
use Rattle.cpt_h2.specs.Rules.{Rule, needs_of, limit_of, Concerns, IsMet, IsUpTo, IsRuleAt, action_of}
use Rattle.cpt_h2.specs.Rules.Rule.{one, beside, two}
use Rattle.cpt_h2.specs.Rules.IsRuleAt.{by_itself, with_atom, with_action}
use Rattle.cpt_h2.specs.Rows.{IsAtMost}
use Rattle.cpt_h2.specs.Rounds.{IsSettled, MeetsEach, Settles, Works, Looks, LooksUpTo}
use Rattle.cpt_h2.proofs.BoardLemmas.{drops_same, drops_then, drops_by}
use Rattle.cpt_h2.proofs.LimitLemmas.{le_across, across_le, all_of, below_only, only}

pub max_mono : (a b c d : Span) → a ≤ˢ c → b ≤ˢ d → span_max a b ≤ˢ span_max c d
max_mono a b c d h k = max_le a b (span_max c d) (le_trans a c (span_max c d) h (max_left c d)) (le_trans b d (span_max c d) k (max_right c d))

pub set_mono : (g h : PairShape) (ps : List ℕ) → ((x y : ℕ) → Contains ps x → Contains ps y → pair_at g x y ≤ˢ pair_at h x y) → set_span_of g ps ≤ˢ set_span_of h ps
set_mono g h ps le = across_le g ps ps (set_span_of h ps) (λ x y hx hy. le_trans (pair_at g x y) (pair_at h x y) (set_span_of h ps) (le x y hx hy) (le_across h ps ps x y hx hy))

one_mono : (g h : PairShape) (c : Action) → ((x y : ℕ) → Contains c.pre x → Contains c.pre y → pair_at g x y ≤ˢ pair_at h x y) → limit_by_one g c ≤ˢ limit_by_one h c
one_mono g h c le = add_mono (set_span_of g c.pre) (set_span_of h c.pre) (At c.dur) (set_mono g h c.pre le)

-- a limit grows with the table
pub limit_mono : (g h : PairShape) (r : Rule) → ((x y : ℕ) → Contains (needs_of r) x → Contains (needs_of r) y → pair_at g x y ≤ˢ pair_at h x y) → limit_of g r ≤ˢ limit_of h r
limit_mono g h (one c) le = one_mono g h c le
limit_mono g h (beside c q) le = add_mono (set_span_of g (c.pre ++ q ∷ [])) (set_span_of h (c.pre ++ q ∷ [])) (At c.dur) (set_mono g h (c.pre ++ q ∷ []) le)
limit_mono g h (two c d) le =
    max_mono (limit_by_one g c) (span_max (limit_by_one g d) (set_span_of g (c.pre ++ d.pre) +ˢ At (min c.dur d.dur))) (limit_by_one h c) (span_max (limit_by_one h d) (set_span_of h (c.pre ++ d.pre) +ˢ At (min c.dur d.dur)))
    (one_mono g h c (λ x y hx hy. le x y (Contains-append_left c.pre d.pre x hx) (Contains-append_left c.pre d.pre y hy)))
    (max_mono (limit_by_one g d) (set_span_of g (c.pre ++ d.pre) +ˢ At (min c.dur d.dur)) (limit_by_one h d) (set_span_of h (c.pre ++ d.pre) +ˢ At (min c.dur d.dur))
    (one_mono g h d (λ x y hx hy. le x y (Contains-append_right c.pre d.pre x hx) (Contains-append_right c.pre d.pre y hy)))
    (add_mono (set_span_of g (c.pre ++ d.pre)) (set_span_of h (c.pre ++ d.pre)) (At (min c.dur d.dur)) (set_mono g h (c.pre ++ d.pre) le)))

-- the atoms that the limit is made of are below n
abbrev pub HasNeeds : ℕ → Rule → Type 0
HasNeeds n r = All (λ p. p < n) (needs_of r)

pub needs_beside : (n : ℕ) (c : Action) (q : ℕ) → IsWithin n c → q < n → HasNeeds n (beside c q)
needs_beside n c q h lt = All-append (λ p. p < n) c.pre (q ∷ []) h.atoms.pre (below_only n q lt)

pub needs_two : (n : ℕ) (c d : Action) → IsWithin n c → IsWithin n d → HasNeeds n (two c d)
needs_two n c d h k = All-append (λ p. p < n) c.pre d.pre h.atoms.pre k.atoms.pre

-- a table that is at most that of a board has limits at most its limits
pub limit_under : (g : PairShape) (b : BoardShape) (r : Rule) → IsGood b → HasNeeds b.pairs.atoms r → IsUnder g.values b.pairs.values → limit_of g r ≤ˢ limit_of b.pairs r
limit_under g b r good needs under = limit_mono g b.pairs r (λ x y hx hy.
    under (pair_place x y) (subst (λ n. pair_place x y < n) (sym good.places)
    (place_within b.pairs.atoms x y (All-contains (λ p. p < b.pairs.atoms) (needs_of r) x needs hx) (All-contains (λ p. p < b.pairs.atoms) (needs_of r) y needs hy))))

-- from lowered pairs to a rule
pub looks : (r : Rule) (ps qs : List ℕ) (v : Span) (old new : BoardShape)
    → IsGood old → HasNeeds old.pairs.atoms r → v ≡ limit_of old.pairs r
    → ((p q : ℕ) → Contains ps p → Contains qs q → Concerns r p q) → ((p q : ℕ) → Concerns r p q → Contains ps p × Contains qs q)
    → Drops (λ g. AllBelow g ps qs v) old new → AllBelow new.pairs ps qs v → Looks r old new
looks r ps qs v old new good needs e to from drops met = record {
  drops = drops_by (λ g. AllBelow g ps qs v) (λ g. IsMet g r) old new weaker drops;
  met = λ p q con. subst (λ x. pair_at new.pairs p q ≤ˢ x) e (All-contains (λ y. pair_at new.pairs p y ≤ˢ v) qs q (All-contains (λ x. All (λ y. pair_at new.pairs x y ≤ˢ v) qs) ps p met (from p q con).0) (from p q con).1);
}
  where
    weaker : (g : PairShape) → IsMet g r → IsUnder g.values old.pairs.values → AllBelow g ps qs v
    weaker g is under = all_of (λ p. All (λ q. pair_at g p q ≤ˢ v) qs) ps (λ p hp. all_of (λ q. pair_at g p q ≤ˢ v) qs (λ q hq.
        subst (λ x. pair_at g p q ≤ˢ x) (sym e) (le_trans (pair_at g p q) (limit_of g r) (limit_of old.pairs r) (is p q (to p q hp hq)) (limit_under g old r good needs under))))

pub beside_one : (q x : ℕ) → x ≡ q → Contains (q ∷ []) x
beside_one q x e = subst (Contains (q ∷ [])) (sym e) (only q)

-- from lowered pairs to a rule, by a value that is no less than its limit
pub looks_two : (c d : Action) (v : Span) (old new : BoardShape) → IsGood old → IsWithin old.pairs.atoms c → IsWithin old.pairs.atoms d → limit_by_two old.pairs c d ≤ˢ v → (Interferes c d → ⊥)
    → Drops (λ g. AllBelow g c.add d.add v) old new → AllBelow new.pairs c.add d.add v → LooksUpTo (two c d) v old new
looks_two c d v old new good wc wd enough apart drops met = record {
  drops = drops_by (λ g. AllBelow g c.add d.add v) (λ g. IsMet g (two c d)) old new weaker drops;
  met = λ p q con. All-contains (λ y. pair_at new.pairs p y ≤ˢ v) d.add q (All-contains (λ x. All (λ y. pair_at new.pairs x y ≤ˢ v) d.add) c.add p met con.0) con.1;
}
  where
    weaker : (g : PairShape) → IsMet g (two c d) → IsUnder g.values old.pairs.values → AllBelow g c.add d.add v
    weaker g is under = all_of (λ p. All (λ q. pair_at g p q ≤ˢ v) d.add) c.add (λ p hp. all_of (λ q. pair_at g p q ≤ˢ v) d.add (λ q hq.
        le_trans (pair_at g p q) (limit_by_two g c d) v (is p q (hp, hq, apart))
        (le_trans (limit_by_two g c d) (limit_by_two old.pairs c d) v (limit_under g old (two c d) good (needs_two old.pairs.atoms c d wc wd) under) enough)))

-- actions that interfere give no limit
pub looks_apart : (c d : Action) (v : Span) (b : BoardShape) → IsGood b → Interferes c d → LooksUpTo (two c d) v b b
looks_apart c d v b good is = record { drops = drops_same (λ g. IsMet g (two c d)) b b refl good; met = λ p q con. absurd (con.2 is) }

-- nothing is to be done
pub looks_met : (r : Rule) (b : BoardShape) → IsGood b → IsMet b.pairs r → Looks r b b
looks_met r b good met = record { drops = drops_same (λ g. IsMet g r) b b refl good; met = met }

pub works_by_look : (r : Rule) (looked : MarksShape) (old new : BoardShape) → Looks r old new → Works (λ s. s ≡ r) looked old new
works_by_look r looked old new h = record {
  drops = drops_by (λ g. IsMet g r) (λ g. (s : Rule) → s ≡ r → IsMet g s) old new (λ g all under. all r refl) h.drops;
  settled = λ s e. inr (λ quiet. subst (λ x. (p q : ℕ) → Concerns x p q → pair_at new.pairs p q ≤ˢ limit_of old.pairs x) (sym e) h.met);
}

pub drops_one : (r : Rule) (old new : BoardShape) → Drops (λ g. IsMet g r) old new → Drops (MeetsEach (λ s. s ≡ r)) old new
drops_one r old new drops = drops_by (λ g. IsMet g r) (MeetsEach (λ s. s ≡ r)) old new (λ g all under. all r refl) drops

-- the rule has been looked at by a limit at most that of table h
pub settles_one : (r : Rule) (looked : MarksShape) (h : PairShape) (b : BoardShape) → ((p q : ℕ) → Concerns r p q → pair_at b.pairs p q ≤ˢ limit_of h r) → Settles (λ s. s ≡ r) looked h b
settles_one r looked h b met s e = inr (λ quiet. subst (λ x. (p q : ℕ) → Concerns x p q → pair_at b.pairs p q ≤ˢ limit_of h x) (sym e) met)

pub settles_quiet : (r : Rule) (looked : MarksShape) (h : PairShape) (b : BoardShape) → IsQuiet looked (needs_of r) → Settles (λ s. s ≡ r) looked h b
settles_quiet r looked h b quiet s e = inl (subst (λ x. IsQuiet looked (needs_of x)) (sym e) quiet)

pub works_quiet : (r : Rule) (looked : MarksShape) (b : BoardShape) → IsGood b → IsQuiet looked (needs_of r) → Works (λ s. s ≡ r) looked b b
works_quiet r looked b good quiet = record {
  drops = drops_same (MeetsEach (λ s. s ≡ r)) b b refl good;
  settled = settles_quiet r looked b.pairs b quiet;
}

pub quiet_append : (m : MarksShape) (ps qs : List ℕ) → IsQuiet m ps → IsQuiet m qs → IsQuiet m (ps ++ qs)
quiet_append m ps qs h k = record { some = h.some; atoms = All-append (IsUnmarked m) ps qs h.atoms k.atoms }

-- what has been settled stays so
pub settled_later : (G : PairShape → Type 0) (h : PairShape) (mid new : BoardShape) (r : Rule) → Drops G mid new → IsSettled h mid r → IsSettled h new r
settled_later G h mid new r s settled quiet p q con =
    le_trans (pair_at new.pairs p q) (pair_at mid.pairs p q) (limit_of h r) (s.under (pair_place p q))
    (settled (record { some = sym s.spares.every ∙ quiet.some; atoms = All-weaker (IsUnmarked new.marks) (IsUnmarked mid.marks) (λ x u. s.spares.unmarked x u) (needs_of r) quiet.atoms }) p q con)

-- what has been settled by the limit in one table is settled by that in a greater one
settled_above : (g h : PairShape) (new : BoardShape) (r : Rule) → IsAtMost g h → IsSettled g new r → IsSettled h new r
settled_above g h new r most settled quiet p q con =
    le_trans (pair_at new.pairs p q) (limit_of g r) (limit_of h r) (settled quiet p q con) (limit_mono g h r (λ x y hx hy. most (pair_place x y)))

pub settles_above : (R : Rule → Type 0) (looked : MarksShape) (g h : PairShape) (b : BoardShape) → IsAtMost g h → Settles R looked g b → Settles R looked h b
settles_above R looked g h b most s r is = elim (s r is) [ inl quiet ↦ inl quiet | inr settled ↦ inr (settled_above g h b r most settled) ]

-- some rules after others
pub drops_again : (R S T : Rule → Type 0) (old mid new : BoardShape) → ((r : Rule) → R r → T r) → ((r : Rule) → S r → T r)
    → Drops (MeetsEach R) old mid → Drops (MeetsEach S) mid new → Drops (MeetsEach T) old new
drops_again R S T old mid new fromR fromS f s =
    drops_then (MeetsEach S) (MeetsEach T) old mid new (λ g all under r is. all r (fromS r is)) (drops_by (MeetsEach R) (MeetsEach T) old mid (λ g all under r is. all r (fromR r is)) f) s

pub settles_again : (R S T : Rule → Type 0) (looked : MarksShape) (h : PairShape) (mid new : BoardShape) → ((r : Rule) → T r → R r ⊎ S r)
    → Settles R looked h mid → Drops (MeetsEach S) mid new → Settles S looked h new → Settles T looked h new
settles_again R S T looked h mid new cases f drops s r is = elim (cases r is) [
  | inl first ↦ elim (f r first) [ inl quiet ↦ inl quiet | inr settled ↦ inr (settled_later (MeetsEach S) h mid new r drops settled) ]
  | inr second ↦ s r second
]

pub drops_none : (F : ℕ → Rule → Type 0) (b : BoardShape) → IsGood b → Drops (MeetsEach (IsUpTo F 0)) b b
drops_none F b good = drops_same (MeetsEach (IsUpTo F 0)) b b refl good

pub settles_none : (F : ℕ → Rule → Type 0) (looked : MarksShape) (h : PairShape) (b : BoardShape) → Settles (IsUpTo F 0) looked h b
settles_none F looked h b r is = absurd (let lt : is.0 < 0 = is.1 in omega (arith, lt))

-- the rules of one number more
pub drops_more : (F : ℕ → Rule → Type 0) (n : ℕ) (old mid new : BoardShape) → Drops (MeetsEach (IsUpTo F n)) old mid → Drops (MeetsEach (F n)) mid new → Drops (MeetsEach (IsUpTo F (n + 1))) old new
drops_more F n old mid new f s = drops_again (IsUpTo F n) (F n) (IsUpTo F (n + 1)) old mid new
    (λ r is. let lt : is.0 < n = is.1 in (is.0, omega (arith, lt), is.2)) (λ r is. (n, omega arith, is)) f s

pub settles_more : (F : ℕ → Rule → Type 0) (n : ℕ) (looked : MarksShape) (h : PairShape) (mid new : BoardShape) → Settles (IsUpTo F n) looked h mid → Drops (MeetsEach (F n)) mid new → Settles (F n) looked h new → Settles (IsUpTo F (n + 1)) looked h new
settles_more F n looked h mid new f drops s = settles_again (IsUpTo F n) (F n) (IsUpTo F (n + 1)) looked h mid new cases f drops s
  where
    cases : (r : Rule) → IsUpTo F (n + 1) r → IsUpTo F n r ⊎ F n r
    cases r (k, lt, is) = elim (cases_eq k n) [ inl e ↦ inr (subst (λ i. F i r) e is) | inr ne ↦ inl (k, omega arith, is) ]

-- the limit of each rule of an action is at least that of the action by itself
least_limit : (h : PairShape) (actions : List Action) (n k : ℕ) (r : Rule) → IsRuleAt actions n k r → limit_by_one h (action_of actions k) ≤ˢ limit_of h r
least_limit h actions n k r (by_itself e) = subst (λ x. limit_by_one h (action_of actions k) ≤ˢ limit_of h x) (sym e) (le_refl (limit_by_one h (action_of actions k)))
least_limit h actions n k r (with_atom is) =
    subst (λ x. limit_by_one h (action_of actions k) ≤ˢ limit_of h x) (sym is.2)
    (add_mono (set_span_of h (action_of actions k).pre) (set_span_of h ((action_of actions k).pre ++ is.0 ∷ [])) (At (action_of actions k).dur)
    (across_le h (action_of actions k).pre (action_of actions k).pre (set_span_of h ((action_of actions k).pre ++ is.0 ∷ []))
    (λ x y hx hy. le_across h ((action_of actions k).pre ++ is.0 ∷ []) ((action_of actions k).pre ++ is.0 ∷ []) x y (Contains-append_left (action_of actions k).pre (is.0 ∷ []) x hx) (Contains-append_left (action_of actions k).pre (is.0 ∷ []) y hy))))
least_limit h actions n k r (with_action is) =
    subst (λ x. limit_by_one h (action_of actions k) ≤ˢ limit_of h x) (sym is.2)
    (max_left (limit_by_one h (action_of actions k)) (span_max (limit_by_one h (action_of actions is.0)) (set_span_of h ((action_of actions k).pre ++ (action_of actions is.0).pre) +ˢ At (min (action_of actions k).dur (action_of actions is.0).dur))))

-- an action that cannot run limits nothing
pub works_never : (actions : List Action) (n k : ℕ) (looked : MarksShape) (b : BoardShape) → IsGood b → set_span_of b.pairs (action_of actions k).pre ≡ Never → Works (IsRuleAt actions n k) looked b b
works_never actions n k looked b good never = record {
  drops = drops_same (λ g. (r : Rule) → IsRuleAt actions n k r → IsMet g r) b b refl good;
  settled = λ r is. inr (λ quiet p q con. le_trans (pair_at b.pairs p q) Never (limit_of b.pairs r) (le_never (pair_at b.pairs p q))
      (subst (λ x. x +ˢ At (action_of actions k).dur ≤ˢ limit_of b.pairs r) never (least_limit b.pairs actions n k r is)));
}

-- the rules of an action by itself and beside each atom
abbrev pub IsOfAction : List Action → ℕ → ℕ → Rule → Type 0
IsOfAction actions n k r = (r ≡ one (action_of actions k)) ⊎ IsUpTo (λ q x. x ≡ beside (action_of actions k) q) n r

-- the three kinds of rules of an action
pub drops_action : (actions : List Action) (n k : ℕ) (old a b new : BoardShape)
    → Drops (MeetsEach (λ r. r ≡ one (action_of actions k))) old a → Drops (MeetsEach (IsUpTo (λ q r. r ≡ beside (action_of actions k) q) n)) a b
    → Drops (MeetsEach (IsUpTo (λ j r. r ≡ two (action_of actions k) (action_of actions j)) (suc k))) b new → Drops (MeetsEach (IsRuleAt actions n k)) old new
drops_action actions n k old a b new f s t =
    drops_again (IsOfAction actions n k) (IsUpTo (λ j r. r ≡ two (action_of actions k) (action_of actions j)) (suc k)) (IsRuleAt actions n k) old b new
    to (λ r is. with_action is)
    (drops_again (λ r. r ≡ one (action_of actions k)) (IsUpTo (λ q r. r ≡ beside (action_of actions k) q) n) (IsOfAction actions n k) old a b (λ r e. inl e) (λ r is. inr is) f s) t
  where
    to : (r : Rule) → IsOfAction actions n k r → IsRuleAt actions n k r
    to r (inl e) = by_itself e
    to r (inr is) = with_atom is

pub settles_action : (actions : List Action) (n k : ℕ) (looked : MarksShape) (h : PairShape) (a b new : BoardShape)
    → Settles (λ r. r ≡ one (action_of actions k)) looked h a
    → Drops (MeetsEach (IsUpTo (λ q r. r ≡ beside (action_of actions k) q) n)) a b → Settles (IsUpTo (λ q r. r ≡ beside (action_of actions k) q) n) looked h b
    → Drops (MeetsEach (IsUpTo (λ j r. r ≡ two (action_of actions k) (action_of actions j)) (suc k))) b new → Settles (IsUpTo (λ j r. r ≡ two (action_of actions k) (action_of actions j)) (suc k)) looked h new
    → Settles (IsRuleAt actions n k) looked h new
settles_action actions n k looked h a b new f drops s more t =
    settles_again (IsOfAction actions n k) (IsUpTo (λ j r. r ≡ two (action_of actions k) (action_of actions j)) (suc k)) (IsRuleAt actions n k) looked h b new from
    (settles_again (λ r. r ≡ one (action_of actions k)) (IsUpTo (λ q r. r ≡ beside (action_of actions k) q) n) (IsOfAction actions n k) looked h a b (λ r is. is) f drops s) more t
  where
    from : (r : Rule) → IsRuleAt actions n k r → IsOfAction actions n k r ⊎ IsUpTo (λ j x. x ≡ two (action_of actions k) (action_of actions j)) (suc k) r
    from r (by_itself e) = inl (inl e)
    from r (with_atom is) = inl (inr is)
    from r (with_action is) = inr is

-- the actions by other names
pub drops_two : (old new : BoardShape) (c d e f : Action) → c ≡ e → d ≡ f → Drops (MeetsEach (λ r. r ≡ two c d)) old new → Drops (MeetsEach (λ r. r ≡ two e f)) old new
drops_two old new c d e f first second w = subst (λ x. Drops (MeetsEach (λ r. r ≡ two e x)) old new) second (subst (λ x. Drops (MeetsEach (λ r. r ≡ two x d)) old new) first w)

pub settles_two : (looked : MarksShape) (h : PairShape) (b : BoardShape) (c d e f : Action) → c ≡ e → d ≡ f → Settles (λ r. r ≡ two c d) looked h b → Settles (λ r. r ≡ two e f) looked h b
settles_two looked h b c d e f first second w = subst (λ x. Settles (λ r. r ≡ two e x) looked h b) second (subst (λ x. Settles (λ r. r ≡ two x d) looked h b) first w)
