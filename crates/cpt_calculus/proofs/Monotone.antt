-- what is allowed at a sheet is allowed, or changes nothing, at each live sheet below
use Rattle.std.proofs.Common.{◌≡◌, ℕ, ◌≤◌, ◌<◌, List, true, get_or, refl, sym, ◌∙◌, ap, subst, arith, inl, inr, ◌⊎◌}
use Rattle.std.specs.List.{All, AllByRecursion as ByRecursion}
use Rattle.std.proofs.lemmas.Bool.{false_from_ne_true, cases_Bool, both_ways}
use Rattle.std.proofs.lemmas.List.Elements.{recursion_from_All, All-from_recursion, AllZip-get_or, length_all_zip}
use Rattle.cpt_task.specs.declared.span.Span.{Span}
use Rattle.cpt_task.specs.declared.span.Span.TheVariants.{At, Never}
use Rattle.cpt_task.specs.Shape.{TaskShape}
use Rattle.cpt_tables.specs.declared.tables.Tables.{Tables}
use Rattle.cpt_tables.specs.Spans.{◌≤ˢ◌, ◌+ˢ◌}
use Rattle.cpt_tables.proofs.SpanLemmas.{le_trans, le_cases, lt_not_le, add_mono}
use Rattle.cpt_sheet.specs.declared.data.Cand.{Cand}
use Rattle.cpt_sheet.specs.declared.data.Cand.TheVariants.{Tok, Out}
use Rattle.cpt_sheet.specs.declared.data.Kind.TheVariants.{Act}
use Rattle.cpt_sheet.specs.declared.data.Token.{Token}
use Rattle.cpt_sheet.specs.declared.data.Sheet.{Sheet}
use Rattle.cpt_sheet.specs.declared.data.Step.{Step}
use Rattle.cpt_sheet.specs.declared.data.Step.TheVariants.{R1, R2, R3, R4, R5, R6, R7, R8, R9After, R9Ahead, R10, R11After, R11Ahead, R12After, R12Ahead, R13}
use Rattle.cpt_sheet.specs.declared.data.Change.{Change}
use Rattle.cpt_sheet.specs.declared.data.Change.TheVariants.{Raise, Lower, Take, Post}
use Rattle.cpt_sheet.specs.Roles.{Adds, Deletes, Clash}
use Rattle.cpt_sheet.specs.View.{lo, hi, kind_of, cands, has_need, before, has, span_of}
use Rattle.cpt_sheet.specs.Live.{IsLive, IsOpen, IsShut}
use Rattle.cpt_sheet.specs.Gaps.{gap, back, arrival, deadline, ordered, CanPrecede, Exclude, IsImpossibleBeside}
use Rattle.cpt_sheet.specs.Below.{Part, TokenBelow, IsBelowSheet}
use Rattle.cpt_sheet.specs.Below.Part.{done, skip, keep}
use Rattle.cpt_calculus.specs.Rules.{IsToken, only, IsListed, IsThreatOf, IsBeforeToken, IsBeforeTokens, IsBeforeOuts, IsOutsideThreat, ComesAfter, Allowed, change_of, Moves, IsLegal}
use Rattle.cpt_calculus.proofs.Parts.{Part-one}
use Rattle.cpt_calculus.proofs.Below.{kinds, los, his, parts, same_need, live_lists}

back_mono : (h k : ℕ) (g : Span) → h ≤ k → back h g ≤ back k g
back_mono h k (At g) e = omega arith
back_mono h k Never e = omega arith

-- what holds of each element of a list holds of each of a part
part_by : (P : Cand → Type 0) {xs ys : List Cand} → Part xs ys → ByRecursion P ys → ByRecursion P xs
part_by P done h = h
part_by P (skip k) h = part_by P k h.1
part_by P (keep k) h = (h.0, part_by P k h.1)

pub part_all : (P : Cand → Type 0) (xs ys : List Cand) → Part xs ys → All P ys → All P xs
part_all P xs ys k h = All-from_recursion P xs (part_by P k (recursion_from_All P ys h))

all_weaker : {X : Type 0} (P Q : X → Type 0) (xs : List X) → ((x : X) → P x → Q x) → All P xs → All Q xs
all_weaker P Q xs f h k d lt = f (get_or xs k d) (h k d lt)

pub moves_cases : (s : Sheet) (ch : Change) → Moves s ch ⊎ ¬ (Moves s ch)
moves_cases s (Raise c v) = elim (le_cases v (lo s c)) [ inl h ↦ inr (λ k. lt_not_le (lo s c) v k h) | inr h ↦ inl h ]
moves_cases s (Lower c v) = elim (le_cases (At (hi s c)) v) [ inl h ↦ inr (λ k. lt_not_le v (At (hi s c)) k h) | inr h ↦ inl h ]
moves_cases s (Take x p c) = elim (cases_Bool (has c (cands s x p))) [ inl h ↦ inl h | inr h ↦ inr (λ k. both_ways _ h k) ]
moves_cases s (Post x y) = elim (cases_Bool (before s x y)) [ inl h ↦ inr (λ k. both_ways _ k h) | inr h ↦ inl h ]

module _ (t : TaskShape) (w : Tables) (a b : Sheet) (below : IsBelowSheet a b) where
  arrival_mono : (c d : Cand) → arrival t w a c d ≤ˢ arrival t w b c d
  arrival_mono c d =
      subst (λ k. (lo a c +ˢ gap t w (kind_of a c) (kind_of a d)) ≤ˢ (lo b c +ˢ gap t w k (kind_of b d))) (sym (kinds a b below c))
      (subst (λ k. (lo a c +ˢ gap t w (kind_of a c) (kind_of a d)) ≤ˢ (lo b c +ˢ gap t w (kind_of a c) k)) (sym (kinds a b below d))
      (add_mono (lo a c) (lo b c) (gap t w (kind_of a c) (kind_of a d)) (los a b below c)))

  later : (v : Span) (c d : Cand) → v ≤ˢ arrival t w a c d → v ≤ˢ arrival t w b c d
  later v c d h = le_trans v (arrival t w a c d) (arrival t w b c d) h (arrival_mono c d)

  deadline_mono : (c d : Cand) → deadline t w b c d ≤ˢ deadline t w a c d
  deadline_mono c d =
      subst (λ k. At (back (hi b d) (gap t w k (kind_of b d))) ≤ˢ deadline t w a c d) (sym (kinds a b below c))
      (subst (λ k. At (back (hi b d) (gap t w (kind_of a c) k)) ≤ˢ deadline t w a c d) (sym (kinds a b below d))
      (back_mono (hi b d) (hi a d) (gap t w (kind_of a c) (kind_of a d)) (his a b below d)))

  earlier : (v : Span) (c d : Cand) → deadline t w a c d ≤ˢ v → deadline t w b c d ≤ˢ v
  earlier v c d h = le_trans (deadline t w b c d) (deadline t w a c d) v (deadline_mono c d) h

  at_mono : (d : Cand) → At (hi b d) ≤ˢ At (hi a d)
  at_mono d = his a b below d

  ordered_mono : (c d : Cand) → ordered a c d ≡ true → ordered b c d ≡ true
  ordered_mono (Tok x) (Tok y) h = below.orders x y h
  ordered_mono (Tok x) (Out y) h = h
  ordered_mono (Out x) d h = h

  -- what can precede below can precede above
  precede_back : (c d : Cand) → CanPrecede t w b c d → CanPrecede t w a c d
  precede_back c d h = record {
    in_time = le_trans (arrival t w a c d) (arrival t w b c d) (At (hi a d)) (arrival_mono c d) (le_trans (arrival t w b c d) (At (hi b d)) (At (hi a d)) h.in_time (at_mono d));
    free = false_from_ne_true _ (λ e. both_ways (ordered b d c) h.free (ordered_mono d c e));
  }

  clash_here : (c d : Cand) → Clash t (kind_of a c) (kind_of a d) → Clash t (kind_of b c) (kind_of b d)
  clash_here c d h =
      subst (λ k. Clash t k (kind_of b d)) (sym (kinds a b below c)) (subst (λ k. Clash t (kind_of a c) k) (sym (kinds a b below d)) h)

  deletes_here : (c : Cand) (p : ℕ) → Deletes t (kind_of a c) p → Deletes t (kind_of b c) p
  deletes_here c p h = subst (λ k. Deletes t k p) (sym (kinds a b below c)) h

  need_here : (x p : ℕ) → has_need a x p ≡ true → has_need b x p ≡ true
  need_here x p h = same_need a b below x p ∙ h

  listed_here : (x p : ℕ) (c : Cand) → IsListed a x p c → has c (cands b x p) ≡ true → IsListed b x p c
  listed_here x p c h m = record { need = need_here x p h.need; listed = m }

  open_back : (c : Cand) → IsOpen (span_of b c) → IsOpen (span_of a c)
  open_back c h = le_trans (lo a c) (lo b c) (At (hi a c)) (los a b below c) (le_trans (lo b c) (At (hi b c)) (At (hi a c)) h (at_mono c))

  shut_here : (c : Cand) → IsShut (span_of a c) → IsShut (span_of b c)
  shut_here c h = elim (le_cases (lo b c) (At (hi b c))) [ inl k ↦ absurd (lt_not_le (At (hi a c)) (lo a c) h (open_back c k)) | inr k ↦ k ]

  -- the arrival from a token
  token_later : (i p : ℕ) (v : Span) (y z : Token) → TokenBelow y z → IsBeforeToken t w i p v y → IsBeforeToken t w i p v z
  token_later i p v y z r h adds =
      subst (λ k. v ≤ˢ (z.span.lo +ˢ gap t w k (Act i))) (sym r.0)
      (le_trans v (y.span.lo +ˢ gap t w y.kind (Act i)) (z.span.lo +ˢ gap t w y.kind (Act i)) (h (subst (λ k. Adds t k p) r.0 adds))
      (add_mono y.span.lo z.span.lo (gap t w y.kind (Act i)) r.1.0))

  tokens_later : (i p : ℕ) (v : Span) → IsBeforeTokens t w a i p v → IsBeforeTokens t w b i p v
  tokens_later i p v h k d lt =
      token_later i p v (get_or a.tokens k d) (get_or b.tokens k d) (AllZip-get_or TokenBelow a.tokens b.tokens k d d below.tokens (subst (λ n. k < n) (sym (length_all_zip TokenBelow a.tokens b.tokens below.tokens)) lt))
      (h k d (subst (λ n. k < n) (sym (length_all_zip TokenBelow a.tokens b.tokens below.tokens)) lt))

  outs_later : (i p : ℕ) (v : Span) → IsBeforeOuts t w a i p v → IsBeforeOuts t w b i p v
  outs_later i p v h o lt adds live = later v (Out o) (Out i) (h o lt adds (open_back (Out o) live))

  exclude_here : (p q : ℕ) (c d : Cand) → Exclude t w a p q c d → Exclude t w b p q c d
  exclude_here p q c d (inl h) = inl (record {
    clash = clash_here c d h.clash;
    not_first = λ k. h.not_first (precede_back c d k);
    not_last = λ k. h.not_last (precede_back d c k);
  })
  exclude_here p q c d (inr h) = inr (record { first = deletes_here c q h.first; second = deletes_here d p h.second })

  impossible_here : (p q : ℕ) (c d : Cand) → IsImpossibleBeside t w a p q c d → IsImpossibleBeside t w b p q c d
  impossible_here p q c d h = record { other = h.other; exclude = exclude_here p q c d h.exclude }

  after_here : (x i : ℕ) (v : Span) → ComesAfter t w a x i v → ComesAfter t w b x i v
  after_here x i v h = record { limit = later v (Tok x) (Out i) h.limit; moment = h.moment }

  module _ (live : IsLive b) where
    only_here : (x p y : ℕ) → has_need a x p ≡ true → IsToken (cands a x p) y → IsToken (cands b x p) y
    only_here x p y n h =
        Part-one (cands b x p) (Tok y) (subst (λ l. Part (cands b x p) l) h (parts a b below x p)) (live_lists b live x p (need_here x p n))

    threat_here : (x p d y : ℕ) → IsThreatOf t a x p d y → IsThreatOf t b x p d y
    threat_here x p d y h = record {
      need = need_here x p h.need;
      one = only_here x p y h.need h.one;
      deletes = deletes_here (Tok d) p h.deletes;
      other = h.other;
      different = h.different;
    }

    outside_here : (x p i y : ℕ) → IsOutsideThreat t a x p i y → IsOutsideThreat t b x p i y
    outside_here x p i y h = record { need = need_here x p h.need; one = only_here x p y h.need h.one; deletes = h.deletes }

    only_same : (x p y : ℕ) → has_need a x p ≡ true → IsToken (cands a x p) y → only (cands b x p) ≡ only (cands a x p)
    only_same x p y n h = ap (λ l. only l) (only_here x p y n h ∙ sym h)

    pub same_change : (s : Step) → Allowed t w a s → change_of b s ≡ change_of a s
    same_change (R1 x y v) h = refl
    same_change (R2 x y v) h = refl
    same_change (R3 x y) h = refl
    same_change (R4 x p v) h = refl
    same_change (R5 x p c) h = refl
    same_change (R6 x p) h = ap (λ z. Post z x) (only_same x p h.one.0 h.need h.one.1)
    same_change (R7 x p i) h = refl
    same_change (R8 x p c d) h = refl
    same_change (R9After x p d) h = refl
    same_change (R9Ahead x p d) h = ap (λ z. Post d z) (only_same x p h.0 h.1.need h.1.one)
    same_change (R10 i p v) h = refl
    same_change (R11After x p i v) h = refl
    same_change (R11Ahead x p i v) h = refl
    same_change (R12After x i v) h = refl
    same_change (R12Ahead x i v) h = refl
    same_change (R13 x p c q) h = refl

    allowed_mono : (s : Step) → Allowed t w a s → Moves b (change_of b s) → Allowed t w b s
    allowed_mono (R1 x y v) h m = record { order = below.orders x y h.order; limit = later v (Tok x) (Tok y) h.limit; moment = h.moment }
    allowed_mono (R2 x y v) h m = record { order = below.orders x y h.order; limit = earlier v (Tok x) (Tok y) h.limit }
    allowed_mono (R3 x y) h m = record { different = h.different; clash = clash_here (Tok x) (Tok y) h.clash; late = λ k. h.late (precede_back (Tok y) (Tok x) k) }
    allowed_mono (R4 x p v) h m = record {
      need = need_here x p h.need;
      limit = part_all (λ c. v ≤ˢ arrival t w b c (Tok x)) (cands b x p) (cands a x p) (parts a b below x p)
          (all_weaker (λ c. v ≤ˢ arrival t w a c (Tok x)) (λ c. v ≤ˢ arrival t w b c (Tok x)) (cands a x p) (λ c k. later v c (Tok x) k) h.limit);
      moment = h.moment;
    }
    allowed_mono (R5 x p c) h m = record { listed = listed_here x p c h.listed m; late = λ k. h.late (precede_back c (Tok x) k) }
    allowed_mono (R6 x p) h m = record { need = need_here x p h.need; one = (h.one.0, only_here x p h.one.0 h.need h.one.1) }
    allowed_mono (R7 x p i) h m = record { listed = listed_here x p (Out i) h.listed m; shut = shut_here (Out i) h.shut }
    allowed_mono (R8 x p c d) h m = record {
      listed = listed_here x p c h.listed m;
      deletes = deletes_here (Tok d) p h.deletes;
      other = h.other;
      different = h.different;
      not_ahead = λ k. h.not_ahead (precede_back (Tok d) c k);
      not_after = λ k. h.not_after (precede_back (Tok x) (Tok d) k);
    }
    allowed_mono (R9After x p d) h m = (h.0, threat_here x p d h.0 h.1, λ k. h.2 (precede_back (Tok d) (Tok h.0) k))
    allowed_mono (R9Ahead x p d) h m = (h.0, threat_here x p d h.0 h.1, λ k. h.2 (precede_back (Tok x) (Tok d) k))
    allowed_mono (R10 i p v) h m = record { need = h.need; tokens = tokens_later i p v h.tokens; outs = outs_later i p v h.outs; moment = h.moment }
    allowed_mono (R11After x p i v) h m = (h.0, outside_here x p i h.0 h.1, (λ k. h.2 (precede_back (Out i) (Tok h.0) k)), after_here x i v h.3)
    allowed_mono (R11Ahead x p i v) h m = (h.0, outside_here x p i h.0 h.1, (λ k. h.2 (precede_back (Tok x) (Out i) k)), earlier v (Out i) (Tok h.0) h.3)
    allowed_mono (R12After x i v) h m = record { clash = clash_here (Tok x) (Out i) h.clash; late = λ k. h.late (precede_back (Out i) (Tok x) k); after = after_here x i v h.after }
    allowed_mono (R12Ahead x i v) h m = record { clash = clash_here (Tok x) (Out i) h.clash; late = λ k. h.late (precede_back (Tok x) (Out i) k); ahead = earlier v (Out i) (Tok x) h.ahead }
    allowed_mono (R13 x p c q) h m = record {
      listed = listed_here x p c h.listed m;
      second = record { need = need_here x q h.second.need; different = h.second.different };
      none = record {
        none = part_all (IsImpossibleBeside t w b p q c) (cands b x q) (cands a x q) (parts a b below x q)
            (all_weaker (IsImpossibleBeside t w a p q c) (IsImpossibleBeside t w b p q c) (cands a x q) (λ d k. impossible_here p q c d k) h.none.none);
      };
    }

    -- the law
    pub step_mono : (s : Step) → IsLegal t w a s → IsLegal t w b s ⊎ ¬ (Moves b (change_of b s))
    step_mono s h =
        elim (moves_cases b (change_of b s)) [
          | inl m ↦ inl (record { live = live; allowed = allowed_mono s h.allowed m; moves = m })
          | inr n ↦ inr n
        ]
