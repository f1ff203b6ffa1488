-- whether a step is legal is decidable
use Rattle.std.proofs.Common.{ℕ, inl, true, false, length}
use Rattle.cpt_task.specs.Shape.{TaskShape}
use Rattle.cpt_task.specs.declared.span.Span.{Span}
use Rattle.cpt_task.specs.declared.span.Span.TheVariants.{At, Never}
use Rattle.cpt_tables.specs.declared.tables.Tables.{Tables}
use Rattle.cpt_tables.specs.Spans.{◌≤ˢ◌, ◌+ˢ◌, IsBelow}
use Rattle.cpt_tables.specs.Admissible.{nth_action}
use Rattle.cpt_sheet.specs.declared.data.Cand.{Cand}
use Rattle.cpt_sheet.specs.declared.data.Cand.TheVariants.{Tok, Out}
use Rattle.cpt_sheet.specs.declared.data.Kind.TheVariants.{Act}
use Rattle.cpt_sheet.specs.declared.data.Sheet.{Sheet}
use Rattle.cpt_sheet.specs.declared.data.Step.{Step}
use Rattle.cpt_sheet.specs.declared.data.Step.TheVariants.{R1, R2, R3, R4, R5, R6, R7, R8, R9After, R9Ahead, R10, R11After, R11Ahead, R12After, R12Ahead, R13}
use Rattle.cpt_sheet.specs.declared.data.Change.{Change}
use Rattle.cpt_sheet.specs.declared.data.Change.TheVariants.{Raise, Lower, Take, Post}
use Rattle.cpt_sheet.specs.View.{lo, hi, span_of, kind_of, same, has, has_need, cands, before}
use Rattle.cpt_sheet.specs.Gaps.{gap, arrival, deadline, CanPrecede, IsImpossibleBeside}
use Rattle.cpt_calculus.specs.Rules.{IsListed, IsOutsideThreat, IsBeforeToken, IsBeforeTokens, IsBeforeOut, IsBeforeOuts, ComesAfter, ComesAhead, Allowed, Moves, IsLegal, change_of}
use Rattle.cpt_decidable.specs.Decidable.{IsDecidable}
use Rattle.cpt_decidable.proofs.Deciding.{like, both, denied, implied, is_less, is_equal, is_test, are_all, is_in_list, are_all_below}
use Rattle.cpt_decidable.proofs.Faults.{is_earlier, is_no_later}
use Rattle.cpt_decidable.proofs.Sheets.{is_one_token, is_threat_of, is_open, is_shut, is_live, does_add, does_delete, do_clash, can_precede, is_impossible}

is_below : (n : ℕ) (v : Span) → IsDecidable (IsBelow n v)
is_below n (At m) = is_less m n
is_below n Never = inl tt

is_listed : (s : Sheet) (x p : ℕ) (c : Cand) → IsDecidable (IsListed s x p c)
is_listed s x p c = like (λ h. record { need = h.0; listed = h.1 }) (λ h. (h.need, h.listed)) (both (is_test (has_need s x p) true) (is_test (has c (cands s x p)) true))

cannot_precede : (t : TaskShape) (b : Tables) (s : Sheet) (c d : Cand) → IsDecidable (CanPrecede t b s c d → ⊥)
cannot_precede t b s c d = denied (can_precede t b s c d)

are_before_tokens : (t : TaskShape) (b : Tables) (s : Sheet) (a p : ℕ) (v : Span) → IsDecidable (IsBeforeTokens t b s a p v)
are_before_tokens t b s a p v = are_all (IsBeforeToken t b a p v) (λ z. implied (does_add t z.kind p) (is_no_later v (z.span.lo +ˢ gap t b z.kind (Act a)))) s.tokens

are_before_outs : (t : TaskShape) (b : Tables) (s : Sheet) (a p : ℕ) (v : Span) → IsDecidable (IsBeforeOuts t b s a p v)
are_before_outs t b s a p v =
    are_all_below (IsBeforeOut t b s a p v) (λ o. implied (does_add t (Act o) p) (implied (is_open (span_of s (Out o))) (is_no_later v (arrival t b s (Out o) (Out a))))) (length t.actions)

does_come_after : (t : TaskShape) (b : Tables) (s : Sheet) (x a : ℕ) (v : Span) → IsDecidable (ComesAfter t b s x a v)
does_come_after t b s x a v = like (λ h. record { limit = h.0; moment = h.1 }) (λ h. (h.limit, h.moment)) (both (is_no_later v (arrival t b s (Tok x) (Out a))) (is_below 2000000000000000 v))

does_come_ahead : (t : TaskShape) (b : Tables) (s : Sheet) (a y : ℕ) (v : Span) → IsDecidable (ComesAhead t b s a y v)
does_come_ahead t b s a y v = is_no_later (deadline t b s (Out a) (Tok y)) v

is_outside_threat : (t : TaskShape) (s : Sheet) (x p a : ℕ) (Q : ℕ → Type 0) → ((y : ℕ) → IsDecidable (Q y)) → IsDecidable ((y : ℕ) × IsOutsideThreat t s x p a y × Q y)
is_outside_threat t s x p a Q known =
    like (λ h. (h.1.0, record { need = h.0.0; one = h.1.1; deletes = h.0.1 }, h.1.2)) (λ h. ((h.1.need, h.1.deletes), (h.0, h.1.one, h.2)))
    (both (both (is_test (has_need s x p) true) (does_delete t (Act a) p)) (is_one_token Q known (cands s x p)))

pub is_allowed : (t : TaskShape) (b : Tables) (s : Sheet) (step : Step) → IsDecidable (Allowed t b s step)
is_allowed t b s (R1 x y v) =
    like (λ h. record { order = h.0; limit = h.1.0; moment = h.1.1 }) (λ h. (h.order, (h.limit, h.moment)))
    (both (is_test (before s x y) true) (both (is_no_later v (arrival t b s (Tok x) (Tok y))) (is_below 4000000000000000 v)))
is_allowed t b s (R2 x y v) =
    like (λ h. record { order = h.0; limit = h.1 }) (λ h. (h.order, h.limit)) (both (is_test (before s x y) true) (is_no_later (deadline t b s (Tok x) (Tok y)) v))
is_allowed t b s (R3 x y) =
    like (λ h. record { different = h.0; clash = h.1.0; late = h.1.1 }) (λ h. (h.different, (h.clash, h.late)))
    (both (denied (is_equal x y)) (both (do_clash t (kind_of s (Tok x)) (kind_of s (Tok y))) (cannot_precede t b s (Tok y) (Tok x))))
is_allowed t b s (R4 x p v) =
    like (λ h. record { need = h.0; limit = h.1.0; moment = h.1.1 }) (λ h. (h.need, (h.limit, h.moment)))
    (both (is_test (has_need s x p) true) (both (are_all (λ c. v ≤ˢ arrival t b s c (Tok x)) (λ c. is_no_later v (arrival t b s c (Tok x))) (cands s x p)) (is_below 4000000000000000 v)))
is_allowed t b s (R5 x p c) = like (λ h. record { listed = h.0; late = h.1 }) (λ h. (h.listed, h.late)) (both (is_listed s x p c) (cannot_precede t b s c (Tok x)))
is_allowed t b s (R6 x p) =
    like (λ h. record { need = h.0; one = (h.1.0, h.1.1) }) (λ h. (h.need, (h.one.0, h.one.1, tt)))
    (both (is_test (has_need s x p) true) (is_one_token (λ y. Unit {0}) (λ y. inl tt) (cands s x p)))
is_allowed t b s (R7 x p a) = like (λ h. record { listed = h.0; shut = h.1 }) (λ h. (h.listed, h.shut)) (both (is_listed s x p (Out a)) (is_shut (span_of s (Out a))))
is_allowed t b s (R8 x p c d) =
    like (λ h. record { listed = h.0; deletes = h.1.0; other = h.1.1.0; different = h.1.1.1.0; not_ahead = h.1.1.1.1.0; not_after = h.1.1.1.1.1 })
    (λ h. (h.listed, (h.deletes, (h.other, (h.different, (h.not_ahead, h.not_after))))))
    (both (is_listed s x p c) (both (does_delete t (kind_of s (Tok d)) p) (both (denied (is_equal d x)) (both (is_test (same (Tok d) c) false)
    (both (cannot_precede t b s (Tok d) c) (cannot_precede t b s (Tok x) (Tok d)))))))
is_allowed t b s (R9After x p d) = is_threat_of t s x p d (λ y. CanPrecede t b s (Tok d) (Tok y) → ⊥) (λ y. cannot_precede t b s (Tok d) (Tok y))
is_allowed t b s (R9Ahead x p d) = is_threat_of t s x p d (λ y. CanPrecede t b s (Tok x) (Tok d) → ⊥) (λ y. cannot_precede t b s (Tok x) (Tok d))
is_allowed t b s (R10 a p v) =
    like (λ h. record { need = h.0; tokens = h.1.0; outs = h.1.1.0; moment = h.1.1.1 }) (λ h. (h.need, (h.tokens, (h.outs, h.moment))))
    (both (is_in_list (nth_action t a).pre p) (both (are_before_tokens t b s a p v) (both (are_before_outs t b s a p v) (is_below 2000000000000000 v))))
is_allowed t b s (R11After x p a v) =
    like (λ h. (h.0, h.1, h.2.0, h.2.1)) (λ h. (h.0, h.1, (h.2, h.3)))
    (is_outside_threat t s x p a (λ y. (CanPrecede t b s (Out a) (Tok y) → ⊥) × ComesAfter t b s x a v) (λ y. both (cannot_precede t b s (Out a) (Tok y)) (does_come_after t b s x a v)))
is_allowed t b s (R11Ahead x p a v) =
    like (λ h. (h.0, h.1, h.2.0, h.2.1)) (λ h. (h.0, h.1, (h.2, h.3)))
    (is_outside_threat t s x p a (λ y. (CanPrecede t b s (Tok x) (Out a) → ⊥) × ComesAhead t b s a y v) (λ y. both (cannot_precede t b s (Tok x) (Out a)) (does_come_ahead t b s a y v)))
is_allowed t b s (R12After x a v) =
    like (λ h. record { clash = h.0; late = h.1.0; after = h.1.1 }) (λ h. (h.clash, (h.late, h.after)))
    (both (do_clash t (kind_of s (Tok x)) (Act a)) (both (cannot_precede t b s (Out a) (Tok x)) (does_come_after t b s x a v)))
is_allowed t b s (R12Ahead x a v) =
    like (λ h. record { clash = h.0; late = h.1.0; ahead = h.1.1 }) (λ h. (h.clash, (h.late, h.ahead)))
    (both (do_clash t (kind_of s (Tok x)) (Act a)) (both (cannot_precede t b s (Tok x) (Out a)) (does_come_ahead t b s a x v)))
is_allowed t b s (R13 x p c q) =
    like (λ h. record { listed = h.0; second = record { need = h.1.0.0; different = h.1.0.1 }; none = record { none = h.1.1 } }) (λ h. (h.listed, ((h.second.need, h.second.different), h.none.none)))
    (both (is_listed s x p c) (both (both (is_test (has_need s x q) true) (denied (is_equal q p)))
    (are_all (IsImpossibleBeside t b s p q c) (λ d. is_impossible t b s p q c d) (cands s x q))))

does_move : (s : Sheet) (change : Change) → IsDecidable (Moves s change)
does_move s (Raise c v) = is_earlier (lo s c) v
does_move s (Lower c v) = is_earlier v (At (hi s c))
does_move s (Take x p c) = is_test (has c (cands s x p)) true
does_move s (Post x y) = is_test (before s x y) false

pub is_legal : (t : TaskShape) (b : Tables) (s : Sheet) (step : Step) → IsDecidable (IsLegal t b s step)
is_legal t b s step =
    like (λ h. record { live = h.0; allowed = h.1.0; moves = h.1.1 }) (λ h. (h.live, (h.allowed, h.moves)))
    (both (is_live s) (both (is_allowed t b s step) (does_move s (change_of s step))))
