-- one number more or less: the four changes of a sheet
use Rattle.std.proofs.Common.{◌≡◌, ◌≢◌, ℕ, ◌+◌, ◌<◌, List, length, set, sym, ◌∙◌, ap, arith}
use Rattle.cpt_task.specs.declared.span.Span.{Span}
use Rattle.cpt_sheet.specs.declared.data.Cand.TheVariants.{Tok, Out}
use Rattle.cpt_sheet.specs.declared.data.Change.TheVariants.{Raise, Lower}
use Rattle.cpt_sheet.specs.declared.data.Interval.{Interval}
use Rattle.cpt_sheet.specs.declared.data.Need.{Need}
use Rattle.cpt_sheet.specs.declared.data.Token.{Token}
use Rattle.cpt_sheet.specs.Edits.{changed, moment_or}
use Rattle.cpt_layout.specs.Places.{Place, out_lo, out_hi, tok_lo, tok_hi, order, member, Frame, table, kind_at}
use Rattle.cpt_layout.specs.Sheets.{span_from, out_from, token_from, orders_from, sheet_from, IsPutAt}
use Rattle.cpt_layout.proofs.Lists.{table_same, table_set}
use Rattle.cpt_layout.proofs.Views.{IsSameLists, needs_same, token_same, orders_same, outs_same, token_is, out_is, other_token, sheet_of_parts}

-- the lo of a token
pub raise_token : (s : Frame) (v w : Place → ℕ) (x n : ℕ) (to : Span) → x < length s.kinds → span_from n ≡ to → IsPutAt s v w (tok_lo x) n → sheet_from s w ≡ changed (sheet_from s v) (Raise (Tok x) to)
raise_token s v w x n to l m h =
    let same : (k : ℕ) → IsSameLists s v w k = λ k. record { same = λ j c t. h.others (member k j c) t (λ e. cc) } in
    let made : Span → ℕ → List Need → Token = λ a b ns. record { kind = kind_at s x; span = record { lo = a; hi = b }; lists = ns } in
    let t : Token = record (token_from s v x) { span = record (token_from s v x).span { lo = to } } in
    let e : token_from s w x ≡ t =
    ap (λ (a : Span). made a (w (tok_hi x)) (token_from s w x).lists) (ap (λ (n : ℕ). span_from n) h.here ∙ m)
    ∙ (ap (λ (n : ℕ). made to n (token_from s w x).lists) (h.others (tok_hi x) l (λ d. cc))
    ∙ ap (λ (ns : List Need). made to (v (tok_hi x)) ns) (needs_same s v w x l (same x))) in
    other_token s v w x t l e
    (λ k r d. token_same s v w k r (h.others (tok_lo k) r (λ q. (let z : k ≡ x = cc in d z))) (h.others (tok_hi k) r (λ q. cc)) (same k))
    (outs_same s v w (λ a r. h.others (out_lo a) r (λ q. cc)) (λ a r. h.others (out_hi a) r (λ q. cc)))
    (orders_same s v w (λ a b r. h.others (order a b) r (λ q. cc)))
    ∙ ap (λ (u : Token). record (sheet_from s v) { tokens = set (sheet_from s v).tokens x (record u { span = record u.span { lo = to } }) }) (sym (token_is s v x l))

-- the hi of a token
pub lower_token : (s : Frame) (v w : Place → ℕ) (x : ℕ) (to : Span) → x < length s.kinds → IsPutAt s v w (tok_hi x) (moment_or to (v (tok_hi x))) → sheet_from s w ≡ changed (sheet_from s v) (Lower (Tok x) to)
lower_token s v w x to l h =
    let same : (k : ℕ) → IsSameLists s v w k = λ k. record { same = λ j c t. h.others (member k j c) t (λ e. cc) } in
    let n : ℕ = moment_or to (v (tok_hi x)) in
    let made : ℕ → ℕ → List Need → Token = λ a b ns. record { kind = kind_at s x; span = record { lo = span_from a; hi = b }; lists = ns } in
    let t : Token = record (token_from s v x) { span = record (token_from s v x).span { hi = n } } in
    let e : token_from s w x ≡ t =
    ap (λ (a : ℕ). made a (w (tok_hi x)) (token_from s w x).lists) (h.others (tok_lo x) l (λ d. cc))
    ∙ (ap (λ (b : ℕ). made (v (tok_lo x)) b (token_from s w x).lists) h.here
    ∙ ap (λ (ns : List Need). made (v (tok_lo x)) n ns) (needs_same s v w x l (same x))) in
    other_token s v w x t l e
    (λ k r d. token_same s v w k r (h.others (tok_lo k) r (λ q. cc)) (h.others (tok_hi k) r (λ q. (let z : k ≡ x = cc in d z))) (same k))
    (outs_same s v w (λ a r. h.others (out_lo a) r (λ q. cc)) (λ a r. h.others (out_hi a) r (λ q. cc)))
    (orders_same s v w (λ a b r. h.others (order a b) r (λ q. cc)))
    ∙ ap (λ (u : Token). record (sheet_from s v) { tokens = set (sheet_from s v).tokens x (record u { span = record u.span { hi = moment_or to u.span.hi } }) }) (sym (token_is s v x l))

pub tokens_same : (s : Frame) (v w : Place → ℕ) → ((k : ℕ) → k < length s.kinds → token_from s w k ≡ token_from s v k) → (sheet_from s w).tokens ≡ (sheet_from s v).tokens
tokens_same s v w h = table_same (token_from s v) (token_from s w) 0 (length s.kinds) (λ k a b. h k (let l : k < length s.kinds = omega arith in l))

-- the lo and the hi of an outside action
other_out : (s : Frame) (v w : Place → ℕ) (a : ℕ) (i : Interval) → a < length s.pre → out_from w a ≡ i →
    ((k : ℕ) → k < length s.pre → k ≢ a → out_from w k ≡ out_from v k) →
    (sheet_from s w).tokens ≡ (sheet_from s v).tokens → orders_from w (length s.kinds) ≡ orders_from v (length s.kinds) →
    sheet_from s w ≡ record (sheet_from s v) { outs = set (sheet_from s v).outs a i }
other_out s v w a i l e h t o =
    let ts : table (out_from w) 0 (length s.pre) ≡ set (table (out_from v) 0 (length s.pre)) a (out_from w (0 + a)) =
    table_set (out_from v) (out_from w) 0 (length s.pre) a l (λ k b c d. h k (omega arith) (λ q. d (omega arith))) in
    let z : 0 + a ≡ a = omega arith in
    ap (λ (us : List Token). sheet_of_parts s us (sheet_from s w).outs (orders_from w (length s.kinds))) t
    ∙ (ap (λ (us : List Interval). sheet_of_parts s (sheet_from s v).tokens us (orders_from w (length s.kinds))) ts
    ∙ (ap (λ (j : ℕ). sheet_of_parts s (sheet_from s v).tokens (set (sheet_from s v).outs a (out_from w j)) (orders_from w (length s.kinds))) z
    ∙ (ap (λ (u : Interval). sheet_of_parts s (sheet_from s v).tokens (set (sheet_from s v).outs a u) (orders_from w (length s.kinds))) e
    ∙ ap (λ (us : List (ℕ × ℕ)). sheet_of_parts s (sheet_from s v).tokens (set (sheet_from s v).outs a i) us) o)))

pub raise_out : (s : Frame) (v w : Place → ℕ) (a n : ℕ) (to : Span) → a < length s.pre → span_from n ≡ to → IsPutAt s v w (out_lo a) n → sheet_from s w ≡ changed (sheet_from s v) (Raise (Out a) to)
raise_out s v w a n to l m h =
    let made : Span → ℕ → Interval = λ i n. record { lo = i; hi = n } in
    let many : ℕ → ℕ → Interval = λ i n. record { lo = span_from i; hi = n } in
    let i : Interval = record (out_from v a) { lo = to } in
    let e : out_from w a ≡ i = ap (λ (n : Span). made n (w (out_hi a))) (ap (λ (n : ℕ). span_from n) h.here ∙ m) ∙ ap (λ (n : ℕ). made to n) (h.others (out_hi a) l (λ d. cc)) in
    other_out s v w a i l e
    (λ k r d. ap (λ (n : ℕ). many n (w (out_hi k))) (h.others (out_lo k) r (λ q. (let z : k ≡ a = cc in d z))) ∙ ap (λ (n : ℕ). many (v (out_lo k)) n) (h.others (out_hi k) r (λ q. cc)))
    (tokens_same s v w (λ k r. token_same s v w k r (h.others (tok_lo k) r (λ q. cc)) (h.others (tok_hi k) r (λ q. cc)) (record { same = λ j c t. h.others (member k j c) t (λ q. cc) })))
    (orders_same s v w (λ x y r. h.others (order x y) r (λ q. cc)))
    ∙ ap (λ (u : Interval). record (sheet_from s v) { outs = set (sheet_from s v).outs a (record u { lo = to }) }) (sym (out_is s v a l))

pub lower_out : (s : Frame) (v w : Place → ℕ) (a : ℕ) (to : Span) → a < length s.pre → IsPutAt s v w (out_hi a) (moment_or to (v (out_hi a))) → sheet_from s w ≡ changed (sheet_from s v) (Lower (Out a) to)
lower_out s v w a to l h =
    let many : ℕ → ℕ → Interval = λ i n. record { lo = span_from i; hi = n } in
    let n : ℕ = moment_or to (v (out_hi a)) in
    let i : Interval = record (out_from v a) { hi = n } in
    let e : out_from w a ≡ i = ap (λ (n : ℕ). many n (w (out_hi a))) (h.others (out_lo a) l (λ d. cc)) ∙ ap (λ (n : ℕ). many (v (out_lo a)) n) h.here in
    other_out s v w a i l e
    (λ k r d. ap (λ (n : ℕ). many n (w (out_hi k))) (h.others (out_lo k) r (λ q. cc)) ∙ ap (λ (n : ℕ). many (v (out_lo k)) n) (h.others (out_hi k) r (λ q. (let z : k ≡ a = cc in d z))))
    (tokens_same s v w (λ k r. token_same s v w k r (h.others (tok_lo k) r (λ q. cc)) (h.others (tok_hi k) r (λ q. cc)) (record { same = λ j c t. h.others (member k j c) t (λ q. cc) })))
    (orders_same s v w (λ x y r. h.others (order x y) r (λ q. cc)))
    ∙ ap (λ (u : Interval). record (sheet_from s v) { outs = set (sheet_from s v).outs a (record u { hi = moment_or to u.hi }) }) (sym (out_is s v a l))
