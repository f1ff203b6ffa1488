-- how a sheet changes with one number
use Rattle.std.proofs.Common.{◌≡◌, ◌≢◌, ℕ, suc, zero, ◌+◌, ◌≤◌, ◌<◌, ◌==◌, List, Bool, true, false, length, set, refl, ◌∙◌, ap, arith, inl, inr}
use Rattle.std.specs.Prelude.{not, ◌&&◌}
use Rattle.std.proofs.lemmas.Bool.{eqb-false}
use Rattle.cpt_sheet.specs.declared.data.Cand.{Cand}
use Rattle.cpt_sheet.specs.declared.data.Cand.TheVariants.{Tok, Out}
use Rattle.cpt_sheet.specs.declared.data.Interval.{Interval}
use Rattle.cpt_sheet.specs.declared.data.Need.{Need}
use Rattle.cpt_sheet.specs.declared.data.Token.{Token}
use Rattle.cpt_sheet.specs.declared.data.Sheet.{Sheet}
use Rattle.cpt_sheet.specs.View.{no_token, no_span, token_at, span_of}
use Rattle.cpt_layout.specs.Places.{Place, out_lo, out_hi, tok_lo, tok_hi, order, member, Frame, IsThere, table, kind_at, needs_at, atom_at, all_cands, all_pairs, In}
use Rattle.cpt_layout.specs.Sheets.{span_from, is_cand, is_order, out_from, need_from, token_from, orders_from, sheet_from}
use Rattle.cpt_layout.proofs.Lists.{length-table, get-table, table_same, table_set, in_table, in_append, kept_same}

-- what is read of a token for its lists
pub record IsSameLists (s : Frame) (v w : Place → ℕ) (x : ℕ) : Type 0 where
  pub same : (j : ℕ) (c : Cand) → IsThere s (member x j c) → w (member x j c) ≡ v (member x j c)

pub not_self : (b : Bool) (m n : ℕ) → (b ≡ false → m ≡ n) → (not b && (m == 1)) ≡ (not b && (n == 1))
not_self true m n h = refl
not_self false m n h = ap (λ (i : ℕ). i == 1) (h refl)

pub cand_same : (s : Frame) (v w : Place → ℕ) (x p : ℕ) (c : Cand) → (c ≢ Tok x → w (member x p c) ≡ v (member x p c)) → is_cand w x p c ≡ is_cand v x p c
cand_same s v w x p (Tok y) h = not_self (y == x) (w (member x p (Tok y))) (v (member x p (Tok y))) (λ f. h (λ e. (let k : y ≡ x = cc in absurd (eqb-false y x f k))))
cand_same s v w x p (Out a) h = ap (λ (i : ℕ). i == 1) (h (λ e. cc))

pub need_same : (s : Frame) (v w : Place → ℕ) (x j : ℕ) → ((c : Cand) → In c (all_cands s (atom_at s x j)) → c ≢ Tok x → w (member x j c) ≡ v (member x j c)) → need_from s w x j ≡ need_from s v x j
need_same s v w x j h =
    let made : List Cand → Need = λ cs. record { atom = atom_at s x j; cands = cs } in
    ap made (kept_same (is_cand v x j) (is_cand w x j) (all_cands s (atom_at s x j)) (λ c r. cand_same s v w x j c (h c r)))

pub needs_same : (s : Frame) (v w : Place → ℕ) (x : ℕ) → x < length s.kinds → IsSameLists s v w x → table (need_from s w x) 0 (length (needs_at s x)) ≡ table (need_from s v x) 0 (length (needs_at s x))
needs_same s v w x l h = table_same (need_from s v x) (need_from s w x) 0 (length (needs_at s x)) (λ j a b. need_same s v w x j (λ c r d. h.same j c (l, (let k : j < length (needs_at s x) = omega arith in k), r, d)))

pub token_same : (s : Frame) (v w : Place → ℕ) (x : ℕ) → x < length s.kinds → w (tok_lo x) ≡ v (tok_lo x) → w (tok_hi x) ≡ v (tok_hi x) → IsSameLists s v w x → token_from s w x ≡ token_from s v x
token_same s v w x l a b h =
    let made : ℕ → ℕ → List Need → Token = λ m n ns. record { kind = kind_at s x; span = record { lo = span_from m; hi = n }; lists = ns } in
    ap (λ (m : ℕ). made m (w (tok_hi x)) (token_from s w x).lists) a ∙ (ap (λ (n : ℕ). made (v (tok_lo x)) n (token_from s w x).lists) b ∙ ap (λ (ns : List Need). made (v (tok_lo x)) (v (tok_hi x)) ns) (needs_same s v w x l h))

pub in_pairs : (k i n : ℕ) (o : ℕ × ℕ) → In o (all_pairs k i n) → (i ≤ o.0) × (o.0 < i + n) × (o.1 < k)
in_pairs k i zero o h = absurd h
in_pairs k i (suc n) o h =
    elim (in_append o (table (λ y. (i, y)) 0 k) (all_pairs k (suc i) n) h) [
      | inl r ↦
          let t = in_table (λ (y : ℕ). (i, y)) 0 k o r in
          let a : i ≡ o.0 = ap (λ (z : ℕ × ℕ). z.0) t.3 in
          let b : t.0 ≡ o.1 = ap (λ (z : ℕ × ℕ). z.1) t.3 in
          let d = t.2 in
          (omega arith, omega arith, omega arith)
      | inr r ↦ (let t = in_pairs k (suc i) n o r in let a = t.0 in let b = t.1 in (omega arith, omega arith, t.2))
    ]

pub orders_same : (s : Frame) (v w : Place → ℕ) → ((x y : ℕ) → IsThere s (order x y) → w (order x y) ≡ v (order x y)) → orders_from w (length s.kinds) ≡ orders_from v (length s.kinds)
orders_same s v w h =
    kept_same (is_order v) (is_order w) (all_pairs (length s.kinds) 0 (length s.kinds)) (λ o r.
    (let t = in_pairs (length s.kinds) 0 (length s.kinds) o r in
    not_self (o.0 == o.1) (w (order o.0 o.1)) (v (order o.0 o.1)) (λ f. h o.0 o.1 ((let b = t.1 in omega arith), t.2, eqb-false o.0 o.1 f))))

pub outs_same : (s : Frame) (v w : Place → ℕ) → ((a : ℕ) → a < length s.pre → w (out_lo a) ≡ v (out_lo a)) → ((a : ℕ) → a < length s.pre → w (out_hi a) ≡ v (out_hi a)) →
    table (out_from w) 0 (length s.pre) ≡ table (out_from v) 0 (length s.pre)
outs_same s v w h k =
    let made : ℕ → ℕ → Interval = λ m n. record { lo = span_from m; hi = n } in
    table_same (out_from v) (out_from w) 0 (length s.pre) (λ a i j. (let l : a < length s.pre = omega arith in ap (λ (m : ℕ). made m (w (out_hi a))) (h a l) ∙ ap (λ (n : ℕ). made (v (out_lo a)) n) (k a l)))

-- the token of a number
pub token_is : (s : Frame) (v : Place → ℕ) (x : ℕ) → x < length s.kinds → token_at (sheet_from s v) x ≡ token_from s v x
token_is s v x l = get-table (token_from s v) 0 (length s.kinds) x no_token l ∙ ap (λ (i : ℕ). token_from s v i) (let e : 0 + x ≡ x = omega arith in e)

pub out_is : (s : Frame) (v : Place → ℕ) (a : ℕ) → a < length s.pre → span_of (sheet_from s v) (Out a) ≡ out_from v a
out_is s v a l = get-table (out_from v) 0 (length s.pre) a no_span l ∙ ap (λ (i : ℕ). out_from v i) (let e : 0 + a ≡ a = omega arith in e)

abbrev pub sheet_of_parts : Frame → List Token → List Interval → List (ℕ × ℕ) → Sheet
sheet_of_parts s ts is os = record { bound = s.bound; tokens = ts; outs = is; orders = os }

-- one token more or less the same: the sheet with another token
pub other_token : (s : Frame) (v w : Place → ℕ) (x : ℕ) (t : Token) → x < length s.kinds → token_from s w x ≡ t →
    ((k : ℕ) → k < length s.kinds → k ≢ x → token_from s w k ≡ token_from s v k) →
    table (out_from w) 0 (length s.pre) ≡ table (out_from v) 0 (length s.pre) →
    orders_from w (length s.kinds) ≡ orders_from v (length s.kinds) →
    sheet_from s w ≡ record (sheet_from s v) { tokens = set (sheet_from s v).tokens x t }
other_token s v w x t l e h i o =
    let ts : table (token_from s w) 0 (length s.kinds) ≡ set (table (token_from s v) 0 (length s.kinds)) x (token_from s w (0 + x)) =
    table_set (token_from s v) (token_from s w) 0 (length s.kinds) x l (λ k a b d. h k (omega arith) (λ q. d (omega arith))) in
    let z : 0 + x ≡ x = omega arith in
    ap (λ (us : List Token). sheet_of_parts s us (table (out_from w) 0 (length s.pre)) (orders_from w (length s.kinds))) ts
    ∙ (ap (λ (j : ℕ). sheet_of_parts s (set (sheet_from s v).tokens x (token_from s w j)) (table (out_from w) 0 (length s.pre)) (orders_from w (length s.kinds))) z
    ∙ (ap (λ (u : Token). sheet_of_parts s (set (sheet_from s v).tokens x u) (table (out_from w) 0 (length s.pre)) (orders_from w (length s.kinds))) e
    ∙ (ap (λ (us : List Interval). sheet_of_parts s (set (sheet_from s v).tokens x t) us (orders_from w (length s.kinds))) i
    ∙ ap (λ (us : List (ℕ × ℕ)). sheet_of_parts s (set (sheet_from s v).tokens x t) (sheet_from s v).outs us) o)))

-- how many tokens and outside actions there are
pub tokens_are : (s : Frame) (v : Place → ℕ) → length (sheet_from s v).tokens ≡ length s.kinds
tokens_are s v = length-table (token_from s v) 0 (length s.kinds)

pub outs_are : (s : Frame) (v : Place → ℕ) → length (sheet_from s v).outs ≡ length s.pre
outs_are s v = length-table (out_from v) 0 (length s.pre)
