-- a candidate less, and an order more
use Rattle.std.proofs.Common.{◌≡◌, ◌≢◌, ℕ, ◌+◌, ◌<◌, ◌==◌, List, Bool, true, false, if◌then◌else◌, length, set, refl, sym, ◌∙◌, ap, arith, inl, inr}
use Rattle.std.specs.Prelude.{not, ◌&&◌}
use Rattle.std.proofs.lemmas.Bool.{eqb-true, eqb-false}
use Rattle.cpt_sheet.specs.declared.data.Cand.{Cand}
use Rattle.cpt_sheet.specs.declared.data.Cand.TheVariants.{Tok, Out}
use Rattle.cpt_sheet.specs.declared.data.Change.TheVariants.{Take, Post}
use Rattle.cpt_sheet.specs.declared.data.Interval.{Interval}
use Rattle.cpt_sheet.specs.declared.data.Need.{Need}
use Rattle.cpt_sheet.specs.declared.data.Token.{Token}
use Rattle.cpt_sheet.specs.Edits.{changed, without, revised, with_order}
use Rattle.cpt_sheet.specs.View.{no_need, before}
use Rattle.cpt_calculus.proofs.Takes.{revised_at}
use Rattle.cpt_layout.specs.Places.{Place, out_lo, out_hi, tok_lo, tok_hi, order, member, Frame, table, kept, kind_at, needs_at, atom_at, all_cands, all_pairs, In}
use Rattle.cpt_layout.specs.Sheets.{span_from, is_cand, is_order, need_from, token_from, orders_from, sheet_from, IsPutAt}
use Rattle.cpt_layout.specs.Puts.{IsNeedAt}
use Rattle.cpt_layout.proofs.Lists.{either, length-table, get-table, table_set, get_at}
use Rattle.cpt_layout.proofs.Cands.{no_twice, kept_drop}
use Rattle.cpt_layout.proofs.Posts.{rising_pairs, pair_in, kept_post}
use Rattle.cpt_layout.proofs.Views.{in_pairs, not_self, need_same, token_same, orders_same, outs_same, token_is, other_token, cand_same, sheet_of_parts}
use Rattle.cpt_layout.proofs.Changes.{tokens_same}
use Rattle.cpt_layout.proofs.Reading.{before_is}

-- the list of a token without a candidate
pub take_lists : (s : Frame) (v w : Place → ℕ) (x p j : ℕ) (c : Cand) → x < length s.kinds → IsNeedAt s x p j → is_cand v x j c ≡ true → IsPutAt s v w (member x j c) 0 → is_cand w x j c ≡ false →
    (token_from s w x).lists ≡ revised p (without c) (token_from s v x).lists
take_lists s v w x p j c l n t h u =
    let m : ℕ = length (needs_at s x) in
    let a : Need = need_from s v x j in
    let z : 0 + j ≡ j = omega arith in
    let cs : kept (is_cand w x j) (all_cands s (atom_at s x j)) ≡ without c a.cands =
    kept_drop (is_cand v x j) (is_cand w x j) c (all_cands s (atom_at s x j)) (no_twice s (atom_at s x j) n.adders) t u
    (λ d r q. cand_same s v w x j d (λ y. h.others (member x j d) (l, n.within, r, y) (λ e. (let f : d ≡ c = cc in q f)))) in
    let ts : table (need_from s w x) 0 m ≡ set (table (need_from s v x) 0 m) j (need_from s w x (0 + j)) =
    table_set (need_from s v x) (need_from s w x) 0 m j n.within (λ k b d e. need_same s v w x k (λ f r y. h.others (member x k f) (l, (let o : k < m = omega arith in o), r, y) (λ g. (let o : k ≡ j = cc in e (omega arith))))) in
    ts ∙ (ap (λ (i : ℕ). set (table (need_from s v x) 0 m) j (need_from s w x i)) z
    ∙ revised_at p (without c) (table (need_from s v x) 0 m) j a (need_from s w x j).cands
    (omega (arith, length-table (need_from s v x) 0 m, n.within))
    (λ k r. (let k' : k < m = (let b = n.within in omega arith) in ap (λ (b : Need). b.atom == p) (get-table (need_from s v x) 0 m k no_need k' ∙ ap (λ (i : ℕ). need_from s v x i) (let e : 0 + k ≡ k = omega arith in e)) ∙ n.none_before k r))
    (sym (get_at (need_from s v x) 0 m j a n.within ∙ ap (λ (i : ℕ). need_from s v x i) z))
    (ap (λ (b : Need). b.atom == p) (get-table (need_from s v x) 0 m j no_need n.within ∙ ap (λ (i : ℕ). need_from s v x i) z) ∙ n.here)
    cs)

is_gone : (w : Place → ℕ) (x j : ℕ) (c : Cand) → w (member x j c) ≡ 0 → is_cand w x j c ≡ false
is_gone w x j (Tok y) h = ap (λ (n : ℕ). not (y == x) && (n == 1)) h ∙ none (not (y == x))
  where
    none : (b : Bool) → (b && false) ≡ false
    none true = refl
    none false = refl
is_gone w x j (Out a) h = ap (λ (n : ℕ). n == 1) h

pub take_cand : (s : Frame) (v w : Place → ℕ) (x p j : ℕ) (c : Cand) → x < length s.kinds → IsNeedAt s x p j → is_cand v x j c ≡ true → IsPutAt s v w (member x j c) 0 → sheet_from s w ≡ changed (sheet_from s v) (Take x p c)
take_cand s v w x p j c l n t h =
    let made : ℕ → ℕ → List Need → Token = λ a b ns. record { kind = kind_at s x; span = record { lo = span_from a; hi = b }; lists = ns } in
    let u : Token = record (token_from s v x) { lists = revised p (without c) (token_from s v x).lists } in
    let e : token_from s w x ≡ u =
    ap (λ (a : ℕ). made a (w (tok_hi x)) (token_from s w x).lists) (h.others (tok_lo x) l (λ q. cc))
    ∙ (ap (λ (b : ℕ). made (v (tok_lo x)) b (token_from s w x).lists) (h.others (tok_hi x) l (λ q. cc))
    ∙ ap (λ (ns : List Need). made (v (tok_lo x)) (v (tok_hi x)) ns) (take_lists s v w x p j c l n t h (is_gone w x j c h.here))) in
    other_token s v w x u l e
    (λ k r d. token_same s v w k r (h.others (tok_lo k) r (λ q. cc)) (h.others (tok_hi k) r (λ q. cc)) (record { same = λ i b y. h.others (member k i b) y (λ q. (let z : k ≡ x = cc in d z)) }))
    (outs_same s v w (λ a r. h.others (out_lo a) r (λ q. cc)) (λ a r. h.others (out_hi a) r (λ q. cc)))
    (orders_same s v w (λ a b r. h.others (order a b) r (λ q. cc)))
    ∙ ap (λ (z : Token). record (sheet_from s v) { tokens = set (sheet_from s v).tokens x (record z { lists = revised p (without c) z.lists }) }) (sym (token_is s v x l))

-- an order more
pub not_eq : (a b : ℕ) → a ≢ b → (a == b) ≡ false
not_eq a b e = elim (either (a == b)) [ inl t ↦ absurd (e (eqb-true a b t)) | inr z ↦ z ]

pub post_order : (s : Frame) (v w : Place → ℕ) (x y : ℕ) → x < length s.kinds → y < length s.kinds → x ≢ y → before (sheet_from s v) x y ≡ false → IsPutAt s v w (order x y) 1 → sheet_from s w ≡ changed (sheet_from s v) (Post x y)
post_order s v w x y l m d f h =
    let k : ℕ = length s.kinds in
    let xy : ℕ × ℕ = (x, y) in
    let n : is_order v xy ≡ false = sym (before_is s v x y l m) ∙ f in
    let on : is_order w xy ≡ true = ap (λ (i : ℕ). not (x == y) && (i == 1)) h.here ∙ ap (λ (b : Bool). not b && true) (not_eq x y d) in
    let others : (o : ℕ × ℕ) → In o (all_pairs k 0 k) → o ≢ xy → is_order w o ≡ is_order v o =
    λ o i q. (let t = in_pairs k 0 k o i in
    not_self (o.0 == o.1) (w (order o.0 o.1)) (v (order o.0 o.1)) (λ g. h.others (order o.0 o.1) ((let b = t.1 in omega arith), t.2, eqb-false o.0 o.1 g)
    (λ e. (let a : o.0 ≡ x = cc in let b : o.1 ≡ y = cc in let p : (i j : ℕ) → ℕ × ℕ = λ i j. (i, j) in let z : o ≡ xy = ap (λ (i : ℕ). p i o.1) a ∙ ap (λ (j : ℕ). p x j) b in q z)))) in
    let os : orders_from w k ≡ with_order x y (orders_from v k) =
    kept_post (is_order v) (is_order w) x y (all_pairs k 0 k) (rising_pairs k 0 k) (pair_in k 0 k x y (omega arith) (omega arith) m) n on others in
    ap (λ (ts : List Token). sheet_of_parts s ts (sheet_from s w).outs (orders_from w k))
    (tokens_same s v w (λ k r. token_same s v w k r (h.others (tok_lo k) r (λ q. cc)) (h.others (tok_hi k) r (λ q. cc)) (record { same = λ i b y. h.others (member k i b) y (λ q. cc) })))
    ∙ (ap (λ (is : List Interval). sheet_of_parts s (sheet_from s v).tokens is (orders_from w k)) (outs_same s v w (λ a r. h.others (out_lo a) r (λ q. cc)) (λ a r. h.others (out_hi a) r (λ q. cc)))
    ∙ (ap (λ (ps : List (ℕ × ℕ)). sheet_of_parts s (sheet_from s v).tokens (sheet_from s v).outs ps) os
    ∙ sym (ap (λ (b : Bool). sheet_of_parts s (sheet_from s v).tokens (sheet_from s v).outs (if b then orders_from v k else with_order x y (orders_from v k))) f)))
