-- the numbers of a block at the places of the new token
use Rattle.std.proofs.Common.{◌≡◌, ℕ, suc, ◌+◌, ◌*◌, ◌≤◌, ◌<◌, List, [], ◌∷◌, ◌++◌, length, get_or, refl, sym, ◌∙◌, ap, arith, unwrap_or, slice_get}
use Rattle.std.specs.Prelude.{map, nat_lt}
use Rattle.std.proofs.lemmas.Bool.{lt-ltb}
use Rattle.std.proofs.lemmas.List.{length-append, length-map}
use Rattle.std.proofs.Math.ListN.{get_or-append}
use Rattle.cpt_task.specs.Shape.{TaskShape}
use Rattle.cpt_task.specs.Timeline.{is_in}
use Rattle.cpt_sheet.specs.declared.data.Cand.{Cand}
use Rattle.cpt_sheet.specs.declared.data.Cand.TheVariants.{Tok, Out}
use Rattle.cpt_sheet.specs.declared.data.Kind.{Kind}
use Rattle.cpt_sheet.specs.declared.data.Need.{Need}
use Rattle.cpt_sheet.specs.declared.data.Token.{Token}
use Rattle.cpt_sheet.specs.declared.data.Sheet.{Sheet}
use Rattle.cpt_sheet.specs.Live.{is_open}
use Rattle.cpt_sheet.specs.Roles.{adds_of}
use Rattle.cpt_sheet.specs.View.{kind_of, no_need, span_of, token_at}
use Rattle.cpt_layout.specs.Places.{Place, tok_lo, tok_hi, order, member, Frame, IsThere, In, extended, table, needs_at, needs_by, atom_at, adders_at, place_in}
use Rattle.cpt_layout.specs.Numbers.{needs_before, own_cells, cells_before, base, head, cell_of, cells_in}
use Rattle.cpt_layout.specs.Sheets.{need_from, number_at, seen, sheet_from}
use Rattle.cpt_layout.proofs.Growing.{before_same, cell_same, new_base}
use Rattle.cpt_layout.proofs.Laying.{new_end, new_needs}
use Rattle.cpt_layout.proofs.Lists.{length-table, get-table, get_at, if_true, if_false}
use Rattle.cpt_layout.proofs.Numbering.{cell_below, lt_no}
use Rattle.cpt_layout.proofs.Views.{token_is}
use Rattle.cpt_block.specs.Blocks.{bit, block, behind_span, flat, is_beside, list_in, nth_need, older_row, own_row, own_row_at}
use Rattle.cpt_block.proofs.Rows.{behind, flat_below, flat_length, get_flat, get_place, place_below}

-- the lists of a token of the sheet
pub lists_of : (s : Frame) (v : Place → ℕ) (x : ℕ) → x < length s.kinds → length (token_at (sheet_from s v) x).lists ≡ length (needs_at s x)
lists_of s v x l = ap (λ (z : Token). length z.lists) (token_is s v x l) ∙ length-table (need_from s v x) 0 (length (needs_at s x))

pub list_is : (s : Frame) (v : Place → ℕ) (x j : ℕ) → x < length s.kinds → j < length (needs_at s x) → list_in (sheet_from s v) x j ≡ (need_from s v x j).cands
list_is s v x j l h =
    let z : 0 + j ≡ j = omega arith in
    ap (λ (y : Token). (unwrap_or (slice_get y.lists j) no_need).cands) (token_is s v x l)
    ∙ (ap (λ (m : Need). m.cands) (get-table (need_from s v x) 0 (length (needs_at s x)) j no_need h)
    ∙ ap (λ (i : ℕ). (need_from s v x i).cands) z)

module _ (t : TaskShape) (s : Frame) (cells : List ℕ) (k : Kind) (lo hi : ℕ) (e : length cells ≡ cells_in s) where
  abbrev pub u : Frame
  u = extended s (k ∷ [])

  abbrev pub n : ℕ
  n = length s.kinds

  abbrev pub sh : Sheet
  sh = seen s cells

  abbrev pub w : Place → ℕ
  w = number_at u (cells ++ block t s sh k lo hi)

  -- where the block begins
  begins : base u n ≡ length cells
  begins = new_base s (k ∷ []) ∙ sym e

  in_block : (m i : ℕ) → m ≡ base u n + i → get_or (cells ++ block t s sh k lo hi) m 0 ≡ get_or (block t s sh k lo hi) i 0
  in_block m i h = behind cells (block t s sh k lo hi) m i (let b = begins in omega arith)

  pub old_number : (q : Place) → IsThere s q → w q ≡ number_at s cells q
  old_number q h =
      ap (λ (i : ℕ). get_or (cells ++ block t s sh k lo hi) i 0) (cell_same s (k ∷ []) q h)
      ∙ get_or-append cells (block t s sh k lo hi) 0 (cell_of s q) (let b = cell_below s q h in omega arith)

  pub lo_number : w (tok_lo n) ≡ lo
  lo_number = in_block (base u n) 0 (omega arith)

  pub hi_number : w (tok_hi n) ≡ hi
  hi_number = in_block (base u n + 1) 1 (omega arith)

  behind_number : (m i : ℕ) → m ≡ base u n + (2 + i) → get_or (cells ++ block t s sh k lo hi) m 0 ≡ get_or (behind_span t s sh k) i 0
  behind_number m i h =
      let q : 2 + i ≡ suc (suc i) = omega arith in
      in_block m (2 + i) h ∙ ap (λ (j : ℕ). get_or (block t s sh k lo hi) j 0) q

  zero_number : (m i : ℕ) → i < 2 * n → m ≡ base u n + (2 + i) → get_or (cells ++ block t s sh k lo hi) m 0 ≡ 0
  zero_number m i l h =
      let zeros : List ℕ = table (λ (j : ℕ). 0) 0 (2 * n) in
      let z : length zeros ≡ 2 * n = length-table (λ (j : ℕ). 0) 0 (2 * n) in
      behind_number m i h
      ∙ (get_or-append zeros (flat (older_row sh k) n ++ flat (own_row_at t s sh k) (length (needs_by s k))) 0 i (omega arith)
      ∙ get_at (λ (j : ℕ). 0) 0 (2 * n) i 0 l)

  pub ahead_number : (y : ℕ) → y < n → w (order y n) ≡ 0
  ahead_number y l =
      let c : cell_of u (order y n) ≡ base u n + (2 + 2 * y) = if_true (nat_lt y n) (base u n + (2 + 2 * y)) (base u y + (3 + 2 * n)) (lt-ltb y n l) in
      zero_number (cell_of u (order y n)) (2 * y) (omega arith) c

  pub after_number : (y : ℕ) → y < n → w (order n y) ≡ 0
  after_number y l =
      let c : cell_of u (order n y) ≡ base u n + (3 + 2 * y) = if_false (nat_lt n y) (base u y + (2 + 2 * n)) (base u n + (3 + 2 * y)) (lt_no n y (omega arith)) in
      let z : base u n + (3 + 2 * y) ≡ base u n + (2 + (1 + 2 * y)) = omega arith in
      zero_number (cell_of u (order n y)) (1 + 2 * y) (omega arith) (c ∙ z)

  -- behind the orders
  rows_number : (m i : ℕ) → m ≡ base u n + (2 + 2 * n + i) → get_or (cells ++ block t s sh k lo hi) m 0 ≡ get_or (flat (older_row sh k) n ++ flat (own_row_at t s sh k) (length (needs_by s k))) i 0
  rows_number m i h =
      let zeros : List ℕ = table (λ (j : ℕ). 0) 0 (2 * n) in
      let z : length zeros ≡ 2 * n = length-table (λ (j : ℕ). 0) 0 (2 * n) in
      behind_number m (2 * n + i) (omega arith)
      ∙ behind zeros (flat (older_row sh k) n ++ flat (own_row_at t s sh k) (length (needs_by s k))) (2 * n + i) i (omega arith)

  older_length : (x : ℕ) → x < n → length (older_row sh k x) ≡ length (needs_at s x)
  older_length x l = length-table (λ (j : ℕ). bit (is_beside k (list_in sh x j))) 0 (length (token_at sh x).lists) ∙ lists_of s (number_at s cells) x l

  older_before : (x : ℕ) → x ≤ n → length (flat (older_row sh k) x) ≡ needs_before s x
  older_before x l = flat_length (older_row sh k) (needs_before s) x refl (λ y b. (let q = older_length y (omega arith) in omega arith))

  pub older_number : (x j : ℕ) → x < n → j < length (needs_at s x) → w (member x j (Tok n)) ≡ bit (is_beside k (need_from s (number_at s cells) x j).cands)
  older_number x j l h =
      let own : List ℕ = flat (own_row_at t s sh k) (length (needs_by s k)) in
      let b : needs_before u x ≡ needs_before s x = before_same s (k ∷ []) x (omega arith) in
      let f : length (flat (older_row sh k) x) ≡ needs_before s x = older_before x (omega arith) in
      let c : cell_of u (member x j (Tok n)) ≡ base u n + (2 + 2 * n + (needs_before u x + j)) = if_false (nat_lt n x) (head u x j + (2 + n)) (base u n + (2 + 2 * n + (needs_before u x + j))) (lt_no n x (omega arith)) in
      let g = older_length x l in
      let q = flat_below (older_row sh k) x n j l (omega arith) in
      let z : 0 + j ≡ j = omega arith in
      let d : base u n + (2 + 2 * n + (needs_before u x + j)) ≡ base u n + (2 + 2 * n + (length (flat (older_row sh k) x) + j)) = omega arith in
      rows_number (cell_of u (member x j (Tok n))) (length (flat (older_row sh k) x) + j) (c ∙ d)
      ∙ (get_or-append (flat (older_row sh k) n) own 0 (length (flat (older_row sh k) x) + j) q
      ∙ (get_flat (older_row sh k) n x j l (omega arith)
      ∙ (get_at (λ (i : ℕ). bit (is_beside k (list_in sh x i))) 0 (length (token_at sh x).lists) j 0 (let o = lists_of s (number_at s cells) x l in omega arith)
      ∙ (ap (λ (i : ℕ). bit (is_beside k (list_in sh x i))) z ∙ ap (λ (cs : List Cand). bit (is_beside k cs)) (list_is s (number_at s cells) x j l h)))))

  abbrev tokens_row : ℕ → List ℕ
  tokens_row p = table (λ (y : ℕ). bit (is_in p (adds_of t (kind_of sh (Tok y))))) 0 n

  abbrev outs_row : ℕ → List ℕ
  outs_row p = map (λ (a : ℕ). bit (is_open (span_of sh (Out a)))) (adders_at s p)

  own_length : (p : ℕ) → length (own_row t sh n (adders_at s p) p) ≡ 2 + n + length (adders_at s p)
  own_length p =
      let a : length (tokens_row p ++ outs_row p) ≡ length (tokens_row p) + length (outs_row p) = length-append (tokens_row p) (outs_row p) in
      let b : length (tokens_row p) ≡ n = length-table (λ (y : ℕ). bit (is_in p (adds_of t (kind_of sh (Tok y))))) 0 n in
      let c : length (outs_row p) ≡ length (adders_at s p) = length-map (adders_at s p) (λ (i : ℕ). bit (is_open (span_of sh (Out i)))) in
      omega arith

  pub own_before : (j : ℕ) → length (flat (own_row_at t s sh k) j) ≡ own_cells s.adders n (needs_by s k) j
  own_before j = flat_length (own_row_at t s sh k) (own_cells s.adders n (needs_by s k)) j refl (λ i b. (let q = own_length (nth_need s k i) in omega arith))

  -- in the row of a need of the new token
  own_number : (m j i : ℕ) → j < length (needs_by s k) → i < n + length (adders_at s (nth_need s k j)) → m ≡ head u n j + (2 + i) →
      get_or (cells ++ block t s sh k lo hi) m 0 ≡ get_or (tokens_row (nth_need s k j) ++ outs_row (nth_need s k j)) i 0
  own_number m j i l h c =
      let older : List ℕ = flat (older_row sh k) n in
      let b : needs_before u n ≡ needs_before s n = before_same s (k ∷ []) n (omega arith) in
      let f : length older ≡ needs_before s n = older_before n (omega arith) in
      let o : cells_before u n j ≡ own_cells s.adders n (needs_by s k) j = ap (λ (ns : List ℕ). own_cells s.adders n ns j) (new_needs s k) in
      let d : length (flat (own_row_at t s sh k) j) ≡ own_cells s.adders n (needs_by s k) j = own_before j in
      let g = own_length (nth_need s k j) in
      let r : ℕ = length (flat (own_row_at t s sh k) j) + (2 + i) in
      let hd : head u n j ≡ base u n + (2 + 2 * n + needs_before u n + cells_before u n j) = refl in
      let q : 2 + i ≡ suc (suc i) = omega arith in
      let at : m ≡ base u n + (2 + 2 * n + (length older + r)) = omega arith in
      rows_number m (length older + r) at
      ∙ (behind older (flat (own_row_at t s sh k) (length (needs_by s k))) (length older + r) r refl
      ∙ (get_flat (own_row_at t s sh k) (length (needs_by s k)) j (2 + i) l (omega arith)
      ∙ ap (λ (y : ℕ). get_or (own_row_at t s sh k j) y 0) q))

  pub token_number : (j y : ℕ) → j < length (needs_by s k) → y < n → w (member n j (Tok y)) ≡ bit (is_in (nth_need s k j) (adds_of t (kind_of sh (Tok y))))
  token_number j y l h =
      let p : ℕ = nth_need s k j in
      let c : cell_of u (member n j (Tok y)) ≡ head u n j + (2 + y) = if_true (nat_lt y n) (head u n j + (2 + y)) (base u y + (2 + 2 * y + (needs_before u n + j))) (lt-ltb y n h) in
      let b : length (tokens_row p) ≡ n = length-table (λ (i : ℕ). bit (is_in p (adds_of t (kind_of sh (Tok i))))) 0 n in
      let z : 0 + y ≡ y = omega arith in
      own_number (cell_of u (member n j (Tok y))) j y l (omega arith) c
      ∙ (get_or-append (tokens_row p) (outs_row p) 0 y (omega arith)
      ∙ (get_at (λ (i : ℕ). bit (is_in p (adds_of t (kind_of sh (Tok i))))) 0 n y 0 h ∙ ap (λ (i : ℕ). bit (is_in p (adds_of t (kind_of sh (Tok i))))) z))

  pub out_number : (j a : ℕ) → j < length (needs_by s k) → In a (adders_at s (nth_need s k j)) → w (member n j (Out a)) ≡ bit (is_open (span_of sh (Out a)))
  out_number j a l h =
      let p : ℕ = nth_need s k j in
      let at : atom_at u n j ≡ p = ap (λ (ns : List ℕ). get_or ns j 0) (new_needs s k) in
      let i : ℕ = place_in a (adders_at s p) in
      let c : cell_of u (member n j (Out a)) ≡ head u n j + (2 + n + i) = ap (λ (q : ℕ). head u n j + (2 + n + place_in a (adders_at s q))) at in
      let b : length (tokens_row p) ≡ n = length-table (λ (y : ℕ). bit (is_in p (adds_of t (kind_of sh (Tok y))))) 0 n in
      let f = place_below a (adders_at s p) h in
      let z : head u n j + (2 + n + i) ≡ head u n j + (2 + (n + i)) = omega arith in
      own_number (cell_of u (member n j (Out a))) j (n + i) l (omega arith) (c ∙ z)
      ∙ (behind (tokens_row p) (outs_row p) (n + i) i (omega arith)
      ∙ get_place (λ (y : ℕ). bit (is_open (span_of sh (Out y)))) a (adders_at s p) h)

  -- how many cells the block has
  pub block_length : length (block t s sh k lo hi) + cells_in s ≡ cells_in u
  block_length =
      let zeros : List ℕ = table (λ (j : ℕ). 0) 0 (2 * n) in
      let older : List ℕ = flat (older_row sh k) n in
      let own : List ℕ = flat (own_row_at t s sh k) (length (needs_by s k)) in
      let a : length (zeros ++ (older ++ own)) ≡ length zeros + length (older ++ own) = length-append zeros (older ++ own) in
      let b : length (older ++ own) ≡ length older + length own = length-append older own in
      let c : length zeros ≡ 2 * n = length-table (λ (j : ℕ). 0) 0 (2 * n) in
      let d : length older ≡ needs_before s n = older_before n (omega arith) in
      let f : length own ≡ own_cells s.adders n (needs_by s k) (length (needs_by s k)) = own_before (length (needs_by s k)) in
      let g = new_end s k in
      omega arith
