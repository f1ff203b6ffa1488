-- the root in cells
use Rattle.std.proofs.Common.{◌≡◌, ◌==◌, ℕ, suc, zero, ◌+◌, ◌*◌, ◌<◌, ◌^◌, List, [], ◌∷◌, ◌++◌, Bool, true, false, if◌then◌else◌, length, get_or, refl, sym, ◌∙◌, ap, subst, arith}
use Rattle.std.specs.Prelude.{map, nat_le, ◌-◌, ◌&&◌}
use Rattle.std.proofs.lemmas.List.{length-append, get_or-append-add}
use Rattle.std.proofs.Math.ListN.{get_or-append}
use Rattle.cpt_task.specs.declared.span.Span.{Span}
use Rattle.cpt_task.specs.declared.span.Span.TheVariants.{At, Never}
use Rattle.cpt_task.specs.Shape.{TaskShape, InBounds}
use Rattle.cpt_task.specs.Timeline.{is_in}
use Rattle.cpt_tables.specs.declared.tables.Tables.{Tables}
use Rattle.cpt_tables.specs.Admissible.{nth_action}
use Rattle.cpt_tables.specs.Shapes.{set_span_of}
use Rattle.cpt_tables.specs.Spans.{IsBelow}
use Rattle.cpt_sheet.proofs.GapLemmas.{needs_within, set_below_more}
use Rattle.cpt_sheet.specs.declared.data.Cand.{Cand}
use Rattle.cpt_sheet.specs.declared.data.Cand.TheVariants.{Out}
use Rattle.cpt_sheet.specs.declared.data.Interval.{Interval}
use Rattle.cpt_sheet.specs.declared.data.Kind.TheVariants.{Start, End, Act}
use Rattle.cpt_sheet.specs.declared.data.Need.{Need}
use Rattle.cpt_sheet.specs.declared.data.Sheet.{Sheet}
use Rattle.cpt_sheet.specs.Live.{is_open}
use Rattle.cpt_sheet.specs.View.{no_span, span_of}
use Rattle.cpt_sheet.specs.Gaps.{FitsTask, gap}
use Rattle.cpt_calculus.specs.Decisions.{need_for, out_adders, token_adders}
use Rattle.cpt_calculus.specs.Root.{bare_root, out_at_root, outs_at_root, start_token, window}
use Rattle.cpt_trail.specs.Trails.{Mark, TrailShape}
use Rattle.cpt_layout.specs.Places.{Frame, Place, table}
use Rattle.cpt_layout.specs.Sheets.{IsSmall, number_at, number_of, out_from, seen, span_from}
use Rattle.cpt_layout.proofs.Drops.{not_eq}
use Rattle.cpt_layout.proofs.Lists.{if_false, length-table, table_same, table_snoc}
use Rattle.cpt_layout.proofs.Views.{sheet_of_parts}
use Rattle.cpt_block.specs.Blocks.{flat, grown}
use Rattle.cpt_block.proofs.Rows.{flat_length, get_flat}
use Rattle.cpt_cells.specs.Marks.{AreOnce, HasRoom, IsChain, IsHeldBy}
use Rattle.cpt_cells.specs.Roots.{bare_cells, frame_for, numbers_of, outs_alone, unordered_root}
use Rattle.cpt_cells.specs.Shapes.{KeepsMarks, SheetMark, newest, same}
use Rattle.cpt_cells.proofs.TaskLists.{lists_once}

-- a span as a number
pub small_below : (s : Span) → IsBelow 2000000000000000 s → IsSmall s
small_below (At n) h = λ e. absurd (omega arith)
small_below Never h = tt

pub span_number : (s : Span) → IsSmall s → span_from (number_of s) ≡ s
span_number (At n) h = if_false (n == 18446744073709551615) Never (At n) (not_eq n 18446744073709551615 h)
span_number Never h = refl

pub interval_number : (i : Interval) → IsSmall i.lo → (let j : Interval = record { lo = span_from (number_of i.lo); hi = i.hi } in j) ≡ i
interval_number i h = ap (λ (s : Span). (let j : Interval = record { lo = s; hi = i.hi } in j)) (span_number i.lo h)

window_small : (first left : Span) (b : ℕ) → IsSmall first → IsSmall (window first left b).lo
window_small first (At n) b h = go (nat_le n b)
  where
    go : (c : Bool) → IsSmall (if c then record { lo = first; hi = b - n } else no_span).lo
    go true = h
    go false = tt
window_small first Never b h = tt

-- the outside intervals of a root
pub out_small : (t : TaskShape) (w : Tables) (b : ℕ) → InBounds t → FitsTask t w → (a : ℕ) → IsSmall (out_at_root t w b a).lo
out_small t w b bounds fits a =
    let first : Span = set_span_of w.pairs (nth_action t a).pre in
    window_small first (gap t w (Act a) End) b (small_below first (set_below_more t w (nth_action t a).pre fits (needs_within t (Act a) bounds)))

module _ (t : TaskShape) (w : Tables) (b : ℕ) where
  abbrev row : ℕ → List ℕ
  row a = numbers_of (out_at_root t w b a)

  abbrev cells : List ℕ
  cells = bare_cells t w b

  abbrev n : ℕ
  n = length t.actions

  rows_before : (m : ℕ) → length (flat row m) ≡ 2 * m
  rows_before m = flat_length row (λ k. 2 * k) m refl (λ x l. omega arith)

  number_in : (a i : ℕ) → a < n → i < 2 → get_or cells (2 * a + i) 0 ≡ get_or (row a) i 0
  number_in a i l h =
      let k = rows_before n in
      let e : 2 * a + i ≡ length (flat row a) + i = (let q = rows_before a in omega arith) in
      get_or-append (flat row n) (0 ∷ []) 0 (2 * a + i) (omega arith)
      ∙ (ap (λ (j : ℕ). get_or (flat row n) j 0) e ∙ get_flat row n a i l (let two : length (row a) ≡ 2 = refl in omega arith))

  lo_number : (a : ℕ) → a < n → get_or cells (2 * a) 0 ≡ number_of (out_at_root t w b a).lo
  lo_number a l = (let z : 2 * a ≡ 2 * a + 0 = omega arith in ap (λ (i : ℕ). get_or cells i 0) z ∙ number_in a 0 l (omega arith))

  hi_number : (a : ℕ) → a < n → get_or cells (2 * a + 1) 0 ≡ (out_at_root t w b a).hi
  hi_number a l = number_in a 1 l (omega arith)

  pub bare_length : length cells ≡ 2 * n + 1
  bare_length = (let k = rows_before n in let e = length-append (flat row n) (0 ∷ []) in omega arith)

  pub bare_count : get_or cells (2 * n) 0 ≡ 0
  bare_count = (let e : 2 * n ≡ length (flat row n) + 0 = (let k = rows_before n in omega arith) in ap (λ (i : ℕ). get_or cells i 0) e ∙ get_or-append-add (flat row n) (0 ∷ []) 0 0)

  outs_listed : (m : ℕ) → table (out_at_root t w b) 0 m ≡ outs_at_root t w b m
  outs_listed zero = refl
  outs_listed (suc m) =
      let z : 0 + m ≡ m = omega arith in
      table_snoc (out_at_root t w b) 0 m
      ∙ (ap (λ (i : ℕ). table (out_at_root t w b) 0 m ++ out_at_root t w b i ∷ []) z
      ∙ ap (λ (is : List Interval). is ++ out_at_root t w b m ∷ []) (outs_listed m))

  module _ (small : (a : ℕ) → a < n → IsSmall (out_at_root t w b a).lo) where
    out_seen : (a : ℕ) → a < n → out_from (number_at (frame_for t b) cells) a ≡ out_at_root t w b a
    out_seen a l =
        let made : ℕ → ℕ → Interval = λ x y. record { lo = span_from x; hi = y } in
        ap (λ (x : ℕ). made x (get_or cells (2 * a + 1) 0)) (lo_number a l)
        ∙ (ap (λ (y : ℕ). made (number_of (out_at_root t w b a).lo) y) (hi_number a l)
        ∙ interval_number (out_at_root t w b a) (small a l))

    pub bare_seen : seen (frame_for t b) cells ≡ outs_alone t w b
    bare_seen =
        let f : Frame = frame_for t b in
        let v : Place → ℕ = number_at f cells in
        let e : length f.pre ≡ n = length-table (λ (a : ℕ). (nth_action t a).pre) 0 n in
        ap (λ (is : List Interval). sheet_of_parts f [] is [])
        (ap (λ (m : ℕ). table (out_from v) 0 m) e
        ∙ (table_same (out_at_root t w b) (out_from v) 0 n (λ a i l. out_seen a (omega arith)) ∙ outs_listed n))

-- who adds an atom does not hang on the tokens
outs_add : (t : TaskShape) (s u : Sheet) (p m : ℕ) → u.outs ≡ s.outs → out_adders t u p m ≡ out_adders t s p m
outs_add t s u p zero e = refl
outs_add t s u p (suc m) e =
    let made : List Interval → List Cand → List Cand = λ is cs. if is_open (span_of (record s { outs = is }) (Out m)) && is_in p (nth_action t m).add then cs ++ Out m ∷ [] else cs in
    ap (λ (is : List Interval). made is (out_adders t u p m)) e ∙ ap (λ (cs : List Cand). made s.outs cs) (outs_add t s u p m e)

module _ (t : TaskShape) (w : Tables) (b : ℕ) where
  abbrev pub first : Sheet
  first = grown t (outs_alone t w b) Start 0 0

  need_root : (p : ℕ) → need_for t first p ≡ need_for t (bare_root t w b) p
  need_root p =
      let made : List Cand → Need = λ cs. record { atom = p; cands = cs } in
      ap (λ (cs : List Cand). made (token_adders t (bare_root t w b) p 2 ++ cs)) (outs_add t (bare_root t w b) first p (length t.actions) refl)

  needs_root : (ps : List ℕ) → map (need_for t first) ps ≡ map (need_for t (bare_root t w b)) ps
  needs_root [] = refl
  needs_root (p ∷ ps) =
      ap (λ (m : Need). m ∷ map (need_for t first) ps) (need_root p) ∙ ap (λ (ms : List Need). need_for t (bare_root t w b) p ∷ ms) (needs_root ps)

  pub root_grown : IsSmall (set_span_of w.pairs t.goal) → grown t first End (number_of (set_span_of w.pairs t.goal)) b ≡ unordered_root t w b
  root_grown small =
      let made : Span → List Need → Sheet = λ v ms. record (unordered_root t w b) { tokens = start_token ∷ (record { kind = End; span = record { lo = v; hi = b }; lists = ms } ∷ []) } in
      ap (λ (v : Span). made v (map (need_for t first) t.goal)) (span_number (set_span_of w.pairs t.goal) small)
      ∙ ap (λ (ms : List Need). made (set_span_of w.pairs t.goal) ms) (needs_root t.goal)

-- the cells of no token
pub bare_held : (t : TaskShape) (w : Tables) (b end : ℕ) (u : TrailShape) (f : Frame) → InBounds t → f ≡ frame_for t b → u.cells ≡ bare_cells t w b → u.marks ≡ [] → end ≡ 2 * length t.actions + 1 → IsHeldBy u f end
bare_held t w b end u f bounds g c m e =
    let few : length t.actions < 2 ^ 31 = bounds.few_actions in
    let l : length u.cells ≡ 2 * length t.actions + 1 = ap (λ (xs : List ℕ). length xs) c ∙ bare_length t w b in
    let n : length (frame_for t b).pre ≡ length t.actions = length-table (λ (a : ℕ). (nth_action t a).pre) 0 (length t.actions) in
    let held : IsHeldBy u (frame_for t b) end = record {
      cells = (let k : length u.cells ≡ 2 * length (frame_for t b).pre + 1 = omega arith in k);
      end = e ∙ sym l;
      fits = omega arith;
      tokens = ap (λ (xs : List ℕ). get_or xs (2 * length (frame_for t b).pre) 0) c ∙ (ap (λ (i : ℕ). get_or (bare_cells t w b) (2 * i) 0) n ∙ bare_count t w b);
      adders = λ p. lists_once t p bounds;
      chain = subst (λ (ms : List Mark). IsChain (frame_for t b) 0 ms 0) (sym m) (omega arith);
      once = subst (λ (ms : List Mark). AreOnce ms) (sym m) tt;
      room = subst (λ (ms : List Mark). HasRoom u.entry_room ms) (sym m) tt;
    } in
    subst (λ (z : Frame). IsHeldBy u z end) (sym g) held

-- no mark stays no mark
pub keeps_none : (ms ns : List SheetMark) → KeepsMarks ms ns → ms ≡ [] → ns ≡ []
keeps_none ms ns (same e) h = e ∙ h
keeps_none ms ns (newest xs s m n e f) h =
    let l : length (xs ++ record { sheet = s; written = m } ∷ []) ≡ length xs + 1 = length-append xs (record { sheet = s; written = m } ∷ []) in
    let z : length (xs ++ record { sheet = s; written = m } ∷ []) ≡ 0 = ap (λ (us : List SheetMark). length us) (sym e ∙ h) in
    absurd (omega arith)
