-- the sheets that are kept for marks, and what always holds of the cells and the lists of a store
use Rattle.std.proofs.Common.{◌≡◌, ℕ, ◌+◌, ◌≤◌, ◌<◌, ◌^◌, List, [], ◌∷◌, ◌++◌, Option, Some, None, IfSome, unwrap_or, map, length, take, length-append, append-nil, append_assoc, refl, sym, ◌∙◌, ap, subst, arith}
use Rattle.std.proofs.lemmas.List.{length-map, map-append, take_at, nil_from_length}
use Rattle.std.proofs.lemmas.List.Elements.{All-append, All-cons, All-nil}
use Rattle.std.proofs.Math.ListN.{get_or-append}
use Rattle.std.proofs.Math.Seq.{get_or-append_seam}
use Rattle.cpt_task.specs.Shape.{TaskShape}
use Rattle.cpt_sheet.specs.declared.data.Decision.{Decision}
use Rattle.cpt_sheet.specs.declared.data.Decision.TheVariants.{Join, Bring, Before}
use Rattle.cpt_sheet.specs.declared.data.Kind.{Kind}
use Rattle.cpt_sheet.specs.declared.data.Kind.TheVariants.{Act}
use Rattle.cpt_sheet.specs.declared.data.Sheet.{Sheet}
use Rattle.cpt_sheet.specs.declared.data.Step.{Step}
use Rattle.cpt_sheet.specs.declared.data.Token.{Token}
use Rattle.cpt_sheet.specs.Formed.{IsFormed}
use Rattle.cpt_calculus.specs.Rules.{change_of, narrowed}
use Rattle.cpt_calculus.specs.Decisions.{Fits, applied}
use Rattle.cpt_calculus.proofs.ApplyFormed.{applied_formed}
use Rattle.cpt_calculus.proofs.Keeps.{step_formed}
use Rattle.cpt_layout.specs.Places.{Frame, extended, needs_by}
use Rattle.cpt_layout.specs.Numbers.{cells_in}
use Rattle.cpt_block.specs.Blocks.{IsFrameOf}
use Rattle.cpt_index.specs.declared.index.Index.{Index}
use Rattle.cpt_index.specs.declared.index.Seat.{Seat}
use Rattle.cpt_index.specs.Index.{IsIndexOf, kinds_in, kinds_of}
use Rattle.cpt_index.proofs.IndexLemmas.{index_as}
use Rattle.cpt_cells.specs.Decided.{IsReadyFor, brought_cells}
use Rattle.cpt_cells.specs.Shapes.{CellsShape, IsBackAt, KeepsMarks, KeepsRoom, SheetMark, same, newest, written_of}
use Rattle.cpt_store.specs.declared.store.Next.{Next}
use Rattle.cpt_store.specs.Held.{AreKept, IsLegalFor, IsFirstOf, IsGrowing, IsKeptBy, IsNext, IsSheetFor, brings, first_of, kind_in, kinds_kept, kinds_with, mark_of, sheets_of}
use Rattle.cpt_store.specs.Stores.{StoreShape}
use Rattle.cpt_store.specs.Stores as stores
use Rattle.std.specs.Option.{option_map}
use Rattle.cpt_store.proofs.HeldLemmas.{kinds_applied, kinds_changed, tokens_applied}

-- kinds that are the first of others
first_self : (ks : List Kind) → IsFirstOf ks ks
first_self ks = record { rest = []; is = sym (append-nil ks) }

first_more : (ks ls ms : List Kind) → IsFirstOf ks ls → IsFirstOf ls ms → IsFirstOf ks ms
first_more ks ls ms h g = record { rest = h.rest ++ g.rest; is = g.is ∙ (ap (λ zs. zs ++ g.rest) h.is ∙ append_assoc ks h.rest g.rest) }

first_with : (ks : List Kind) (k : Option Kind) → IsFirstOf ks (kinds_with ks k)
first_with ks None = first_self ks
first_with ks (Some k) = record { rest = k ∷ []; is = refl }

pub first_taken : (ks ls : List Kind) → IsFirstOf ks ls → take (length ks) ls ≡ ks
first_taken ks ls h = ap (λ zs. take (length ks) zs) h.is ∙ take_at ks h.rest (length ks) refl

first_front : (more : List (List Kind)) (ks ls : List Kind) → first_of (more ++ ks ∷ []) ls ≡ first_of more ks
first_front [] ks ls = refl
first_front (m ∷ more) ks ls = refl

-- a sheet is kept
growing_put : (more : List (List Kind)) (ls : List Kind) → IsGrowing more ls → IsGrowing (more ++ ls ∷ []) ls
growing_put [] ls h = (first_self ls, tt)
growing_put (m ∷ more) ls h = (subst (λ zs. IsFirstOf m zs) (sym (first_front more ls ls)) h.0, growing_put more ls h.1)

-- the last sheet comes back
growing_front : (more : List (List Kind)) (ks ls : List Kind) → IsGrowing (more ++ ks ∷ []) ls → IsGrowing more ks × IsFirstOf ks ls
growing_front [] ks ls h = (tt, h.0)
growing_front (m ∷ more) ks ls h =
    let w = growing_front more ks ls h.1 in
    ((subst (λ zs. IsFirstOf m zs) (first_front more ks ls) h.0, w.0), w.1)

-- the sheet grows
growing_more : (more : List (List Kind)) (ks ls : List Kind) → IsFirstOf ks ls → IsGrowing more ks → IsGrowing more ls
growing_more [] ks ls f h = tt
growing_more (m ∷ []) ks ls f h = (first_more m ks ls h.0 f, tt)
growing_more (m ∷ (n ∷ more)) ks ls f h = (h.0, growing_more (n ∷ more) ks ls f h.1)

pub count_kinds : (s : Sheet) → length (kinds_of s) ≡ length s.tokens
count_kinds s = length-map s.tokens (λ (z : Token). z.kind)

-- a sheet more is kept
kept_put : (t : TaskShape) (ss : List Sheet) (s : Sheet) → IsSheetFor t s → AreKept t ss (kinds_of s) → AreKept t (ss ++ s ∷ []) (kinds_of s)
kept_put t ss s h k = record {
  sheets = All-append (IsSheetFor t) ss (s ∷ []) k.sheets (All-cons (IsSheetFor t) s [] h (All-nil (IsSheetFor t)));
  growing = subst (λ zs. IsGrowing zs (kinds_of s)) (sym (map-append kinds_of ss (s ∷ []))) (growing_put (kinds_kept ss) (kinds_of s) k.growing);
}

-- the last one comes back
kept_front : (t : TaskShape) (ss : List Sheet) (s : Sheet) (ks : List Kind) → AreKept t (ss ++ s ∷ []) ks → IsSheetFor t s × AreKept t ss (kinds_of s) × IsFirstOf (kinds_of s) ks
kept_front t ss s ks h =
    let l = length-append ss (s ∷ []) in
    let w = growing_front (kinds_kept ss) (kinds_of s) ks (subst (λ zs. IsGrowing zs ks) (map-append kinds_of ss (s ∷ [])) h.growing) in
    let k : AreKept t ss (kinds_of s) = record {
      sheets = λ i d lt. subst (λ (z : Sheet). IsSheetFor t z) (get_or-append ss (s ∷ []) d i lt) (h.sheets i d (omega arith));
      growing = w.0;
    } in
    (subst (λ (z : Sheet). IsSheetFor t z) (get_or-append_seam ss s [] s) (h.sheets (length ss) s (omega arith)), k, w.1)

kept_more : (t : TaskShape) (ss : List Sheet) (ks ls : List Kind) → IsFirstOf ks ls → AreKept t ss ks → AreKept t ss ls
kept_more t ss ks ls f h = record { sheets = h.sheets; growing = growing_more (kinds_kept ss) ks ls f h.growing }

-- marks that stay have the same sheets
sheets_stay : (old new : List SheetMark) → KeepsMarks old new → sheets_of new ≡ sheets_of old
sheets_stay old new (same e) = ap (λ ms. sheets_of ms) e
sheets_stay old new (newest ms s m n e f) =
    ap (λ ms. sheets_of ms) f
    ∙ (map-append (λ (z : SheetMark). z.sheet) ms (record { sheet = s; written = n } ∷ [])
    ∙ sym (ap (λ ms. sheets_of ms) e ∙ map-append (λ (z : SheetMark). z.sheet) ms (record { sheet = s; written = m } ∷ [])))

pub marks_stay : (old new : List SheetMark) → KeepsMarks old new → stores.KeepsMarks (map mark_of old) (map mark_of new)
marks_stay old new (same e) = stores.same (ap (λ ms. map mark_of ms) e)
marks_stay old new (newest ms s m n e f) =
    stores.newest (map mark_of ms) s m n (ap (λ zs. map mark_of zs) e ∙ map-append mark_of ms (record { sheet = s; written = m } ∷ []))
    (ap (λ zs. map mark_of zs) f ∙ map-append mark_of ms (record { sheet = s; written = n } ∷ []))

-- nothing that is seen changes but room
pub held_same : (t : TaskShape) (c d : CellsShape) (i j : Index) → IsKeptBy t c i → d.frame ≡ c.frame → d.sheet ≡ c.sheet → d.marks ≡ c.marks → IsIndexOf t (kinds_in i) j → IsKeptBy t d j
held_same t c d i j h f s m w = record {
  sheet = subst (λ (z : Sheet). IsSheetFor t z) (sym s) h.sheet;
  frame = subst (λ (z : Frame). IsFrameOf t z) (sym f) h.frame;
  indexed = index_as t (kinds_in i) (kinds_of d.sheet) j (h.indexed.kinds ∙ ap (λ (z : Sheet). kinds_of z) (sym s)) w;
  kept = subst (λ (z : Sheet). AreKept t (sheets_of d.marks) (kinds_of z)) (sym s) (subst (λ ms. AreKept t (sheets_of ms) (kinds_of c.sheet)) (sym m) h.kept);
}

-- a step
kinds_narrowed : (s u : Sheet) (step : Step) → u ≡ narrowed s step → kinds_of u ≡ kinds_of s
kinds_narrowed s u step e = ap (λ (z : Sheet). kinds_of z) e ∙ kinds_changed s (change_of s step)

pub held_narrowed : (t : TaskShape) (c d : CellsShape) (i : Index) (step : Step) (can : IsLegalFor t c.sheet step) → IsKeptBy t c i → d.frame ≡ c.frame → d.sheet ≡ narrowed c.sheet step → KeepsMarks c.marks d.marks → IsKeptBy t d i
held_narrowed t c d i step can h f s m =
    let k : kinds_of d.sheet ≡ kinds_of c.sheet = kinds_narrowed c.sheet d.sheet step s in
    record {
      sheet = record {
        formed = subst (λ (z : Sheet). IsFormed t z) (sym s) (step_formed t can.tables c.sheet step h.sheet.formed can.legal);
        few = omega (arith, h.sheet.few, sym (count_kinds d.sheet) ∙ (ap length k ∙ count_kinds c.sheet));
      };
      frame = subst (λ (z : Frame). IsFrameOf t z) (sym f) h.frame;
      indexed = index_as t (kinds_of c.sheet) (kinds_of d.sheet) i (sym k) h.indexed;
      kept = subst (λ ss. AreKept t ss (kinds_of d.sheet)) (sym (sheets_stay c.marks d.marks m)) (subst (λ ks. AreKept t (sheets_of c.marks) ks) (sym k) h.kept);
    }

-- a decision
pub held_applied : (t : TaskShape) (c d : CellsShape) (i j : Index) (e : Decision) (z : Option Seat) → IsKeptBy t c i → Fits c.sheet e → length c.sheet.tokens < 4200000000 → IsFrameOf t d.frame →
    d.sheet ≡ applied t c.sheet e → KeepsMarks c.marks d.marks → kind_in z ≡ brings e → IsIndexOf t (kinds_with (kinds_in i) (kind_in z)) j → IsKeptBy t d j
held_applied t c d i j e z h fits few frame s m b w =
    let k : kinds_of d.sheet ≡ kinds_with (kinds_of c.sheet) (brings e) = ap (λ (y : Sheet). kinds_of y) s ∙ kinds_applied t c.sheet e in
    let n : length d.sheet.tokens ≡ length (applied t c.sheet e).tokens = ap (λ (y : Sheet). length y.tokens) s in
    record {
      sheet = record {
        formed = subst (λ (y : Sheet). IsFormed t y) (sym s) (applied_formed t c.sheet e fits h.sheet.formed);
        few = omega (arith, few, n, tokens_applied t c.sheet e);
      };
      frame = frame;
      indexed = index_as t _ (kinds_of d.sheet) j (ap (λ ks. kinds_with ks (kind_in z)) h.indexed.kinds ∙ (ap (λ o. kinds_with (kinds_of c.sheet) o) b ∙ sym k)) w;
      kept = subst (λ ss. AreKept t ss (kinds_of d.sheet)) (sym (sheets_stay c.marks d.marks m))
          (kept_more t (sheets_of c.marks) (kinds_of c.sheet) (kinds_of d.sheet) (subst (λ ks. IsFirstOf (kinds_of c.sheet) ks) (sym k) (first_with (kinds_of c.sheet) (brings e))) h.kept);
    }

-- a mark
pub held_marked : (t : TaskShape) (c d : CellsShape) (i : Index) → IsKeptBy t c i → d.frame ≡ c.frame → d.sheet ≡ c.sheet → d.marks ≡ c.marks ++ record { sheet = c.sheet; written = 0 } ∷ [] → IsKeptBy t d i
held_marked t c d i h f s m =
    let k : sheets_of d.marks ≡ sheets_of c.marks ++ c.sheet ∷ [] = ap (λ ms. sheets_of ms) m ∙ map-append (λ (z : SheetMark). z.sheet) c.marks (record { sheet = c.sheet; written = 0 } ∷ []) in
    record {
      sheet = subst (λ (z : Sheet). IsSheetFor t z) (sym s) h.sheet;
      frame = subst (λ (z : Frame). IsFrameOf t z) (sym f) h.frame;
      indexed = index_as t (kinds_of c.sheet) (kinds_of d.sheet) i (ap (λ (z : Sheet). kinds_of z) (sym s)) h.indexed;
      kept = subst (λ (z : Sheet). AreKept t (sheets_of d.marks) (kinds_of z)) (sym s) (subst (λ ss. AreKept t ss (kinds_of c.sheet)) (sym k) (kept_put t (sheets_of c.marks) c.sheet h.sheet h.kept));
    }

pub marks_put : (c d : CellsShape) → d.marks ≡ c.marks ++ record { sheet = c.sheet; written = 0 } ∷ [] → map mark_of d.marks ≡ map mark_of c.marks ++ record { sheet = c.sheet; written = 0 } ∷ []
marks_put c d m = ap (λ ms. map mark_of ms) m ∙ map-append mark_of c.marks (record { sheet = c.sheet; written = 0 } ∷ [])

-- back to the newest mark: there is none behind it
newest_alone : (n : ℕ) (c d : CellsShape) (b : IsBackAt n c d) → n + 1 ≡ length c.marks → c.marks ≡ d.marks ++ b.mark ∷ []
newest_alone n c d b e =
    let l = length-append d.marks (b.mark ∷ b.newer) in
    let m = ap length b.marks in
    let o = b.older in
    b.marks ∙ ap (λ ms. d.marks ++ b.mark ∷ ms) (nil_from_length b.newer (omega arith))

pub held_back : (t : TaskShape) (c d : CellsShape) (i j : Index) (n count : ℕ) (b : IsBackAt n c d) → n + 1 ≡ length c.marks → IsKeptBy t c i → IsFrameOf t d.frame → count ≡ length d.sheet.tokens →
    IsIndexOf t (take count (kinds_in i)) j → IsKeptBy t d j
held_back t c d i j n count b e h frame m w =
    let a : c.marks ≡ d.marks ++ b.mark ∷ [] = newest_alone n c d b e in
    let k : sheets_of c.marks ≡ sheets_of d.marks ++ b.mark.sheet ∷ [] = ap (λ ms. sheets_of ms) a ∙ map-append (λ (z : SheetMark). z.sheet) d.marks (b.mark ∷ []) in
    let p = kept_front t (sheets_of d.marks) b.mark.sheet (kinds_of c.sheet) (subst (λ ss. AreKept t ss (kinds_of c.sheet)) k h.kept) in
    record {
      sheet = subst (λ (z : Sheet). IsSheetFor t z) (sym b.sheet) p.0;
      frame = frame;
      indexed = index_as t (take count (kinds_in i)) (kinds_of d.sheet) j
          (ap (λ ks. take count ks) h.indexed.kinds
          ∙ (ap (λ x. take x (kinds_of c.sheet)) (m ∙ (ap (λ (z : Sheet). length z.tokens) b.sheet ∙ sym (count_kinds b.mark.sheet)))
          ∙ (first_taken (kinds_of b.mark.sheet) (kinds_of c.sheet) p.2 ∙ ap (λ (z : Sheet). kinds_of z) (sym b.sheet))))
          w;
      kept = subst (λ (z : Sheet). AreKept t (sheets_of d.marks) (kinds_of z)) (sym b.sheet) p.1;
    }

pub marks_back : (n : ℕ) (c d : CellsShape) (b : IsBackAt n c d) → n + 1 ≡ length c.marks → map mark_of c.marks ≡ map mark_of d.marks ++ mark_of b.mark ∷ []
marks_back n c d b e = ap (λ ms. map mark_of ms) (newest_alone n c d b e) ∙ map-append mark_of d.marks (b.mark ∷ [])

written_behind : (ms : List SheetMark) (m : SheetMark) → written_of (ms ++ m ∷ []) ≡ written_of ms + m.written
written_behind [] m = omega arith
written_behind (k ∷ ms) m = let e = written_behind ms m in omega arith

pub ticks_back : (n a z : ℕ) (c d : CellsShape) (b : IsBackAt n c d) → n + 1 ≡ length c.marks → z + written_of d.marks ≡ a + written_of c.marks → z ≤ a + b.mark.written
ticks_back n a z c d b e k =
    let w : written_of c.marks ≡ written_of d.marks + b.mark.written = ap (λ ms. written_of ms) (newest_alone n c d b e) ∙ written_behind d.marks b.mark in
    omega arith

-- room for a decision stays where a mark is set
ready_stays : (t : TaskShape) (c d : CellsShape) (e : Decision) (ns : List ℕ) → d.frame ≡ c.frame → d.sheet ≡ c.sheet → KeepsRoom c d → IsReadyFor t c e ns → IsReadyFor t d e ns
ready_stays t c d (Join x p y) ns f s r h = h
ready_stays t c d (Before x y) ns f s r h = h
ready_stays t c d (Bring x p a) ns f s r h = record {
  listed = h.listed ∙ sym (ap (λ (z : Frame). brought_cells t z d.sheet a) f ∙ ap (λ (z : Sheet). brought_cells t c.frame z a) s);
  room = record {
    size = subst (λ (z : Frame). length ns + cells_in z ≡ cells_in (extended z (Act a ∷ []))) (sym f) h.room.size;
    fits = subst (λ (z : Frame). cells_in (extended z (Act a ∷ [])) < 2 ^ 64) (sym f) h.room.fits;
    cell_room = subst (λ n. length ns ≤ n) (sym r.cells) h.room.cell_room;
    token_room = subst (λ n. 0 < n) (sym r.tokens) h.room.token_room;
    need_room = subst (λ n. length (needs_by d.frame (Act a)) ≤ n) (sym r.needs) (subst (λ (z : Frame). length (needs_by z (Act a)) ≤ c.need_room) (sym f) h.room.need_room);
  };
}

pub next_stays : (t : TaskShape) (i : Index) (c d : CellsShape) (o : Option Next) → d.frame ≡ c.frame → d.sheet ≡ c.sheet → KeepsRoom c d → IfSome o (IsNext t i c) → IfSome o (IsNext t i d)
next_stays t i c d None f s r h = h
next_stays t i c d (Some n) f s r h = record { ready = ready_stays t c d n.decision n.numbers.items f s r h.ready; seat = h.seat }

pub newest_of : (n : ℕ) (old : StoreShape) (ms : List SheetMark) → map mark_of ms ≡ old.marks → n + 1 ≡ length old.marks → n + 1 ≡ length ms
newest_of n old ms e h = h ∙ (ap length (sym e) ∙ length-map ms mark_of)

-- the decision for which room stands
pub decision_is : (o : Option Next) (n : Next) (r : Option Decision) (d : Decision) → option_map (λ (z : Next). z.decision) o ≡ r → Some n ≡ o → r ≡ Some d → n.decision ≡ d
decision_is o n r d e f g = ap (λ (z : Option Decision). unwrap_or z n.decision) (ap (λ (z : Option Next). option_map (λ (y : Next). y.decision) z) f ∙ (e ∙ g))

pub next_here : (t : TaskShape) (i : Index) (c : CellsShape) (n : Next) (o : Option Next) → Some n ≡ o → IfSome o (IsNext t i c) → IsNext t i c n
next_here t i c n o e k = subst (λ (z : Option Next). IfSome z (IsNext t i c)) (sym e) k
