use Rattle.std.proofs.Common.{◌≡◌, ◌≢◌, Some, None, slice_get, length-drop, take_all, ℕ, zero, suc, ◌+◌, ◌-◌, ◌<◌, ◌≤◌, inl, inr, true, false, List, [], ◌∷◌, ◌++◌, length, get_or, take, drop, refl, sym, ap, ◌∙◌, subst, arith}
use Rattle.std.proofs.Math.Seq.{take-add}
use Rattle.std.proofs.lemmas.Bool.{cases_lt, cases_eq, ne_eqb, eqb-false, eq-eqb}
use Rattle.cpt_sexp.specs.declared.item.SexpError.{SexpError}
use Rattle.cpt_sexp.specs.declared.item.SexpError.TheVariants.{BadByte, Unopened, Unclosed, Deep, Memory}
use Rattle.cpt_sexp.specs.declared.item.Item.{Item}
use Rattle.cpt_sexp.specs.Flat.{flat}
use Rattle.cpt_sexp.specs.declared.reading.Opened.{Opened}
use Rattle.cpt_sexp.specs.Bytes.{plain}
use Rattle.cpt_sexp.specs.Faults.{depth_over, depth_after, depth_at, IsLeftOpen, IsFault, IsFirstFault, byte_of}
use Rattle.cpt_sexp.specs.Parsing.{Refuses}
use Rattle.cpt_sexp.specs.Progress.{Around, outside, within, depth_of, written, opened, Begins, HasRead, empties}
use Rattle.cpt_sexp.specs.Trees.{Trees}
use Rattle.cpt_sexp.proofs.Comments.{length-plain}
use Rattle.cpt_sexp.proofs.Context.{length-opened}
use Rattle.cpt_sexp.specs.Grammar.{SpellsText}
use Rattle.cpt_sexp.proofs.Spelling.{spells_ordered}
use Rattle.cpt_sexp.proofs.Depth.{depth_after-append, depth_opens, IsSoundAt, sound_open, spells_quiet, empties_somewhere}

empties_later : (depth b : ℕ) (bs : List ℕ) → depth ≢ 0 → empties depth (b ∷ bs) ≡ empties (depth_over depth b) bs
empties_later depth b bs ne = rw (ne_eqb depth 0 ne) refl

empties_now : (depth b : ℕ) (bs : List ℕ) → depth ≡ 0 → empties depth (b ∷ bs) ≡ true
empties_now depth b bs e = rw (eq-eqb depth 0 e) refl

-- bytes that never run out of open groups leave some open at each place
never_empty : (depth : ℕ) (bs : List ℕ) → empties depth bs ≡ false → (j : ℕ) → 0 < depth_after depth (take j bs)
never_empty depth [] h zero = let ne : depth ≢ 0 = eqb-false depth 0 h in omega (arith, ne)
never_empty depth [] h (suc j) = let ne : depth ≢ 0 = eqb-false depth 0 h in omega (arith, ne)
never_empty depth (b ∷ bs) h zero =
    elim (cases_eq depth 0) [
      | inl e ↦ let no = empties_now depth b bs e in cc
      | inr ne ↦ omega (arith, ne)
    ]
never_empty depth (b ∷ bs) h (suc j) =
    elim (cases_eq depth 0) [
      | inl e ↦ let no = empties_now depth b bs e in cc
      | inr ne ↦ never_empty (depth_over depth b) bs (sym (empties_later depth b bs ne) ∙ h) j
    ]

-- the depth at a place later than another
depth_later : (bytes : List ℕ) (at j : ℕ) → depth_at bytes (at + j) ≡ depth_after (depth_at bytes at) (take j (drop at bytes))
depth_later bytes at j = ap (depth_after 0) (take-add at j bytes) ∙ depth_after-append 0 (take at bytes) (take j (drop at bytes))

-- up to a place the groups that have begun are those that are open, and there is no fault
pub record IsClear (bytes : List ℕ) (around : Around) (to : ℕ) : Type 0 where
  pub deep : depth_at bytes to ≡ depth_of around
  pub sound : (k : ℕ) → k < to → IsSoundAt bytes k

pub begins_clear : (bytes : List ℕ) (around : Around) (trees : Trees) (to : ℕ) → Begins bytes around trees to → IsClear bytes around to
begins_clear bytes outside trees to s =
    let quiet = spells_quiet bytes 0 0 to trees refl s in
    record { deep = quiet.back; sound = λ k lt. quiet.sound k (omega arith) lt }
begins_clear bytes (within around before from) trees to s =
    let first = begins_clear bytes around before from s.0 in
    let at = first.deep in
    let quiet = spells_quiet bytes (suc (depth_of around)) (suc from) to trees (depth_opens bytes from s.2 ∙ ap suc at) s.3 in
    let low = s.1 in
    record {
      deep = quiet.back;
      sound = λ k lt.
          elim (cases_lt k from) [
            | inl less ↦ first.sound k less
            | inr more ↦ elim (cases_lt from k) [
              | inl after ↦ quiet.sound k after lt
              | inr here ↦ let e : from ≡ k = omega arith in subst (IsSoundAt bytes) e (sound_open bytes from s.2 (omega (arith, at, low)))
            ]
          ];
    }

-- the outermost group that is open up to a place begins at a byte
pub record IsOutermost (bytes : List ℕ) (from to : ℕ) : Type 0 where
  pub begun : from < to
  pub opens : get_or bytes from 0 ≡ 40
  pub top : depth_at bytes from ≡ 0
  pub above : (k : ℕ) → from < k → k ≤ to → 0 < depth_at bytes k

-- the first of the open groups begins at a byte
abbrev pub StartsAt : List Opened → ℕ → Type 0
StartsAt [] from = ⊥
StartsAt (first ∷ rest) from = first.from ≡ from

starts_before : (groups more : List Opened) (from : ℕ) → StartsAt groups from → StartsAt (groups ++ more) from
starts_before [] more from s = absurd s
starts_before (first ∷ rest) more from s = s

-- where the outermost of the open groups begins
abbrev outer_from : Around → ℕ
outer_from outside = 0
outer_from (within outside before from) = from
outer_from (within (within around first second) before from) = outer_from (within around first second)

starts_there : (around : Around) (before : Trees) (from : ℕ) → StartsAt (opened (within around before from)) (outer_from (within around before from))
starts_there outside before from = refl
starts_there (within around first second) before from =
    starts_before (opened (within around first second)) (record { from = from; item = length (written (within around first second) ++ flat (length (written (within around first second))) before) } ∷ [])
    (outer_from (within around first second)) (starts_there around first second)

one_start : (groups : List Opened) (from other : ℕ) → StartsAt groups from → StartsAt groups other → from ≡ other
one_start [] from other s t = absurd s
one_start (first ∷ rest) from other s t = sym s ∙ t

outermost_from : (bytes : List ℕ) (around : Around) (before trees : Trees) (at to : ℕ) → Begins bytes (within around before at) trees to → IsOutermost bytes (outer_from (within around before at)) to
outermost_from bytes outside before trees at to s =
    let quiet = spells_quiet bytes 0 0 at before refl s.0 in
    let top : depth_at bytes at ≡ 0 = quiet.back in
    let inner = spells_quiet bytes 1 (suc at) to trees (depth_opens bytes at s.2 ∙ ap suc top) s.3 in
    let forth = spells_ordered bytes 1 (suc at) to trees s.3 in
    record {
      begun = forth;
      opens = s.2;
      top = top;
      above = λ k low high. let more = inner.above k low high in omega (arith, more);
    }
outermost_from bytes (within around first second) before trees at to s =
    let outer = outermost_from bytes around first before second at s.0 in
    let clear = begins_clear bytes (within around first second) before at s.0 in
    let deep = clear.deep in
    let inner = spells_quiet bytes (suc (suc (depth_of around))) (suc at) to trees (depth_opens bytes at s.2 ∙ ap suc deep) s.3 in
    let first_of = outer.begun in
    let forth = spells_ordered bytes (suc (suc (depth_of around))) (suc at) to trees s.3 in
    record {
      begun = omega (arith, first_of, forth);
      opens = outer.opens;
      top = outer.top;
      above = λ k low high.
          elim (cases_lt at k) [
            | inl after ↦ let more = inner.above k after high in omega (arith, more)
            | inr less ↦ outer.above k low less
          ];
    }

-- where a group is open, the outermost is the first of those that are noted
pub outermost : (bytes : List ℕ) (around : Around) (trees : Trees) (to from : ℕ) → Begins bytes around trees to → StartsAt (opened around) from → IsOutermost bytes from to
outermost bytes outside trees to from s starts = absurd starts
outermost bytes (within around before at) trees to from s starts =
    subst (λ b. IsOutermost bytes b to) (one_start (opened (within around before at)) (outer_from (within around before at)) from (starts_there around before at) starts)
    (outermost_from bytes around before trees at to s)

-- no fault stands before a place up to which there is none, if at or after it no group is open
pub none_before : (bytes : List ℕ) (at j : ℕ) → ((k : ℕ) → k < at → IsSoundAt bytes k) → at ≤ j → j ≤ length bytes → depth_at bytes j ≡ 0 → (other : SexpError) → IsFault bytes other → at ≤ byte_of other
none_before bytes at j sound le in_text empty (BadByte k) fault = elim (cases_lt k at) [ inl lt ↦ absurd ((sound k lt).not_bad fault.1 fault.2) | inr more ↦ more ]
none_before bytes at j sound le in_text empty (Unopened k) fault = elim (cases_lt k at) [ inl lt ↦ absurd ((sound k lt).not_unopened fault.0 fault.1) | inr more ↦ more ]
none_before bytes at j sound le in_text empty (Deep k) fault = elim (cases_lt k at) [ inl lt ↦ absurd ((sound k lt).not_deep fault.0 fault.1) | inr more ↦ more ]
none_before bytes at j sound le in_text empty (Unclosed k) fault =
    elim (cases_lt k at) [ inl lt ↦ let more = fault.0.open_after j (omega arith) in_text in absurd (omega (arith, more, empty)) | inr more ↦ more ]
none_before bytes at j sound le in_text empty Memory fault = absurd fault

not_earlier : (bytes : List ℕ) (from k : ℕ) → from < length bytes → depth_at bytes from ≡ 0 → k < from → IsLeftOpen bytes k → ⊥
not_earlier bytes from k in_text top lt left = let more = left.open_after from lt (omega arith) in absurd (omega (arith, more, top))

-- the outermost open group is the first fault, where up to a place there is none and from there on some group is open
pub unclosed_first : (bytes : List ℕ) (from at : ℕ) → ((k : ℕ) → k < at → IsSoundAt bytes k) → IsOutermost bytes from at → from < at → at ≤ length bytes → ((j : ℕ) → at ≤ j → j ≤ length bytes → 0 < depth_at bytes j) → IsFault bytes (Unclosed from) × ((other : SexpError) → IsFault bytes other → from ≤ byte_of other)
unclosed_first bytes from at sound outer lt in_text later =
    let top = outer.top in
    let left : IsLeftOpen bytes from = record {
      opens = outer.opens;
      open_after = λ k low high.
          elim (cases_lt at k) [
            | inl after ↦ let more = later k (omega arith) high in omega (arith, more, top)
            | inr less ↦ let more = outer.above k low less in omega (arith, more, top)
          ];
    } in
    ((left, λ k less. not_earlier bytes from k (omega arith) top less), least bytes from at sound top lt in_text)
  where
    least : (bytes : List ℕ) (from at : ℕ) → ((k : ℕ) → k < at → IsSoundAt bytes k) → depth_at bytes from ≡ 0 → from < at → at ≤ length bytes → (other : SexpError) → IsFault bytes other → from ≤ byte_of other
    least bytes from at sound top lt in_text (BadByte k) fault = elim (cases_lt k from) [ inl less ↦ absurd ((sound k (omega arith)).not_bad fault.1 fault.2) | inr more ↦ more ]
    least bytes from at sound top lt in_text (Unopened k) fault = elim (cases_lt k from) [ inl less ↦ absurd ((sound k (omega arith)).not_unopened fault.0 fault.1) | inr more ↦ more ]
    least bytes from at sound top lt in_text (Deep k) fault = elim (cases_lt k from) [ inl less ↦ absurd ((sound k (omega arith)).not_deep fault.0 fault.1) | inr more ↦ more ]
    least bytes from at sound top lt in_text (Unclosed k) fault = elim (cases_lt k from) [ inl less ↦ absurd (not_earlier bytes from k (omega arith) top less fault.0) | inr more ↦ more ]
    least bytes from at sound top lt in_text Memory fault = absurd fault

refuses : (text : List ℕ) (fault : SexpError) → IsFirstFault text fault → Refuses text fault
refuses text (BadByte k) h = h
refuses text (Unopened k) h = h
refuses text (Deep k) h = h
refuses text (Unclosed k) h = h
refuses text Memory h = tt

-- the fault at a place is refused where at or after it no group is open
pub refuse_here : (text : List ℕ) (items : List Item) (groups : List Opened) (at j : ℕ) (fault : SexpError) → HasRead text items groups at → IsFault (plain text) fault → byte_of fault ≡ at → at ≤ j → j ≤ length (plain text) → depth_at (plain text) j ≡ 0 → Refuses text fault
refuse_here text items groups at j fault read stands here le in_text empty =
    let clear = begins_clear (plain text) read.around read.trees at read.begins in
    refuses text fault (record {
      stands = stands;
      least = λ other h. let more = none_before (plain text) at j clear.sound le in_text empty other h in omega (arith, more, here);
    })

-- the outermost open group is refused where from a place on some group is open
pub refuse_unclosed : (text : List ℕ) (items : List Item) (groups : List Opened) (at from : ℕ) → HasRead text items groups at → StartsAt groups from → ((j : ℕ) → at ≤ j → j ≤ length (plain text) → 0 < depth_at (plain text) j) → Refuses text (Unclosed from)
refuse_unclosed text items groups at from read starts later =
    let clear = begins_clear (plain text) read.around read.trees at read.begins in
    let outer = outermost (plain text) read.around read.trees at from read.begins (subst (λ gs. StartsAt gs from) read.opened_are starts) in
    let first = unclosed_first (plain text) from at clear.sound outer outer.begun (let l = read.in_text in omega (arith, l, length-plain text)) later in
    record { stands = first.0; least = first.1 }

starts_first : (groups : List Opened) (first : Opened) → Some first ≡ slice_get groups 0 → StartsAt groups first.from
starts_first [] first e = cc
starts_first (other ∷ groups) first e = let same : other ≡ first = cc in ap (λ (o : Opened). o.from) same

some_open : (groups : List Opened) (first : Opened) → Some first ≡ slice_get groups 0 → 0 < length groups
some_open [] first e = cc
some_open (other ∷ groups) first e = omega arith

-- as many groups are open as are noted
pub open_at : (text : List ℕ) (items : List Item) (groups : List Opened) (at : ℕ) → HasRead text items groups at → depth_at (plain text) at ≡ length groups
open_at text items groups at read =
    let clear = begins_clear (plain text) read.around read.trees at read.begins in
    clear.deep ∙ sym (ap length read.opened_are ∙ length-opened read.around)

-- where no group is open a fault at the place is refused
pub refuse_alone : (text : List ℕ) (items : List Item) (groups : List Opened) (at : ℕ) (fault : SexpError) → HasRead text items groups at → IsFault (plain text) fault → byte_of fault ≡ at → length groups ≡ 0 → Refuses text fault
refuse_alone text items groups at fault read stands here alone =
    let within = read.in_text in
    refuse_here text items groups at at fault read stands here (omega arith) (omega (arith, within, length-plain text)) (open_at text items groups at read ∙ alone)

-- where all open groups are closed later a fault at the place is refused
pub refuse_fault : (text rest : List ℕ) (items : List Item) (groups : List Opened) (at depth : ℕ) (fault : SexpError) → HasRead text items groups at → IsFault (plain text) fault → byte_of fault ≡ at → depth ≡ length groups → rest ≡ drop at text → empties depth (plain rest) ≡ true → Refuses text fault
refuse_fault text rest items groups at depth fault read stands here deep is empty =
    let onward : plain rest ≡ drop at (plain text) = ap plain is ∙ sym read.plainly in
    let found = empties_somewhere depth (plain rest) empty in
    let j = found.0 in
    let within = read.in_text in
    refuse_here text items groups at (at + j) fault read stands here (omega arith)
    (omega (arith, found.1, ap length onward ∙ length-drop at (plain text), length-plain text, within))
    (depth_later (plain text) at j ∙ ap (λ bs. depth_after (depth_at (plain text) at) (take j bs)) (sym onward)
    ∙ ap (λ d. depth_after d (take j (plain rest))) (open_at text items groups at read ∙ sym deep) ∙ found.2)

-- where some open group is closed nowhere the first is refused
pub refuse_first : (text rest : List ℕ) (items : List Item) (groups : List Opened) (at depth : ℕ) (first : Opened) → HasRead text items groups at → Some first ≡ slice_get groups 0 → depth ≡ length groups → rest ≡ drop at text → empties depth (plain rest) ≡ false → IsFirstFault text (Unclosed first.from)
refuse_first text rest items groups at depth first read is_first deep is empty =
    let onward : plain rest ≡ drop at (plain text) = ap plain is ∙ sym read.plainly in
    let apart : (n : ℕ) → 0 < depth_at (plain text) (at + n) = λ n.
    let e : depth_at (plain text) (at + n) ≡ depth_after depth (take n (plain rest)) =
    depth_later (plain text) at n ∙ ap (λ bs. depth_after (depth_at (plain text) at) (take n bs)) (sym onward)
    ∙ ap (λ d. depth_after d (take n (plain rest))) (open_at text items groups at read ∙ sym deep) in
    let some = never_empty depth (plain rest) empty n in
    omega (arith, e, some) in
    refuse_unclosed text items groups at first.from read (starts_first groups first is_first)
    (λ j le in_text. let e : at + (j - at) ≡ j = omega arith in subst (λ k. 0 < depth_at (plain text) k) e (apart (j - at)))

-- at the end of the text the first open group is refused
pub refuse_end : (text : List ℕ) (items : List Item) (groups : List Opened) (at : ℕ) (first : Opened) → HasRead text items groups at → length text ≤ at → Some first ≡ slice_get groups 0 → IsFirstFault text (Unclosed first.from)
refuse_end text items groups at first read ended is_first =
    refuse_unclosed text items groups at first.from read (starts_first groups first is_first)
    (λ j le in_text.
    let e : at ≡ j = omega (arith, length-plain text) in
    let some = some_open groups first is_first in
    let deep = open_at text items groups at read in
    subst (λ k. 0 < depth_at (plain text) k) e (omega (arith, some, deep)))

-- at the end of the text, where no group is open, the text spells what has been read
pub accept : (text : List ℕ) (items : List Item) (groups : List Opened) (at : ℕ) → HasRead text items groups at → length text ≤ at → length groups ≡ 0 → (trees : Trees) × SpellsText text trees × (items ≡ flat 0 trees)
accept text items groups at read ended alone =
    let within_it = read.in_text in
    let e : at ≡ length text = omega arith in
    by_around read.around read.trees (sym (length-opened read.around) ∙ sym (ap length read.opened_are) ∙ alone) (subst (Begins (plain text) read.around read.trees) e read.begins) read.items_are
  where
    by_around : (around : Around) (trees : Trees) → depth_of around ≡ 0 → Begins (plain text) around trees (length text) → items ≡ written around ++ flat (length (written around)) trees → (found : Trees) × SpellsText text found × (items ≡ flat 0 found)
    by_around outside trees none_open begins items_are = (trees, begins, items_are)
    by_around (within around before from) trees none_open begins items_are = absurd (omega (arith, none_open))

-- the bytes from a place to the end, as a range gives them
pub whole_rest : (text : List ℕ) (at : ℕ) → take (length text - at) (drop at text) ≡ drop at text
whole_rest text at = take_all (length text - at) (drop at text) (omega (arith, length-drop at text))

-- no group is noted where the list has no first
pub no_first : (groups : List Opened) → None ≡ slice_get groups 0 → length groups ≡ 0
no_first [] e = refl
no_first (other ∷ groups) e = cc

few_around : (bytes : List ℕ) (around : Around) (trees : Trees) (to : ℕ) → Begins bytes around trees to → depth_of around ≤ 64
few_around bytes outside trees to s = omega arith
few_around bytes (within around before from) trees to s = s.1

-- at most 64 groups are open
pub few_open : (text : List ℕ) (items : List Item) (groups : List Opened) (at : ℕ) → HasRead text items groups at → length groups ≤ 64
few_open text items groups at read =
    let few = few_around (plain text) read.around read.trees at read.begins in
    omega (arith, few, ap length read.opened_are ∙ length-opened read.around)
