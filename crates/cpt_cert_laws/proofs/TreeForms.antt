-- trees over sheets are nodes whose numbers are short
use Rattle.std.proofs.Common.{◌≡◌, ℕ, suc, ◌+◌, ◌<◌, ◌≤◌, true, false, Bool, List, [], ◌∷◌, ◌++◌, length, All, Contains, cond, count_by, refl, sym, ap, ◌∙◌, subst, arith}
use Rattle.std.proofs.lemmas.List.Sums.{sum_by-append}
use Rattle.std.proofs.lemmas.List.Elements.{All-nil, All-cons, All-append}
use Rattle.cpt_task.specs.declared.span.Span.{Span}
use Rattle.cpt_task.specs.declared.span.Span.TheVariants.{At, Never}
use Rattle.cpt_task.specs.Shape.{TaskShape, InBounds}
use Rattle.cpt_tables.specs.declared.tables.Tables.{Tables}
use Rattle.cpt_tables.specs.Spans.{◌<ˢ◌, IsBelow}
use Rattle.cpt_sheet.specs.declared.data.Cand.{Cand}
use Rattle.cpt_sheet.specs.declared.data.Cand.TheVariants.{Tok, Out}
use Rattle.cpt_sheet.specs.declared.data.Sheet.{Sheet}
use Rattle.cpt_sheet.specs.declared.data.Decision.{Decision}
use Rattle.cpt_sheet.specs.declared.data.Decision.TheVariants.{Join, Bring, Before}
use Rattle.cpt_sheet.specs.declared.data.Flaw.{Flaw}
use Rattle.cpt_sheet.specs.declared.data.Flaw.TheVariants.{Threat, OpenNeed, Clash}
use Rattle.cpt_sheet.specs.declared.data.Step.{Step}
use Rattle.cpt_sheet.specs.declared.data.Step.TheVariants.{R1, R2, R3, R4, R5, R6, R7, R8, R9After, R9Ahead, R10, R11After, R11Ahead, R12After, R12Ahead, R13}
use Rattle.cpt_sheet.specs.declared.data.NodeLine.{NodeLine}
use Rattle.cpt_sheet.specs.declared.data.NodeLine.TheVariants.{Child, Narrow, Close, Branch, OpenNode}
use Rattle.cpt_sheet.specs.View.{hi}
use Rattle.cpt_sheet.specs.Formed.{IsFormed}
use Rattle.cpt_calculus.specs.Rules.{IsLegal, Allowed, Moves, narrowed, change_of}
use Rattle.cpt_calculus.specs.Decisions.{Fits, applied}
use Rattle.cpt_calculus.specs.Flaws.{children}
use Rattle.cpt_calculus.specs.Root.{root_of}
use Rattle.cpt_calculus.proofs.Keeps.{step_formed}
use Rattle.cpt_soundness.proofs.RootFormedLemmas.{root_formed}
use Rattle.cpt_soundness.proofs.FormedLemmas.{applied_formed}
use Rattle.cpt_soundness.proofs.FitLemmas.{children_fit}
use Rattle.cpt_cert_form.specs.Forms.{IsShort, IsShortSpan, IsShortCand, IsShortDecision, IsShortFlaw, IsShortStep, IsShortNode}
use Rattle.cpt_cert_print.specs.Whole.{AreNodes}
use Rattle.cpt_cert_print.specs.Whole.AreNodes.{closed, opened, stepped, branched, childless, parent}
use Rattle.cpt_cert_accept.specs.Accepting.{is_done}
use Rattle.cpt_cert_accept.specs.Trees.{Part, IsPart, bring_of}
use Rattle.cpt_cert_accept.specs.Trees.Part.{node, worked, branches}
use Rattle.cpt_cert_accept.specs.Trees.IsPart.{left, whole, step, close, branch, none, child}
use Rattle.cpt_cert_accept.proofs.Brings.{count_narrowed, count_applied}
use Rattle.cpt_cert_accept.proofs.Ranges as ranges
use Rattle.cpt_cert_laws.specs.Trees.{TreesAreNodes, StepsAreShort, TreesAreShort}

-- the form of the lines of a part
abbrev HasForm : Bool → Part → List NodeLine → Type 0
HasForm mo (node s) ls = AreNodes mo false ls
HasForm mo (worked s) ls = AreNodes mo false ls
HasForm mo (branches s ds) ls = AreNodes mo true ls

part_form : (t : TaskShape) (b : Tables) (mo : Bool) (part : Part) (ls : List NodeLine) → IsPart t b mo part ls → HasForm mo part ls
part_form t b mo r l (left s e) = opened e
part_form t b mo r l (whole s ls h) = part_form t b mo (worked s) ls h
part_form t b mo r l (step s rule ls legal h) = stepped rule ls (part_form t b mo (worked (narrowed s rule)) ls h)
part_form t b mo r l (close s dead) = closed
part_form t b mo r l (branch s flaw ls live stands h) = branched flaw ls (part_form t b mo (branches s (children s flaw)) ls h)
part_form t b mo r l (none s) = childless
part_form t b mo r l (child s d ds ls more all h k e) =
    subst (λ z. AreNodes mo true (Child d ∷ z)) (sym e) (parent d ls more (part_form t b mo (node (applied t s d)) ls h) (part_form t b mo (branches s ds) more k))

pub trees_are_nodes : TreesAreNodes
trees_are_nodes t b mo s ls h = part_form t b mo (node s) ls h

short : (n : ℕ) → n < 4294967295 → IsShort n
short n h = omega (arith, h)

short_cand : (c : Cand) → ranges.IsSmallCand c → IsShortCand c
short_cand (Tok n) h = short n h
short_cand (Out n) h = short n h

short_decision : (d : Decision) → ranges.IsSmallDecision d → IsShortDecision d
short_decision (Join x p y) h = (short x h.0, short p h.1, short y h.2)
short_decision (Bring x p a) h = (short x h.0, short p h.1, short a h.2)
short_decision (Before x y) h = (short x h.0, short y h.1)

short_flaw : (f : Flaw) → ranges.IsSmallFlaw f → IsShortFlaw f
short_flaw (Threat x p d) h = (short x h.0, short p h.1, short d h.2)
short_flaw (OpenNeed x p) h = (short x h.0, short p h.1)
short_flaw (Clash x y) h = (short x h.0, short y h.1)

-- a decision brings one token at most
bring_one : (d : Decision) → bring_of (Child d) ≤ 1
bring_one (Join x p y) = omega arith
bring_one (Bring x p a) = omega arith
bring_one (Before x y) = omega arith

-- a first moment
token_moment : (v : Span) → IsBelow 4000000000000000 v → IsShortSpan v
token_moment (At n) h = omega (arith, h)
token_moment Never h = tt

outside_moment : (v : Span) → IsBelow 2000000000000000 v → IsShortSpan v
outside_moment (At n) h = omega (arith, h)
outside_moment Never h = tt

module _ (t : TaskShape) (b : Tables) where
  -- a last moment that is lowered was at most the bound
  last_moment : (s : Sheet) (c : Cand) (v : Span) → IsFormed t s → v <ˢ At (hi s c) → IsShortSpan v
  last_moment s c (At n) f h = let within = f.within c in let bound = f.bound in omega (arith, h, within, bound)
  last_moment s c Never f h = absurd h

  short_step : (s : Sheet) (rule : Step) → IsFormed t s → ranges.IsSmallStep rule → IsLegal t b s rule → IsShortStep rule
  short_step s rule f small legal = go rule small legal.allowed legal.moves
    where
      go : (r : Step) → ranges.IsSmallStep r → Allowed t b s r → Moves s (change_of s r) → IsShortStep r
      go (R1 x y v) h a m = (short x h.0, short y h.1, token_moment v a.moment)
      go (R2 x y v) h a m = (short x h.0, short y h.1, last_moment s (Tok x) v f m)
      go (R3 x y) h a m = (short x h.0, short y h.1)
      go (R4 x p v) h a m = (short x h.0, short p h.1, token_moment v a.moment)
      go (R5 x p c) h a m = (short x h.0, short p h.1, short_cand c h.2)
      go (R6 x p) h a m = (short x h.0, short p h.1)
      go (R7 x p o) h a m = (short x h.0, short p h.1, short o h.2)
      go (R8 x p c d) h a m = (short x h.0, short p h.1, short_cand c h.2, short d h.3)
      go (R9After x p d) h a m = (short x h.0, short p h.1, short d h.2)
      go (R9Ahead x p d) h a m = (short x h.0, short p h.1, short d h.2)
      go (R10 o p v) h a m = (short o h.0, short p h.1, outside_moment v a.moment)
      go (R11After x p o v) h a m = (short x h.0, short p h.1, short o h.2, outside_moment v a.3.moment)
      go (R11Ahead x p o v) h a m = (short x h.0, short p h.1, short o h.2, last_moment s (Out o) v f m)
      go (R12After x o v) h a m = (short x h.0, short o h.1, outside_moment v a.after.moment)
      go (R12Ahead x o v) h a m = (short x h.0, short o h.1, last_moment s (Out o) v f m)
      go (R13 x p c q) h a m = (short x h.0, short p h.1, short_cand c h.2, short q h.3)

done_append : (ls more : List NodeLine) → count_by is_done (ls ++ more) ≡ count_by is_done ls + count_by is_done more
done_append ls more = sum_by-append (λ l. cond (is_done l) 1 0) ls more

module _ (t : TaskShape) (b : Tables) (inside : InBounds t) where
  -- a formed sheet with so many tokens at most, where so many lines more close or branch nodes
  record IsSoundSheet (n more : ℕ) (s : Sheet) : Type 0 where
    formed : IsFormed t s
    few : length s.tokens ≤ n
    room : n + more ≤ 4294967295

  -- the children of a branched node may have a token more than its sheet
  abbrev IsSound : ℕ → ℕ → Part → Type 0
  IsSound n more (node s) = IsSoundSheet n more s
  IsSound n more (worked s) = IsSoundSheet n more s
  IsSound n more (branches s ds) = IsSoundSheet n (1 + more) s × ((d : Decision) → Contains ds d → Fits s d)

  few_tokens : (n more : ℕ) (s : Sheet) → IsSoundSheet n more s → length s.tokens ≤ 4294967295
  few_tokens n more s h = let few = h.few in let room = h.room in omega (arith, few, room)

  -- the sheet after a step
  sound_step : (n more : ℕ) (s : Sheet) (rule : Step) → IsLegal t b s rule → IsSoundSheet n more s → IsSoundSheet n more (narrowed s rule)
  sound_step n more s rule legal h =
      let few = h.few in let same = count_narrowed s (change_of s rule) in record { formed = step_formed t b s rule h.formed legal; few = omega (arith, same, few); room = h.room }

  -- the sheet after a decision
  sound_child : (n all here : ℕ) (s : Sheet) (d : Decision) → Fits s d → here ≤ all → IsSoundSheet n (1 + all) s → IsSoundSheet (n + 1) here (applied t s d)
  sound_child n all here s d fits le h =
      let few = h.few in
      let room = h.room in
      let count = count_applied t s d in
      let one = bring_one d in
      record { formed = applied_formed t s d h.formed fits; few = omega (arith, count, few, one); room = omega (arith, room, le) }

  fewer : (n all more : ℕ) (s : Sheet) → more ≤ all → IsSoundSheet n (1 + all) s → IsSoundSheet n (1 + more) s
  fewer n all more s le h = let room = h.room in record { formed = h.formed; few = h.few; room = omega (arith, room, le) }

  -- the numbers in the lines of a part of a tree
  part_short : (mo : Bool) (n : ℕ) (part : Part) (f : List NodeLine) → IsPart t b mo part f → IsSound n (count_by is_done f) part → All IsShortNode f
  part_short mo n r l (left s e) h = All-cons IsShortNode OpenNode [] tt (All-nil IsShortNode)
  part_short mo n r l (whole s ls k) h = part_short mo n (worked s) ls k h
  part_short mo n r l (step s rule ls legal k) h =
      All-cons IsShortNode (Narrow rule) ls (short_step t b s rule h.formed (ranges.legal_small t b inside s rule h.formed (few_tokens n (count_by is_done ls) s h) legal) legal)
      (part_short mo n (worked (narrowed s rule)) ls k (sound_step n (count_by is_done ls) s rule legal h))
  part_short mo n r l (close s dead) h = All-cons IsShortNode Close [] tt (All-nil IsShortNode)
  part_short mo n r l (branch s flaw ls live stands k) h =
      let one : count_by is_done (Branch flaw ∷ ls) ≡ 1 + count_by is_done ls = done_append (Branch flaw ∷ []) ls in
      let sound : IsSoundSheet n (1 + count_by is_done ls) s = subst (λ m. IsSoundSheet n m s) one h in
      All-cons IsShortNode (Branch flaw) ls (short_flaw flaw (ranges.flaw_small t b inside s flaw h.formed (few_tokens n (1 + count_by is_done ls) s sound) stands))
      (part_short mo n (branches s (children s flaw)) ls k (sound, children_fit t s flaw h.formed stands))
  part_short mo n r l (none s) h = All-nil IsShortNode
  part_short mo n r l (child s d ds ls more all k j e) h =
      let fits : Fits s d = h.1 d (0, omega arith, refl) in
      let sum : count_by is_done all ≡ count_by is_done ls + count_by is_done more = ap (count_by is_done) e ∙ done_append ls more in
      let first : count_by is_done ls ≤ count_by is_done all = omega (arith, sum) in
      let rest : count_by is_done more ≤ count_by is_done all = omega (arith, sum) in
      All-cons IsShortNode (Child d) all (short_decision d (ranges.fit_small t b inside s d h.0.formed (few_tokens n (1 + count_by is_done all) s h.0) fits))
      (subst (All IsShortNode) (sym e) (
      All-append IsShortNode ls more
      (part_short mo (n + 1) (node (applied t s d)) ls k (sound_child n (count_by is_done all) (count_by is_done ls) s d fits first h.0))
      (part_short mo n (branches s ds) more j (fewer n (count_by is_done all) (count_by is_done more) s rest h.0, λ c m. h.1 c (suc m.0, (let q = m.1 in omega (arith, q)), m.2)))
      ))

pub steps_are_short : StepsAreShort
steps_are_short t b s rule inside formed few legal = short_step t b s rule formed (ranges.legal_small t b inside s rule formed (omega (arith, few)) legal) legal

pub trees_are_short : TreesAreShort
trees_are_short t b mo bound ls inside fits le few h = record {
  node = trees_are_nodes t b mo (root_of t b bound) ls h;
  short = part_short t b inside mo 2 (node (root_of t b bound)) ls h (record { formed = root_formed t b bound inside fits le; few = omega arith; room = omega (arith, few) });
}
