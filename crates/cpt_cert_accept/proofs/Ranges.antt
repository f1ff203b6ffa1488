-- the numbers in the lines of a tree are those of tokens, atoms and actions that are there
use Rattle.std.proofs.Common.{◌≡◌, ℕ, suc, ◌+◌, ◌<◌, ◌≤◌, ◌==◌, ◌||◌, if◌then◌else◌, true, false, Bool, List, [], ◌∷◌, ◌++◌, length, Contains, inl, inr, refl, sym, ap, ◌∙◌, subst, arith, length-append}
use Rattle.std.specs.Prelude.{Some}
use Rattle.std.specs.List.{find}
use Rattle.std.specs.Option.{option_map_or}
use Rattle.std.proofs.lemmas.Bool.{cases_lt, both_ways, or_left}
use Rattle.std.proofs.lemmas.List.{get_or_past, length-map}
use Rattle.std.proofs.lemmas.List.Elements.{All-contains}
use Rattle.cpt_task.specs.declared.task.Action.{Action}
use Rattle.cpt_task.specs.Shape.{TaskShape, InBounds}
use Rattle.cpt_task.specs.Timeline.{idle}
use Rattle.cpt_tables.specs.declared.tables.Tables.{Tables}
use Rattle.cpt_tables.specs.Admissible.{nth_action}
use Rattle.cpt_sheet.specs.declared.data.Cand.{Cand}
use Rattle.cpt_sheet.specs.declared.data.Cand.TheVariants.{Tok, Out}
use Rattle.cpt_sheet.specs.declared.data.Kind.{Kind}
use Rattle.cpt_sheet.specs.declared.data.Kind.TheVariants.{Start, End, Act}
use Rattle.cpt_sheet.specs.declared.data.Token.{Token}
use Rattle.cpt_sheet.specs.declared.data.Sheet.{Sheet}
use Rattle.cpt_sheet.specs.declared.data.Change.{Change}
use Rattle.cpt_sheet.specs.declared.data.Change.TheVariants.{Raise, Lower, Take, Post}
use Rattle.cpt_sheet.specs.declared.data.Decision.{Decision}
use Rattle.cpt_sheet.specs.declared.data.Decision.TheVariants.{Join, Bring, Before}
use Rattle.cpt_sheet.specs.declared.data.Flaw.{Flaw}
use Rattle.cpt_sheet.specs.declared.data.Flaw.TheVariants.{Threat, OpenNeed, Clash}
use Rattle.cpt_sheet.specs.declared.data.Step.{Step}
use Rattle.cpt_sheet.specs.declared.data.Step.TheVariants.{R1, R2, R3, R4, R5, R6, R7, R8, R9After, R9Ahead, R10, R11After, R11Ahead, R12After, R12Ahead, R13}
use Rattle.cpt_sheet.specs.declared.data.NodeLine.{NodeLine}
use Rattle.cpt_sheet.specs.declared.data.NodeLine.TheVariants.{Child, Narrow, Close, Branch, OpenNode}
use Rattle.cpt_sheet.specs.Roles.{needs_of, Deletes, Clash as Interfere}
use Rattle.cpt_sheet.specs.declared.data.Need.{Need}
use Rattle.cpt_sheet.specs.View.{no_token, token_at, kind_of, span_of, hi, has_need, has_atom, has, same, list_for, cands, before}
use Rattle.cpt_sheet.specs.Gaps.{FitsTask}
use Rattle.cpt_sheet.specs.Formed.{IsFormed}
use Rattle.cpt_sheet.specs.Edits.{changed, without, moment_or}
use Rattle.cpt_sheet.proofs.FormedLemmas.{at_past}
use Rattle.cpt_sheet.proofs.GapLemmas.{needs_within}
use Rattle.cpt_calculus.specs.Rules.{IsLegal, Allowed, narrowed, change_of}
use Rattle.cpt_calculus.specs.Decisions.{Fits, applied, joined, with_offers, offered, brought}
use Rattle.cpt_calculus.specs.Flaws.{IsFlaw, children}
use Rattle.cpt_calculus.specs.Root.{root_of}
use Rattle.cpt_calculus.proofs.Views.{tokens_with_span}
use Rattle.cpt_calculus.proofs.Keeps.{step_formed}
use Rattle.cpt_soundness.proofs.PlanLemmas.{nil_has}
use Rattle.cpt_soundness.proofs.ViewLemmas.{same_self, count_with_list}
use Rattle.cpt_soundness.proofs.RootFormedLemmas.{root_formed}
use Rattle.cpt_soundness.proofs.ActingLemmas.{atom_there, deleter_there, clash_there, clash_there_last}
use Rattle.cpt_soundness.proofs.FormedLemmas.{applied_formed}
use Rattle.cpt_soundness.proofs.FitLemmas.{children_fit}
use Rattle.cpt_cert_form.specs.Forms.{capped, capped_cand, capped_decision, capped_flaw, capped_step, capped_node}
use Rattle.cpt_cert_accept.specs.Trees.{Part, IsPart, bring_of, brings}
use Rattle.cpt_cert_accept.specs.Trees.Part.{node, worked, branches}
use Rattle.cpt_cert_accept.specs.Trees.IsPart.{left, whole, step, close, branch, none, child}
use Rattle.cpt_cert_accept.proofs.Brings.{count_narrowed, count_applied, brings_append}

-- below the number that stands for all numbers from it on
abbrev pub IsSmall : ℕ → Type 0
IsSmall n = n < 4294967295

abbrev pub IsSmallCand : Cand → Type 0
IsSmallCand (Tok n) = IsSmall n
IsSmallCand (Out n) = IsSmall n

abbrev pub IsSmallDecision : Decision → Type 0
IsSmallDecision (Join x p y) = IsSmall x × IsSmall p × IsSmall y
IsSmallDecision (Bring x p a) = IsSmall x × IsSmall p × IsSmall a
IsSmallDecision (Before x y) = IsSmall x × IsSmall y

abbrev pub IsSmallFlaw : Flaw → Type 0
IsSmallFlaw (Threat x p d) = IsSmall x × IsSmall p × IsSmall d
IsSmallFlaw (OpenNeed x p) = IsSmall x × IsSmall p
IsSmallFlaw (Clash x y) = IsSmall x × IsSmall y

abbrev pub IsSmallStep : Step → Type 0
IsSmallStep (R1 x y v) = IsSmall x × IsSmall y
IsSmallStep (R2 x y v) = IsSmall x × IsSmall y
IsSmallStep (R3 x y) = IsSmall x × IsSmall y
IsSmallStep (R4 x p v) = IsSmall x × IsSmall p
IsSmallStep (R5 x p c) = IsSmall x × IsSmall p × IsSmallCand c
IsSmallStep (R6 x p) = IsSmall x × IsSmall p
IsSmallStep (R7 x p a) = IsSmall x × IsSmall p × IsSmall a
IsSmallStep (R8 x p c d) = IsSmall x × IsSmall p × IsSmallCand c × IsSmall d
IsSmallStep (R9After x p d) = IsSmall x × IsSmall p × IsSmall d
IsSmallStep (R9Ahead x p d) = IsSmall x × IsSmall p × IsSmall d
IsSmallStep (R10 a p v) = IsSmall a × IsSmall p
IsSmallStep (R11After x p a v) = IsSmall x × IsSmall p × IsSmall a
IsSmallStep (R11Ahead x p a v) = IsSmall x × IsSmall p × IsSmall a
IsSmallStep (R12After x a v) = IsSmall x × IsSmall a
IsSmallStep (R12Ahead x a v) = IsSmall x × IsSmall a
IsSmallStep (R13 x p c q) = IsSmall x × IsSmall p × IsSmallCand c × IsSmall q

abbrev pub IsSmallNode : NodeLine → Type 0
IsSmallNode (Child d) = IsSmallDecision d
IsSmallNode (Narrow rule) = IsSmallStep rule
IsSmallNode Close = Unit {0}
IsSmallNode (Branch flaw) = IsSmallFlaw flaw
IsSmallNode OpenNode = Unit {0}

-- a number that is given as a small one is that number
raw : (n : ℕ) → IsSmall (capped n) → capped n ≡ n
raw n h = omega arith

raw_cand : (c : Cand) → IsSmallCand (capped_cand c) → capped_cand c ≡ c
raw_cand (Tok n) h = ap Tok (raw n h)
raw_cand (Out n) h = ap Out (raw n h)

raw_decision : (d : Decision) → IsSmallDecision (capped_decision d) → capped_decision d ≡ d
raw_decision (Join x p y) h = let a = raw x h.0 in let b = raw p h.1 in let c = raw y h.2 in cc
raw_decision (Bring x p y) h = let a = raw x h.0 in let b = raw p h.1 in let c = raw y h.2 in cc
raw_decision (Before x y) h = let a = raw x h.0 in let b = raw y h.1 in cc

raw_flaw : (f : Flaw) → IsSmallFlaw (capped_flaw f) → capped_flaw f ≡ f
raw_flaw (Threat x p y) h = let a = raw x h.0 in let b = raw p h.1 in let c = raw y h.2 in cc
raw_flaw (OpenNeed x p) h = let a = raw x h.0 in let b = raw p h.1 in cc
raw_flaw (Clash x y) h = let a = raw x h.0 in let b = raw y h.1 in cc

raw_step : (r : Step) → IsSmallStep (capped_step r) → capped_step r ≡ r
raw_step (R1 x y v) h = let a = raw x h.0 in let b = raw y h.1 in cc
raw_step (R2 x y v) h = let a = raw x h.0 in let b = raw y h.1 in cc
raw_step (R3 x y) h = let a = raw x h.0 in let b = raw y h.1 in cc
raw_step (R4 x p v) h = let a = raw x h.0 in let b = raw p h.1 in cc
raw_step (R5 x p c) h = let a = raw x h.0 in let b = raw p h.1 in let k = raw_cand c h.2 in cc
raw_step (R6 x p) h = let a = raw x h.0 in let b = raw p h.1 in cc
raw_step (R7 x p y) h = let a = raw x h.0 in let b = raw p h.1 in let c = raw y h.2 in cc
raw_step (R8 x p c d) h = let a = raw x h.0 in let b = raw p h.1 in let k = raw_cand c h.2 in let e = raw d h.3 in cc
raw_step (R9After x p y) h = let a = raw x h.0 in let b = raw p h.1 in let c = raw y h.2 in cc
raw_step (R9Ahead x p y) h = let a = raw x h.0 in let b = raw p h.1 in let c = raw y h.2 in cc
raw_step (R10 x p v) h = let a = raw x h.0 in let b = raw p h.1 in cc
raw_step (R11After x p y v) h = let a = raw x h.0 in let b = raw p h.1 in let c = raw y h.2 in cc
raw_step (R11Ahead x p y v) h = let a = raw x h.0 in let b = raw p h.1 in let c = raw y h.2 in cc
raw_step (R12After x y v) h = let a = raw x h.0 in let b = raw y h.1 in cc
raw_step (R12Ahead x y v) h = let a = raw x h.0 in let b = raw y h.1 in cc
raw_step (R13 x p c q) h = let a = raw x h.0 in let b = raw p h.1 in let k = raw_cand c h.2 in let e = raw q h.3 in cc

pub raw_node : (l : NodeLine) → IsSmallNode (capped_node l) → capped_node l ≡ l
raw_node (Child d) h = ap Child (raw_decision d h)
raw_node (Narrow rule) h = ap Narrow (raw_step rule h)
raw_node Close h = refl
raw_node (Branch flaw) h = ap Branch (raw_flaw flaw h)
raw_node OpenNode h = refl

-- a small number is given as it is
kept : (n : ℕ) → IsSmall n → capped n ≡ n
kept n h = omega arith

kept_cand : (c : Cand) → IsSmallCand c → capped_cand c ≡ c
kept_cand (Tok n) h = ap Tok (kept n h)
kept_cand (Out n) h = ap Out (kept n h)

kept_decision : (d : Decision) → IsSmallDecision d → capped_decision d ≡ d
kept_decision (Join x p y) h = let a = kept x h.0 in let b = kept p h.1 in let c = kept y h.2 in cc
kept_decision (Bring x p y) h = let a = kept x h.0 in let b = kept p h.1 in let c = kept y h.2 in cc
kept_decision (Before x y) h = let a = kept x h.0 in let b = kept y h.1 in cc

kept_flaw : (f : Flaw) → IsSmallFlaw f → capped_flaw f ≡ f
kept_flaw (Threat x p y) h = let a = kept x h.0 in let b = kept p h.1 in let c = kept y h.2 in cc
kept_flaw (OpenNeed x p) h = let a = kept x h.0 in let b = kept p h.1 in cc
kept_flaw (Clash x y) h = let a = kept x h.0 in let b = kept y h.1 in cc

kept_step : (r : Step) → IsSmallStep r → capped_step r ≡ r
kept_step (R1 x y v) h = let a = kept x h.0 in let b = kept y h.1 in cc
kept_step (R2 x y v) h = let a = kept x h.0 in let b = kept y h.1 in cc
kept_step (R3 x y) h = let a = kept x h.0 in let b = kept y h.1 in cc
kept_step (R4 x p v) h = let a = kept x h.0 in let b = kept p h.1 in cc
kept_step (R5 x p c) h = let a = kept x h.0 in let b = kept p h.1 in let k = kept_cand c h.2 in cc
kept_step (R6 x p) h = let a = kept x h.0 in let b = kept p h.1 in cc
kept_step (R7 x p y) h = let a = kept x h.0 in let b = kept p h.1 in let c = kept y h.2 in cc
kept_step (R8 x p c d) h = let a = kept x h.0 in let b = kept p h.1 in let k = kept_cand c h.2 in let e = kept d h.3 in cc
kept_step (R9After x p y) h = let a = kept x h.0 in let b = kept p h.1 in let c = kept y h.2 in cc
kept_step (R9Ahead x p y) h = let a = kept x h.0 in let b = kept p h.1 in let c = kept y h.2 in cc
kept_step (R10 x p v) h = let a = kept x h.0 in let b = kept p h.1 in cc
kept_step (R11After x p y v) h = let a = kept x h.0 in let b = kept p h.1 in let c = kept y h.2 in cc
kept_step (R11Ahead x p y v) h = let a = kept x h.0 in let b = kept p h.1 in let c = kept y h.2 in cc
kept_step (R12After x y v) h = let a = kept x h.0 in let b = kept y h.1 in cc
kept_step (R12Ahead x y v) h = let a = kept x h.0 in let b = kept y h.1 in cc
kept_step (R13 x p c q) h = let a = kept x h.0 in let b = kept p h.1 in let k = kept_cand c h.2 in let e = kept q h.3 in cc

pub kept_node : (l : NodeLine) → IsSmallNode l → capped_node l ≡ l
kept_node (Child d) h = ap Child (kept_decision d h)
kept_node (Narrow rule) h = ap Narrow (kept_step rule h)
kept_node Close h = refl
kept_node (Branch flaw) h = ap Branch (kept_flaw flaw h)
kept_node OpenNode h = refl

abbrev pub AllSmall : List NodeLine → Type 0
AllSmall [] = Unit {0}
AllSmall (l ∷ ls) = IsSmallNode l × AllSmall ls

small_append : (ls more : List NodeLine) → AllSmall ls → AllSmall more → AllSmall (ls ++ more)
small_append [] more h k = k
small_append (l ∷ ls) more h k = (h.0, small_append ls more h.1 k)

module _ (t : TaskShape) (b : Tables) (inside : InBounds t) where
  -- so few tokens that each number of one is small
  abbrev pub IsFew : Sheet → Type 0
  IsFew s = length s.tokens ≤ 4294967295

  need_there : (s : Sheet) (x p : ℕ) → has_need s x p ≡ true → x < length s.tokens
  need_there s x p h =
      elim (cases_lt x (length s.tokens)) [ inl l ↦ l | inr m ↦ absurd (both_ways (has_need s x p) (ap (λ (z : Token). has_atom p z.lists) (at_past s.tokens no_token x m)) h) ]

  token_small : (s : Sheet) (x : ℕ) → IsFew s → x < length s.tokens → IsSmall x
  token_small s x few l = omega (arith, few, l)

  action_small : (a : ℕ) → a < length t.actions → IsSmall a
  action_small a l = let k = inside.few_actions in omega (arith, l)

  atom_small : (p : ℕ) → p < length t.atoms → IsSmall p
  atom_small p l = let k = inside.few_atoms in omega (arith, l)

  need_small : (s : Sheet) (x p : ℕ) → IsFormed t s → IsFew s → has_need s x p ≡ true → IsSmall x × IsSmall p
  need_small s x p f few h =
      let l = need_there s x p h in (
        token_small s x few l,
        atom_small p (All-contains (λ q. q < length t.atoms) (needs_of t (kind_of s (Tok x))) p (needs_within t (kind_of s (Tok x)) inside) (subst (λ ns. Contains ns p) (f.needs x l) (atom_there p (token_at s x).lists h))),
      )

  cand_small : (s : Sheet) (x p : ℕ) (c : Cand) → IsFormed t s → IsFew s → has c (cands s x p) ≡ true → IsSmallCand c
  cand_small s x p (Tok y) f few h = token_small s y few (f.supply x p (Tok y) h).0
  cand_small s x p (Out a) f few h = action_small a (f.supply x p (Out a) h).0

  deleter_small : (s : Sheet) (d p : ℕ) → IsFew s → Deletes t (kind_of s (Tok d)) p → IsSmall d
  deleter_small s d p few h = token_small s d few (deleter_there t s d p h)

  order_small : (s : Sheet) (x y : ℕ) → IsFormed t s → IsFew s → before s x y ≡ true → IsSmall x × IsSmall y
  order_small s x y f few h = let k = f.orders x y h in (token_small s x few k.first, token_small s y few k.second)

  clash_small : (s : Sheet) (x y : ℕ) → IsFew s → Interfere t (kind_of s (Tok x)) (kind_of s (Tok y)) → IsSmall x × IsSmall y
  clash_small s x y few h = (token_small s x few (clash_there t s x (kind_of s (Tok y)) h), token_small s y few (clash_there_last t s y (kind_of s (Tok x)) h))

  -- an action that deletes or needs something is there
  action_there : (a : ℕ) (xs : Action → List ℕ) (p : ℕ) → xs idle ≡ [] → Contains (xs (nth_action t a)) p → IsSmall a
  action_there a xs p e h =
      elim (cases_lt a (length t.actions)) [
        | inl l ↦ action_small a l
        | inr m ↦ absurd (nil_has p (subst (λ ys. Contains ys p) (ap xs (get_or_past t.actions a idle m) ∙ e) h))
      ]

  clash_action : (s : Sheet) (x a : ℕ) → IsFew s → Interfere t (kind_of s (Tok x)) (Act a) → IsSmall x × IsSmall a
  clash_action s x a few h = (token_small s x few (clash_there t s x (Act a) h), action_small a (second (kind_of s (Tok x)) h))
    where
      second : (k : Kind) → Interfere t k (Act a) → a < length t.actions
      second Start c = absurd c
      second End c = absurd c
      second (Act d) c = c.second

  pub legal_small : (s : Sheet) (rule : Step) → IsFormed t s → IsFew s → IsLegal t b s rule → IsSmallStep rule
  legal_small s rule f few legal = go rule legal.allowed
    where
      go : (r : Step) → Allowed t b s r → IsSmallStep r
      go (R1 x y v) h = order_small s x y f few h.order
      go (R2 x y v) h = order_small s x y f few h.order
      go (R3 x y) h = clash_small s x y few h.clash
      go (R4 x p v) h = need_small s x p f few h.need
      go (R5 x p c) h = let n = need_small s x p f few h.listed.need in (n.0, n.1, cand_small s x p c f few h.listed.listed)
      go (R6 x p) h = need_small s x p f few h.need
      go (R7 x p a) h = let n = need_small s x p f few h.listed.need in (n.0, n.1, cand_small s x p (Out a) f few h.listed.listed)
      go (R8 x p c d) h = let n = need_small s x p f few h.listed.need in (n.0, n.1, cand_small s x p c f few h.listed.listed, deleter_small s d p few h.deletes)
      go (R9After x p d) h = let k = h.1 in let n = need_small s x p f few k.need in (n.0, n.1, deleter_small s d p few k.deletes)
      go (R9Ahead x p d) h = let k = h.1 in let n = need_small s x p f few k.need in (n.0, n.1, deleter_small s d p few k.deletes)
      go (R10 a p v) h = (
        action_there a (λ c. c.pre) p refl h.need,
        atom_small p (All-contains (λ q. q < length t.atoms) (needs_of t (Act a)) p (needs_within t (Act a) inside) h.need),
      )
      go (R11After x p a v) h = let k = h.1 in let n = need_small s x p f few k.need in (n.0, n.1, action_there a (λ c. c.dele) p refl k.deletes)
      go (R11Ahead x p a v) h = let k = h.1 in let n = need_small s x p f few k.need in (n.0, n.1, action_there a (λ c. c.dele) p refl k.deletes)
      go (R12After x a v) h = clash_action s x a few h.clash
      go (R12Ahead x a v) h = clash_action s x a few h.clash
      go (R13 x p c q) h =
          let n = need_small s x p f few h.listed.need in let m = need_small s x q f few h.second.need in (n.0, n.1, cand_small s x p c f few h.listed.listed, m.1)

  need_of_list : (p : ℕ) (c : Cand) (ns : List Need) → has c (list_for p ns) ≡ true → has_atom p ns ≡ true
  need_of_list p c [] h = absurd (cc)
  need_of_list p c (n ∷ ns) h = go (n.atom == p) (need_of_list p c ns) h
    where
      go : (e : Bool) → (has c (list_for p ns) ≡ true → has_atom p ns ≡ true) → has c (option_map_or (λ (m : Need). m.cands) (if e then Some n else find (λ (m : Need). m.atom == p) ns) []) ≡ true → (e || has_atom p ns) ≡ true
      go true more k = refl
      go false more k = more k

  listed_small : (s : Sheet) (x p : ℕ) (c : Cand) → IsFormed t s → IsFew s → has c (cands s x p) ≡ true → IsSmall x × IsSmall p × IsSmallCand c
  listed_small s x p c f few h =
      let n = need_small s x p f few (need_of_list p c (token_at s x).lists h) in (n.0, n.1, cand_small s x p c f few h)

  pub flaw_small : (s : Sheet) (flaw : Flaw) → IsFormed t s → IsFew s → IsFlaw t s flaw → IsSmallFlaw flaw
  flaw_small s (Threat x p d) f few h = let k = h.1 in let n = need_small s x p f few k.need in (n.0, n.1, deleter_small s d p few k.deletes)
  flaw_small s (OpenNeed x p) f few h = go (cands s x p) refl
    where
      go : (cs : List Cand) → cands s x p ≡ cs → IsSmall x × IsSmall p
      go [] e = absurd (h.0 e)
      go (c ∷ cs) e =
          let k = listed_small s x p c f few (subst (λ ds. has c ds ≡ true) (sym e) (or_left (same c c) (has c cs) (same_self c))) in (k.0, k.1)
  flaw_small s (Clash x y) f few h = clash_small s x y few h.interfere

  pub fit_small : (s : Sheet) (d : Decision) → IsFormed t s → IsFew s → Fits s d → IsSmallDecision d
  fit_small s (Join x p y) f few h = listed_small s x p (Tok y) f few h
  fit_small s (Bring x p a) f few h = listed_small s x p (Out a) f few h
  fit_small s (Before x y) f few h = (token_small s x few h.first, token_small s y few h.second)

  -- a formed sheet with so many tokens at most
  pub record IsSoundSheet (k : ℕ) (s : Sheet) : Type 0 where
    pub formed : IsFormed t s
    pub few : length s.tokens ≤ k

  abbrev pub IsSound : ℕ → Part → Type 0
  IsSound k (node s) = IsSoundSheet k s
  IsSound k (worked s) = IsSoundSheet k s
  IsSound k (branches s ds) = IsSoundSheet k s × ((d : Decision) → Contains ds d → Fits s d)

  -- the numbers in the lines of a part of a tree, which bring no more tokens than there are small numbers
  pub part_small : (mo : Bool) (n : ℕ) (part : Part) (f : List NodeLine) → IsPart t b mo part f → IsSound n part → n + brings f ≤ 4294967295 → AllSmall f
  part_small mo n r l (left s e) h le = (tt, tt)
  part_small mo n r l (whole s ls k) h le = part_small mo n (worked s) ls k h le
  part_small mo n r l (step s rule ls legal k) h le =
      let few = h.few in
      let same = count_narrowed s (change_of s rule) in (
        legal_small s rule h.formed (omega (arith, few, le)) legal,
        part_small mo n (worked (narrowed s rule)) ls k (record { formed = step_formed t b s rule h.formed legal; few = omega (arith, same, few) }) (omega (arith, le)),
      )
  part_small mo n r l (close s dead) h le = (tt, tt)
  part_small mo n r l (branch s flaw ls live stands k) h le =
      let few = h.few in
      (flaw_small s flaw h.formed (omega (arith, few, le)) stands, part_small mo n (branches s (children s flaw)) ls k (h, children_fit t s flaw h.formed stands) (omega (arith, le)))
  part_small mo n r l (none s) h le = tt
  part_small mo n r l (child s d ds ls more all k j e) h le =
      let fits : Fits s d = h.1 d (0, omega arith, refl) in
      let few = h.0.few in
      let all_brings : brings all ≡ brings ls + brings more = ap brings e ∙ brings_append ls more in
      let count = count_applied t s d in (
        fit_small s d h.0.formed (omega (arith, few, le)) fits,
        subst AllSmall (sym e) (
            small_append ls more
            (part_small mo (n + bring_of (Child d)) (node (applied t s d)) ls k (record { formed = applied_formed t s d h.0.formed fits; few = omega (arith, count, few) }) (omega (arith, all_brings, le)))
            (part_small mo n (branches s ds) more j (h.0, λ c m. h.1 c (suc m.0, (let q = m.1 in omega (arith, q)), m.2)) (omega (arith, all_brings, le)))
            ),
      )

  pub tree_small : (mo : Bool) (bound : ℕ) (f : List NodeLine) → FitsTask t b → bound ≤ 1000000 → IsPart t b mo (node (root_of t b bound)) f → 2 + brings f ≤ 4294967295 → AllSmall f
  tree_small mo bound f fits le h few = part_small mo 2 (node (root_of t b bound)) f h (record { formed = root_formed t b bound inside fits le; few = omega arith }) few
