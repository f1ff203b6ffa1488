-- the lines of whole certificates have a form and keep the limit of a line
use Rattle.std.proofs.Common.{◌≡◌, ℕ, zero, suc, ◌+◌, ◌*◌, ◌-◌, ◌<◌, ◌≤◌, ◌==◌, inl, inr, Bool, true, false, if◌then◌else◌, List, [], ◌∷◌, ◌++◌, length, map, codes, All, Option, None, Some, Bor, refl, sym, ◌∙◌, subst, arith, length-append}
use Rattle.std.specs.List.{flat_map, range_with_len}
use Rattle.std.specs.Fmt.{decimal}
use Rattle.std.proofs.lemmas.Fmt.{length-decimal-le}
use Rattle.std.proofs.lemmas.List.{length-map}
use Rattle.std.proofs.lemmas.List.Elements.{All-nil, All-cons, All-append, All-map, All-head, All-tail}
use Rattle.std.proofs.lemmas.List.FromFn.{length-map-range_with_len}
use Rattle.cpt_task.specs.declared.span.Span.{Span}
use Rattle.cpt_task.specs.declared.span.Span.TheVariants.{At, Never}
use Rattle.cpt_task.specs.declared.plan.Occ.{Occ}
use Rattle.cpt_task.specs.Shape.{TaskShape, InBounds}
use Rattle.cpt_task.specs.Timeline.{IsPlan}
use Rattle.cpt_tables.specs.declared.tables.Tables.{Tables}
use Rattle.cpt_tables.specs.Shapes.{pair_at, dist_at}
use Rattle.cpt_tables.specs.Spans.{IsBelow}
use Rattle.cpt_sheet.specs.declared.data.Cand.{Cand}
use Rattle.cpt_sheet.specs.declared.data.Cand.TheVariants.{Tok, Out}
use Rattle.cpt_sheet.specs.declared.data.Decision.{Decision}
use Rattle.cpt_sheet.specs.declared.data.Decision.TheVariants.{Join, Bring, Before}
use Rattle.cpt_sheet.specs.declared.data.Flaw.{Flaw}
use Rattle.cpt_sheet.specs.declared.data.Flaw.TheVariants.{Threat, OpenNeed, Clash}
use Rattle.cpt_sheet.specs.declared.data.Step.{Step}
use Rattle.cpt_sheet.specs.declared.data.Step.TheVariants.{R1, R2, R3, R4, R5, R6, R7, R8, R9After, R9Ahead, R10, R11After, R11Ahead, R12After, R12Ahead, R13}
use Rattle.cpt_sheet.specs.declared.data.NodeLine.{NodeLine}
use Rattle.cpt_sheet.specs.declared.data.NodeLine.TheVariants.{Child, Narrow, Close, Branch, OpenNode}
use Rattle.cpt_sheet.specs.declared.data.Tree.{Tree}
use Rattle.cpt_sheet.specs.Gaps.{FitsTask}
use Rattle.cpt_cert_form.specs.declared.forms.Version.{Version}
use Rattle.cpt_cert_form.specs.declared.forms.Version.TheVariants.{One, Two}
use Rattle.cpt_cert_form.specs.declared.forms.Claim.{Claim}
use Rattle.cpt_cert_form.specs.declared.forms.Claim.TheVariants as claims
use Rattle.cpt_cert_form.specs.declared.forms.Run.{Run}
use Rattle.cpt_cert_form.specs.declared.forms.CertLine.{CertLine}
use Rattle.cpt_cert_form.specs.declared.forms.CertLine.TheVariants as lines
use Rattle.cpt_cert_form.specs.Forms.{span_word, cand_word, run_word, claim_words, decision_words, flaw_words, step_words, node_words, line_words, joined, IsShort, IsShortSpan, IsShortCand, IsClaim, IsRowSpan, IsRun, AreRuns, AreAlone, IsRow, IsShortDecision, IsShortFlaw, IsShortStep, IsShortNode, IsWritten}
use Rattle.cpt_cert_form.specs.Text.{Parts, once, same_span, run_before, runs_of, row_runs, pair_row, dist_row, plan_lines, pair_lines, dist_lines, table_lines, tree_lines, open_lines, optimal_sections, sections, cert_lines}
use Rattle.cpt_cert_print.specs.Whole.{AsksTables, AsksTree, AsksPartial, HasTables, HasTree, IsListedPlan, tables_in, lines_in, parts_of}
use Rattle.cpt_cert_accept.specs.Accepting.{IsInForm}
use Rattle.cpt_cert_accept.proofs.Rows.{same_span_true, same_span_same}
use Rattle.cpt_cert_laws.specs.Lines.{WholeLinesInForm}

-- at most n words, each of at most 21 bytes
abbrev AreFew : ℕ → List (List ℕ) → Type 0
AreFew n [] = Unit {0}
AreFew zero (w ∷ ws) = ⊥
AreFew (suc n) (w ∷ ws) = (length w ≤ 21) × AreFew n ws

spaced_length : (n : ℕ) (ws : List (List ℕ)) → AreFew n ws → length (flat_map (λ w. 32 ∷ w) ws) ≤ 22 * n
spaced_length n [] h = omega arith
spaced_length zero (w ∷ ws) h = absurd h
spaced_length (suc n) (w ∷ ws) h =
    let e = length-append w (flat_map (λ w. 32 ∷ w) ws) in let few = h.0 in let more = spaced_length n ws h.1 in omega (arith, e, few, more)

joined_length : (n : ℕ) (ws : List (List ℕ)) → AreFew n ws → length (joined ws) ≤ 22 * n
joined_length n [] h = omega arith
joined_length zero (w ∷ ws) h = absurd h
joined_length (suc n) (w ∷ ws) h =
    let e = length-append w (flat_map (λ w. 32 ∷ w) ws) in let few = h.0 in let more = spaced_length n ws h.1 in omega (arith, e, few, more)

-- a line of few words has a form, where its numbers keep their limits
in_form : (n : ℕ) (l : CertLine) → n ≤ 2049 → IsWritten l → AreFew n (line_words l) → IsInForm l
in_form n l le h few = let k = joined_length n (line_words l) few in record { written = h; spelled = refl; short = omega (arith, k, le) }

number : (n : ℕ) → IsShort n → length (decimal n) ≤ 16
number n h = length-decimal-le 16 n (omega arith) h (omega (arith, h))

num : (n : ℕ) → IsShort n → length (decimal n) ≤ 21
num n h = let k = number n h in omega (arith, k)

span : (v : Span) → IsShortSpan v → length (span_word v) ≤ 21
span (At n) h = num n h
span Never h = omega arith

cand : (c : Cand) → IsShortCand c → length (cand_word c) ≤ 21
cand (Tok n) h = let k = number n h in omega (arith, k)
cand (Out n) h = let k = number n h in omega (arith, k)

decision_few : (d : Decision) → IsShortDecision d → AreFew 4 (decision_words d)
decision_few (Join x p y) h = (omega arith, (num x h.0, (num p h.1, (num y h.2, tt))))
decision_few (Bring x p a) h = (omega arith, (num x h.0, (num p h.1, (num a h.2, tt))))
decision_few (Before x y) h = (omega arith, (num x h.0, (num y h.1, tt)))

flaw_few : (f : Flaw) → IsShortFlaw f → AreFew 4 (flaw_words f)
flaw_few (Threat x p d) h = (omega arith, (num x h.0, (num p h.1, (num d h.2, tt))))
flaw_few (OpenNeed x p) h = (omega arith, (num x h.0, (num p h.1, tt)))
flaw_few (Clash x y) h = (omega arith, (num x h.0, (num y h.1, tt)))

step_few : (r : Step) → IsShortStep r → AreFew 6 (step_words r)
step_few (R1 x y v) h = (omega arith, (num x h.0, (num y h.1, (span v h.2, tt))))
step_few (R2 x y v) h = (omega arith, (num x h.0, (num y h.1, (span v h.2, tt))))
step_few (R3 x y) h = (omega arith, (num x h.0, (num y h.1, tt)))
step_few (R4 x p v) h = (omega arith, (num x h.0, (num p h.1, (span v h.2, tt))))
step_few (R5 x p c) h = (omega arith, (num x h.0, (num p h.1, (cand c h.2, tt))))
step_few (R6 x p) h = (omega arith, (num x h.0, (num p h.1, tt)))
step_few (R7 x p a) h = (omega arith, (num x h.0, (num p h.1, (cand (Out a) h.2, tt))))
step_few (R8 x p c d) h = (omega arith, (num x h.0, (num p h.1, (cand c h.2, (num d h.3, tt)))))
step_few (R9After x p d) h = (omega arith, (num x h.0, (num p h.1, (num d h.2, (omega arith, tt)))))
step_few (R9Ahead x p d) h = (omega arith, (num x h.0, (num p h.1, (num d h.2, (omega arith, tt)))))
step_few (R10 a p v) h = (omega arith, (num a h.0, (num p h.1, (span v h.2, tt))))
step_few (R11After x p a v) h = (omega arith, (num x h.0, (num p h.1, (num a h.2, (omega arith, (span v h.3, tt))))))
step_few (R11Ahead x p a v) h = (omega arith, (num x h.0, (num p h.1, (num a h.2, (omega arith, (span v h.3, tt))))))
step_few (R12After x a v) h = (omega arith, (num x h.0, (num a h.1, (omega arith, (span v h.2, tt)))))
step_few (R12Ahead x a v) h = (omega arith, (num x h.0, (num a h.1, (omega arith, (span v h.2, tt)))))
step_few (R13 x p c q) h = (omega arith, (num x h.0, (num p h.1, (cand c h.2, (num q h.3, tt)))))

more_few : (n : ℕ) (ws : List (List ℕ)) → AreFew n ws → AreFew (suc n) ws
more_few n [] h = tt
more_few zero (w ∷ ws) h = absurd h
more_few (suc n) (w ∷ ws) h = (h.0, more_few n ws h.1)

node_few : (l : NodeLine) → IsShortNode l → AreFew 6 (node_words l)
node_few (Child d) h = (omega arith, more_few 4 (decision_words d) (decision_few d h))
node_few (Narrow rule) h = step_few rule h
node_few Close h = (omega arith, tt)
node_few (Branch flaw) h = (omega arith, more_few 4 (flaw_words flaw) (flaw_few flaw h))
node_few OpenNode h = (omega arith, tt)

claim_few : (c : Claim) → IsClaim c → AreFew 3 (claim_words c)
claim_few (claims.Optimal m) h = (omega arith, (num m (omega (arith, h)), tt))
claim_few (claims.NoneUpTo m) h = (omega arith, (num m (omega (arith, h)), tt))
claim_few claims.Never h = (omega arith, tt)
claim_few (claims.Spent refuted nodes) h = (omega arith, (num refuted (let k = h.0 in omega (arith, k)), (num nodes (let k = h.2 in omega (arith, k)), tt)))

node_form : (l : NodeLine) → IsShortNode l → IsInForm (lines.Node l)
node_form l h = in_form 6 (lines.Node l) (omega arith) h (node_few l h)

claim_form : (c : Claim) → IsClaim c → IsInForm (lines.Claimed c)
claim_form c h = in_form 4 (lines.Claimed c) (omega arith) h (omega arith, claim_few c h)

version_form : (v : Version) → IsInForm (lines.First v)
version_form One = in_form 2 (lines.First One) (omega arith) tt (omega arith, (omega arith, tt))
version_form Two = in_form 2 (lines.First Two) (omega arith) tt (omega arith, (omega arith, tt))

sizes_form : (atoms actions : ℕ) → IsShort atoms → IsShort actions → IsInForm (lines.Sizes atoms actions)
sizes_form atoms actions h k = in_form 3 (lines.Sizes atoms actions) (omega arith) (h, k) (omega arith, (num atoms h, (num actions k, tt)))

item_form : (start act : ℕ) → IsShort start → IsShort act → IsInForm (lines.Item start act)
item_form start act h k = in_form 2 (lines.Item start act) (omega arith) (h, k) (num start h, (num act k, tt))

head_form : (k : ℕ) → k ≤ 4294967295 → IsInForm (lines.Plan k)
head_form k h = in_form 2 (lines.Plan k) (omega arith) h (omega arith, (num k (omega (arith, h)), tt))

tree_form : (b : ℕ) → IsShort b → IsInForm (lines.Tree b)
tree_form b h = in_form 2 (lines.Tree b) (omega arith) h (omega arith, (num b h, tt))

open_form : (b : ℕ) → IsShort b → IsInForm (lines.OpenTree b)
open_form b h = in_form 2 (lines.OpenTree b) (omega arith) h (omega arith, (num b h, tt))

pairs_form : IsInForm lines.Pairs
pairs_form = in_form 1 lines.Pairs (omega arith) tt (omega arith, tt)

dists_form : IsInForm lines.Dists
dists_form = in_form 1 lines.Dists (omega arith) tt (omega arith, tt)

end_form : IsInForm lines.End
end_form = in_form 1 lines.End (omega arith) tt (omega arith, tt)

-- a run of at most so many values
record IsUpTo (n : ℕ) (run : Run) : Type 0 where
  value : IsRowSpan run.value
  some : 1 ≤ run.count
  few : run.count ≤ n

wider : (n : ℕ) (runs : List Run) → All (IsUpTo n) runs → All (IsUpTo (suc n)) runs
wider n runs h k d l = let r = h k d l in let few = r.few in record { value = r.value; some = r.some; few = omega (arith, few) }

once_up_to : (n : ℕ) (v : Span) → IsRowSpan v → IsUpTo (suc n) (once v)
once_up_to n v h = record { value = h; some = omega arith; few = omega arith }

-- a value more makes a run longer by one, or is a run of its own
before_up_to : (n : ℕ) (v : Span) (runs : List Run) → IsRowSpan v → All (IsUpTo n) runs → All (IsUpTo (suc n)) (run_before v runs)
before_up_to n v [] h k = All-cons (IsUpTo (suc n)) (once v) [] (once_up_to n v h) (All-nil (IsUpTo (suc n)))
before_up_to n v (run ∷ runs) h k = go (same_span v run.value)
  where
    go : (b : Bool) → All (IsUpTo (suc n)) (if b then record { value = v; count = run.count + 1 } ∷ runs else once v ∷ run ∷ runs)
    go true =
        let r = All-head (IsUpTo n) run runs k in
        let few = r.few in
        All-cons (IsUpTo (suc n)) (record { value = v; count = run.count + 1 }) runs (record { value = h; some = omega arith; few = omega (arith, few) }) (wider n runs (All-tail (IsUpTo n) run runs k))
    go false = All-cons (IsUpTo (suc n)) (once v) (run ∷ runs) (once_up_to n v h) (wider n (run ∷ runs) k)

runs_up_to : (vs : List Span) → All IsRowSpan vs → All (IsUpTo (length vs)) (runs_of vs)
runs_up_to [] h = All-nil (IsUpTo 0)
runs_up_to (v ∷ vs) h = before_up_to (length vs) v (runs_of vs) (All-head IsRowSpan v vs h) (runs_up_to vs (All-tail IsRowSpan v vs h))

-- neighbours differ
differ : (v w : Span) → same_span v w ≡ false → v ≡ w → ⊥
differ v w e m = let s : same_span v w ≡ true = subst (λ z. same_span v z ≡ true) m (same_span_same v) in cc

apart_before : (v : Span) (runs : List Run) → AreRuns runs → AreRuns (run_before v runs)
apart_before v [] h = tt
apart_before v (run ∷ runs) h = go (same_span v run.value) refl runs h
  where
    go : (b : Bool) → same_span v run.value ≡ b → (rest : List Run) → AreRuns (run ∷ rest) → AreRuns (if b then record { value = v; count = run.count + 1 } ∷ rest else once v ∷ run ∷ rest)
    go true e [] k = tt
    go true e (next ∷ rest) k = ((λ m. k.0 (sym (same_span_true v run.value e) ∙ m)), k.1)
    go false e rest k = ((λ m. differ v run.value e m), k)

runs_apart : (vs : List Span) → AreRuns (runs_of vs)
runs_apart [] = tt
runs_apart (v ∷ vs) = apart_before v (runs_of vs) (runs_apart vs)

-- no more runs than values
before_length : (v : Span) (runs : List Run) → length (run_before v runs) ≤ suc (length runs)
before_length v [] = omega arith
before_length v (run ∷ runs) = go (same_span v run.value)
  where
    go : (b : Bool) → length (if b then record { value = v; count = run.count + 1 } ∷ runs else once v ∷ run ∷ runs) ≤ suc (suc (length runs))
    go true = omega arith
    go false = omega arith

runs_length : (vs : List Span) → length (runs_of vs) ≤ length vs
runs_length [] = omega arith
runs_length (v ∷ vs) = let e = before_length v (runs_of vs) in let more = runs_length vs in omega (arith, e, more)

row_length : (v : Version) (vs : List Span) → length (row_runs v vs) ≤ length vs
row_length One vs = let e = length-map vs once in omega (arith, e)
row_length Two vs = runs_length vs

alone : (vs : List Span) → AreAlone (map once vs)
alone vs = All-map (λ (run : Run). run.count ≡ 1) once vs (λ k d l. refl)

row_is_row : (v : Version) (vs : List Span) → All IsRowSpan vs → length vs ≤ 2048 → IsRow (row_runs v vs)
row_is_row One vs h le = record {
  all = All-map IsRun once vs (λ k d l. record { value = h k d l; some = omega arith; few = omega arith });
  form = inl (alone vs);
}
row_is_row Two vs h le = record {
  all = λ k d l. let r = runs_up_to vs h k d l in let few = r.few in record { value = r.value; some = r.some; few = omega (arith, few, le) };
  form = inr (runs_apart vs);
}

value_length : (v : Span) → IsRowSpan v → length (span_word v) ≤ 15
value_length (At n) h = length-decimal-le 15 n (omega arith) h (omega (arith, h))
value_length Never h = omega arith

long_run : (v : Span) (n : ℕ) → IsRowSpan v → n ≤ 2048 → length (span_word v ++ codes "*" ++ decimal n) ≤ 21
long_run v n h few =
    let k = value_length v h in
    let m = length-decimal-le 4 n (omega arith) (omega (arith, few)) (omega (arith, few)) in
    let e = length-append (span_word v ++ codes "*") (decimal n) in
    let f = length-append (span_word v) (codes "*") in omega (arith, k, m, e, f)

run_length : (run : Run) → IsRun run → length (run_word run) ≤ 21
run_length run h = go (run.count == 1)
  where
    go : (b : Bool) → length (if b then span_word run.value else span_word run.value ++ codes "*" ++ decimal run.count) ≤ 21
    go true = let k = value_length run.value h.value in omega (arith, k)
    go false = long_run run.value run.count h.value h.few

runs_few : (runs : List Run) → All IsRun runs → AreFew (length runs) (map run_word runs)
runs_few [] h = tt
runs_few (run ∷ runs) h = (run_length run (All-head IsRun run runs h), runs_few runs (All-tail IsRun run runs h))

pair_row_form : (v : Version) (vs : List Span) → All IsRowSpan vs → length vs ≤ 2048 → IsInForm (lines.PairRow (row_runs v vs))
pair_row_form v vs h le =
    let row = row_is_row v vs h le in
    let k = row_length v vs in in_form (suc (length (row_runs v vs))) (lines.PairRow (row_runs v vs)) (omega (arith, k, le)) row (omega arith, runs_few (row_runs v vs) row.all)

dist_row_form : (v : Version) (vs : List Span) → All IsRowSpan vs → length vs ≤ 2048 → IsInForm (lines.DistRow (row_runs v vs))
dist_row_form v vs h le =
    let row = row_is_row v vs h le in
    let k = row_length v vs in in_form (suc (length (row_runs v vs))) (lines.DistRow (row_runs v vs)) (omega (arith, k, le)) row (omega arith, runs_few (row_runs v vs) row.all)

-- what holds of all numbers of a range
range_all : (P : ℕ → Type 0) (a n : ℕ) → ((k : ℕ) → a ≤ k → k < a + n → P k) → All P (range_with_len a n)
range_all P a zero h = All-nil P
range_all P a (suc n) h = All-cons P a (range_with_len (a + 1) n) (h a (omega arith) (omega arith)) (range_all P (a + 1) n (λ k le lt. h k (omega (arith, le)) (omega (arith, lt))))

row_value : (v : Span) → IsBelow 1000000000000000 v → IsRowSpan v
row_value (At n) h = omega (arith, h)
row_value Never h = tt

-- what a claim asks for is in its form
pub record HasParts (t : TaskShape) (claim : Claim) (c : Parts) : Type 0 where
  pub claimed : IsClaim claim
  pub of_task : IsPlan t c.plan
  pub listed : IsListedPlan c.plan
  pub tables : AsksTables claim → FitsTask t c.tables
  pub tree : AsksTree claim → All IsShortNode c.tree
  pub partial : AsksPartial claim → All IsShortNode c.partial

module _ (t : TaskShape) (v : Version) (inside : InBounds t) (few : length t.atoms ≤ 2048) where
  pair_forms : (b : Tables) → FitsTask t b → All IsInForm (pair_lines v b.pairs)
  pair_forms b fits =
      let size = fits.pairs.size in
      All-cons IsInForm lines.Pairs (map (λ p. lines.PairRow (row_runs v (pair_row b.pairs p))) (range_with_len 0 b.pairs.atoms)) pairs_form
      (All-map IsInForm (λ p. lines.PairRow (row_runs v (pair_row b.pairs p))) (range_with_len 0 b.pairs.atoms) (range_all (λ p. IsInForm (lines.PairRow (row_runs v (pair_row b.pairs p)))) 0 b.pairs.atoms (λ p le lt.
      let long = length-map-range_with_len (λ q. pair_at b.pairs p q) p (b.pairs.atoms - p) in
      pair_row_form v (pair_row b.pairs p)
      (All-map IsRowSpan (λ q. pair_at b.pairs p q) (range_with_len p (b.pairs.atoms - p)) (range_all (λ q. IsRowSpan (pair_at b.pairs p q)) p (b.pairs.atoms - p)
      (λ q from to. row_value (pair_at b.pairs p q) (fits.pairs.small p q (omega (arith, lt)) (omega (arith, lt, from, to))))))
      (omega (arith, long, size, few)))))

  dist_forms : (b : Tables) → FitsTask t b → All IsInForm (dist_lines v b.dists)
  dist_forms b fits =
      let size = fits.dists.atoms in
      All-cons IsInForm lines.Dists (map (λ a. lines.DistRow (row_runs v (dist_row b.dists a))) (range_with_len 0 b.dists.actions)) dists_form
      (All-map IsInForm (λ a. lines.DistRow (row_runs v (dist_row b.dists a))) (range_with_len 0 b.dists.actions) (range_all (λ a. IsInForm (lines.DistRow (row_runs v (dist_row b.dists a)))) 0 b.dists.actions (λ a le lt.
      let long = length-map-range_with_len (λ p. dist_at b.dists a p) 0 b.dists.atoms in
      dist_row_form v (dist_row b.dists a)
      (All-map IsRowSpan (λ p. dist_at b.dists a p) (range_with_len 0 b.dists.atoms) (range_all (λ p. IsRowSpan (dist_at b.dists a p)) 0 b.dists.atoms
      (λ p from to. row_value (dist_at b.dists a p) (fits.dists.small a p (omega (arith, lt)) (omega (arith, to))))))
      (omega (arith, long, size, few)))))

  table_forms : (b : Tables) → FitsTask t b → All IsInForm (table_lines v b)
  table_forms b fits = All-append IsInForm (pair_lines v b.pairs) (dist_lines v b.dists) (pair_forms b fits) (dist_forms b fits)

  plan_forms : (plan : List Occ) → IsPlan t plan → IsListedPlan plan → All IsInForm (plan_lines plan)
  plan_forms plan of_task listed =
      let count = listed.few in
      let most = inside.few_actions in
      All-cons IsInForm (lines.Plan (length plan)) (map (λ (o : Occ). lines.Item o.start o.act) plan) (head_form (length plan) (omega (arith, count)))
      (All-map IsInForm (λ (o : Occ). lines.Item o.start o.act) plan (λ k d l.
      let start = listed.starts k d l in
      let act = of_task k d l in item_form _ _ (omega (arith, start)) (omega (arith, act, most))))

  nodes_form : (tree : List NodeLine) → All IsShortNode tree → All IsInForm (map (λ l. lines.Node l) tree)
  nodes_form tree h = All-map IsInForm (λ l. lines.Node l) tree (λ k d l. node_form _ (h k d l))

  tree_forms : (bound : ℕ) (tree : List NodeLine) → bound ≤ 1000000 → All IsShortNode tree → All IsInForm (tree_lines bound tree)
  tree_forms bound tree le h = All-cons IsInForm (lines.Tree bound) (map (λ l. lines.Node l) tree) (tree_form bound (omega (arith, le))) (nodes_form tree h)

  open_forms : (bound : ℕ) (tree : List NodeLine) → bound ≤ 1000000 → All IsShortNode tree → All IsInForm (open_lines bound tree)
  open_forms bound tree le h = All-cons IsInForm (lines.OpenTree bound) (map (λ l. lines.Node l) tree) (open_form bound (omega (arith, le))) (nodes_form tree h)

  optimal_forms : (m : ℕ) (c : Parts) → HasParts t (claims.Optimal m) c → All IsInForm (optimal_sections v m c)
  optimal_forms zero c h = plan_forms c.plan h.of_task h.listed
  optimal_forms (suc m) c h =
      let le = h.claimed in
      All-append IsInForm (plan_lines c.plan) (table_lines v c.tables ++ tree_lines m c.tree) (plan_forms c.plan h.of_task h.listed)
      (All-append IsInForm (table_lines v c.tables) (tree_lines m c.tree) (table_forms c.tables (h.tables tt)) (tree_forms m c.tree (omega (arith, le)) (h.tree tt)))

  section_forms : (claim : Claim) (c : Parts) → HasParts t claim c → All IsInForm (sections v claim c)
  section_forms (claims.Optimal m) c h = optimal_forms m c h
  section_forms (claims.NoneUpTo m) c h = All-append IsInForm (table_lines v c.tables) (tree_lines m c.tree) (table_forms c.tables (h.tables tt)) (tree_forms m c.tree h.claimed (h.tree tt))
  section_forms claims.Never c h = pair_forms c.tables (h.tables tt)
  section_forms (claims.Spent refuted nodes) c h =
      let le = h.claimed.0 in
      All-append IsInForm (table_lines v c.tables) (tree_lines refuted c.tree ++ open_lines (refuted + 1) c.partial) (table_forms c.tables (h.tables tt))
      (All-append IsInForm (tree_lines refuted c.tree) (open_lines (refuted + 1) c.partial) (tree_forms refuted c.tree (omega (arith, le)) (h.tree tt)) (open_forms (refuted + 1) c.partial (omega (arith, le)) (h.partial tt)))

  -- the lines of a certificate whose parts are in their forms
  pub part_forms : (c : Parts) → HasParts t c.claim c → All IsInForm (cert_lines v t c)
  part_forms c h =
      let few_actions = inside.few_actions in
      let rest = sections v c.claim c ++ lines.End ∷ [] in
      let sizes = lines.Sizes (length t.atoms) (length t.actions) in
      All-cons IsInForm (lines.First v) (lines.Claimed c.claim ∷ sizes ∷ rest) (version_form v)
      (All-cons IsInForm (lines.Claimed c.claim) (sizes ∷ rest) (claim_form c.claim h.claimed)
      (All-cons IsInForm sizes rest (sizes_form (length t.atoms) (length t.actions) (omega (arith, few)) (omega (arith, few_actions)))
      (All-append IsInForm (sections v c.claim c) (lines.End ∷ []) (section_forms c.claim c h) (All-cons IsInForm lines.End [] end_form (All-nil IsInForm)))))

tables_fit : (t : TaskShape) (o : Option (Bor Tables)) → HasTables t o → FitsTask t (tables_in o)
tables_fit t None h = absurd h
tables_fit t (Some b) h = h

tree_short : (mo : Bool) (o : Option (Bor Tree)) → HasTree mo o → All IsShortNode (lines_in o)
tree_short mo None h = absurd h
tree_short mo (Some tree) h = h.short

pub whole_lines_in_form : WholeLinesInForm
whole_lines_in_form t c v inside few of_task h =
    part_forms t v inside few (parts_of c) (record {
      claimed = h.claim;
      of_task = of_task;
      listed = h.plan;
      tables = λ a. tables_fit t c.tables (h.tables a);
      tree = λ a. tree_short false c.tree (h.tree a);
      partial = λ a. tree_short true c.partial (h.partial a);
    })
