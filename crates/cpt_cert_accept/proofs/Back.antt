-- lines that are read whole are those of a certificate
use Rattle.std.proofs.Common.{◌≡◌, ℕ, zero, suc, ◌+◌, ◌==◌, ◌&&◌, inl, inr, true, false, Bool, if◌then◌else◌, List, [], ◌∷◌, ◌++◌, length, map, refl, sym, ap, ◌∙◌, subst, append_assoc, count_by}
use Rattle.std.specs.List.{range_with_len, list_any}
use Rattle.std.proofs.lemmas.Bool.{and_parts, eqb-true}
use Rattle.std.proofs.lemmas.List.{map-append}
use mathlib.Core.List.{map-map}
use Rattle.cpt_task.specs.declared.span.Span.{Span}
use Rattle.cpt_task.specs.declared.span.Span.TheVariants.{Never}
use Rattle.cpt_task.specs.declared.plan.Occ.{Occ}
use Rattle.cpt_task.specs.Shape.{TaskShape}
use Rattle.cpt_tables.specs.declared.tables.Tables.{Tables}
use Rattle.cpt_tables.specs.Shapes.{PairShape, DistShape, pairs_of, dists_of, IsWholeDists, FitsDists, set_span_of}
use Rattle.cpt_tables.specs.Admissible.{IsAdmissibleDists}
use Rattle.cpt_sheet.specs.declared.data.NodeLine.{NodeLine}
use Rattle.cpt_sheet.specs.declared.data.NodeLine.TheVariants.{Child, Narrow, Close, Branch}
use Rattle.cpt_calculus.specs.Decisions.{applied}
use Rattle.cpt_calculus.specs.Root.{root_of}
use Rattle.cpt_cert_form.specs.declared.forms.Version.{Version}
use Rattle.cpt_cert_form.specs.declared.forms.Claim.{Claim}
use Rattle.cpt_cert_form.specs.declared.forms.Claim.TheVariants as claims
use Rattle.cpt_cert_form.specs.declared.forms.CertLine.{CertLine}
use Rattle.cpt_cert_form.specs.declared.forms.CertLine.TheVariants as lines
use Rattle.cpt_cert_form.specs.Text.{Parts, row_runs, pair_row, dist_row, plan_lines, pair_lines, dist_lines, table_lines, tree_lines, open_lines, sections}
use Rattle.cpt_cert_accept.specs.declared.faults.Why.{Why}
use Rattle.cpt_cert_accept.specs.Trees.{Part, IsPart}
use Rattle.cpt_cert_accept.specs.Trees.Part.{node, worked, branches}
use Rattle.cpt_cert_accept.specs.Accepting.{is_no_sooner, IsInOrder, IsPlanOf, HasPairs, HasTables, IsClosedAt, IsOpenAt, Proves, is_done, is_left}
use Rattle.cpt_cert_accept.specs.Reading.{Outcome, Then, After, behind, take_version, take_claim, take_items, take_plan, take_pair_rows, take_pairs, take_dist_rows, take_dists, take_tree, take_open_tree, take_end, take_sizes, soonest, is_row, is_form, values_of, JudgesPlan, JudgesPairs, JudgesDists, JudgesGoal, ReadsPlan, ReadsPairs, ReadsDists}
use Rattle.cpt_cert_accept.specs.Reading.Outcome.{went, faulted}
use Rattle.cpt_cert_accept.specs.Descent.{Reads, ReadsTree, ReadsOpenTree, ReadsTables, ReadsLastTree, ReadsTwoTrees, ReadsOptimal, ReadsSections, ReadsBody, ReadsAll, is_counted, take_counted_end}
use Rattle.cpt_cert_accept.specs.Descent.Reads.{left, whole, step, illegal, close, alive, branch, flawless, strange, none, child, inside, other, childless}
use Rattle.cpt_cert_accept.specs.Laws.{AllFilled, IsMadeOf, WholeLines}
use Rattle.cpt_cert_accept.proofs.Rows.{runs_back}
use Rattle.cpt_cert_accept.proofs.Whole.{as_lines, Follow, item, ending, lines_read}

-- what an outcome behind a section is made of
pub behind_went : {A B : Type 0} (f : A → B) (x : Outcome A) (b : B) (rest : List CertLine) (m : ℕ) → behind f x ≡ went b rest m → (a : A) × (x ≡ went a rest m) × (b ≡ f a)
behind_went f (went a r k) b rest m e = (a, (let h : r ≡ rest = cc in let j : k ≡ m = cc in cc), cc)
behind_went f (faulted line why) b rest m e = absurd (cc)

pub if_went : {A : Type 0} (c : Bool) (x : Outcome A) (n : ℕ) (why : Why) (a : A) (rest : List CertLine) (m : ℕ) → (if c then x else faulted n why) ≡ went a rest m → (c ≡ true) × (x ≡ went a rest m)
if_went true x n why a rest m e = (refl, e)
if_went false x n why a rest m e = absurd (cc)

-- what two outcomes that are one say
pub went_value : {A : Type 0} {a c : A} {r s : List CertLine} {k m : ℕ} → went a r k ≡ went c s m → a ≡ c
went_value e = cc

pub went_rest : {A : Type 0} {a c : A} {r s : List CertLine} {k m : ℕ} → went a r k ≡ went c s m → r ≡ s
went_rest e = cc

-- what is read whole by one section and the next
pub then_went : {A B : Type 0} (first : ℕ → List CertLine → Outcome A → Type 0) (next : A → ℕ → List CertLine → Outcome B → Type 0) (n : ℕ) (ls : List CertLine) (b : B) (rest : List CertLine) (m : ℕ) →
    Then first next n ls (went b rest m) → (a : A) × (r : List CertLine) × (k : ℕ) × first n ls (went a r k) × next a k r (went b rest m)
then_went {A} first next n ls b rest m h = go h.0 h.1 h.2
  where
    go : (x : Outcome A) → first n ls x → After next x (went b rest m) → (a : A) × (r : List CertLine) × (k : ℕ) × first n ls (went a r k) × next a k r (went b rest m)
    go (went a r k) p q = (a, r, k, p, q)
    go (faulted line why) p q = absurd (cc)

-- what a part of a tree that is read whole is
abbrev IsReadPart : TaskShape → Tables → Bool → Part → List CertLine → Outcome (List NodeLine) → Type 0
IsReadPart t b mo part ls (went f rest m) = IsPart t b mo part f × (ls ≡ as_lines f ++ rest)
IsReadPart t b mo part ls (faulted line why) = Unit {0}

-- a line before the lines of a part
put_before : (t : TaskShape) (b : Tables) (mo : Bool) (part outer : Part) (l : NodeLine) (ls : List CertLine) (x o : Outcome (List NodeLine)) →
    ((f : List NodeLine) → IsPart t b mo part f → IsPart t b mo outer (l ∷ f)) → IsReadPart t b mo part ls x → o ≡ behind (λ f. l ∷ f) x → IsReadPart t b mo outer (lines.Node l ∷ ls) o
put_before t b mo part outer l ls (went f rest m) o make h e = subst (IsReadPart t b mo outer (lines.Node l ∷ ls)) (sym e) (make f h.0, ap (λ z. lines.Node l ∷ z) h.1)
put_before t b mo part outer l ls (faulted line why) o make h e = subst (IsReadPart t b mo outer (lines.Node l ∷ ls)) (sym e) tt

pub part_back : (t : TaskShape) (b : Tables) (mo : Bool) (part : Part) (n : ℕ) (ls : List CertLine) (o : Outcome (List NodeLine)) → Reads t b mo part n ls o → IsReadPart t b mo part ls o
part_back t b mo r i l y (left s n ls e) = (IsPart.left s e, refl)
part_back t b mo r i l y (whole s n ls (went f rest m) e h) = let k = part_back t b mo (worked s) n ls (went f rest m) h in (IsPart.whole s f k.0, k.1)
part_back t b mo r i l y (whole s n ls (faulted line why) e h) = tt
part_back t b mo r i l y (step s n rule ls x o legal h e) =
    put_before t b mo (worked _) (worked s) (Narrow rule) ls x o (λ f k. IsPart.step s rule f legal k) (part_back t b mo (worked _) (n + 1) ls x h) e
part_back t b mo r i l y (illegal s n rule ls o not_so e) = subst (IsReadPart t b mo (worked s) (lines.Node (Narrow rule) ∷ ls)) (sym e) tt
part_back t b mo r i l y (close s n ls o dead e) = subst (IsReadPart t b mo (worked s) (lines.Node Close ∷ ls)) (sym e) (IsPart.close s dead, refl)
part_back t b mo r i l y (alive s n ls o not_so e) = subst (IsReadPart t b mo (worked s) (lines.Node Close ∷ ls)) (sym e) tt
part_back t b mo r i l y (branch s n flaw ls x o live stands h e) =
    put_before t b mo (branches s _) (worked s) (Branch flaw) ls x o (λ f k. IsPart.branch s flaw f live stands k) (part_back t b mo (branches s _) (n + 1) ls x h) e
part_back t b mo r i l y (flawless s n flaw ls o not_so e) = subst (IsReadPart t b mo (worked s) (lines.Node (Branch flaw) ∷ ls)) (sym e) tt
part_back t b mo r i l y (strange s n ls o f e) = subst (IsReadPart t b mo (worked s) ls) (sym e) tt
part_back t b mo r i l y (none s n ls o e) = subst (IsReadPart t b mo (branches s []) ls) (sym e) (IsPart.none s, refl)
part_back t b mo r i l y (child s n d c ds ls one rest m x o same h k e) =
    go (part_back t b mo (node (applied t s d)) (n + 1) ls (went one rest m) h) x (part_back t b mo (branches s ds) m rest x k) e
  where
    go : IsReadPart t b mo (node (applied t s d)) ls (went one rest m) → (z : Outcome (List NodeLine)) → IsReadPart t b mo (branches s ds) rest z → o ≡ behind (λ f. Child d ∷ (one ++ f)) z → IsReadPart t b mo (branches s (d ∷ ds)) (lines.Node (Child c) ∷ ls) o
    go first (went more after j) p q =
        subst (IsReadPart t b mo (branches s (d ∷ ds)) (lines.Node (Child c) ∷ ls)) (sym q) (
          IsPart.child s d ds one more (one ++ more) first.0 p.0 refl,
          ap (λ z. lines.Node (Child z) ∷ ls) same
              ∙ ap (λ z. lines.Node (Child d) ∷ z) (first.1 ∙ ap (λ z. as_lines one ++ z) p.1 ∙ sym (append_assoc (as_lines one) (as_lines more) after) ∙ ap (λ z. z ++ after) (sym (map-append (λ w. lines.Node w) one more))),
        )
    go first (faulted line why) p q = subst (IsReadPart t b mo (branches s (d ∷ ds)) (lines.Node (Child c) ∷ ls)) (sym q) tt
part_back t b mo r i l y (inside s n d c ds ls line why o same h e) = subst (IsReadPart t b mo (branches s (d ∷ ds)) (lines.Node (Child c) ∷ ls)) (sym e) tt
part_back t b mo r i l y (other s n d c ds ls o not_so e) = subst (IsReadPart t b mo (branches s (d ∷ ds)) (lines.Node (Child c) ∷ ls)) (sym e) tt
part_back t b mo r i l y (childless s n d ds ls o f e) = subst (IsReadPart t b mo (branches s (d ∷ ds)) ls) (sym e) tt

-- occurrences
pub items_back : (k : ℕ) (before : Occ) (n : ℕ) (ls : List CertLine) (plan : List Occ) (rest : List CertLine) (m : ℕ) → take_items k before n ls ≡ went plan rest m →
    (length plan ≡ k) × Follow before plan × (ls ≡ map item plan ++ rest)
items_back zero before n ls plan rest m e = let p : [] ≡ plan = cc in let r : ls ≡ rest = cc in subst (λ z. (length z ≡ 0) × Follow before z × (ls ≡ map item z ++ rest)) p (refl, tt, r)
items_back (suc k) before n (lines.Item start act ∷ ls) plan rest m e =
    let o : Occ = record { act = act; start = start } in
    let g = if_went (is_no_sooner before o) (behind (λ os. o ∷ os) (take_items k o (n + 1) ls)) n _ plan rest m e in
    let h = behind_went (λ os. o ∷ os) (take_items k o (n + 1) ls) plan rest m g.1 in
    let i = items_back k o (n + 1) ls h.0 rest m h.1 in
    subst (λ z. (length z ≡ suc k) × Follow before z × (lines.Item start act ∷ ls ≡ map item z ++ rest)) (sym h.2) (ap suc i.0, (g.0, i.1), ap (λ z. lines.Item start act ∷ z) i.2)
items_back (suc k) before n _ plan rest m e = absurd (cc)

pub in_order : (before : Occ) (plan : List Occ) → Follow before plan → IsInOrder plan
in_order before [] h = tt
in_order before (o ∷ []) h = tt
in_order before (o ∷ q ∷ os) h = (h.1.0, in_order o (q ∷ os) h.1)

plan_head : (n : ℕ) (ls : List CertLine) (plan : List Occ) (rest : List CertLine) (m : ℕ) → take_plan n ls ≡ went plan rest m → IsInOrder plan × (ls ≡ plan_lines plan ++ rest)
plan_head n (lines.Plan k ∷ ls) plan rest m e =
    let i = items_back k soonest (n + 1) ls plan rest m e in (in_order soonest plan i.1, ap (λ z. lines.Plan z ∷ ls) (sym i.0) ∙ ap (λ z. lines.Plan (length plan) ∷ z) i.2)
plan_head n _ plan rest m e = absurd (cc)

filled_behind : (front rest : List CertLine) → AllFilled (front ++ rest) → AllFilled rest
filled_behind [] rest h = h
filled_behind (l ∷ front) rest h = filled_behind front rest h.1

filled_rest : (ls front rest : List CertLine) → ls ≡ front ++ rest → AllFilled ls → AllFilled rest
filled_rest ls front rest e h = filled_behind front rest (subst AllFilled e h)

-- rows
abbrev pair_line : Version → List Span → CertLine
pair_line v row = lines.PairRow (row_runs v row)

abbrev dist_line : Version → List Span → CertLine
dist_line v row = lines.DistRow (row_runs v row)

pair_rows_back : (v : Version) (k n : ℕ) (ls : List CertLine) (rows : List (List Span)) (rest : List CertLine) (m : ℕ) → AllFilled ls → take_pair_rows v k n ls ≡ went rows rest m → ls ≡ map (pair_line v) rows ++ rest
pair_rows_back v zero n ls rows rest m some e = let p : [] ≡ rows = cc in let r : ls ≡ rest = cc in subst (λ z. ls ≡ map (pair_line v) z ++ rest) p r
pair_rows_back v (suc k) n (lines.PairRow runs ∷ ls) rows rest m some e =
    let g = if_went (is_row v (suc k) runs) (behind (λ rs. values_of runs ∷ rs) (take_pair_rows v k (n + 1) ls)) n _ rows rest m e in
    let h = behind_went (λ rs. values_of runs ∷ rs) (take_pair_rows v k (n + 1) ls) rows rest m g.1 in
    let form = and_parts (is_form v runs) (length (values_of runs) == suc k) g.0 in
    subst (λ z. lines.PairRow runs ∷ ls ≡ map (pair_line v) z ++ rest) (sym h.2) (
    ap (λ z. lines.PairRow z ∷ ls) (sym (runs_back v runs some.0 form.0)) ∙ ap (λ z. pair_line v (values_of runs) ∷ z) (pair_rows_back v k (n + 1) ls h.0 rest m some.1 h.1)
    )
pair_rows_back v (suc k) n _ rows rest m some e = absurd (cc)

dist_rows_back : (v : Version) (w k n : ℕ) (ls : List CertLine) (rows : List (List Span)) (rest : List CertLine) (m : ℕ) → AllFilled ls → take_dist_rows v w k n ls ≡ went rows rest m → ls ≡ map (dist_line v) rows ++ rest
dist_rows_back v w zero n ls rows rest m some e = let p : [] ≡ rows = cc in let r : ls ≡ rest = cc in subst (λ z. ls ≡ map (dist_line v) z ++ rest) p r
dist_rows_back v w (suc k) n (lines.DistRow runs ∷ ls) rows rest m some e =
    let g = if_went (is_row v w runs) (behind (λ rs. values_of runs ∷ rs) (take_dist_rows v w k (n + 1) ls)) n _ rows rest m e in
    let h = behind_went (λ rs. values_of runs ∷ rs) (take_dist_rows v w k (n + 1) ls) rows rest m g.1 in
    let form = and_parts (is_form v runs) (length (values_of runs) == w) g.0 in
    subst (λ z. lines.DistRow runs ∷ ls ≡ map (dist_line v) z ++ rest) (sym h.2) (
    ap (λ z. lines.DistRow z ∷ ls) (sym (runs_back v runs some.0 form.0)) ∙ ap (λ z. dist_line v (values_of runs) ∷ z) (dist_rows_back v w k (n + 1) ls h.0 rest m some.1 h.1)
    )
dist_rows_back v w (suc k) n _ rows rest m some e = absurd (cc)

pairs_head : (v : Version) (k n : ℕ) (ls : List CertLine) (rows : List (List Span)) (rest : List CertLine) (m : ℕ) → AllFilled ls → take_pairs v k n ls ≡ went rows rest m → ls ≡ lines.Pairs ∷ (map (pair_line v) rows ++ rest)
pairs_head v k n (lines.Pairs ∷ ls) rows rest m some e = ap (λ z. lines.Pairs ∷ z) (pair_rows_back v k (n + 1) ls rows rest m some.1 e)
pairs_head v k n _ rows rest m some e = absurd (cc)

dists_head : (v : Version) (w k n : ℕ) (ls : List CertLine) (rows : List (List Span)) (rest : List CertLine) (m : ℕ) → AllFilled ls → take_dists v w k n ls ≡ went rows rest m → ls ≡ lines.Dists ∷ (map (dist_line v) rows ++ rest)
dists_head v w k n (lines.Dists ∷ ls) rows rest m some e = ap (λ z. lines.Dists ∷ z) (dist_rows_back v w k (n + 1) ls rows rest m some.1 e)
dists_head v w k n _ rows rest m some e = absurd (cc)

pairs_back : (t : TaskShape) (v : Version) (n : ℕ) (ls : List CertLine) (h : PairShape) (rest : List CertLine) (m : ℕ) → AllFilled ls → ReadsPairs t v n ls (went h rest m) → HasPairs t h × (ls ≡ pair_lines v h ++ rest)
pairs_back t v n ls h rest m some reads = go (then_went (λ n ls x. x ≡ take_pairs v (length t.atoms) n ls) (JudgesPairs t n) n ls h rest m reads)
  where
    go : ((rows : List (List Span)) × (r : List CertLine) × (k : ℕ) × (went rows r k ≡ take_pairs v (length t.atoms) n ls) × JudgesPairs t n rows k r (went h rest m)) → HasPairs t h × (ls ≡ pair_lines v h ++ rest)
    go (rows, r, k, e, (g, of, inl ok)) =
        let same : h ≡ g = cc in
        let after : rest ≡ r = cc in
        let read : ls ≡ lines.Pairs ∷ (map (pair_line v) rows ++ r) = pairs_head v (length t.atoms) n ls rows r k some (sym e) in
        let all : map (pair_line v) rows ≡ map (λ q. pair_line v (pair_row g q)) (range_with_len 0 g.atoms) = ap (map (pair_line v)) of.same ∙ map-map (pair_line v) (pair_row g) (range_with_len 0 g.atoms) in
        subst (λ z. HasPairs t z × (ls ≡ pair_lines v z ++ rest)) (sym same) (
          record { whole = of.whole; fits = of.fits; admissible = ok.0 },
          read ∙ ap (λ z. lines.Pairs ∷ (z ++ r)) all ∙ ap (λ z. pair_lines v g ++ z) (sym after),
        )
    go (rows, r, k, e, (g, of, inr (f, fault, bad))) = absurd (cc)

-- an admissible distance table of the task's sizes
abbrev IsDistsWhole : TaskShape → PairShape → DistShape → Type 0
IsDistsWhole t h d = IsWholeDists d × FitsDists t d × IsAdmissibleDists t h d

dists_back : (t : TaskShape) (v : Version) (h : PairShape) (n : ℕ) (ls : List CertLine) (d : DistShape) (rest : List CertLine) (m : ℕ) → AllFilled ls → ReadsDists t v h n ls (went d rest m) →
    IsDistsWhole t h d × (ls ≡ dist_lines v d ++ rest)
dists_back t v h n ls d rest m some reads = go (then_went (λ n ls x. x ≡ take_dists v (length t.atoms) (length t.actions) n ls) (JudgesDists t h n) n ls d rest m reads)
  where
    go : ((rows : List (List Span)) × (r : List CertLine) × (k : ℕ) × (went rows r k ≡ take_dists v (length t.atoms) (length t.actions) n ls) × JudgesDists t h n rows k r (went d rest m)) → IsDistsWhole t h d × (ls ≡ dist_lines v d ++ rest)
    go (rows, r, k, e, (g, of, inl ok)) =
        let same : d ≡ g = cc in
        let after : rest ≡ r = cc in
        let read : ls ≡ lines.Dists ∷ (map (dist_line v) rows ++ r) = dists_head v (length t.atoms) (length t.actions) n ls rows r k some (sym e) in
        let all : map (dist_line v) rows ≡ map (λ q. dist_line v (dist_row g q)) (range_with_len 0 g.actions) = ap (map (dist_line v)) of.same ∙ map-map (dist_line v) (dist_row g) (range_with_len 0 g.actions) in
        subst (λ z. IsDistsWhole t h z × (ls ≡ dist_lines v z ++ rest)) (sym same) (
          (of.whole, of.fits, ok.0),
          read ∙ ap (λ z. lines.Dists ∷ (z ++ r)) all ∙ ap (λ z. dist_lines v g ++ z) (sym after),
        )
    go (rows, r, k, e, (g, of, inr (f, fault, bad))) = absurd (cc)

-- both tables, and what is read behind them
tables_back : (t : TaskShape) (v : Version) (next : Tables → ℕ → List CertLine → Outcome (Unit {0}) → Type 0) (n : ℕ) (ls : List CertLine) (u : Unit {0}) (rest : List CertLine) (m : ℕ) → AllFilled ls →
    ReadsTables t v next n ls (went u rest m) → (b : Tables) × (after : List CertLine) × (k : ℕ) × HasTables t b × (ls ≡ table_lines v b ++ after) × AllFilled after × next b k after (went u rest m)
tables_back t v next n ls u rest m some reads =
    let first = then_went (ReadsPairs t v) (λ h. Then (ReadsDists t v h) (λ d. next (record { pairs = h; dists = d }))) n ls u rest m reads in
    let h : PairShape = first.0 in
    let pairs = pairs_back t v n ls h first.1 first.2 some first.3 in
    let some_then = filled_rest ls (pair_lines v h) first.1 pairs.1 some in
    let second = then_went (ReadsDists t v h) (λ d. next (record { pairs = h; dists = d })) first.2 first.1 u rest m first.4 in
    let d : DistShape = second.0 in
    let dists = dists_back t v h first.2 first.1 d second.1 second.2 some_then second.3 in
    let b : Tables = record { pairs = h; dists = d } in (
      b,
      second.1,
      second.2,
      record { whole_pairs = pairs.0.whole; whole_dists = dists.0.0; fits = record { pairs = pairs.0.fits; dists = dists.0.1 }; pairs = pairs.0.admissible; dists = dists.0.2 },
      pairs.1 ∙ ap (λ z. pair_lines v h ++ z) dists.1 ∙ sym (append_assoc (pair_lines v h) (dist_lines v d) second.1),
      filled_rest first.1 (dist_lines v d) second.1 dists.1 some_then,
      second.4,
    )

tree_head : (bound n : ℕ) (ls : List CertLine) (u : Unit {0}) (rest : List CertLine) (m : ℕ) → take_tree bound n ls ≡ went u rest m → ls ≡ lines.Tree bound ∷ rest
tree_head bound n (lines.Tree c ∷ ls) u rest m e =
    let g = if_went (c == bound) (went tt ls (n + 1)) n _ u rest m e in
    let after : ls ≡ rest = went_rest g.1 in ap (λ z. lines.Tree z ∷ ls) (eqb-true c bound g.0) ∙ ap (λ z. lines.Tree bound ∷ z) after
tree_head bound n _ u rest m e = absurd (cc)

open_tree_head : (bound n : ℕ) (ls : List CertLine) (u : Unit {0}) (rest : List CertLine) (m : ℕ) → take_open_tree bound n ls ≡ went u rest m → ls ≡ lines.OpenTree bound ∷ rest
open_tree_head bound n (lines.OpenTree c ∷ ls) u rest m e =
    let g = if_went (c == bound) (went tt ls (n + 1)) n _ u rest m e in
    let after : ls ≡ rest = went_rest g.1 in ap (λ z. lines.OpenTree z ∷ ls) (eqb-true c bound g.0) ∙ ap (λ z. lines.OpenTree bound ∷ z) after
open_tree_head bound n _ u rest m e = absurd (cc)

tree_back : (t : TaskShape) (b : Tables) (bound n : ℕ) (ls : List CertLine) (f : List NodeLine) (rest : List CertLine) (m : ℕ) → ReadsTree t b bound n ls (went f rest m) → IsClosedAt t b bound f × (ls ≡ tree_lines bound f ++ rest)
tree_back t b bound n ls f rest m reads =
    let h = then_went (λ n ls x. x ≡ take_tree bound n ls) (λ _. Reads t b false (node (root_of t b bound))) n ls f rest m reads in
    let k = part_back t b false (node (root_of t b bound)) h.2 h.1 (went f rest m) h.4 in
    (k.0, tree_head bound n ls h.0 h.1 h.2 (sym h.3) ∙ ap (λ z. lines.Tree bound ∷ z) k.1)

open_tree_back : (t : TaskShape) (b : Tables) (bound n : ℕ) (ls : List CertLine) (f : List NodeLine) (rest : List CertLine) (m : ℕ) → ReadsOpenTree t b bound n ls (went f rest m) →
    IsPart t b true (node (root_of t b bound)) f × (ls ≡ open_lines bound f ++ rest)
open_tree_back t b bound n ls f rest m reads =
    let h = then_went (λ n ls x. x ≡ take_open_tree bound n ls) (λ _. Reads t b true (node (root_of t b bound))) n ls f rest m reads in
    let k = part_back t b true (node (root_of t b bound)) h.2 h.1 (went f rest m) h.4 in
    (k.0, open_tree_head bound n ls h.0 h.1 h.2 (sym h.3) ∙ ap (λ z. lines.OpenTree bound ∷ z) k.1)

end_back : (n : ℕ) (ls : List CertLine) (u : Unit {0}) (rest : List CertLine) (m : ℕ) → take_end n ls ≡ went u rest m → (ls ≡ ending) × (rest ≡ [])
end_back n (lines.End ∷ []) u rest m e = (refl, sym (went_rest e))
end_back n (lines.End ∷ l ∷ ls) u rest m e = absurd (cc)
end_back n _ u rest m e = absurd (cc)

counted_end_back : (nodes : ℕ) (f : List NodeLine) (n : ℕ) (ls : List CertLine) (u : Unit {0}) (rest : List CertLine) (m : ℕ) → take_counted_end nodes f n ls ≡ went u rest m → (is_counted nodes f ≡ true) × (ls ≡ ending) × (rest ≡ [])
counted_end_back nodes f n (lines.End ∷ ls) u rest m e =
    let g = if_went (is_counted nodes f) (take_end n (lines.End ∷ ls)) n _ u rest m e in let k = end_back n (lines.End ∷ ls) u rest m g.1 in (g.0, k.0, k.1)
counted_end_back nodes f n _ u rest m e = absurd (cc)

last_tree_back : (t : TaskShape) (bound : ℕ) (b : Tables) (n : ℕ) (ls : List CertLine) (u : Unit {0}) (rest : List CertLine) (m : ℕ) → ReadsLastTree t bound b n ls (went u rest m) →
    (f : List NodeLine) × IsClosedAt t b bound f × (ls ≡ tree_lines bound f ++ ending) × (rest ≡ [])
last_tree_back t bound b n ls u rest m reads =
    let h = then_went (ReadsTree t b bound) (λ _ n ls o. o ≡ take_end n ls) n ls u rest m reads in
    let tree = tree_back t b bound n ls h.0 h.1 h.2 h.3 in
    let end = end_back h.2 h.1 u rest m (sym h.4) in
    (h.0, tree.0, tree.1 ∙ ap (λ z. tree_lines bound h.0 ++ z) end.0, end.1)

two_trees_back : (t : TaskShape) (refuted nodes : ℕ) (b : Tables) (n : ℕ) (ls : List CertLine) (u : Unit {0}) (rest : List CertLine) (m : ℕ) → ReadsTwoTrees t refuted nodes b n ls (went u rest m) →
    (f : List NodeLine) × (g : List NodeLine) × IsClosedAt t b refuted f × IsOpenAt t b (refuted + 1) nodes g × (ls ≡ tree_lines refuted f ++ (open_lines (refuted + 1) g ++ ending)) × (rest ≡ [])
two_trees_back t refuted nodes b n ls u rest m reads =
    let h = then_went (ReadsTree t b refuted) (λ _. Then (ReadsOpenTree t b (refuted + 1)) (λ f n ls o. o ≡ take_counted_end nodes f n ls)) n ls u rest m reads in
    let tree = tree_back t b refuted n ls h.0 h.1 h.2 h.3 in
    let k = then_went (ReadsOpenTree t b (refuted + 1)) (λ f n ls o. o ≡ take_counted_end nodes f n ls) h.2 h.1 u rest m h.4 in
    let left = open_tree_back t b (refuted + 1) h.2 h.1 k.0 k.1 k.2 k.3 in
    let end = counted_end_back nodes k.0 k.2 k.1 u rest m (sym k.4) in
    let counts = and_parts (count_by is_done k.0 == nodes) (list_any is_left k.0) end.0 in (
      h.0,
      k.0,
      tree.0,
      record { tree = left.0; count = eqb-true (count_by is_done k.0) nodes counts.0; some = counts.1 },
      tree.1 ∙ ap (λ z. tree_lines refuted h.0 ++ z) (left.1 ∙ ap (λ z. open_lines (refuted + 1) k.0 ++ z) end.1),
      end.2,
    )

goal_back : (t : TaskShape) (h : PairShape) (n : ℕ) (ls : List CertLine) (u : Unit {0}) (rest : List CertLine) (m : ℕ) → JudgesGoal t h n ls (went u rest m) → (set_span_of h t.goal ≡ Never) × (ls ≡ rest)
goal_back t h n ls u rest m (inl ok) = (ok.0, sym (went_rest ok.1))
goal_back t h n ls u rest m (inr bad) = let f = bad.1 in absurd (cc)

-- tables where none are asked for
no_tables : Tables
no_tables = record { pairs = pairs_of 0 Never; dists = dists_of 0 0 Never }

plan_back : (t : TaskShape) (w n : ℕ) (ls : List CertLine) (plan : List Occ) (rest : List CertLine) (m : ℕ) → ReadsPlan t w n ls (went plan rest m) → IsPlanOf t w plan × IsInOrder plan × (ls ≡ plan_lines plan ++ rest)
plan_back t w n ls plan rest m reads = go (then_went (λ n ls x. x ≡ take_plan n ls) (JudgesPlan t w n) n ls plan rest m reads)
  where
    go : ((p : List Occ) × (r : List CertLine) × (k : ℕ) × (went p r k ≡ take_plan n ls) × JudgesPlan t w n p k r (went plan rest m)) → IsPlanOf t w plan × IsInOrder plan × (ls ≡ plan_lines plan ++ rest)
    go (p, r, k, e, inl ok) =
        let same : plan ≡ p = went_value ok.1 in
        let after : rest ≡ r = went_rest ok.1 in
        let read = plan_head n ls p r k (sym e) in
        subst (λ z. IsPlanOf t w z × IsInOrder z × (ls ≡ plan_lines z ++ rest)) (sym same) (ok.0, read.0, read.1 ∙ ap (λ z. plan_lines p ++ z) (sym after))
    go (p, r, k, e, inr bad) = let f = bad.1 in absurd (cc)

-- what lines behind the sizes are
pub record IsSections (t : TaskShape) (v : Version) (claim : Claim) (ls : List CertLine) (c : Parts) : Type 0 where
  pub claimed : c.claim ≡ claim
  pub ordered : IsInOrder c.plan
  pub proves : Proves t claim c
  pub same : ls ≡ sections v claim c ++ ending

optimal_back : (t : TaskShape) (v : Version) (w n : ℕ) (ls : List CertLine) (u : Unit {0}) (rest : List CertLine) (m : ℕ) → AllFilled ls → ReadsOptimal t v w n ls (went u rest m) →
    ((c : Parts) × IsSections t v (claims.Optimal w) ls c) × (rest ≡ [])
optimal_back t v zero n ls u rest m some reads =
    let h = then_went (ReadsPlan t zero) (λ _ n ls o. o ≡ take_end n ls) n ls u rest m reads in
    let plan = plan_back t zero n ls h.0 h.1 h.2 h.3 in
    let end = end_back h.2 h.1 u rest m (sym h.4) in (
      (
        record { claim = claims.Optimal zero; plan = h.0; tables = no_tables; tree = []; partial = [] },
        record { claimed = refl; ordered = plan.1; proves = plan.0; same = plan.2 ∙ ap (λ z. plan_lines h.0 ++ z) end.0 },
      ),
      end.1,
    )
optimal_back t v (suc w) n ls u rest m some reads =
    let h = then_went (ReadsPlan t (suc w)) (λ _. ReadsTables t v (ReadsLastTree t w)) n ls u rest m reads in
    let plan = plan_back t (suc w) n ls h.0 h.1 h.2 h.3 in
    let k = tables_back t v (ReadsLastTree t w) h.2 h.1 u rest m (filled_rest ls (plan_lines h.0) h.1 plan.2 some) h.4 in
    let tree = last_tree_back t w k.0 k.2 k.1 u rest m k.6 in
    let heads = plan_lines h.0 in
    let tables = table_lines v k.0 in
    let last = tree_lines w tree.0 in (
      (
        record { claim = claims.Optimal (suc w); plan = h.0; tables = k.0; tree = tree.0; partial = [] },
        record {
          claimed = refl;
          ordered = plan.1;
          proves = (plan.0, k.3, tree.1);
          same =
              plan.2 ∙ ap (λ z. heads ++ z) (k.4 ∙ ap (λ z. tables ++ z) tree.2 ∙ sym (append_assoc tables last ending)) ∙ sym (append_assoc heads (tables ++ last) ending);
        },
      ),
      tree.3,
    )

sections_back : (t : TaskShape) (v : Version) (claim : Claim) (n : ℕ) (ls : List CertLine) (u : Unit {0}) (rest : List CertLine) (m : ℕ) → AllFilled ls → ReadsSections t v claim n ls (went u rest m) →
    ((c : Parts) × IsSections t v claim ls c) × (rest ≡ [])
sections_back t v (claims.Optimal w) n ls u rest m some reads = optimal_back t v w n ls u rest m some reads
sections_back t v (claims.NoneUpTo w) n ls u rest m some reads =
    let k = tables_back t v (ReadsLastTree t w) n ls u rest m some reads in
    let tree = last_tree_back t w k.0 k.2 k.1 u rest m k.6 in (
      (
        record { claim = claims.NoneUpTo w; plan = []; tables = k.0; tree = tree.0; partial = [] },
        record { claimed = refl; ordered = tt; proves = (k.3, tree.1); same = k.4 ∙ ap (λ z. table_lines v k.0 ++ z) tree.2 ∙ sym (append_assoc (table_lines v k.0) (tree_lines w tree.0) ending) },
      ),
      tree.3,
    )
sections_back t v claims.Never n ls u rest m some reads =
    let h = then_went (ReadsPairs t v) (λ h. Then (JudgesGoal t h) (λ _ n ls o. o ≡ take_end n ls)) n ls u rest m reads in
    let pairs = pairs_back t v n ls h.0 h.1 h.2 some h.3 in
    let k = then_went (JudgesGoal t h.0) (λ _ n ls o. o ≡ take_end n ls) h.2 h.1 u rest m h.4 in
    let end = end_back k.2 k.1 u rest m (sym k.4) in
    let goal = goal_back t h.0 h.2 h.1 k.0 k.1 k.2 k.3 in (
      (
        record { claim = claims.Never; plan = []; tables = record { pairs = h.0; dists = dists_of 0 0 Never }; tree = []; partial = [] },
        record { claimed = refl; ordered = tt; proves = (pairs.0, goal.0); same = pairs.1 ∙ ap (λ z. pair_lines v h.0 ++ z) (goal.1 ∙ end.0) },
      ),
      end.1,
    )
sections_back t v (claims.Spent refuted nodes) n ls u rest m some reads =
    let k = tables_back t v (ReadsTwoTrees t refuted nodes) n ls u rest m some reads in
    let trees = two_trees_back t refuted nodes k.0 k.2 k.1 u rest m k.6 in
    let tables = table_lines v k.0 in
    let first = tree_lines refuted trees.0 in
    let second = open_lines (refuted + 1) trees.1 in (
      (
        record { claim = claims.Spent refuted nodes; plan = []; tables = k.0; tree = trees.0; partial = trees.1 },
        record {
          claimed = refl;
          ordered = tt;
          proves = (k.3, trees.2, trees.3);
          same = k.4 ∙ ap (λ z. tables ++ z) (trees.4 ∙ sym (append_assoc first second ending)) ∙ sym (append_assoc tables (first ++ second) ending);
        },
      ),
      trees.5,
    )

version_head : (n : ℕ) (ls : List CertLine) (v : Version) (rest : List CertLine) (m : ℕ) → take_version n ls ≡ went v rest m → ls ≡ lines.First v ∷ rest
version_head n (lines.First w ∷ ls) v rest m e = ap (λ z. lines.First z ∷ ls) (went_value e) ∙ ap (λ z. lines.First v ∷ z) (went_rest e)
version_head n _ v rest m e = absurd (cc)

claim_head : (n : ℕ) (ls : List CertLine) (claim : Claim) (rest : List CertLine) (m : ℕ) → take_claim n ls ≡ went claim rest m → ls ≡ lines.Claimed claim ∷ rest
claim_head n (lines.Claimed c ∷ ls) claim rest m e = ap (λ z. lines.Claimed z ∷ ls) (went_value e) ∙ ap (λ z. lines.Claimed claim ∷ z) (went_rest e)
claim_head n _ claim rest m e = absurd (cc)

sizes_head : (t : TaskShape) (n : ℕ) (ls : List CertLine) (u : Unit {0}) (rest : List CertLine) (m : ℕ) → take_sizes t n ls ≡ went u rest m → ls ≡ lines.Sizes (length t.atoms) (length t.actions) ∷ rest
sizes_head t n (lines.Sizes atoms actions ∷ ls) u rest m e =
    let g = if_went ((atoms == length t.atoms) && (actions == length t.actions)) (went tt ls (n + 1)) n _ u rest m e in
    let k = and_parts (atoms == length t.atoms) (actions == length t.actions) g.0 in
    ap (λ z. lines.Sizes z actions ∷ ls) (eqb-true atoms (length t.atoms) k.0) ∙ ap (λ z. lines.Sizes (length t.atoms) z ∷ ls) (eqb-true actions (length t.actions) k.1)
    ∙ ap (λ z. lines.Sizes (length t.atoms) (length t.actions) ∷ z) (went_rest g.1)
sizes_head t n _ u rest m e = absurd (cc)

pub lines_back : (t : TaskShape) (v : Version) (claim : Claim) (ls rest : List CertLine) (m : ℕ) → AllFilled ls → ReadsAll t ls (went (v, claim) rest m) → ((c : Parts) × IsMadeOf t v claim ls c) × (rest ≡ [])
lines_back t v claim ls rest m some reads = through (then_went (λ n ls x. x ≡ take_version n ls) (λ w. Then (λ n ls x. x ≡ take_claim n ls) (ReadsBody t w)) 1 ls (v, claim) rest m reads)
  where
    through : ((w : Version) × (r : List CertLine) × (k : ℕ) × (went w r k ≡ take_version 1 ls) × Then (λ n ls x. x ≡ take_claim n ls) (ReadsBody t w) k r (went (v, claim) rest m)) → ((c : Parts) × IsMadeOf t v claim ls c) × (rest ≡ [])
    through (w, r, k, e, more) =
        let first = version_head 1 ls w r k (sym e) in
        let h = then_went (λ n ls x. x ≡ take_claim n ls) (ReadsBody t w) k r (v, claim) rest m more in
        let second = claim_head k r h.0 h.1 h.2 (sym h.3) in
        let i = then_went (λ n ls x. x ≡ take_sizes t n ls) (λ _. Then (ReadsSections t w h.0) (λ _ n ls o. o ≡ went (w, h.0) ls n)) h.2 h.1 (v, claim) rest m h.4 in
        let third = sizes_head t h.2 h.1 i.0 i.1 i.2 (sym i.3) in
        let j = then_went (ReadsSections t w h.0) (λ _ n ls o. o ≡ went (w, h.0) ls n) i.2 i.1 (v, claim) rest m i.4 in
        let some_first : AllFilled (lines.First w ∷ r) = subst AllFilled first some in
        let some_second : AllFilled (lines.Claimed h.0 ∷ h.1) = subst AllFilled second some_first.1 in
        let some_third : AllFilled (lines.Sizes (length t.atoms) (length t.actions) ∷ i.1) = subst AllFilled third some_second.1 in
        let last = sections_back t w h.0 i.2 i.1 j.0 j.1 j.2 some_third.1 j.3 in
        let both : (v, claim) ≡ (w, h.0) = went_value j.4 in
        let c = last.0.0 in
        let is = last.0.1 in
        let made : IsMadeOf t w h.0 ls c = record {
          claims = is.claimed;
          ordered = is.ordered;
          proves = is.proves;
          same =
              first ∙ ap (λ z. lines.First w ∷ z) (second ∙ ap (λ z. lines.Claimed h.0 ∷ z) (third ∙ ap (λ z. lines.Sizes (length t.atoms) (length t.actions) ∷ z) is.same))
              ∙ ap (λ z. lines.First w ∷ lines.Claimed z ∷ lines.Sizes (length t.atoms) (length t.actions) ∷ (sections w z c ++ ending)) (sym is.claimed);
        } in
        ((c, subst (λ (z : Version × Claim). IsMadeOf t z.0 z.1 ls c) (sym both) made), went_rest j.4 ∙ last.1)

pub whole_lines : WholeLines
whole_lines t v claim ls some = (
  λ h. let k = lines_read t v claim h.0 h.1.claims h.1.ordered h.1.proves in (k.0, subst (λ z. ReadsAll t z (went (v, claim) [] k.0)) (sym h.1.same) k.1),
  λ h. (lines_back t v claim ls [] h.0 some h.1).0,
)
