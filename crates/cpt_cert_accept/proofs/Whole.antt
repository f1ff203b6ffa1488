-- the lines of a certificate are read whole
use Rattle.std.proofs.Common.{◌≡◌, ℕ, zero, suc, ◌+◌, ◌-◌, ◌==◌, ◌&&◌, nat_lt, nat_le, inl, true, false, Bool, if◌then◌else◌, List, [], ◌∷◌, ◌++◌, length, map, refl, sym, ap, ◌∙◌, subst, arith, append_assoc, length-append, count_by}
use Rattle.std.specs.List.{range_with_len, list_any}
use Rattle.std.proofs.lemmas.Bool.{and_from, or_left, eq-eqb, le-leb, lt-ltb}
use Rattle.std.proofs.lemmas.List.{map-append}
use Rattle.std.proofs.lemmas.List.FromFn.{length-map-range_with_len}
use Rattle.cpt_task.specs.declared.plan.Occ.{Occ}
use Rattle.cpt_task.specs.Shape.{TaskShape}
use Rattle.cpt_tables.specs.declared.tables.Tables.{Tables}
use Rattle.cpt_tables.specs.Shapes.{PairShape, DistShape, pair_at, dist_at}
use Rattle.cpt_sheet.specs.declared.data.Sheet.{Sheet}
use Rattle.cpt_sheet.specs.declared.data.NodeLine.{NodeLine}
use Rattle.cpt_sheet.specs.declared.data.NodeLine.TheVariants.{Child, Narrow, Close, Branch, OpenNode}
use Rattle.cpt_calculus.specs.Decisions.{applied}
use Rattle.cpt_calculus.specs.Root.{root_of}
use Rattle.cpt_cert_form.specs.declared.forms.Version.{Version}
use Rattle.cpt_cert_form.specs.declared.forms.Claim.{Claim}
use Rattle.cpt_cert_form.specs.declared.forms.Claim.TheVariants as claims
use Rattle.cpt_cert_form.specs.declared.forms.CertLine.{CertLine}
use Rattle.cpt_cert_form.specs.declared.forms.CertLine.TheVariants as lines
use Rattle.cpt_cert_form.specs.Text.{Parts, row_runs, pair_row, dist_row, plan_lines, pair_lines, dist_lines, table_lines, tree_lines, open_lines, optimal_sections, sections, cert_lines}
use Rattle.cpt_cert_accept.specs.declared.faults.Why.TheVariants as whys
use Rattle.cpt_cert_accept.specs.Trees.{Part, IsPart}
use Rattle.cpt_cert_accept.specs.Trees.Part.{node, worked, branches}
use Rattle.cpt_cert_accept.specs.Trees.IsPart.{left, whole, step, close, branch, none, child}
use Rattle.cpt_cert_accept.specs.Accepting.{is_no_sooner, IsInOrder, IsPlanOf, HasPairs, HasTables, IsClosedAt, IsOpenAt, ProvesOptimal, Proves, is_done, is_left}
use Rattle.cpt_cert_accept.specs.Reading.{Outcome, behind, take_items, take_pair_rows, take_dist_rows, take_end, take_sizes, soonest, values_of, pair_rows, dist_rows, ReadsPlan, ReadsPairs, ReadsDists}
use Rattle.cpt_cert_accept.specs.Reading.Outcome.{went, faulted}
use Rattle.cpt_cert_accept.specs.Descent.{Reads, begins_left, ReadsTree, ReadsOpenTree, ReadsTables, ReadsLastTree, ReadsTwoTrees, ReadsOptimal, ReadsSections, ReadsAll, is_counted}
use Rattle.cpt_cert_accept.proofs.Rows.{values_row, row_is_row}

-- the lines of a tree, each as a line of a certificate
abbrev pub as_lines : List NodeLine → List CertLine
as_lines f = map (λ l. lines.Node l) f

worked_begins : (t : TaskShape) (b : Tables) (mo : Bool) (s : Sheet) (f : List NodeLine) (rest : List CertLine) → IsPart t b mo (worked s) f → begins_left mo (as_lines f ++ rest) ≡ false
worked_begins t b mo r l rest (step s rule ls legal h) = refl
worked_begins t b mo r l rest (close s dead) = refl
worked_begins t b mo r l rest (branch s flaw ls live stands h) = refl

pub part_read : (t : TaskShape) (b : Tables) (mo : Bool) (part : Part) (f : List NodeLine) → IsPart t b mo part f → (n m : ℕ) (rest : List CertLine) → m ≡ n + length f →
    Reads t b mo part n (as_lines f ++ rest) (went f rest m)
part_read t b mo r l (left s e) n m rest k = subst (λ z. Reads t b mo (node s) n (lines.Node OpenNode ∷ rest) (went (OpenNode ∷ []) rest z)) (omega (arith, k)) (Reads.left s n rest e)
part_read t b mo r l (whole s ls h) n m rest k =
    Reads.whole s n (as_lines ls ++ rest) (went ls rest m) (worked_begins t b mo s ls rest h) (part_read t b mo (worked s) ls h n m rest k)
part_read t b mo r l (step s rule ls legal h) n m rest k =
    Reads.step s n rule (as_lines ls ++ rest) (went ls rest m) (went (Narrow rule ∷ ls) rest m) legal (part_read t b mo (worked _) ls h (n + 1) m rest (omega (arith, k))) refl
part_read t b mo r l (close s dead) n m rest k = Reads.close s n rest (went (Close ∷ []) rest m) dead (ap (went (Close ∷ []) rest) (omega (arith, k)))
part_read t b mo r l (branch s flaw ls live stands h) n m rest k =
    Reads.branch s n flaw (as_lines ls ++ rest) (went ls rest m) (went (Branch flaw ∷ ls) rest m) live stands (part_read t b mo (branches s _) ls h (n + 1) m rest (omega (arith, k))) refl
part_read t b mo r l (none s) n m rest k = Reads.none s n rest (went [] rest m) (ap (went [] rest) (omega (arith, k)))
part_read t b mo r l (child s d ds ls more all h j e) n m rest k =
    let long : length all ≡ length ls + length more = ap length e ∙ length-append ls more in
    let split : as_lines all ++ rest ≡ as_lines ls ++ (as_lines more ++ rest) =
    ap (λ z. as_lines z ++ rest) e ∙ ap (λ z. z ++ rest) (map-append (λ x. lines.Node x) ls more) ∙ append_assoc (as_lines ls) (as_lines more) rest in
    Reads.child s n d d ds (as_lines all ++ rest) ls (as_lines more ++ rest) ((n + 1) + length ls) (went more rest m) (went (Child d ∷ all) rest m) refl
    (subst (λ z. Reads t b mo (node (applied t s d)) (n + 1) z (went ls (as_lines more ++ rest) ((n + 1) + length ls))) (sym split) (part_read t b mo (node (applied t s d)) ls h (n + 1) ((n + 1) + length ls) (as_lines more ++ rest) refl))
    (part_read t b mo (branches s ds) more j ((n + 1) + length ls) m rest (omega (arith, k, long)))
    (ap (λ z. went (Child d ∷ z) rest m) e)

-- each is no sooner than the one before it, and the first no sooner than this
abbrev pub Follow : Occ → List Occ → Type 0
Follow o [] = Unit {0}
Follow o (q ∷ os) = (is_no_sooner o q ≡ true) × Follow q os

pub follows : (o : Occ) (os : List Occ) → IsInOrder (o ∷ os) → Follow o os
follows o [] h = tt
follows o (q ∷ os) h = (h.0, follows q os h.1)

first_follows : (act start : ℕ) → is_no_sooner soonest (record { act = act; start = start }) ≡ true
first_follows act zero = le-leb 0 act (omega arith)
first_follows act (suc start) = or_left (nat_lt 0 (suc start)) ((0 == suc start) && nat_le 0 act) (lt-ltb 0 (suc start) (omega arith))

pub all_follow : (plan : List Occ) → IsInOrder plan → Follow soonest plan
all_follow [] h = tt
all_follow (o ∷ os) h = (first_follows o.act o.start, follows o os h)

abbrev pub item : Occ → CertLine
item o = lines.Item o.start o.act

items_read : (plan : List Occ) (before : Occ) (n m : ℕ) (rest : List CertLine) → Follow before plan → m ≡ n + length plan → take_items (length plan) before n (map item plan ++ rest) ≡ went plan rest m
items_read [] before n m rest h k = ap (went [] rest) (omega (arith, k))
items_read (o ∷ os) before n m rest h k =
    ap (λ c. if c then behind (λ qs. o ∷ qs) (take_items (length os) o (n + 1) (map item os ++ rest)) else faulted n whys.Grammar) h.0
    ∙ ap (behind (λ qs. o ∷ qs)) (items_read os o (n + 1) m rest h.1 (omega (arith, k)))

plan_read : (t : TaskShape) (m : ℕ) (plan : List Occ) (n : ℕ) (rest : List CertLine) → IsInOrder plan → IsPlanOf t m plan → ReadsPlan t m n (plan_lines plan ++ rest) (went plan rest (n + 1 + length plan))
plan_read t m plan n rest order good =
    (went plan rest (n + 1 + length plan), sym (items_read plan soonest (n + 1) (n + 1 + length plan) rest (all_follow plan order) refl), inl (good, refl))

-- the rows of the last k atoms of a table
pair_rows_read : (v : Version) (h : PairShape) (k p n m : ℕ) (rest : List CertLine) → p + k ≡ h.atoms → m ≡ n + k →
    take_pair_rows v k n (map (λ q. lines.PairRow (row_runs v (pair_row h q))) (range_with_len p k) ++ rest) ≡ went (map (pair_row h) (range_with_len p k)) rest m
pair_rows_read v h zero p n m rest e j = ap (went [] rest) (omega (arith, j))
pair_rows_read v h (suc k) p n m rest e j =
    let row = pair_row h p in
    let runs = row_runs v row in
    let lines = map (λ q. lines.PairRow (row_runs v (pair_row h q))) (range_with_len (p + 1) k) ++ rest in
    let long : length row ≡ suc k = length-map-range_with_len (λ q. pair_at h p q) p (h.atoms - p) ∙ omega (arith, e) in
    ap (λ c. if c then behind (λ rows. values_of runs ∷ rows) (take_pair_rows v k (n + 1) lines) else faulted n whys.Grammar) (row_is_row v (suc k) row long)
    ∙ ap (behind (λ rows. values_of runs ∷ rows)) (pair_rows_read v h k (p + 1) (n + 1) m rest (omega (arith, e)) (omega (arith, j)))
    ∙ ap (λ z. went (z ∷ map (pair_row h) (range_with_len (p + 1) k)) rest m) (values_row v row)

dist_rows_read : (v : Version) (d : DistShape) (k a n m : ℕ) (rest : List CertLine) → m ≡ n + k →
    take_dist_rows v d.atoms k n (map (λ c. lines.DistRow (row_runs v (dist_row d c))) (range_with_len a k) ++ rest) ≡ went (map (dist_row d) (range_with_len a k)) rest m
dist_rows_read v d zero a n m rest j = ap (went [] rest) (omega (arith, j))
dist_rows_read v d (suc k) a n m rest j =
    let row = dist_row d a in
    let runs = row_runs v row in
    let lines = map (λ c. lines.DistRow (row_runs v (dist_row d c))) (range_with_len (a + 1) k) ++ rest in
    let long : length row ≡ d.atoms = length-map-range_with_len (λ p. dist_at d a p) 0 d.atoms in
    ap (λ c. if c then behind (λ rows. values_of runs ∷ rows) (take_dist_rows v d.atoms k (n + 1) lines) else faulted n whys.Grammar) (row_is_row v d.atoms row long)
    ∙ ap (behind (λ rows. values_of runs ∷ rows)) (dist_rows_read v d k (a + 1) (n + 1) m rest (omega (arith, j)))
    ∙ ap (λ z. went (z ∷ map (dist_row d) (range_with_len (a + 1) k)) rest m) (values_row v row)

pairs_read : (t : TaskShape) (v : Version) (h : PairShape) (n : ℕ) (rest : List CertLine) → HasPairs t h → ReadsPairs t v n (pair_lines v h ++ rest) (went h rest (n + 1 + h.atoms))
pairs_read t v h n rest has = (
  went (pair_rows h) rest (n + 1 + h.atoms),
  sym (ap (λ k. take_pair_rows v k (n + 1) (map (λ q. lines.PairRow (row_runs v (pair_row h q))) (range_with_len 0 h.atoms) ++ rest)) (sym has.fits.size) ∙ pair_rows_read v h h.atoms 0 (n + 1) (n + 1 + h.atoms) rest (omega arith) refl),
  (h, record { whole = has.whole; fits = has.fits; same = refl }, inl (has.admissible, refl)),
)

dists_read : (t : TaskShape) (v : Version) (b : Tables) (n : ℕ) (rest : List CertLine) → HasTables t b → ReadsDists t v b.pairs n (dist_lines v b.dists ++ rest) (went b.dists rest (n + 1 + b.dists.actions))
dists_read t v b n rest has =
    let d = b.dists in
    let rows = map (λ c. lines.DistRow (row_runs v (dist_row d c))) (range_with_len 0 d.actions) ++ rest in (
      went (dist_rows d) rest (n + 1 + d.actions),
      sym (
          ap (λ k. take_dist_rows v (length t.atoms) k (n + 1) rows) (sym has.fits.dists.actions) ∙ ap (λ w. take_dist_rows v w d.actions (n + 1) rows) (sym has.fits.dists.atoms)
          ∙ dist_rows_read v d d.actions 0 (n + 1) (n + 1 + d.actions) rest refl
          ),
      (d, record { whole = has.whole_dists; fits = has.fits.dists; same = refl }, inl (has.dists, refl)),
    )

-- what is read to its end
abbrev pub Ends : (ℕ → List CertLine → Outcome (Unit {0}) → Type 0) → List CertLine → Type 0
Ends R ls = (n : ℕ) → (k : ℕ) × R n ls (went tt [] k)

tables_read : (t : TaskShape) (v : Version) (b : Tables) (next : Tables → ℕ → List CertLine → Outcome (Unit {0}) → Type 0) (rest : List CertLine) → HasTables t b → Ends (next b) rest →
    Ends (ReadsTables t v next) (table_lines v b ++ rest)
tables_read t v b next rest has more n =
    let h = b.pairs in
    let d = b.dists in
    let m = n + 1 + h.atoms in
    let last = more (m + 1 + d.actions) in
    let split : (pair_lines v h ++ dist_lines v d) ++ rest ≡ pair_lines v h ++ (dist_lines v d ++ rest) = append_assoc (pair_lines v h) (dist_lines v d) rest in (
      last.0,
      subst (λ z. ReadsTables t v next n z (went tt [] last.0)) (sym split) (
        went h (dist_lines v d ++ rest) m,
        pairs_read t v h n (dist_lines v d ++ rest) (record { whole = has.whole_pairs; fits = has.fits.pairs; admissible = has.pairs }),
        (went d rest (m + 1 + d.actions), dists_read t v b m rest has, last.1),
      ),
    )

tree_read : (t : TaskShape) (b : Tables) (bound n : ℕ) (f : List NodeLine) (rest : List CertLine) → IsClosedAt t b bound f → ReadsTree t b bound n (tree_lines bound f ++ rest) (went f rest (n + 1 + length f))
tree_read t b bound n f rest tree = (
  went tt (as_lines f ++ rest) (n + 1),
  sym (ap (λ c. if c then went tt (as_lines f ++ rest) (n + 1) else faulted n whys.Bound) (eq-eqb bound bound refl)),
  part_read t b false (node (root_of t b bound)) f tree (n + 1) (n + 1 + length f) rest refl,
)

open_tree_read : (t : TaskShape) (b : Tables) (bound nodes n : ℕ) (f : List NodeLine) (rest : List CertLine) → IsOpenAt t b bound nodes f → ReadsOpenTree t b bound n (open_lines bound f ++ rest) (went f rest (n + 1 + length f))
open_tree_read t b bound nodes n f rest tree = (
  went tt (as_lines f ++ rest) (n + 1),
  sym (ap (λ c. if c then went tt (as_lines f ++ rest) (n + 1) else faulted n whys.Bound) (eq-eqb bound bound refl)),
  part_read t b true (node (root_of t b bound)) f tree.tree (n + 1) (n + 1 + length f) rest refl,
)

-- the last line
abbrev pub ending : List CertLine
ending = lines.End ∷ []

last_tree_read : (t : TaskShape) (bound : ℕ) (b : Tables) (f : List NodeLine) → IsClosedAt t b bound f → Ends (ReadsLastTree t bound b) (tree_lines bound f ++ ending)
last_tree_read t bound b f tree n = (n + 1 + length f + 1, (went f ending (n + 1 + length f), tree_read t b bound n f ending tree, refl))

two_trees_read : (t : TaskShape) (refuted nodes : ℕ) (b : Tables) (f g : List NodeLine) → IsClosedAt t b refuted f → IsOpenAt t b (refuted + 1) nodes g →
    Ends (ReadsTwoTrees t refuted nodes b) (tree_lines refuted f ++ (open_lines (refuted + 1) g ++ ending))
two_trees_read t refuted nodes b f g tree some n =
    let m = n + 1 + length f in
    let k = m + 1 + length g in
    let counted : is_counted nodes g ≡ true = and_from (count_by is_done g == nodes) (list_any is_left g) (eq-eqb (count_by is_done g) nodes some.count) some.some in (
      k + 1,
      (
        went f (open_lines (refuted + 1) g ++ ending) m,
        tree_read t b refuted n f (open_lines (refuted + 1) g ++ ending) tree,
        (
          went g ending k,
          open_tree_read t b (refuted + 1) nodes m g ending some,
          sym (ap (λ c. if c then take_end k ending else faulted k whys.Count) counted),
        ),
      ),
    )

optimal_read : (t : TaskShape) (v : Version) (m : ℕ) (c : Parts) → IsInOrder c.plan → ProvesOptimal t m c → Ends (ReadsOptimal t v m) (optimal_sections v m c ++ ending)
optimal_read t v zero c order good n = (n + 1 + length c.plan + 1, (went c.plan ending (n + 1 + length c.plan), plan_read t zero c.plan n ending order good, refl))
optimal_read t v (suc m) c order good n =
    let tree = tree_lines m c.tree in
    let last = tables_read t v c.tables (ReadsLastTree t m) (tree ++ ending) good.1 (last_tree_read t m c.tables c.tree good.2) (n + 1 + length c.plan) in
    let split : (plan_lines c.plan ++ (table_lines v c.tables ++ tree)) ++ ending ≡ plan_lines c.plan ++ (table_lines v c.tables ++ (tree ++ ending)) =
    append_assoc (plan_lines c.plan) (table_lines v c.tables ++ tree) ending ∙ ap (λ z. plan_lines c.plan ++ z) (append_assoc (table_lines v c.tables) tree ending) in (
      last.0,
      subst (λ z. ReadsOptimal t v (suc m) n z (went tt [] last.0)) (sym split) (
        went c.plan (table_lines v c.tables ++ (tree ++ ending)) (n + 1 + length c.plan),
        plan_read t (suc m) c.plan n (table_lines v c.tables ++ (tree ++ ending)) order good.0,
        last.1,
      ),
    )

sections_read : (t : TaskShape) (v : Version) (claim : Claim) (c : Parts) → IsInOrder c.plan → Proves t claim c → Ends (ReadsSections t v claim) (sections v claim c ++ ending)
sections_read t v (claims.Optimal m) c order good n = optimal_read t v m c order good n
sections_read t v (claims.NoneUpTo m) c order good n =
    let tree = tree_lines m c.tree in
    let last = tables_read t v c.tables (ReadsLastTree t m) (tree ++ ending) good.0 (last_tree_read t m c.tables c.tree good.1) n in
    (last.0, subst (λ z. ReadsTables t v (ReadsLastTree t m) n z (went tt [] last.0)) (sym (append_assoc (table_lines v c.tables) tree ending)) last.1)
sections_read t v claims.Never c order good n =
    let h = c.tables.pairs in
    let m = n + 1 + h.atoms in
    (m + 1, (went h ending m, pairs_read t v h n ending good.0, (went tt ending m, inl (good.1, refl), refl)))
sections_read t v (claims.Spent refuted nodes) c order good n =
    let first = tree_lines refuted c.tree in
    let second = open_lines (refuted + 1) c.partial in
    let last = tables_read t v c.tables (ReadsTwoTrees t refuted nodes) (first ++ (second ++ ending)) good.0 (two_trees_read t refuted nodes c.tables c.tree c.partial good.1 good.2) n in
    let split : (table_lines v c.tables ++ (first ++ second)) ++ ending ≡ table_lines v c.tables ++ (first ++ (second ++ ending)) =
    append_assoc (table_lines v c.tables) (first ++ second) ending ∙ ap (λ z. table_lines v c.tables ++ z) (append_assoc first second ending) in
    (last.0, subst (λ z. ReadsTables t v (ReadsTwoTrees t refuted nodes) n z (went tt [] last.0)) (sym split) last.1)

-- the lines of a certificate are read whole
pub lines_read : (t : TaskShape) (v : Version) (claim : Claim) (c : Parts) → c.claim ≡ claim → IsInOrder c.plan → Proves t claim c → (m : ℕ) × ReadsAll t (cert_lines v t c) (went (v, claim) [] m)
lines_read t v claim c e order good =
    let last = sections_read t v claim c order good 4 in
    let body = sections v c.claim c ++ ending in
    let sizes : take_sizes t 3 (lines.Sizes (length t.atoms) (length t.actions) ∷ body) ≡ went tt body 4 =
    ap (λ b. if b then went tt body 4 else faulted 3 whys.Task)
    (and_from (length t.atoms == length t.atoms) (length t.actions == length t.actions) (eq-eqb (length t.atoms) (length t.atoms) refl) (eq-eqb (length t.actions) (length t.actions) refl)) in (
      last.0,
      (
        went v (lines.Claimed c.claim ∷ lines.Sizes (length t.atoms) (length t.actions) ∷ body) 2,
        refl,
        (
          went claim (lines.Sizes (length t.atoms) (length t.actions) ∷ body) 3,
          sym (ap (λ z. went z (lines.Sizes (length t.atoms) (length t.actions) ∷ body) 3) e),
          (
            went tt body 4,
            sym sizes,
            (went tt [] last.0, subst (λ z. ReadsSections t v claim 4 (sections v z c ++ ending) (went tt [] last.0)) (sym e) last.1, refl),
          ),
        ),
      ),
    )
