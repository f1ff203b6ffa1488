-- a fault that stands in the first lines of a text is the text's
use Rattle.std.proofs.Common.{◌≡◌, ℕ, zero, suc, ◌+◌, ◌<◌, ◌==◌, ◌&&◌, inl, inr, true, false, Bool, if◌then◌else◌, List, [], ◌∷◌, ◌++◌, length, refl, sym, ap, ◌∙◌, subst, arith}
use Rattle.cpt_task.specs.declared.span.Span.{Span}
use Rattle.cpt_task.specs.declared.plan.Occ.{Occ}
use Rattle.cpt_task.specs.Shape.{TaskShape}
use Rattle.cpt_tables.specs.declared.tables.Tables.{Tables}
use Rattle.cpt_tables.specs.Shapes.{PairShape, DistShape}
use Rattle.cpt_sheet.specs.declared.data.Sheet.{Sheet}
use Rattle.cpt_sheet.specs.declared.data.NodeLine.{NodeLine}
use Rattle.cpt_sheet.specs.declared.data.NodeLine.TheVariants.{Child, Narrow, Close, Branch, OpenNode}
use Rattle.cpt_calculus.specs.Root.{root_of}
use Rattle.cpt_cert_form.specs.declared.forms.Version.{Version}
use Rattle.cpt_cert_form.specs.declared.forms.Claim.{Claim}
use Rattle.cpt_cert_form.specs.declared.forms.Claim.TheVariants as claims
use Rattle.cpt_cert_form.specs.declared.forms.CertLine.{CertLine}
use Rattle.cpt_cert_form.specs.declared.forms.CertLine.TheVariants as lines
use Rattle.cpt_cert_accept.specs.declared.faults.Why.{Why}
use Rattle.cpt_cert_accept.specs.declared.faults.Why.TheVariants as whys
use Rattle.cpt_cert_accept.specs.Trees.{Part}
use Rattle.cpt_cert_accept.specs.Trees.Part.{node, worked, branches}
use Rattle.cpt_cert_accept.specs.Accepting.{is_no_sooner}
use Rattle.cpt_cert_accept.specs.Reading.{Outcome, Then, After, behind, take_version, take_claim, take_items, take_plan, take_pair_rows, take_pairs, take_dist_rows, take_dists, take_tree, take_open_tree, take_end, take_sizes, soonest, is_row, values_of, JudgesPlan, JudgesPairs, JudgesDists, JudgesGoal, ReadsPlan, ReadsPairs, ReadsDists}
use Rattle.cpt_cert_accept.specs.Reading.Outcome.{went, faulted}
use Rattle.cpt_cert_accept.specs.Descent.{Reads, begins_left, begins_work, begins_child, is_counted, take_counted_end, ReadsTree, ReadsOpenTree, ReadsTables, ReadsLastTree, ReadsTwoTrees, ReadsOptimal, ReadsSections, ReadsBody}
use Rattle.cpt_cert_accept.specs.Descent.Reads.{left, whole, step, illegal, close, alive, branch, flawless, strange, none, child, inside, other, childless}
use Rattle.cpt_cert_laws.specs.Fronts.{FaultsStand}

-- the same outcome with more lines behind those that are left
abbrev shifted : {A : Type 0} → List CertLine → Outcome A → Outcome A
shifted more (went a rest m) = went a (rest ++ more) m
shifted more (faulted line why) = faulted line why

-- a fault stands at one of the lines
abbrev Known : {A : Type 0} → ℕ → List CertLine → Outcome A → Type 0
Known n ls (went a rest m) = Unit {0}
Known n ls (faulted line why) = line < n + length ls

-- the lines that are left are numbered on
abbrev Counts : {A : Type 0} → ℕ → List CertLine → Outcome A → Type 0
Counts n ls (went a rest m) = m + length rest ≡ n + length ls
Counts n ls (faulted line why) = Unit {0}

-- a section that is read alike whatever comes behind, but where the text ends too early
record Extends {A : Type 0} (R : ℕ → List CertLine → Outcome A → Type 0) : Type 0 where
  counts : (n : ℕ) (ls : List CertLine) (x : Outcome A) → R n ls x → Counts n ls x
  more : (n : ℕ) (ls : List CertLine) (x : Outcome A) (behind : List CertLine) → R n ls x → Known n ls x → R n (ls ++ behind) (shifted behind x)

-- the faults of what is read are faults whatever comes behind
abbrev Stands : {A : Type 0} → (ℕ → List CertLine → Outcome A → Type 0) → Type 0
Stands R = (n : ℕ) (ls : List CertLine) (line : ℕ) (why : Why) (more : List CertLine) → R n ls (faulted line why) → line < n + length ls → R n (ls ++ more) (faulted line why)

known_behind : {A B : Type 0} (f : A → B) (n : ℕ) (l : CertLine) (ls : List CertLine) (x : Outcome A) → Known n (l ∷ ls) (behind f x) → Known (n + 1) ls x
known_behind f n l ls (went a rest m) h = tt
known_behind f n l ls (faulted line why) h = omega (arith, h)

counts_behind : {A B : Type 0} (f : A → B) (n : ℕ) (l : CertLine) (ls : List CertLine) (x : Outcome A) → Counts (n + 1) ls x → Counts n (l ∷ ls) (behind f x)
counts_behind f n l ls (went a rest m) h = omega (arith, h)
counts_behind f n l ls (faulted line why) h = tt

shifted_behind : {A B : Type 0} (f : A → B) (more : List CertLine) (x : Outcome A) → shifted more (behind f x) ≡ behind f (shifted more x)
shifted_behind f more (went a rest m) = refl
shifted_behind f more (faulted line why) = refl

module _ {A B : Type 0} (first : ℕ → List CertLine → Outcome A → Type 0) (next : A → ℕ → List CertLine → Outcome B → Type 0) where
  then_counts : Extends first → ((a : A) → Extends (next a)) → (n : ℕ) (ls : List CertLine) (o : Outcome B) → Then first next n ls o → Counts n ls o
  then_counts one more n ls o (x, p, q) = go x p q
    where
      sum : (m k : ℕ) (rest : List CertLine) (o : Outcome B) → m + length rest ≡ n + length ls → Counts m rest o → Counts n ls o
      sum m k rest (went b tail j) e h = h ∙ e
      sum m k rest (faulted line why) e h = tt

      go : (x : Outcome A) → first n ls x → After next x o → Counts n ls o
      go (went a rest m) p q = sum m 0 rest o (one.counts n ls (went a rest m) p) ((more a).counts m rest o q)
      go (faulted line why) p q = subst (Counts n ls) (sym q) tt

  then_more : Extends first → ((a : A) → Extends (next a)) → (n : ℕ) (ls : List CertLine) (o : Outcome B) (behind : List CertLine) → Then first next n ls o → Known n ls o → Then first next n (ls ++ behind) (shifted behind o)
  then_more one more n ls o behind (x, p, q) known = go x p q
    where
      within : (m : ℕ) (rest : List CertLine) (o : Outcome B) → m + length rest ≡ n + length ls → Known n ls o → Known m rest o
      within m rest (went b tail j) e h = tt
      within m rest (faulted line why) e h = omega (arith, e, h)

      go : (x : Outcome A) → first n ls x → After next x o → Then first next n (ls ++ behind) (shifted behind o)
      go (went a rest m) p q =
          let count = one.counts n ls (went a rest m) p in
          (went a (rest ++ behind) m, one.more n ls (went a rest m) behind p tt, (more a).more m rest o behind q (within m rest o count known))
      go (faulted line why) p q =
          let here : Known {A = B} n ls (faulted line why) = subst (Known n ls) q known in (faulted line why, one.more n ls (faulted line why) behind p here, ap (shifted behind) q)

  then_extends : Extends first → ((a : A) → Extends (next a)) → Extends (Then first next)
  then_extends one more = record { counts = then_counts one more; more = then_more one more }

  then_stands : Extends first → ((a : A) → Stands (next a)) → Stands (Then first next)
  then_stands one more n ls line why behind (x, p, q) lt = go x p q
    where
      line_of : {C : Type 0} (k l : ℕ) (w v : Why) → let x : Outcome C = faulted k w in x ≡ faulted l v → k ≡ l
      line_of k l w v e = cc

      go : (x : Outcome A) → first n ls x → After next x (faulted line why) → Then first next n (ls ++ behind) (faulted line why)
      go (went a rest m) p q =
          let count = one.counts n ls (went a rest m) p in
          (went a (rest ++ behind) m, one.more n ls (went a rest m) behind p tt, more a m rest line why behind q (omega (arith, count, lt)))
      go (faulted l w) p q = let same = line_of line l why w q in (faulted l w, one.more n ls (faulted l w) behind p (omega (arith, same, lt)), q)

-- what a function answers
record IsSteady {A : Type 0} (f : ℕ → List CertLine → Outcome A) : Type 0 where
  counts : (n : ℕ) (ls : List CertLine) → Counts n ls (f n ls)
  more : (n : ℕ) (ls more : List CertLine) → Known n ls (f n ls) → f n (ls ++ more) ≡ shifted more (f n ls)

steady : {A : Type 0} (f : ℕ → List CertLine → Outcome A) → IsSteady f → Extends (λ n ls x. x ≡ f n ls)
steady f h = record {
  counts = λ n ls x e. subst (Counts n ls) (sym e) (h.counts n ls);
  more = λ n ls x behind e known. ap (shifted behind) e ∙ sym (h.more n ls behind (subst (Known n ls) e known));
}

version_steady : IsSteady take_version
version_steady = record { counts = counts; more = more }
  where
    counts : (n : ℕ) (ls : List CertLine) → Counts n ls (take_version n ls)
    counts n (lines.First v ∷ ls) = omega arith
    counts n _ = tt

    more : (n : ℕ) (ls more : List CertLine) → Known n ls (take_version n ls) → take_version n (ls ++ more) ≡ shifted more (take_version n ls)
    more n [] xs h = absurd (omega (arith, h))
    more n (lines.First v ∷ ls) xs h = refl
    more n (l ∷ ls) xs h = refl

claim_steady : IsSteady take_claim
claim_steady = record { counts = counts; more = more }
  where
    counts : (n : ℕ) (ls : List CertLine) → Counts n ls (take_claim n ls)
    counts n (lines.Claimed c ∷ ls) = omega arith
    counts n _ = tt

    more : (n : ℕ) (ls more : List CertLine) → Known n ls (take_claim n ls) → take_claim n (ls ++ more) ≡ shifted more (take_claim n ls)
    more n [] xs h = absurd (omega (arith, h))
    more n (lines.Claimed c ∷ ls) xs h = refl
    more n (l ∷ ls) xs h = refl

-- a line that is taken or is at fault
one_counts : (c : Bool) (n : ℕ) (l : CertLine) (ls : List CertLine) (why : Why) → let x : Outcome (Unit {0}) = (if c then went tt ls (n + 1) else faulted n why) in Counts n (l ∷ ls) x
one_counts true n l ls why = omega arith
one_counts false n l ls why = tt

one_more : (c : Bool) (n : ℕ) (ls more : List CertLine) (why : Why) → let x : Outcome (Unit {0}) = (if c then went tt (ls ++ more) (n + 1) else faulted n why) in x ≡ shifted more (if c then went tt ls (n + 1) else faulted n why)
one_more true n ls more why = refl
one_more false n ls more why = refl

sizes_steady : (t : TaskShape) → IsSteady (take_sizes t)
sizes_steady t = record { counts = counts; more = more }
  where
    counts : (n : ℕ) (ls : List CertLine) → Counts n ls (take_sizes t n ls)
    counts n (lines.Sizes a b ∷ ls) = one_counts ((a == length t.atoms) && (b == length t.actions)) n (lines.Sizes a b) ls whys.Task
    counts n _ = tt

    more : (n : ℕ) (ls more : List CertLine) → Known n ls (take_sizes t n ls) → take_sizes t n (ls ++ more) ≡ shifted more (take_sizes t n ls)
    more n [] xs h = absurd (omega (arith, h))
    more n (lines.Sizes a b ∷ ls) xs h = one_more ((a == length t.atoms) && (b == length t.actions)) n ls xs whys.Task
    more n (l ∷ ls) xs h = refl

tree_steady : (bound : ℕ) → IsSteady (take_tree bound)
tree_steady bound = record { counts = counts; more = more }
  where
    counts : (n : ℕ) (ls : List CertLine) → Counts n ls (take_tree bound n ls)
    counts n (lines.Tree b ∷ ls) = one_counts (b == bound) n (lines.Tree b) ls whys.Bound
    counts n _ = tt

    more : (n : ℕ) (ls more : List CertLine) → Known n ls (take_tree bound n ls) → take_tree bound n (ls ++ more) ≡ shifted more (take_tree bound n ls)
    more n [] xs h = absurd (omega (arith, h))
    more n (lines.Tree b ∷ ls) xs h = one_more (b == bound) n ls xs whys.Bound
    more n (l ∷ ls) xs h = refl

open_tree_steady : (bound : ℕ) → IsSteady (take_open_tree bound)
open_tree_steady bound = record { counts = counts; more = more }
  where
    counts : (n : ℕ) (ls : List CertLine) → Counts n ls (take_open_tree bound n ls)
    counts n (lines.OpenTree b ∷ ls) = one_counts (b == bound) n (lines.OpenTree b) ls whys.Bound
    counts n _ = tt

    more : (n : ℕ) (ls more : List CertLine) → Known n ls (take_open_tree bound n ls) → take_open_tree bound n (ls ++ more) ≡ shifted more (take_open_tree bound n ls)
    more n [] xs h = absurd (omega (arith, h))
    more n (lines.OpenTree b ∷ ls) xs h = one_more (b == bound) n ls xs whys.Bound
    more n (l ∷ ls) xs h = refl

-- a line that is taken with what is behind it, or is at fault
row_counts : {A : Type 0} (f : A → A) (c : Bool) (n : ℕ) (l : CertLine) (ls : List CertLine) (x : Outcome A) → Counts (n + 1) ls x → Counts n (l ∷ ls) (if c then behind f x else faulted n whys.Grammar)
row_counts f true n l ls x h = counts_behind f n l ls x h
row_counts f false n l ls x h = tt

row_more : {A : Type 0} (f : A → A) (c : Bool) (n : ℕ) (l : CertLine) (ls more : List CertLine) (x y : Outcome A) → (Known (n + 1) ls x → y ≡ shifted more x) → Known n (l ∷ ls) (if c then behind f x else faulted n whys.Grammar) →
    (if c then behind f y else faulted n whys.Grammar) ≡ shifted more (if c then behind f x else faulted n whys.Grammar)
row_more f true n l ls more x y same h = ap (behind f) (same (known_behind f n l ls x h)) ∙ sym (shifted_behind f more x)
row_more f false n l ls more x y same h = refl

items_counts : (k : ℕ) (o : Occ) (n : ℕ) (ls : List CertLine) → Counts n ls (take_items k o n ls)
items_counts zero o n ls = refl
items_counts (suc k) o n (lines.Item start act ∷ ls) =
    let q : Occ = record { act = act; start = start } in row_counts (λ os. q ∷ os) (is_no_sooner o q) n (lines.Item start act) ls (take_items k q (n + 1) ls) (items_counts k q (n + 1) ls)
items_counts (suc k) o n _ = tt

items_more : (k : ℕ) (o : Occ) (n : ℕ) (ls more : List CertLine) → Known n ls (take_items k o n ls) → take_items k o n (ls ++ more) ≡ shifted more (take_items k o n ls)
items_more zero o n ls xs h = refl
items_more (suc k) o n [] xs h = absurd (omega (arith, h))
items_more (suc k) o n (lines.Item start act ∷ ls) xs h =
    let q : Occ = record { act = act; start = start } in
    row_more (λ os. q ∷ os) (is_no_sooner o q) n (lines.Item start act) ls xs (take_items k q (n + 1) ls) (take_items k q (n + 1) (ls ++ xs)) (items_more k q (n + 1) ls xs) h
items_more (suc k) o n (l ∷ ls) xs h = refl

-- a head, and what is read behind it
head_known : {A : Type 0} (n : ℕ) (l : CertLine) (ls : List CertLine) (x : Outcome A) → Known n (l ∷ ls) x → Known (n + 1) ls x
head_known n l ls (went a rest m) h = tt
head_known n l ls (faulted line why) h = omega (arith, h)

head_counts : {A : Type 0} (n : ℕ) (l : CertLine) (ls : List CertLine) (x : Outcome A) → Counts (n + 1) ls x → Counts n (l ∷ ls) x
head_counts n l ls (went a rest m) h = omega (arith, h)
head_counts n l ls (faulted line why) h = tt

plan_steady : IsSteady take_plan
plan_steady = record { counts = counts; more = more }
  where
    counts : (n : ℕ) (ls : List CertLine) → Counts n ls (take_plan n ls)
    counts n (lines.Plan k ∷ ls) = head_counts n (lines.Plan k) ls (take_items k soonest (n + 1) ls) (items_counts k soonest (n + 1) ls)
    counts n _ = tt

    more : (n : ℕ) (ls more : List CertLine) → Known n ls (take_plan n ls) → take_plan n (ls ++ more) ≡ shifted more (take_plan n ls)
    more n [] xs h = absurd (omega (arith, h))
    more n (lines.Plan k ∷ ls) xs h = items_more k soonest (n + 1) ls xs (head_known n (lines.Plan k) ls (take_items k soonest (n + 1) ls) h)
    more n (l ∷ ls) xs h = refl

pair_rows_counts : (v : Version) (k n : ℕ) (ls : List CertLine) → Counts n ls (take_pair_rows v k n ls)
pair_rows_counts v zero n ls = refl
pair_rows_counts v (suc k) n (lines.PairRow runs ∷ ls) = row_counts (λ rows. values_of runs ∷ rows) (is_row v (suc k) runs) n (lines.PairRow runs) ls (take_pair_rows v k (n + 1) ls) (pair_rows_counts v k (n + 1) ls)
pair_rows_counts v (suc k) n _ = tt

pair_rows_more : (v : Version) (k n : ℕ) (ls more : List CertLine) → Known n ls (take_pair_rows v k n ls) → take_pair_rows v k n (ls ++ more) ≡ shifted more (take_pair_rows v k n ls)
pair_rows_more v zero n ls xs h = refl
pair_rows_more v (suc k) n [] xs h = absurd (omega (arith, h))
pair_rows_more v (suc k) n (lines.PairRow runs ∷ ls) xs h =
    row_more (λ rows. values_of runs ∷ rows) (is_row v (suc k) runs) n (lines.PairRow runs) ls xs (take_pair_rows v k (n + 1) ls) (take_pair_rows v k (n + 1) (ls ++ xs)) (pair_rows_more v k (n + 1) ls xs) h
pair_rows_more v (suc k) n (l ∷ ls) xs h = refl

pairs_steady : (v : Version) (k : ℕ) → IsSteady (take_pairs v k)
pairs_steady v k = record { counts = counts; more = more }
  where
    counts : (n : ℕ) (ls : List CertLine) → Counts n ls (take_pairs v k n ls)
    counts n (lines.Pairs ∷ ls) = head_counts n lines.Pairs ls (take_pair_rows v k (n + 1) ls) (pair_rows_counts v k (n + 1) ls)
    counts n _ = tt

    more : (n : ℕ) (ls more : List CertLine) → Known n ls (take_pairs v k n ls) → take_pairs v k n (ls ++ more) ≡ shifted more (take_pairs v k n ls)
    more n [] xs h = absurd (omega (arith, h))
    more n (lines.Pairs ∷ ls) xs h = pair_rows_more v k (n + 1) ls xs (head_known n lines.Pairs ls (take_pair_rows v k (n + 1) ls) h)
    more n (l ∷ ls) xs h = refl

dist_rows_counts : (v : Version) (w k n : ℕ) (ls : List CertLine) → Counts n ls (take_dist_rows v w k n ls)
dist_rows_counts v w zero n ls = refl
dist_rows_counts v w (suc k) n (lines.DistRow runs ∷ ls) = row_counts (λ rows. values_of runs ∷ rows) (is_row v w runs) n (lines.DistRow runs) ls (take_dist_rows v w k (n + 1) ls) (dist_rows_counts v w k (n + 1) ls)
dist_rows_counts v w (suc k) n _ = tt

dist_rows_more : (v : Version) (w k n : ℕ) (ls more : List CertLine) → Known n ls (take_dist_rows v w k n ls) → take_dist_rows v w k n (ls ++ more) ≡ shifted more (take_dist_rows v w k n ls)
dist_rows_more v w zero n ls xs h = refl
dist_rows_more v w (suc k) n [] xs h = absurd (omega (arith, h))
dist_rows_more v w (suc k) n (lines.DistRow runs ∷ ls) xs h =
    row_more (λ rows. values_of runs ∷ rows) (is_row v w runs) n (lines.DistRow runs) ls xs (take_dist_rows v w k (n + 1) ls) (take_dist_rows v w k (n + 1) (ls ++ xs)) (dist_rows_more v w k (n + 1) ls xs) h
dist_rows_more v w (suc k) n (l ∷ ls) xs h = refl

dists_steady : (v : Version) (w k : ℕ) → IsSteady (take_dists v w k)
dists_steady v w k = record { counts = counts; more = more }
  where
    counts : (n : ℕ) (ls : List CertLine) → Counts n ls (take_dists v w k n ls)
    counts n (lines.Dists ∷ ls) = head_counts n lines.Dists ls (take_dist_rows v w k (n + 1) ls) (dist_rows_counts v w k (n + 1) ls)
    counts n _ = tt

    more : (n : ℕ) (ls more : List CertLine) → Known n ls (take_dists v w k n ls) → take_dists v w k n (ls ++ more) ≡ shifted more (take_dists v w k n ls)
    more n [] xs h = absurd (omega (arith, h))
    more n (lines.Dists ∷ ls) xs h = dist_rows_more v w k (n + 1) ls xs (head_known n lines.Dists ls (take_dist_rows v w k (n + 1) ls) h)
    more n (l ∷ ls) xs h = refl

plan_extends : (t : TaskShape) (m head : ℕ) (plan : List Occ) → Extends (JudgesPlan t m head plan)
plan_extends t m head plan = record { counts = counts; more = more }
  where
    counts : (n : ℕ) (ls : List CertLine) (x : Outcome (List Occ)) → JudgesPlan t m head plan n ls x → Counts n ls x
    counts n ls x (inl h) = subst (Counts n ls) (sym h.1) refl
    counts n ls x (inr h) = subst (Counts n ls) (sym h.1) tt

    more : (n : ℕ) (ls : List CertLine) (x : Outcome (List Occ)) (xs : List CertLine) → JudgesPlan t m head plan n ls x → Known n ls x → JudgesPlan t m head plan n (ls ++ xs) (shifted xs x)
    more n ls x xs (inl h) k = inl (h.0, ap (shifted xs) h.1)
    more n ls x xs (inr h) k = inr (h.0, ap (shifted xs) h.1)

pairs_extend : (t : TaskShape) (head : ℕ) (rows : List (List Span)) → Extends (JudgesPairs t head rows)
pairs_extend t head rows = record { counts = counts; more = more }
  where
    counts : (n : ℕ) (ls : List CertLine) (x : Outcome PairShape) → JudgesPairs t head rows n ls x → Counts n ls x
    counts n ls x (h, of, inl k) = subst (Counts n ls) (sym k.1) refl
    counts n ls x (h, of, inr k) = subst (Counts n ls) (sym k.2) tt

    more : (n : ℕ) (ls : List CertLine) (x : Outcome PairShape) (xs : List CertLine) → JudgesPairs t head rows n ls x → Known n ls x → JudgesPairs t head rows n (ls ++ xs) (shifted xs x)
    more n ls x xs (h, of, inl k) known = (h, of, inl (k.0, ap (shifted xs) k.1))
    more n ls x xs (h, of, inr k) known = (h, of, inr (k.0, k.1, ap (shifted xs) k.2))

dists_extend : (t : TaskShape) (h : PairShape) (head : ℕ) (rows : List (List Span)) → Extends (JudgesDists t h head rows)
dists_extend t h head rows = record { counts = counts; more = more }
  where
    counts : (n : ℕ) (ls : List CertLine) (x : Outcome DistShape) → JudgesDists t h head rows n ls x → Counts n ls x
    counts n ls x (d, of, inl k) = subst (Counts n ls) (sym k.1) refl
    counts n ls x (d, of, inr k) = subst (Counts n ls) (sym k.2) tt

    more : (n : ℕ) (ls : List CertLine) (x : Outcome DistShape) (xs : List CertLine) → JudgesDists t h head rows n ls x → Known n ls x → JudgesDists t h head rows n (ls ++ xs) (shifted xs x)
    more n ls x xs (d, of, inl k) known = (d, of, inl (k.0, ap (shifted xs) k.1))
    more n ls x xs (d, of, inr k) known = (d, of, inr (k.0, k.1, ap (shifted xs) k.2))

goal_extends : (t : TaskShape) (h : PairShape) → Extends (JudgesGoal t h)
goal_extends t h = record { counts = counts; more = more }
  where
    counts : (n : ℕ) (ls : List CertLine) (x : Outcome (Unit {0})) → JudgesGoal t h n ls x → Counts n ls x
    counts n ls x (inl k) = subst (Counts n ls) (sym k.1) refl
    counts n ls x (inr k) = subst (Counts n ls) (sym k.1) tt

    more : (n : ℕ) (ls : List CertLine) (x : Outcome (Unit {0})) (xs : List CertLine) → JudgesGoal t h n ls x → Known n ls x → JudgesGoal t h n (ls ++ xs) (shifted xs x)
    more n ls x xs (inl k) known = inl (k.0, ap (shifted xs) k.1)
    more n ls x xs (inr k) known = inr (k.0, ap (shifted xs) k.1)

-- trees
module _ (t : TaskShape) (b : Tables) (mo : Bool) where
  reads_count : (part : Part) (n : ℕ) (ls : List CertLine) (o : Outcome (List NodeLine)) → Reads t b mo part n ls o → Counts n ls o
  reads_count r i l y (left s n ls e) = omega arith
  reads_count r i l y (whole s n ls o e h) = reads_count (worked s) n ls o h
  reads_count r i l y (step s n rule ls x o legal h e) =
      subst (Counts n (lines.Node (Narrow rule) ∷ ls)) (sym e) (counts_behind (λ f. Narrow rule ∷ f) n (lines.Node (Narrow rule)) ls x (reads_count (worked _) (n + 1) ls x h))
  reads_count r i l y (illegal s n rule ls o refused e) = subst (Counts n (lines.Node (Narrow rule) ∷ ls)) (sym e) tt
  reads_count r i l y (close s n ls o dead e) = subst (Counts n (lines.Node Close ∷ ls)) (sym e) (omega arith)
  reads_count r i l y (alive s n ls o refused e) = subst (Counts n (lines.Node Close ∷ ls)) (sym e) tt
  reads_count r i l y (branch s n flaw ls x o live stands h e) =
      subst (Counts n (lines.Node (Branch flaw) ∷ ls)) (sym e) (counts_behind (λ f. Branch flaw ∷ f) n (lines.Node (Branch flaw)) ls x (reads_count (branches s _) (n + 1) ls x h))
  reads_count r i l y (flawless s n flaw ls o refused e) = subst (Counts n (lines.Node (Branch flaw) ∷ ls)) (sym e) tt
  reads_count r i l y (strange s n ls o f e) = subst (Counts n ls) (sym e) tt
  reads_count r i l y (none s n ls o e) = subst (Counts n ls) (sym e) refl
  reads_count r i l y (child s n d c ds ls one rest m x o same h k e) =
      subst (Counts n (lines.Node (Child c) ∷ ls)) (sym e) (go x (reads_count (node _) (n + 1) ls (went one rest m) h) (reads_count (branches s ds) m rest x k))
    where
      go : (x : Outcome (List NodeLine)) → m + length rest ≡ n + 1 + length ls → Counts m rest x → Counts n (lines.Node (Child c) ∷ ls) (behind (λ f. Child d ∷ (one ++ f)) x)
      go (went f z j) p q = omega (arith, p, q)
      go (faulted line why) p q = tt
  reads_count r i l y (inside s n d c ds ls line why o same h e) = subst (Counts n (lines.Node (Child c) ∷ ls)) (sym e) tt
  reads_count r i l y (other s n d c ds ls o refused e) = subst (Counts n (lines.Node (Child c) ∷ ls)) (sym e) tt
  reads_count r i l y (childless s n d ds ls o f e) = subst (Counts n ls) (sym e) tt

  -- with no line a node is at fault there
  nothing_left : (s : Sheet) (n : ℕ) (ls : List CertLine) (o : Outcome (List NodeLine)) → Reads t b mo (worked s) n ls o → ls ≡ [] → o ≡ faulted n whys.Grammar
  nothing_left s n ls o (strange z i l y f e) empty = e
  nothing_left s n ls o (step z i rule l x y legal h e) empty = absurd (cc)
  nothing_left s n ls o (illegal z i rule l y refused e) empty = absurd (cc)
  nothing_left s n ls o (close z i l y dead e) empty = absurd (cc)
  nothing_left s n ls o (alive z i l y refused e) empty = absurd (cc)
  nothing_left s n ls o (branch z i flaw l x y live stands h e) empty = absurd (cc)
  nothing_left s n ls o (flawless z i flaw l y refused e) empty = absurd (cc)

  -- the first line alone tells what begins
  left_more : (l : CertLine) (ls more : List CertLine) → begins_left mo (l ∷ ls) ≡ false → begins_left mo (l ∷ (ls ++ more)) ≡ false
  left_more (lines.Node OpenNode) ls more h = h
  left_more (lines.Node (Child d)) ls more h = refl
  left_more (lines.Node (Narrow rule)) ls more h = refl
  left_more (lines.Node Close) ls more h = refl
  left_more (lines.Node (Branch flaw)) ls more h = refl
  left_more _ ls more h = refl

  work_more : (l : CertLine) (ls more : List CertLine) → begins_work (l ∷ ls) ≡ false → begins_work (l ∷ (ls ++ more)) ≡ false
  work_more (lines.Node OpenNode) ls more h = refl
  work_more (lines.Node (Child d)) ls more h = refl
  work_more (lines.Node (Narrow rule)) ls more h = h
  work_more (lines.Node Close) ls more h = h
  work_more (lines.Node (Branch flaw)) ls more h = h
  work_more _ ls more h = refl

  child_more : (l : CertLine) (ls more : List CertLine) → begins_child (l ∷ ls) ≡ false → begins_child (l ∷ (ls ++ more)) ≡ false
  child_more (lines.Node OpenNode) ls more h = refl
  child_more (lines.Node (Child d)) ls more h = h
  child_more (lines.Node (Narrow rule)) ls more h = refl
  child_more (lines.Node Close) ls more h = refl
  child_more (lines.Node (Branch flaw)) ls more h = refl
  child_more _ ls more h = refl

  reads_more : (part : Part) (n : ℕ) (ls : List CertLine) (o : Outcome (List NodeLine)) (xs : List CertLine) → Reads t b mo part n ls o → Known n ls o → Reads t b mo part n (ls ++ xs) (shifted xs o)
  reads_more r i l y xs (left s n ls e) k = left s n (ls ++ xs) e
  reads_more r i l y xs (whole s n [] o e h) k = absurd (let p : Known {A = List NodeLine} n [] (faulted n whys.Grammar) = subst (Known n []) (nothing_left s n [] o h refl) k in omega (arith, p))
  reads_more r i l y xs (whole s n (z ∷ ls) o e h) k = whole s n (z ∷ (ls ++ xs)) (shifted xs o) (left_more z ls xs e) (reads_more (worked s) n (z ∷ ls) o xs h k)
  reads_more r i l y xs (step s n rule ls x o legal h e) k =
      let within = known_behind (λ f. Narrow rule ∷ f) n (lines.Node (Narrow rule)) ls x (subst (Known n (lines.Node (Narrow rule) ∷ ls)) e k) in
      step s n rule (ls ++ xs) (shifted xs x) (shifted xs o) legal (reads_more (worked _) (n + 1) ls x xs h within) (ap (shifted xs) e ∙ shifted_behind (λ f. Narrow rule ∷ f) xs x)
  reads_more r i l y xs (illegal s n rule ls o refused e) k = illegal s n rule (ls ++ xs) (shifted xs o) refused (ap (shifted xs) e)
  reads_more r i l y xs (close s n ls o dead e) k = close s n (ls ++ xs) (shifted xs o) dead (ap (shifted xs) e)
  reads_more r i l y xs (alive s n ls o refused e) k = alive s n (ls ++ xs) (shifted xs o) refused (ap (shifted xs) e)
  reads_more r i l y xs (branch s n flaw ls x o live stands h e) k =
      let within = known_behind (λ f. Branch flaw ∷ f) n (lines.Node (Branch flaw)) ls x (subst (Known n (lines.Node (Branch flaw) ∷ ls)) e k) in
      branch s n flaw (ls ++ xs) (shifted xs x) (shifted xs o) live stands (reads_more (branches s _) (n + 1) ls x xs h within) (ap (shifted xs) e ∙ shifted_behind (λ f. Branch flaw ∷ f) xs x)
  reads_more r i l y xs (flawless s n flaw ls o refused e) k = flawless s n flaw (ls ++ xs) (shifted xs o) refused (ap (shifted xs) e)
  reads_more r i l y xs (strange s n [] o f e) k = absurd (let p : Known {A = List NodeLine} n [] (faulted n whys.Grammar) = subst (Known n []) e k in omega (arith, p))
  reads_more r i l y xs (strange s n (z ∷ ls) o f e) k = strange s n (z ∷ (ls ++ xs)) (shifted xs o) (work_more z ls xs f) (ap (shifted xs) e)
  reads_more r i l y xs (none s n ls o e) k = none s n (ls ++ xs) (shifted xs o) (ap (shifted xs) e)
  reads_more r i l y xs (child s n d c ds ls one rest m x o same h j e) k =
      let count = reads_count (node _) (n + 1) ls (went one rest m) h in
      child s n d c ds (ls ++ xs) one (rest ++ xs) m (shifted xs x) (shifted xs o) same (reads_more (node _) (n + 1) ls (went one rest m) xs h tt)
      (reads_more (branches s ds) m rest x xs j (within x count (subst (Known n (lines.Node (Child c) ∷ ls)) e k))) (ap (shifted xs) e ∙ shifted_behind (λ f. Child d ∷ (one ++ f)) xs x)
    where
      within : (x : Outcome (List NodeLine)) → m + length rest ≡ n + 1 + length ls → Known n (lines.Node (Child c) ∷ ls) (behind (λ f. Child d ∷ (one ++ f)) x) → Known m rest x
      within (went f z q) p w = tt
      within (faulted line why) p w = omega (arith, p, w)
  reads_more r i l y xs (inside s n d c ds ls line why o same h e) k =
      let p : Known {A = List NodeLine} n (lines.Node (Child c) ∷ ls) (faulted line why) = subst (Known n (lines.Node (Child c) ∷ ls)) e k in
      inside s n d c ds (ls ++ xs) line why (shifted xs o) same (reads_more (node _) (n + 1) ls (faulted line why) xs h (omega (arith, p))) (ap (shifted xs) e)
  reads_more r i l y xs (other s n d c ds ls o refused e) k = other s n d c ds (ls ++ xs) (shifted xs o) refused (ap (shifted xs) e)
  reads_more r i l y xs (childless s n d ds [] o f e) k = absurd (let p : Known {A = List NodeLine} n [] (faulted n whys.Grammar) = subst (Known n []) e k in omega (arith, p))
  reads_more r i l y xs (childless s n d ds (z ∷ ls) o f e) k = childless s n d ds (z ∷ (ls ++ xs)) (shifted xs o) (child_more z ls xs f) (ap (shifted xs) e)

  reads_extend : (part : Part) → Extends (Reads t b mo part)
  reads_extend part = record { counts = λ n ls x h. reads_count part n ls x h; more = λ n ls x xs h k. reads_more part n ls x xs h k }

-- the end, behind which something follows or not
line_is : {A : Type 0} (k l : ℕ) (w v : Why) → let x : Outcome A = faulted k w in x ≡ faulted l v → (k ≡ l) × (w ≡ v)
line_is k l w v e = (cc, cc)

end_fails : (n : ℕ) (ls : List CertLine) (line : ℕ) (why : Why) (more : List CertLine) → faulted line why ≡ take_end n ls → line < n + length ls → faulted line why ≡ take_end n (ls ++ more)
end_fails n [] line why xs e lt = absurd (let k = (line_is line n why whys.Grammar e).0 in omega (arith, k, lt))
end_fails n (lines.End ∷ []) line why xs e lt = absurd (cc)
end_fails n (lines.End ∷ l ∷ ls) line why xs e lt = e
end_fails n (l ∷ ls) line why xs e lt = e

end_stands : Stands (λ n ls o. o ≡ take_end n ls)
end_stands n ls line why more e lt = end_fails n ls line why more e lt

counted_stands : (nodes : ℕ) (f : List NodeLine) → Stands (λ n ls o. o ≡ take_counted_end nodes f n ls)
counted_stands nodes f n [] line why xs e lt = absurd (let k = (line_is line n why whys.Grammar e).0 in omega (arith, k, lt))
counted_stands nodes f n (lines.End ∷ ls) line why xs e lt = go (is_counted nodes f) e
  where
    go : (c : Bool) → faulted line why ≡ (if c then take_end n (lines.End ∷ ls) else faulted n whys.Count) → faulted line why ≡ (if c then take_end n (lines.End ∷ (ls ++ xs)) else faulted n whys.Count)
    go true k = end_fails n (lines.End ∷ ls) line why xs k lt
    go false k = k
counted_stands nodes f n (l ∷ ls) line why xs e lt = e

module _ (t : TaskShape) where
  tree_extends : (b : Tables) (bound : ℕ) → Extends (ReadsTree t b bound)
  tree_extends b bound =
      then_extends (λ n ls x. x ≡ take_tree bound n ls) (λ _. Reads t b false (node (root_of t b bound))) (steady (take_tree bound) (tree_steady bound)) (λ _. reads_extend t b false (node (root_of t b bound)))

  open_extends : (b : Tables) (bound : ℕ) → Extends (ReadsOpenTree t b bound)
  open_extends b bound =
      then_extends (λ n ls x. x ≡ take_open_tree bound n ls) (λ _. Reads t b true (node (root_of t b bound))) (steady (take_open_tree bound) (open_tree_steady bound)) (λ _. reads_extend t b true (node (root_of t b bound)))

  read_plan_extends : (m : ℕ) → Extends (ReadsPlan t m)
  read_plan_extends m = record {
    counts = λ n ls x h. then_counts (λ n ls x. x ≡ take_plan n ls) (JudgesPlan t m n) (steady take_plan plan_steady) (plan_extends t m n) n ls x h;
    more = λ n ls x xs h k. then_more (λ n ls x. x ≡ take_plan n ls) (JudgesPlan t m n) (steady take_plan plan_steady) (plan_extends t m n) n ls x xs h k;
  }

  read_pairs_extend : (v : Version) → Extends (ReadsPairs t v)
  read_pairs_extend v = record {
    counts = λ n ls x h. then_counts (λ n ls x. x ≡ take_pairs v (length t.atoms) n ls) (JudgesPairs t n) (steady (take_pairs v (length t.atoms)) (pairs_steady v (length t.atoms))) (pairs_extend t n) n ls x h;
    more = λ n ls x xs h k. then_more (λ n ls x. x ≡ take_pairs v (length t.atoms) n ls) (JudgesPairs t n) (steady (take_pairs v (length t.atoms)) (pairs_steady v (length t.atoms))) (pairs_extend t n) n ls x xs h k;
  }

  read_dists_extend : (v : Version) (g : PairShape) → Extends (ReadsDists t v g)
  read_dists_extend v g =
      let f = take_dists v (length t.atoms) (length t.actions) in
      let first = steady f (dists_steady v (length t.atoms) (length t.actions)) in
      record {
        counts = λ n ls x h. then_counts (λ n ls x. x ≡ f n ls) (JudgesDists t g n) first (dists_extend t g n) n ls x h;
        more = λ n ls x xs h k. then_more (λ n ls x. x ≡ f n ls) (JudgesDists t g n) first (dists_extend t g n) n ls x xs h k;
      }

  last_tree_stands : (bound : ℕ) (b : Tables) → Stands (ReadsLastTree t bound b)
  last_tree_stands bound b = then_stands (ReadsTree t b bound) (λ _ n ls o. o ≡ take_end n ls) (tree_extends b bound) (λ _. end_stands)

  two_trees_stand : (refuted nodes : ℕ) (b : Tables) → Stands (ReadsTwoTrees t refuted nodes b)
  two_trees_stand refuted nodes b =
      then_stands (ReadsTree t b refuted) (λ _. Then (ReadsOpenTree t b (refuted + 1)) (λ f n ls o. o ≡ take_counted_end nodes f n ls)) (tree_extends b refuted)
      (λ _. then_stands (ReadsOpenTree t b (refuted + 1)) (λ f n ls o. o ≡ take_counted_end nodes f n ls) (open_extends b (refuted + 1)) (counted_stands nodes))

  tables_stand : (v : Version) (next : Tables → ℕ → List CertLine → Outcome (Unit {0}) → Type 0) → ((b : Tables) → Stands (next b)) → Stands (ReadsTables t v next)
  tables_stand v next more =
      then_stands (ReadsPairs t v) (λ h. Then (ReadsDists t v h) (λ d. next (record { pairs = h; dists = d }))) (read_pairs_extend v)
      (λ h. then_stands (ReadsDists t v h) (λ d. next (record { pairs = h; dists = d })) (read_dists_extend v h) (λ d. more (record { pairs = h; dists = d })))

  optimal_stands : (v : Version) (m : ℕ) → Stands (ReadsOptimal t v m)
  optimal_stands v zero = then_stands (ReadsPlan t zero) (λ _ n ls o. o ≡ take_end n ls) (read_plan_extends zero) (λ _. end_stands)
  optimal_stands v (suc m) = then_stands (ReadsPlan t (suc m)) (λ _. ReadsTables t v (ReadsLastTree t m)) (read_plan_extends (suc m)) (λ _. tables_stand v (ReadsLastTree t m) (last_tree_stands m))

  sections_stand : (v : Version) (claim : Claim) → Stands (ReadsSections t v claim)
  sections_stand v (claims.Optimal m) = optimal_stands v m
  sections_stand v (claims.NoneUpTo m) = tables_stand v (ReadsLastTree t m) (last_tree_stands m)
  sections_stand v claims.Never =
      then_stands (ReadsPairs t v) (λ h. Then (JudgesGoal t h) (λ _ n ls o. o ≡ take_end n ls)) (read_pairs_extend v)
      (λ h. then_stands (JudgesGoal t h) (λ _ n ls o. o ≡ take_end n ls) (goal_extends t h) (λ _. end_stands))
  sections_stand v (claims.Spent refuted nodes) = tables_stand v (ReadsTwoTrees t refuted nodes) (two_trees_stand refuted nodes)

  -- behind the sections the text is read whole, with its version and claim
  abbrev ends_named : Version → Claim → Unit {0} → ℕ → List CertLine → Outcome (Version × Claim) → Type 0
  ends_named v claim u n ls o = o ≡ went (v, claim) ls n

  -- so its faults are those of its sections
  named_stand : (v : Version) (claim : Claim) → Stands (Then (ReadsSections t v claim) (ends_named v claim))
  named_stand v claim n ls line why more (x, p, q) lt = go x p q
    where
      go : (x : Outcome (Unit {0})) → ReadsSections t v claim n ls x → After (ends_named v claim) x (faulted line why) → Then (ReadsSections t v claim) (ends_named v claim) n (ls ++ more) (faulted line why)
      go (went a rest m) p q = absurd (cc)
      go (faulted l w) p q = let same = (line_is line l why w q).0 in (faulted l w, sections_stand v claim n ls l w more p (omega (arith, same, lt)), q)

  body_stands : (v : Version) (claim : Claim) → Stands (ReadsBody t v claim)
  body_stands v claim = then_stands (λ n ls x. x ≡ take_sizes t n ls) (λ _. Then (ReadsSections t v claim) (ends_named v claim)) (steady (take_sizes t) (sizes_steady t)) (λ _. named_stand v claim)

-- the faults of lines are faults whatever comes behind
pub faults_stand : FaultsStand
faults_stand t ls line why more h le =
    then_stands (λ n ls x. x ≡ take_version n ls) (λ v. Then (λ n ls x. x ≡ take_claim n ls) (ReadsBody t v)) (steady take_version version_steady)
    (λ v. then_stands (λ n ls x. x ≡ take_claim n ls) (ReadsBody t v) (steady take_claim claim_steady) (body_stands t v)) 1 ls line why more h (omega (arith, le))
