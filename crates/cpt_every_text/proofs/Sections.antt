-- each section is read to an outcome
use Rattle.std.proofs.Common.{◌≡◌, ℕ, zero, suc, ◌+◌, ◌*◌, ◌⊎◌, inl, inr, ◌==◌, ◌&&◌, Bool, true, false, if◌then◌else◌, List, ◌∷◌, length, refl, arith}
use Rattle.std.proofs.lemmas.Bool.{and_parts, eqb-true}
use Rattle.cpt_task.specs.declared.span.Span.{Span}
use Rattle.cpt_task.specs.declared.span.Span.TheVariants.{At, Never}
use Rattle.cpt_task.specs.declared.plan.Occ.{Occ}
use Rattle.cpt_task.specs.Shape.{TaskShape}
use Rattle.cpt_task.specs.Timeline.{makespan}
use Rattle.cpt_tables.specs.declared.tables.Tables.{Tables}
use Rattle.cpt_tables.specs.declared.faults.PairFault.{PairFault}
use Rattle.cpt_tables.specs.declared.faults.DistFault.{DistFault}
use Rattle.cpt_tables.specs.Shapes.{PairShape, DistShape, set_span_of}
use Rattle.cpt_tables.specs.Admissible.{IsAdmissiblePairs, IsAdmissibleDists, IsPairFault, IsDistFault}
use Rattle.cpt_calculus.specs.Root.{root_of}
use Rattle.cpt_sheet.specs.declared.data.NodeLine.{NodeLine}
use Rattle.cpt_cert_form.specs.declared.forms.Version.{Version}
use Rattle.cpt_cert_form.specs.declared.forms.Claim.{Claim}
use Rattle.cpt_cert_form.specs.declared.forms.Claim.TheVariants as claims
use Rattle.cpt_cert_form.specs.declared.forms.CertLine.{CertLine}
use Rattle.cpt_cert_form.specs.declared.forms.CertLine.TheVariants as lines
use Rattle.cpt_cert_accept.specs.declared.faults.Why.{Why}
use Rattle.cpt_cert_accept.specs.declared.faults.Why.TheVariants as whys
use Rattle.cpt_cert_accept.specs.Trees.Part.{node}
use Rattle.cpt_cert_accept.specs.Accepting.{IsPlanOf, is_no_sooner}
use Rattle.cpt_cert_accept.specs.Reading.{Outcome, Then, behind, take_version, take_claim, take_sizes, take_items, take_plan, take_pair_rows, take_pairs, take_dist_rows, take_dists, take_tree, take_open_tree, take_end, soonest, is_row, is_form, values_of, IsPairsOf, IsDistsOf, JudgesPlan, JudgesGoal, ReadsPlan, ReadsPairs, ReadsDists}
use Rattle.cpt_cert_accept.specs.Reading.Outcome.{went, faulted}
use Rattle.cpt_cert_accept.specs.Descent.{Reads, ReadsTree, ReadsOpenTree, ReadsTables, ReadsLastTree, ReadsTwoTrees, ReadsOptimal, ReadsSections, ReadsBody, ReadsAll, take_counted_end}
use Rattle.cpt_decidable.specs.Decidable.{IsDecidable}
use Rattle.cpt_decidable.proofs.Deciding.{like, both, is_equal}
use Rattle.cpt_decidable.proofs.Faults.{pairs_ruled, dists_ruled}
use Rattle.cpt_decidable.proofs.Plans.{is_valid}
use Rattle.cpt_every_text.proofs.Descents.{each_read}
use Rattle.cpt_every_text.proofs.RunLines.{AllHaveRuns}
use Rattle.cpt_every_text.proofs.TableOfRows.{IsTriangle, IsSquare, values_small, pairs_of_rows, dists_of_rows}

-- where lines go on, the runs of those that are left keep their limits
abbrev pub KeepsRuns : {A : Type 0} → Outcome A → Type 0
KeepsRuns (went a rest m) = AllHaveRuns rest
KeepsRuns (faulted line why) = Unit {0}

-- lines whose runs keep their limits are read to an outcome
abbrev pub IsTotal : {A : Type 0} → (ℕ → List CertLine → Outcome A → Type 0) → Type 0
IsTotal {A} R = (n : ℕ) (ls : List CertLine) → AllHaveRuns ls → (o : Outcome A) × R n ls o

-- and the runs of the lines that are left keep them too
abbrev pub IsTotalOn : {A : Type 0} → (ℕ → List CertLine → Outcome A → Type 0) → Type 0
IsTotalOn {A} R = (n : ℕ) (ls : List CertLine) → AllHaveRuns ls → (o : Outcome A) × R n ls o × KeepsRuns o

pub then_total : {A B : Type 0} (first : ℕ → List CertLine → Outcome A → Type 0) (next : A → ℕ → List CertLine → Outcome B → Type 0) → IsTotalOn first → ((a : A) → IsTotal (next a)) → IsTotal (Then first next)
then_total {A} {B} first next one more n ls runs = go (one n ls runs)
  where
    go : (x : Outcome A) × first n ls x × KeepsRuns x → (o : Outcome B) × Then first next n ls o
    go (went a rest m, reads, kept) = let k = more a m rest kept in (k.0, (went a rest m, reads, k.1))
    go (faulted line why, reads, kept) = (faulted line why, (faulted line why, reads, refl))

pub then_on : {A B : Type 0} (first : ℕ → List CertLine → Outcome A → Type 0) (next : A → ℕ → List CertLine → Outcome B → Type 0) → IsTotalOn first → ((a : A) → IsTotalOn (next a)) → IsTotalOn (Then first next)
then_on {A} {B} first next one more n ls runs = go (one n ls runs)
  where
    go : (x : Outcome A) × first n ls x × KeepsRuns x → (o : Outcome B) × Then first next n ls o × KeepsRuns o
    go (went a rest m, reads, kept) = let k = more a m rest kept in (k.0, (went a rest m, reads, k.1), k.2)
    go (faulted line why, reads, kept) = (faulted line why, (faulted line why, reads, refl), tt)

keeps_behind : {A B : Type 0} (f : A → B) (x : Outcome A) → KeepsRuns x → KeepsRuns (behind f x)
keeps_behind f (went a rest m) h = h
keeps_behind f (faulted line why) h = tt

keeps_if : {A : Type 0} (c : Bool) (x : Outcome A) (n : ℕ) (why : Why) → KeepsRuns x → KeepsRuns (if c then x else faulted n why)
keeps_if true x n why h = h
keeps_if false x n why h = tt

-- the head lines
pub version_on : IsTotalOn (λ n ls x. x ≡ take_version n ls)
version_on n ls runs = (take_version n ls, refl, kept ls runs)
  where
    kept : (ls : List CertLine) → AllHaveRuns ls → KeepsRuns (take_version n ls)
    kept (lines.First v ∷ ls) h = h.1
    kept _ h = tt

pub claim_on : IsTotalOn (λ n ls x. x ≡ take_claim n ls)
claim_on n ls runs = (take_claim n ls, refl, kept ls runs)
  where
    kept : (ls : List CertLine) → AllHaveRuns ls → KeepsRuns (take_claim n ls)
    kept (lines.Claimed claim ∷ ls) h = h.1
    kept _ h = tt

pub sizes_on : (t : TaskShape) → IsTotalOn (λ n ls x. x ≡ take_sizes t n ls)
sizes_on t n ls runs = (take_sizes t n ls, refl, kept ls runs)
  where
    kept : (ls : List CertLine) → AllHaveRuns ls → KeepsRuns (take_sizes t n ls)
    kept (lines.Sizes atoms actions ∷ ls) h = keeps_if ((atoms == length t.atoms) && (actions == length t.actions)) (went tt ls (n + 1)) n whys.Task h.1
    kept _ h = tt

-- the plan
items_keep : (k : ℕ) (before : Occ) (n : ℕ) (ls : List CertLine) → AllHaveRuns ls → KeepsRuns (take_items k before n ls)
items_keep zero before n ls h = h
items_keep (suc k) before n (lines.Item start act ∷ ls) h =
    let o : Occ = record { act = act; start = start } in
    keeps_if (is_no_sooner before o) (behind (λ os. o ∷ os) (take_items k o (n + 1) ls)) n whys.Grammar (keeps_behind (λ os. o ∷ os) (take_items k o (n + 1) ls) (items_keep k o (n + 1) ls h.1))
items_keep (suc k) before n _ h = tt

plan_keeps : (n : ℕ) (ls : List CertLine) → AllHaveRuns ls → KeepsRuns (take_plan n ls)
plan_keeps n (lines.Plan k ∷ ls) h = items_keep k soonest (n + 1) ls h.1
plan_keeps n _ h = tt

is_plan_of : (t : TaskShape) (m : ℕ) (plan : List Occ) → IsDecidable (IsPlanOf t m plan)
is_plan_of t m plan = like (λ h. record { valid = h.0; makespan = h.1 }) (λ h. (h.valid, h.makespan)) (both (is_valid t plan) (is_equal (makespan t plan) m))

plan_judged : (t : TaskShape) (m head : ℕ) (plan : List Occ) → IsTotalOn (JudgesPlan t m head plan)
plan_judged t m head plan n ls runs = go (is_plan_of t m plan)
  where
    go : IsDecidable (IsPlanOf t m plan) → (o : Outcome (List Occ)) × JudgesPlan t m head plan n ls o × KeepsRuns o
    go (inl good) = (went plan ls n, inl (good, refl), runs)
    go (inr bad) = (faulted head whys.Plan, inr (bad, refl), tt)

pub plan_on : (t : TaskShape) (m : ℕ) → IsTotalOn (ReadsPlan t m)
plan_on t m n = then_on (λ n ls x. x ≡ take_plan n ls) (JudgesPlan t m n) (λ n ls runs. (take_plan n ls, refl, plan_keeps n ls runs)) (plan_judged t m n) n

-- the rows of a table: where they go on they have the right lengths
abbrev AreRows : (List (List Span) → Type 0) → Outcome (List (List Span)) → Type 0
AreRows R (went rows rest m) = R rows × AllHaveRuns rest
AreRows R (faulted line why) = Unit {0}

pair_rows_on : (v : Version) (k n : ℕ) (ls : List CertLine) → AllHaveRuns ls → AreRows (IsTriangle k) (take_pair_rows v k n ls)
pair_rows_on v zero n ls h = (tt, h)
pair_rows_on v (suc k) n (lines.PairRow runs ∷ ls) h = go (is_row v (suc k) runs) refl (take_pair_rows v k (n + 1) ls) (pair_rows_on v k (n + 1) ls h.1)
  where
    go : (c : Bool) → is_row v (suc k) runs ≡ c → (x : Outcome (List (List Span))) → AreRows (IsTriangle k) x → AreRows (IsTriangle (suc k)) (if c then behind (λ rows. values_of runs ∷ rows) x else faulted n whys.Grammar)
    go true e (went rows rest m) r = ((eqb-true (length (values_of runs)) (suc k) (and_parts (is_form v runs) (length (values_of runs) == suc k) e).1, values_small runs h.0, r.0), r.1)
    go true e (faulted line why) r = tt
    go false e x r = tt
pair_rows_on v (suc k) n _ h = tt

dist_rows_on : (v : Version) (w k n : ℕ) (ls : List CertLine) → AllHaveRuns ls → AreRows (IsSquare w k) (take_dist_rows v w k n ls)
dist_rows_on v w zero n ls h = (tt, h)
dist_rows_on v w (suc k) n (lines.DistRow runs ∷ ls) h = go (is_row v w runs) refl (take_dist_rows v w k (n + 1) ls) (dist_rows_on v w k (n + 1) ls h.1)
  where
    go : (c : Bool) → is_row v w runs ≡ c → (x : Outcome (List (List Span))) → AreRows (IsSquare w k) x → AreRows (IsSquare w (suc k)) (if c then behind (λ rows. values_of runs ∷ rows) x else faulted n whys.Grammar)
    go true e (went rows rest m) r = ((eqb-true (length (values_of runs)) w (and_parts (is_form v runs) (length (values_of runs) == w) e).1, values_small runs h.0, r.0), r.1)
    go true e (faulted line why) r = tt
    go false e x r = tt
dist_rows_on v w (suc k) n _ h = tt

pairs_rows : (v : Version) (k n : ℕ) (ls : List CertLine) → AllHaveRuns ls → AreRows (IsTriangle k) (take_pairs v k n ls)
pairs_rows v k n (lines.Pairs ∷ ls) h = pair_rows_on v k (n + 1) ls h.1
pairs_rows v k n _ h = tt

dists_rows : (v : Version) (w k n : ℕ) (ls : List CertLine) → AllHaveRuns ls → AreRows (IsSquare w k) (take_dists v w k n ls)
dists_rows v w k n (lines.Dists ∷ ls) h = dist_rows_on v w k (n + 1) ls h.1
dists_rows v w k n _ h = tt

pub pairs_on : (t : TaskShape) (v : Version) → IsTotalOn (ReadsPairs t v)
pairs_on t v n ls runs = go (take_pairs v (length t.atoms) n ls) refl (pairs_rows v (length t.atoms) n ls runs)
  where
    go : (x : Outcome (List (List Span))) → x ≡ take_pairs v (length t.atoms) n ls → AreRows (IsTriangle (length t.atoms)) x → (o : Outcome PairShape) × ReadsPairs t v n ls o × KeepsRuns o
    go (faulted line why) e r = (faulted line why, (faulted line why, e, refl), tt)
    go (went rows rest m) e r = ruled (pairs_of_rows (length t.atoms) rows r.0 t refl)
      where
        ruled : (h : PairShape) × IsPairsOf t rows h → (o : Outcome PairShape) × ReadsPairs t v n ls o × KeepsRuns o
        ruled (h, of) = last (pairs_ruled t h)
          where
            last : (IsAdmissiblePairs t h ⊎ ((f : PairFault) × IsPairFault t h f)) → (o : Outcome PairShape) × ReadsPairs t v n ls o × KeepsRuns o
            last (inl good) = (went h rest m, (went rows rest m, e, (h, of, inl (good, refl))), r.1)
            last (inr (f, bad)) = (faulted (n + 1 + f.p) whys.Pair, (went rows rest m, e, (h, of, inr (f, bad, refl))), tt)

pub dists_on : (t : TaskShape) (v : Version) (h : PairShape) → IsTotalOn (ReadsDists t v h)
dists_on t v h n ls runs = go (take_dists v (length t.atoms) (length t.actions) n ls) refl (dists_rows v (length t.atoms) (length t.actions) n ls runs)
  where
    go : (x : Outcome (List (List Span))) → x ≡ take_dists v (length t.atoms) (length t.actions) n ls → AreRows (IsSquare (length t.atoms) (length t.actions)) x → (o : Outcome DistShape) × ReadsDists t v h n ls o × KeepsRuns o
    go (faulted line why) e r = (faulted line why, (faulted line why, e, refl), tt)
    go (went rows rest m) e r = ruled (dists_of_rows (length t.atoms) (length t.actions) rows r.0 t refl refl)
      where
        ruled : (d : DistShape) × IsDistsOf t rows d → (o : Outcome DistShape) × ReadsDists t v h n ls o × KeepsRuns o
        ruled (d, of) = last (dists_ruled t h d)
          where
            last : (IsAdmissibleDists t h d ⊎ ((f : DistFault) × IsDistFault t h d f)) → (o : Outcome DistShape) × ReadsDists t v h n ls o × KeepsRuns o
            last (inl good) = (went d rest m, (went rows rest m, e, (d, of, inl (good, refl))), r.1)
            last (inr (f, bad)) = (faulted (n + 1 + f.act) whys.Dist, (went rows rest m, e, (d, of, inr (f, bad, refl))), tt)

-- the goal
is_never : (a : Span) → IsDecidable (a ≡ Never)
is_never (At n) = inr (λ e. absurd (cc))
is_never Never = inl refl

goal_on : (t : TaskShape) (h : PairShape) → IsTotalOn (JudgesGoal t h)
goal_on t h n ls runs = go (is_never (set_span_of h t.goal))
  where
    go : IsDecidable (set_span_of h t.goal ≡ Never) → (o : Outcome (Unit {0})) × JudgesGoal t h n ls o × KeepsRuns o
    go (inl never) = (went tt ls n, inl (never, refl), runs)
    go (inr other) = (faulted 2 whys.Goal, inr (other, refl), tt)

-- the end
end_total : IsTotal (λ n ls o. o ≡ take_end n ls)
end_total n ls runs = (take_end n ls, refl)

-- what is read whatever lines come, behind a section that is read so
then_any : {A B : Type 0} (first : ℕ → List CertLine → Outcome A → Type 0) (next : A → ℕ → List CertLine → Outcome B → Type 0) (n : ℕ) (ls : List CertLine) → (x : Outcome A) × first n ls x → ((a : A) (m : ℕ) (rest : List CertLine) → (o : Outcome B) × next a m rest o) → (o : Outcome B) × Then first next n ls o
then_any first next n ls (went a rest m, reads) more = let k = more a m rest in (k.0, (went a rest m, reads, k.1))
then_any first next n ls (faulted line why, reads) more = (faulted line why, (faulted line why, reads, refl))

-- trees
nodes_any : (t : TaskShape) (b : Tables) (mo : Bool) (bound n : ℕ) (ls : List CertLine) → (o : Outcome (List NodeLine)) × Reads t b mo (node (root_of t b bound)) n ls o
nodes_any t b mo bound n ls = let h = each_read t b mo (2 * length ls + 2) (node (root_of t b bound)) n ls (omega arith) in (h.0, h.1)

tree_any : (t : TaskShape) (b : Tables) (bound n : ℕ) (ls : List CertLine) → (o : Outcome (List NodeLine)) × ReadsTree t b bound n ls o
tree_any t b bound n ls = then_any (λ n ls x. x ≡ take_tree bound n ls) (λ _. Reads t b false (node (root_of t b bound))) n ls (take_tree bound n ls, refl) (λ _ m rest. nodes_any t b false bound m rest)

open_tree_any : (t : TaskShape) (b : Tables) (bound n : ℕ) (ls : List CertLine) → (o : Outcome (List NodeLine)) × ReadsOpenTree t b bound n ls o
open_tree_any t b bound n ls = then_any (λ n ls x. x ≡ take_open_tree bound n ls) (λ _. Reads t b true (node (root_of t b bound))) n ls (take_open_tree bound n ls, refl) (λ _ m rest. nodes_any t b true bound m rest)

last_tree_any : (t : TaskShape) (bound : ℕ) (b : Tables) (n : ℕ) (ls : List CertLine) → (o : Outcome (Unit {0})) × ReadsLastTree t bound b n ls o
last_tree_any t bound b n ls = then_any (ReadsTree t b bound) (λ _ n ls o. o ≡ take_end n ls) n ls (tree_any t b bound n ls) (λ _ m rest. (take_end m rest, refl))

two_trees_any : (t : TaskShape) (refuted nodes : ℕ) (b : Tables) (n : ℕ) (ls : List CertLine) → (o : Outcome (Unit {0})) × ReadsTwoTrees t refuted nodes b n ls o
two_trees_any t refuted nodes b n ls =
    then_any (ReadsTree t b refuted) (λ _. Then (ReadsOpenTree t b (refuted + 1)) (λ f n ls o. o ≡ take_counted_end nodes f n ls)) n ls (tree_any t b refuted n ls)
    (λ _ m rest. then_any (ReadsOpenTree t b (refuted + 1)) (λ f n ls o. o ≡ take_counted_end nodes f n ls) m rest (open_tree_any t b (refuted + 1) m rest) (λ f k left. (take_counted_end nodes f k left, refl)))

-- the sections that the claim asks for
tables_total : (t : TaskShape) (v : Version) (next : Tables → ℕ → List CertLine → Outcome (Unit {0}) → Type 0) → ((b : Tables) → IsTotal (next b)) → IsTotal (ReadsTables t v next)
tables_total t v next more =
    then_total (ReadsPairs t v) (λ h. Then (ReadsDists t v h) (λ d. next (record { pairs = h; dists = d }))) (pairs_on t v)
    (λ h. then_total (ReadsDists t v h) (λ d. next (record { pairs = h; dists = d })) (dists_on t v h) (λ d. more (record { pairs = h; dists = d })))

optimal_total : (t : TaskShape) (v : Version) (m : ℕ) → IsTotal (ReadsOptimal t v m)
optimal_total t v zero = then_total (ReadsPlan t zero) (λ _ n ls o. o ≡ take_end n ls) (plan_on t zero) (λ _. end_total)
optimal_total t v (suc m) = then_total (ReadsPlan t (suc m)) (λ _. ReadsTables t v (ReadsLastTree t m)) (plan_on t (suc m)) (λ _. tables_total t v (ReadsLastTree t m) (λ b n ls runs. last_tree_any t m b n ls))

sections_total : (t : TaskShape) (v : Version) (claim : Claim) → IsTotal (ReadsSections t v claim)
sections_total t v (claims.Optimal m) = optimal_total t v m
sections_total t v (claims.NoneUpTo m) = tables_total t v (ReadsLastTree t m) (λ b n ls runs. last_tree_any t m b n ls)
sections_total t v claims.Never =
    then_total (ReadsPairs t v) (λ h. Then (JudgesGoal t h) (λ _ n ls o. o ≡ take_end n ls)) (pairs_on t v) (λ h. then_total (JudgesGoal t h) (λ _ n ls o. o ≡ take_end n ls) (goal_on t h) (λ _. end_total))
sections_total t v (claims.Spent refuted nodes) = tables_total t v (ReadsTwoTrees t refuted nodes) (λ b n ls runs. two_trees_any t refuted nodes b n ls)

body_total : (t : TaskShape) (v : Version) (claim : Claim) → IsTotal (ReadsBody t v claim)
body_total t v claim = then_total (λ n ls x. x ≡ take_sizes t n ls) (λ _. Then (ReadsSections t v claim) (λ _ n ls o. o ≡ went (v, claim) ls n)) (sizes_on t) (λ _ n ls runs. last n ls (sections_total t v claim n ls runs))
  where
    last : (n : ℕ) (ls : List CertLine) → (x : Outcome (Unit {0})) × ReadsSections t v claim n ls x → (o : Outcome (Version × Claim)) × Then (ReadsSections t v claim) (λ _ n ls o. o ≡ went (v, claim) ls n) n ls o
    last n ls (went u rest m, reads) = (went (v, claim) rest m, (went u rest m, reads, refl))
    last n ls (faulted line why, reads) = (faulted line why, (faulted line why, reads, refl))

-- lines whose runs keep their limits are read to an outcome
pub lines_read : (t : TaskShape) (ls : List CertLine) → AllHaveRuns ls → (o : Outcome (Version × Claim)) × ReadsAll t ls o
lines_read t ls runs =
    then_total (λ n ls x. x ≡ take_version n ls) (λ v. Then (λ n ls x. x ≡ take_claim n ls) (ReadsBody t v)) version_on
    (λ v. then_total (λ n ls x. x ≡ take_claim n ls) (ReadsBody t v) claim_on (λ claim. body_total t v claim)) 1 ls runs
