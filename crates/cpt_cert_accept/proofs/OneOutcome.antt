-- the reading of a text has one outcome
use Rattle.std.proofs.Common.{◌≡◌, ℕ, zero, suc, ◌+◌, true, false, ◌⊎◌, inl, inr, List, length, sym, ap, ◌∙◌, subst}
use Rattle.cpt_task.specs.declared.span.Span.{Span}
use Rattle.cpt_task.specs.declared.plan.Occ.{Occ}
use Rattle.cpt_task.specs.Shape.{TaskShape}
use Rattle.cpt_tables.specs.declared.tables.Tables.{Tables}
use Rattle.cpt_tables.specs.declared.faults.PairFault.{PairFault}
use Rattle.cpt_tables.specs.declared.faults.DistFault.{DistFault}
use Rattle.cpt_tables.specs.Shapes.{PairShape, DistShape}
use Rattle.cpt_tables.specs.Admissible.{IsAdmissiblePairs, IsAdmissibleDists, IsPairFault, IsDistFault}
use Rattle.cpt_calculus.specs.Root.{root_of}
use Rattle.cpt_cert_form.specs.declared.forms.Version.{Version}
use Rattle.cpt_cert_form.specs.declared.forms.Claim.{Claim}
use Rattle.cpt_cert_form.specs.declared.forms.Claim.TheVariants as claims
use Rattle.cpt_cert_form.specs.declared.forms.CertLine.{CertLine}
use Rattle.cpt_cert_accept.specs.declared.faults.Why.TheVariants as whys
use Rattle.cpt_cert_accept.specs.Trees.Part.{node}
use Rattle.cpt_cert_accept.specs.Reading.{Outcome, Then, take_version, take_claim, take_sizes, take_plan, take_pairs, take_dists, take_tree, take_open_tree, take_end, JudgesPlan, JudgesPairs, JudgesDists, JudgesGoal, ReadsPlan, ReadsPairs, ReadsDists}
use Rattle.cpt_cert_accept.specs.Reading.Outcome.{went, faulted}
use Rattle.cpt_cert_accept.specs.Descent.{Reads, ReadsTree, ReadsOpenTree, ReadsTables, ReadsLastTree, ReadsTwoTrees, ReadsOptimal, ReadsSections, ReadsBody, take_counted_end}
use Rattle.cpt_cert_accept.specs.Laws
use Rattle.cpt_cert_accept.proofs.OneReading.{IsOne, one_then, one_reading}
use Rattle.cpt_cert_accept.proofs.SameTables.{one_pairs, one_dists, no_pair_fault, no_dist_fault, one_pair_row, one_dist_row}

-- what a function answers
one_answer : {A : Type 0} (f : ℕ → List CertLine → Outcome A) → IsOne (λ n ls x. x ≡ f n ls)
one_answer f n ls x y e k = e ∙ sym k

one_plan : (t : TaskShape) (m head : ℕ) (plan : List Occ) → IsOne (JudgesPlan t m head plan)
one_plan t m head plan n ls x y (inl a) (inl b) = a.1 ∙ sym b.1
one_plan t m head plan n ls x y (inl a) (inr b) = absurd (b.0 a.0)
one_plan t m head plan n ls x y (inr a) (inl b) = absurd (a.0 b.0)
one_plan t m head plan n ls x y (inr a) (inr b) = a.1 ∙ sym b.1

one_goal : (t : TaskShape) (h : PairShape) → IsOne (JudgesGoal t h)
one_goal t h n ls x y (inl a) (inl b) = a.1 ∙ sym b.1
one_goal t h n ls x y (inl a) (inr b) = absurd (b.0 a.0)
one_goal t h n ls x y (inr a) (inl b) = absurd (a.0 b.0)
one_goal t h n ls x y (inr a) (inr b) = a.1 ∙ sym b.1

-- how a pair table is judged
abbrev PairEnd : TaskShape → ℕ → ℕ → List CertLine → Outcome PairShape → PairShape → Type 0
PairEnd t head n ls o h = (IsAdmissiblePairs t h × (o ≡ went h ls n)) ⊎ ((f : PairFault) × IsPairFault t h f × (o ≡ faulted (head + 1 + f.p) whys.Pair))

abbrev DistEnd : TaskShape → PairShape → ℕ → ℕ → List CertLine → Outcome DistShape → DistShape → Type 0
DistEnd t h head n ls o d = (IsAdmissibleDists t h d × (o ≡ went d ls n)) ⊎ ((f : DistFault) × IsDistFault t h d f × (o ≡ faulted (head + 1 + f.act) whys.Dist))

one_pair_end : (t : TaskShape) (head n : ℕ) (ls : List CertLine) (h : PairShape) (x y : Outcome PairShape) → PairEnd t head n ls x h → PairEnd t head n ls y h → x ≡ y
one_pair_end t head n ls h x y (inl a) (inl b) = a.1 ∙ sym b.1
one_pair_end t head n ls h x y (inl a) (inr b) = absurd (no_pair_fault t h b.0 a.0 b.1)
one_pair_end t head n ls h x y (inr a) (inl b) = absurd (no_pair_fault t h a.0 b.0 a.1)
one_pair_end t head n ls h x y (inr a) (inr b) = a.2 ∙ ap (λ p. faulted (head + 1 + p) whys.Pair) (one_pair_row t h a.0 b.0 a.1 b.1) ∙ sym b.2

one_dist_end : (t : TaskShape) (h : PairShape) (head n : ℕ) (ls : List CertLine) (d : DistShape) (x y : Outcome DistShape) → DistEnd t h head n ls x d → DistEnd t h head n ls y d → x ≡ y
one_dist_end t h head n ls d x y (inl a) (inl b) = a.1 ∙ sym b.1
one_dist_end t h head n ls d x y (inl a) (inr b) = absurd (no_dist_fault t h d b.0 a.0 b.1)
one_dist_end t h head n ls d x y (inr a) (inl b) = absurd (no_dist_fault t h d a.0 b.0 a.1)
one_dist_end t h head n ls d x y (inr a) (inr b) = a.2 ∙ ap (λ p. faulted (head + 1 + p) whys.Dist) (one_dist_row t h d a.0 b.0 a.1 b.1) ∙ sym b.2

one_judged_pairs : (t : TaskShape) (head : ℕ) (rows : List (List Span)) → IsOne (JudgesPairs t head rows)
one_judged_pairs t head rows n ls x y a b =
    one_pair_end t head n ls a.0 x y a.2 (subst (PairEnd t head n ls y) (sym (one_pairs t rows a.0 b.0 a.1 b.1)) b.2)

one_judged_dists : (t : TaskShape) (h : PairShape) (head : ℕ) (rows : List (List Span)) → IsOne (JudgesDists t h head rows)
one_judged_dists t h head rows n ls x y a b =
    one_dist_end t h head n ls a.0 x y a.2 (subst (DistEnd t h head n ls y) (sym (one_dists t rows a.0 b.0 a.1 b.1)) b.2)

one_reads_plan : (t : TaskShape) (m : ℕ) → IsOne (ReadsPlan t m)
one_reads_plan t m n ls x y a b = one_then (λ n ls x. x ≡ take_plan n ls) (JudgesPlan t m n) (one_answer take_plan) (one_plan t m n) n ls x y a b

one_reads_pairs : (t : TaskShape) (v : Version) → IsOne (ReadsPairs t v)
one_reads_pairs t v n ls x y a b =
    one_then (λ n ls x. x ≡ take_pairs v (length t.atoms) n ls) (JudgesPairs t n) (one_answer (take_pairs v (length t.atoms))) (one_judged_pairs t n) n ls x y a b

one_reads_dists : (t : TaskShape) (v : Version) (h : PairShape) → IsOne (ReadsDists t v h)
one_reads_dists t v h n ls x y a b =
    one_then (λ n ls x. x ≡ take_dists v (length t.atoms) (length t.actions) n ls) (JudgesDists t h n) (one_answer (take_dists v (length t.atoms) (length t.actions))) (one_judged_dists t h n) n ls x y a b

one_tree : (t : TaskShape) (b : Tables) (bound : ℕ) → IsOne (ReadsTree t b bound)
one_tree t b bound = one_then (λ n ls x. x ≡ take_tree bound n ls) (λ _. Reads t b false (node (root_of t b bound))) (one_answer (take_tree bound)) (λ _. one_reading t b false (node (root_of t b bound)))

one_open_tree : (t : TaskShape) (b : Tables) (bound : ℕ) → IsOne (ReadsOpenTree t b bound)
one_open_tree t b bound = one_then (λ n ls x. x ≡ take_open_tree bound n ls) (λ _. Reads t b true (node (root_of t b bound))) (one_answer (take_open_tree bound)) (λ _. one_reading t b true (node (root_of t b bound)))

one_tables : (t : TaskShape) (v : Version) (next : Tables → ℕ → List CertLine → Outcome (Unit {0}) → Type 0) → ((b : Tables) → IsOne (next b)) → IsOne (ReadsTables t v next)
one_tables t v next one =
    one_then (ReadsPairs t v) (λ h. Then (ReadsDists t v h) (λ d. next (record { pairs = h; dists = d }))) (one_reads_pairs t v)
    (λ h. one_then (ReadsDists t v h) (λ d. next (record { pairs = h; dists = d })) (one_reads_dists t v h) (λ d. one (record { pairs = h; dists = d })))

one_last_tree : (t : TaskShape) (bound : ℕ) (b : Tables) → IsOne (ReadsLastTree t bound b)
one_last_tree t bound b = one_then (ReadsTree t b bound) (λ _ n ls o. o ≡ take_end n ls) (one_tree t b bound) (λ _. one_answer take_end)

one_two_trees : (t : TaskShape) (refuted nodes : ℕ) (b : Tables) → IsOne (ReadsTwoTrees t refuted nodes b)
one_two_trees t refuted nodes b =
    one_then (ReadsTree t b refuted) (λ _. Then (ReadsOpenTree t b (refuted + 1)) (λ f n ls o. o ≡ take_counted_end nodes f n ls)) (one_tree t b refuted)
    (λ _. one_then (ReadsOpenTree t b (refuted + 1)) (λ f n ls o. o ≡ take_counted_end nodes f n ls) (one_open_tree t b (refuted + 1)) (λ f. one_answer (take_counted_end nodes f)))

one_optimal : (t : TaskShape) (v : Version) (m : ℕ) → IsOne (ReadsOptimal t v m)
one_optimal t v zero = one_then (ReadsPlan t zero) (λ _ n ls o. o ≡ take_end n ls) (one_reads_plan t zero) (λ _. one_answer take_end)
one_optimal t v (suc m) = one_then (ReadsPlan t (suc m)) (λ _. ReadsTables t v (ReadsLastTree t m)) (one_reads_plan t (suc m)) (λ _. one_tables t v (ReadsLastTree t m) (one_last_tree t m))

one_sections : (t : TaskShape) (v : Version) (claim : Claim) → IsOne (ReadsSections t v claim)
one_sections t v (claims.Optimal m) = one_optimal t v m
one_sections t v (claims.NoneUpTo m) = one_tables t v (ReadsLastTree t m) (one_last_tree t m)
one_sections t v claims.Never =
    one_then (ReadsPairs t v) (λ h. Then (JudgesGoal t h) (λ _ n ls o. o ≡ take_end n ls)) (one_reads_pairs t v)
    (λ h. one_then (JudgesGoal t h) (λ _ n ls o. o ≡ take_end n ls) (one_goal t h) (λ _. one_answer take_end))
one_sections t v (claims.Spent refuted nodes) = one_tables t v (ReadsTwoTrees t refuted nodes) (one_two_trees t refuted nodes)

one_body : (t : TaskShape) (v : Version) (claim : Claim) → IsOne (ReadsBody t v claim)
one_body t v claim =
    one_then (λ n ls x. x ≡ take_sizes t n ls) (λ _. Then (ReadsSections t v claim) (λ _ n ls o. o ≡ went (v, claim) ls n)) (one_answer (take_sizes t))
    (λ _. one_then (ReadsSections t v claim) (λ _ n ls o. o ≡ went (v, claim) ls n) (one_sections t v claim) (λ _. one_answer (λ n ls. went (v, claim) ls n)))

pub one_outcome : Laws.OneOutcome
one_outcome t ls o o' a b =
    one_then (λ n ls x. x ≡ take_version n ls) (λ v. Then (λ n ls x. x ≡ take_claim n ls) (ReadsBody t v)) (one_answer take_version)
    (λ v. one_then (λ n ls x. x ≡ take_claim n ls) (ReadsBody t v) (one_answer take_claim) (one_body t v)) 1 ls o o' a b
