use Rattle.std.specs.Prelude.{◌≡◌, ◌≢◌, ℕ, ◌+◌, zero, suc, ◌==◌, ◌&&◌, ◌⊎◌, Bool, if◌then◌else◌, List, [], ◌∷◌, length, map, replicate}
use Rattle.std.specs.List.{flat_map, range_with_len}
use Rattle.cpt_task.specs.declared.span.Span.{Span}
use Rattle.cpt_task.specs.declared.span.Span.TheVariants.{Never}
use Rattle.cpt_task.specs.declared.plan.Occ.{Occ}
use Rattle.cpt_task.specs.Shape.{TaskShape}
use Rattle.cpt_tables.specs.declared.faults.PairFault.{PairFault}
use Rattle.cpt_tables.specs.declared.faults.DistFault.{DistFault}
use Rattle.cpt_tables.specs.Shapes.{PairShape, DistShape, FitsPairs, FitsDists, IsWholePairs, IsWholeDists, set_span_of}
use Rattle.cpt_tables.specs.Admissible.{IsAdmissiblePairs, IsAdmissibleDists, IsPairFault, IsDistFault}
use Rattle.cpt_cert_form.specs.declared.forms.Version.{Version}
use Rattle.cpt_cert_form.specs.declared.forms.Version.TheVariants.{One, Two}
use Rattle.cpt_cert_form.specs.declared.forms.Claim.{Claim}
use Rattle.cpt_cert_form.specs.declared.forms.Run.{Run}
use Rattle.cpt_cert_form.specs.declared.forms.CertLine.{CertLine}
use Rattle.cpt_cert_form.specs.declared.forms.CertLine.TheVariants as lines
use Rattle.cpt_cert_read.specs.Reading.{are_alone, are_runs}
use Rattle.cpt_cert_form.specs.Text.{pair_row, dist_row}
use Rattle.cpt_cert_accept.specs.declared.faults.Why.{Why}
use Rattle.cpt_cert_accept.specs.declared.faults.Why.TheVariants as whys
use Rattle.cpt_cert_accept.specs.Accepting.{is_no_sooner, IsPlanOf}

-- How the reading of a section ends: behind it, with what it says, the lines that are left and the number of the first
-- of them, or at the first fault, with its line and reason.
pub data Outcome (A : Type 0) : Type 0 where
  went : A → List CertLine → ℕ → Outcome A
  faulted : ℕ → Why → Outcome A

-- what comes of an outcome: where the section was read, what is read next, and else its fault
abbrev pub After : {A B : Type 0} → (A → ℕ → List CertLine → Outcome B → Type 0) → Outcome A → Outcome B → Type 0
After next (went a rest m) o = next a m rest o
After next (faulted line why) o = o ≡ faulted line why

-- one section is read, and then the next, from line n on
abbrev pub Then : {A B : Type 0} → (ℕ → List CertLine → Outcome A → Type 0) → (A → ℕ → List CertLine → Outcome B → Type 0) → ℕ → List CertLine → Outcome B → Type 0
Then {A} first next n ls o = (x : Outcome A) × first n ls x × After next x o

-- what the section says, put behind something
abbrev pub behind : {A B : Type 0} → (A → B) → Outcome A → Outcome B
behind f (went a rest m) = went (f a) rest m
behind f (faulted line why) = faulted line why

-- the first line
abbrev pub take_version : ℕ → List CertLine → Outcome Version
take_version n (lines.First v ∷ ls) = went v ls (n + 1)
take_version n _ = faulted n whys.Grammar

-- the line of the claim
abbrev pub take_claim : ℕ → List CertLine → Outcome Claim
take_claim n (lines.Claimed claim ∷ ls) = went claim ls (n + 1)
take_claim n _ = faulted n whys.Grammar

-- the numbers of atoms and actions
abbrev pub take_sizes : TaskShape → ℕ → List CertLine → Outcome (Unit {0})
take_sizes t n (lines.Sizes atoms actions ∷ ls) =
    if (atoms == length t.atoms) && (actions == length t.actions) then went tt ls (n + 1) else faulted n whys.Task
take_sizes t n _ = faulted n whys.Grammar

-- the lines of so many occurrences, of which none is sooner than the one before it
abbrev pub take_items : ℕ → Occ → ℕ → List CertLine → Outcome (List Occ)
take_items zero before n ls = went [] ls n
take_items (suc k) before n (lines.Item start act ∷ ls) =
    let o : Occ = record { act = act; start = start } in
    if is_no_sooner before o then behind (λ os. o ∷ os) (take_items k o (n + 1) ls) else faulted n whys.Grammar
take_items (suc k) before n _ = faulted n whys.Grammar

-- an occurrence that none is sooner than
abbrev pub soonest : Occ
soonest = record { act = 0; start = 0 }

-- the head of a plan, and its occurrences
abbrev pub take_plan : ℕ → List CertLine → Outcome (List Occ)
take_plan n (lines.Plan k ∷ ls) = take_items k soonest (n + 1) ls
take_plan n _ = faulted n whys.Grammar

-- the plan, whose head is this line, is valid and has the makespan, or that line is at fault
abbrev pub JudgesPlan : TaskShape → ℕ → ℕ → List Occ → ℕ → List CertLine → Outcome (List Occ) → Type 0
JudgesPlan t m head plan n ls o =
    (IsPlanOf t m plan × (o ≡ went plan ls n)) ⊎ ((IsPlanOf t m plan → ⊥) × (o ≡ faulted head whys.Plan))

-- the plan, read and judged
abbrev pub ReadsPlan : TaskShape → ℕ → ℕ → List CertLine → Outcome (List Occ) → Type 0
ReadsPlan t m n ls o = Then (λ n ls x. x ≡ take_plan n ls) (JudgesPlan t m n) n ls o

-- the values of runs
abbrev pub values_of : List Run → List Span
values_of runs = flat_map (λ (run : Run). replicate run.count run.value) runs

-- a row is written as its version asks, and has so many values
abbrev pub is_form : Version → List Run → Bool
is_form One runs = are_alone runs
is_form Two runs = are_runs runs

-- a row in the form of its version, with so many values
abbrev pub is_row : Version → ℕ → List Run → Bool
is_row v k runs = is_form v runs && (length (values_of runs) == k)

-- the rows of the last k atoms: each has a value less than the one before it
abbrev pub take_pair_rows : Version → ℕ → ℕ → List CertLine → Outcome (List (List Span))
take_pair_rows v zero n ls = went [] ls n
take_pair_rows v (suc k) n (lines.PairRow runs ∷ ls) =
    if is_row v (suc k) runs then behind (λ rows. values_of runs ∷ rows) (take_pair_rows v k (n + 1) ls) else faulted n whys.Grammar
take_pair_rows v (suc k) n _ = faulted n whys.Grammar

-- the head of the pair table, and a row for each atom
abbrev pub take_pairs : Version → ℕ → ℕ → List CertLine → Outcome (List (List Span))
take_pairs v atoms n (lines.Pairs ∷ ls) = take_pair_rows v atoms (n + 1) ls
take_pairs v atoms n _ = faulted n whys.Grammar

-- the rows of k actions, each with a value for each atom
abbrev pub take_dist_rows : Version → ℕ → ℕ → ℕ → List CertLine → Outcome (List (List Span))
take_dist_rows v atoms zero n ls = went [] ls n
take_dist_rows v atoms (suc k) n (lines.DistRow runs ∷ ls) =
    if is_row v atoms runs then behind (λ rows. values_of runs ∷ rows) (take_dist_rows v atoms k (n + 1) ls) else faulted n whys.Grammar
take_dist_rows v atoms (suc k) n _ = faulted n whys.Grammar

-- the head of the distance table, and a row for each action
abbrev pub take_dists : Version → ℕ → ℕ → ℕ → List CertLine → Outcome (List (List Span))
take_dists v atoms actions n (lines.Dists ∷ ls) = take_dist_rows v atoms actions (n + 1) ls
take_dists v atoms actions n _ = faulted n whys.Grammar

-- all rows of a table
abbrev pub pair_rows : PairShape → List (List Span)
pair_rows h = map (pair_row h) (range_with_len 0 h.atoms)

-- all rows of a distance table
abbrev pub dist_rows : DistShape → List (List Span)
dist_rows d = map (dist_row d) (range_with_len 0 d.actions)

-- the table of the task's size that has these rows
pub record IsPairsOf (t : TaskShape) (rows : List (List Span)) (h : PairShape) : Type 0 where
  pub whole : IsWholePairs h
  pub fits : FitsPairs t h
  pub same : rows ≡ pair_rows h

-- the distance table of the task's size that has these rows
pub record IsDistsOf (t : TaskShape) (rows : List (List Span)) (d : DistShape) : Type 0 where
  pub whole : IsWholeDists d
  pub fits : FitsDists t d
  pub same : rows ≡ dist_rows d

-- the table, whose head is this line, is admissible, or the row of its least fault is at fault
abbrev pub JudgesPairs : TaskShape → ℕ → List (List Span) → ℕ → List CertLine → Outcome PairShape → Type 0
JudgesPairs t head rows n ls o =
    (h : PairShape) × IsPairsOf t rows h
    × ((IsAdmissiblePairs t h × (o ≡ went h ls n)) ⊎ ((f : PairFault) × IsPairFault t h f × (o ≡ faulted (head + 1 + f.p) whys.Pair)))

-- the distance table, whose head is this line, is admissible, or the row of its least fault is at fault
abbrev pub JudgesDists : TaskShape → PairShape → ℕ → List (List Span) → ℕ → List CertLine → Outcome DistShape → Type 0
JudgesDists t h head rows n ls o =
    (d : DistShape) × IsDistsOf t rows d
    × ((IsAdmissibleDists t h d × (o ≡ went d ls n)) ⊎ ((f : DistFault) × IsDistFault t h d f × (o ≡ faulted (head + 1 + f.act) whys.Dist)))

-- the pair table, read and judged
abbrev pub ReadsPairs : TaskShape → Version → ℕ → List CertLine → Outcome PairShape → Type 0
ReadsPairs t v n ls o = Then (λ n ls x. x ≡ take_pairs v (length t.atoms) n ls) (JudgesPairs t n) n ls o

-- the distance table, read and judged over the pair table
abbrev pub ReadsDists : TaskShape → Version → PairShape → ℕ → List CertLine → Outcome DistShape → Type 0
ReadsDists t v h n ls o = Then (λ n ls x. x ≡ take_dists v (length t.atoms) (length t.actions) n ls) (JudgesDists t h n) n ls o

-- the goal can never hold, or the claim is at fault
abbrev pub JudgesGoal : TaskShape → PairShape → ℕ → List CertLine → Outcome (Unit {0}) → Type 0
JudgesGoal t h n ls o =
    ((set_span_of h t.goal ≡ Never) × (o ≡ went tt ls n)) ⊎ ((set_span_of h t.goal ≢ Never) × (o ≡ faulted 2 whys.Goal))

-- the head of a tree
abbrev pub take_tree : ℕ → ℕ → List CertLine → Outcome (Unit {0})
take_tree bound n (lines.Tree b ∷ ls) = if b == bound then went tt ls (n + 1) else faulted n whys.Bound
take_tree bound n _ = faulted n whys.Grammar

-- the head of a tree with open nodes: its bound is this one
abbrev pub take_open_tree : ℕ → ℕ → List CertLine → Outcome (Unit {0})
take_open_tree bound n (lines.OpenTree b ∷ ls) = if b == bound then went tt ls (n + 1) else faulted n whys.Bound
take_open_tree bound n _ = faulted n whys.Grammar

-- the end, behind which nothing stands
abbrev pub take_end : ℕ → List CertLine → Outcome (Unit {0})
take_end n (lines.End ∷ []) = went tt [] (n + 1)
take_end n (lines.End ∷ l ∷ ls) = faulted (n + 1) whys.Grammar
take_end n _ = faulted n whys.Grammar
