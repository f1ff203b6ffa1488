use Rattle.std.specs.Prelude.{◌≡◌, ◌≢◌, ℕ, ◌+◌, zero, suc, ◌==◌, ◌&&◌, Bool, true, false, if◌then◌else◌, List, [], ◌∷◌, ◌++◌, count_by}
use Rattle.std.specs.List.{list_any}
use Rattle.cpt_task.specs.Shape.{TaskShape}
use Rattle.cpt_tables.specs.declared.tables.Tables.{Tables}
use Rattle.cpt_sheet.specs.declared.data.Sheet.{Sheet}
use Rattle.cpt_sheet.specs.declared.data.Step.{Step}
use Rattle.cpt_sheet.specs.declared.data.Decision.{Decision}
use Rattle.cpt_sheet.specs.declared.data.Flaw.{Flaw}
use Rattle.cpt_sheet.specs.declared.data.NodeLine.{NodeLine}
use Rattle.cpt_sheet.specs.declared.data.NodeLine.TheVariants.{Child, Narrow, Close, Branch, OpenNode}
use Rattle.cpt_sheet.specs.Live.{IsDead, IsLive}
use Rattle.cpt_calculus.specs.Rules.{IsLegal, narrowed}
use Rattle.cpt_calculus.specs.Decisions.{applied}
use Rattle.cpt_calculus.specs.Flaws.{IsFlaw, children}
use Rattle.cpt_calculus.specs.Root.{root_of}
use Rattle.cpt_cert_form.specs.declared.forms.Version.{Version}
use Rattle.cpt_cert_form.specs.declared.forms.Claim.{Claim}
use Rattle.cpt_cert_form.specs.declared.forms.Claim.TheVariants as claims
use Rattle.cpt_cert_form.specs.declared.forms.CertLine.{CertLine}
use Rattle.cpt_cert_form.specs.declared.forms.CertLine.TheVariants as lines
use Rattle.cpt_cert_accept.specs.declared.faults.Why.{Why}
use Rattle.cpt_cert_accept.specs.declared.faults.Why.TheVariants as whys
use Rattle.cpt_cert_accept.specs.Accepting.{is_done, is_left}
use Rattle.cpt_cert_accept.specs.Trees.{Part}
use Rattle.cpt_cert_accept.specs.Trees.Part.{node, worked, branches}
use Rattle.cpt_cert_accept.specs.Reading.{Outcome, Then, behind, take_version, take_claim, take_sizes, ReadsPlan, ReadsPairs, ReadsDists, JudgesGoal, take_tree, take_open_tree, take_end}
use Rattle.cpt_cert_accept.specs.Reading.Outcome.{went, faulted}

-- the first line leaves a node open, where that may be
abbrev pub begins_left : Bool → List CertLine → Bool
begins_left may_open (lines.Node OpenNode ∷ ls) = may_open
begins_left may_open _ = false

-- the first line is a step, a close line or a branch
abbrev pub begins_work : List CertLine → Bool
begins_work (lines.Node (Narrow step) ∷ ls) = true
begins_work (lines.Node Close ∷ ls) = true
begins_work (lines.Node (Branch flaw) ∷ ls) = true
begins_work _ = false

-- the first line is a child
abbrev pub begins_child : List CertLine → Bool
begins_child (lines.Node (Child d) ∷ ls) = true
begins_child _ = false

-- How the reading of a part of a tree ends, from line n on: behind the lines of the part, or at the first of its
-- lines that is none that may stand there.
pub data Reads (t : TaskShape) (b : Tables) (may_open : Bool) : Part → ℕ → List CertLine → Outcome (List NodeLine) → Type 0 where
  left : (s : Sheet) (n : ℕ) (ls : List CertLine) → may_open ≡ true → Reads t b may_open (node s) n (lines.Node OpenNode ∷ ls) (went (OpenNode ∷ []) ls (n + 1))
  whole : (s : Sheet) (n : ℕ) (ls : List CertLine) (o : Outcome (List NodeLine)) → begins_left may_open ls ≡ false →
      Reads t b may_open (worked s) n ls o → Reads t b may_open (node s) n ls o
  step : (s : Sheet) (n : ℕ) (step : Step) (ls : List CertLine) (x o : Outcome (List NodeLine)) → IsLegal t b s step →
      Reads t b may_open (worked (narrowed s step)) (n + 1) ls x → o ≡ behind (λ f. Narrow step ∷ f) x → Reads t b may_open (worked s) n (lines.Node (Narrow step) ∷ ls) o
  illegal : (s : Sheet) (n : ℕ) (step : Step) (ls : List CertLine) (o : Outcome (List NodeLine)) → (IsLegal t b s step → ⊥) →
      o ≡ faulted n whys.Step → Reads t b may_open (worked s) n (lines.Node (Narrow step) ∷ ls) o
  close : (s : Sheet) (n : ℕ) (ls : List CertLine) (o : Outcome (List NodeLine)) → IsDead s →
      o ≡ went (Close ∷ []) ls (n + 1) → Reads t b may_open (worked s) n (lines.Node Close ∷ ls) o
  alive : (s : Sheet) (n : ℕ) (ls : List CertLine) (o : Outcome (List NodeLine)) → (IsDead s → ⊥) →
      o ≡ faulted n whys.Close → Reads t b may_open (worked s) n (lines.Node Close ∷ ls) o
  branch : (s : Sheet) (n : ℕ) (flaw : Flaw) (ls : List CertLine) (x o : Outcome (List NodeLine)) → IsLive s → IsFlaw t s flaw →
      Reads t b may_open (branches s (children s flaw)) (n + 1) ls x → o ≡ behind (λ f. Branch flaw ∷ f) x → Reads t b may_open (worked s) n (lines.Node (Branch flaw) ∷ ls) o
  flawless : (s : Sheet) (n : ℕ) (flaw : Flaw) (ls : List CertLine) (o : Outcome (List NodeLine)) → (IsLive s → IsFlaw t s flaw → ⊥) →
      o ≡ faulted n whys.Branch → Reads t b may_open (worked s) n (lines.Node (Branch flaw) ∷ ls) o
  strange : (s : Sheet) (n : ℕ) (ls : List CertLine) (o : Outcome (List NodeLine)) → begins_work ls ≡ false →
      o ≡ faulted n whys.Grammar → Reads t b may_open (worked s) n ls o
  none : (s : Sheet) (n : ℕ) (ls : List CertLine) (o : Outcome (List NodeLine)) → o ≡ went [] ls n → Reads t b may_open (branches s []) n ls o
  child : (s : Sheet) (n : ℕ) (d e : Decision) (ds : List Decision) (ls : List CertLine) (one : List NodeLine) (rest : List CertLine) (m : ℕ) (x o : Outcome (List NodeLine)) →
      e ≡ d → Reads t b may_open (node (applied t s d)) (n + 1) ls (went one rest m) → Reads t b may_open (branches s ds) m rest x →
      o ≡ behind (λ f. Child d ∷ (one ++ f)) x → Reads t b may_open (branches s (d ∷ ds)) n (lines.Node (Child e) ∷ ls) o
  inside : (s : Sheet) (n : ℕ) (d e : Decision) (ds : List Decision) (ls : List CertLine) (line : ℕ) (why : Why) (o : Outcome (List NodeLine)) →
      e ≡ d → Reads t b may_open (node (applied t s d)) (n + 1) ls (faulted line why) → o ≡ faulted line why → Reads t b may_open (branches s (d ∷ ds)) n (lines.Node (Child e) ∷ ls) o
  other : (s : Sheet) (n : ℕ) (d e : Decision) (ds : List Decision) (ls : List CertLine) (o : Outcome (List NodeLine)) → e ≢ d →
      o ≡ faulted n whys.Child → Reads t b may_open (branches s (d ∷ ds)) n (lines.Node (Child e) ∷ ls) o
  childless : (s : Sheet) (n : ℕ) (d : Decision) (ds : List Decision) (ls : List CertLine) (o : Outcome (List NodeLine)) → begins_child ls ≡ false →
      o ≡ faulted n whys.Grammar → Reads t b may_open (branches s (d ∷ ds)) n ls o

-- a tree over the root of a bound
abbrev pub ReadsTree : TaskShape → Tables → ℕ → ℕ → List CertLine → Outcome (List NodeLine) → Type 0
ReadsTree t b bound n ls o = Then (λ n ls x. x ≡ take_tree bound n ls) (λ _. Reads t b false (node (root_of t b bound))) n ls o

-- a tree that may have open nodes, over the root of a bound
abbrev pub ReadsOpenTree : TaskShape → Tables → ℕ → ℕ → List CertLine → Outcome (List NodeLine) → Type 0
ReadsOpenTree t b bound n ls o = Then (λ n ls x. x ≡ take_open_tree bound n ls) (λ _. Reads t b true (node (root_of t b bound))) n ls o

-- so many nodes are closed or branched, and some node is open
abbrev pub is_counted : ℕ → List NodeLine → Bool
is_counted nodes f = (count_by is_done f == nodes) && list_any is_left f

-- the end behind a tree with open nodes
abbrev pub take_counted_end : ℕ → List NodeLine → ℕ → List CertLine → Outcome (Unit {0})
take_counted_end nodes f n (lines.End ∷ ls) = if is_counted nodes f then take_end n (lines.End ∷ ls) else faulted n whys.Count
take_counted_end nodes f n _ = faulted n whys.Grammar

-- the two tables, and what is read behind them
abbrev pub ReadsTables : TaskShape → Version → (Tables → ℕ → List CertLine → Outcome (Unit {0}) → Type 0) → ℕ → List CertLine → Outcome (Unit {0}) → Type 0
ReadsTables t v next n ls o =
    Then (ReadsPairs t v) (λ h. Then (ReadsDists t v h) (λ d. next (record { pairs = h; dists = d }))) n ls o

-- a tree, and the end
abbrev pub ReadsLastTree : TaskShape → ℕ → Tables → ℕ → List CertLine → Outcome (Unit {0}) → Type 0
ReadsLastTree t bound b n ls o = Then (ReadsTree t b bound) (λ _ n ls o. o ≡ take_end n ls) n ls o

-- the closed tree of the refuted bound, the open one of the next, and the end, where so many nodes are done
abbrev pub ReadsTwoTrees : TaskShape → ℕ → ℕ → Tables → ℕ → List CertLine → Outcome (Unit {0}) → Type 0
ReadsTwoTrees t refuted nodes b n ls o =
    Then (ReadsTree t b refuted) (λ _. Then (ReadsOpenTree t b (refuted + 1)) (λ f n ls o. o ≡ take_counted_end nodes f n ls)) n ls o

-- the sections that the claim asks for, and the end
abbrev pub ReadsOptimal : TaskShape → Version → ℕ → ℕ → List CertLine → Outcome (Unit {0}) → Type 0
ReadsOptimal t v zero n ls o = Then (ReadsPlan t zero) (λ _ n ls o. o ≡ take_end n ls) n ls o
ReadsOptimal t v (suc m) n ls o = Then (ReadsPlan t (suc m)) (λ _. ReadsTables t v (ReadsLastTree t m)) n ls o

-- what stands behind the sizes, by the claim
abbrev pub ReadsSections : TaskShape → Version → Claim → ℕ → List CertLine → Outcome (Unit {0}) → Type 0
ReadsSections t v (claims.Optimal m) n ls o = ReadsOptimal t v m n ls o
ReadsSections t v (claims.NoneUpTo m) n ls o = ReadsTables t v (ReadsLastTree t m) n ls o
ReadsSections t v claims.Never n ls o = Then (ReadsPairs t v) (λ h. Then (JudgesGoal t h) (λ _ n ls o. o ≡ take_end n ls)) n ls o
ReadsSections t v (claims.Spent refuted nodes) n ls o = ReadsTables t v (ReadsTwoTrees t refuted nodes) n ls o

-- what is read behind the line of the claim
abbrev pub ReadsBody : TaskShape → Version → Claim → ℕ → List CertLine → Outcome (Version × Claim) → Type 0
ReadsBody t v claim n ls o =
    Then (λ n ls x. x ≡ take_sizes t n ls) (λ _. Then (ReadsSections t v claim) (λ _ n ls o. o ≡ went (v, claim) ls n)) n ls o

-- how the reading of all lines of a text ends: behind them, with the version and the claim, or at the first fault
abbrev pub ReadsAll : TaskShape → List CertLine → Outcome (Version × Claim) → Type 0
ReadsAll t ls o = Then (λ n ls x. x ≡ take_version n ls) (λ v. Then (λ n ls x. x ≡ take_claim n ls) (ReadsBody t v)) 1 ls o
