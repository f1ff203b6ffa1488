use Rattle.std.specs.Prelude.{◌≡◌, ℕ, ◌+◌, ◌-◌, ◌<◌, ◌≤◌, ◌^◌, ◌==◌, ◌&&◌, ◌||◌, zero, suc, Bool, true, false, if◌then◌else◌, List, [], ◌∷◌, ◌++◌, length, map, All, Option, None, Some, Vec, IfSome}
use Rattle.std.specs.Global.{Global}
use Rattle.std.specs.List.{list_any, range_with_len}
use Rattle.cpt_task.specs.declared.span.Span.{Span}
use Rattle.cpt_task.specs.declared.plan.Occ.{Occ}
use Rattle.cpt_task.specs.Shape.{TaskShape}
use Rattle.cpt_task.specs.Timeline.{IsOccurrence}
use Rattle.cpt_tables.specs.declared.tables.Tables.{Tables}
use Rattle.cpt_tables.specs.Shapes.{PairShape, DistShape, FitsPairs, FitsDists, IsWholePairs, IsWholeDists}
use Rattle.cpt_sheet.specs.declared.data.NodeLine.{NodeLine}
use Rattle.cpt_sheet.specs.Gaps.{FitsTask}
use Rattle.cpt_cert_form.specs.declared.forms.Version.{Version}
use Rattle.cpt_cert_form.specs.declared.forms.CertLine.{CertLine}
use Rattle.cpt_cert_form.specs.declared.forms.CertLine.TheVariants as lines
use Rattle.cpt_cert_form.specs.Forms.{IsReadAs}
use Rattle.cpt_cert_form.specs.Text.{pair_row, dist_row}
use Rattle.cpt_cert_accept.specs.declared.faults.Why.TheVariants as whys
use Rattle.cpt_cert_accept.specs.Accepting.{is_done, is_left}
use Rattle.std.specs.Prelude.{count_by}
use Rattle.cpt_cert_accept.specs.Reading.{Outcome, Then, take_items, ReadsPlan, JudgesPlan, take_pair_rows, take_dist_rows, JudgesPairs, JudgesDists, ReadsPairs, ReadsDists, JudgesGoal, take_end}
use Rattle.cpt_cert_accept.specs.Reading.Outcome.{went, faulted}
use Rattle.cpt_cert_accept.specs.Descent.{ReadsOpenTree, ReadsLastTree, ReadsTwoTrees, take_counted_end}
use Rattle.cpt_walk.specs.declared.walk.Walk.{Walk}
use Rattle.cpt_cert_accept.specs.Texts.{bring_in}
use Rattle.cpt_walk.specs.Walks.{ReadsParts, parts_left, IsWalk, IsUnread, AreFew}
use Rattle.cpt_sections.specs.declared.section.Trees.{Trees}
use Rattle.cpt_sections.specs.declared.section.Trees.TheVariants as trees
use Rattle.cpt_sections.specs.declared.section.Aim.{Aim}
use Rattle.cpt_sections.specs.declared.section.Aim.TheVariants as aims
use Rattle.cpt_sections.specs.declared.section.Items.{Items}
use Rattle.cpt_sections.specs.declared.section.PairRows.{PairRows}
use Rattle.cpt_sections.specs.declared.section.DistRows.{DistRows}
use Rattle.cpt_sections.specs.declared.section.Section.{Section}
use Rattle.cpt_sections.specs.declared.section.Section.TheVariants as sections
use Rattle.cpt_sections.specs.declared.section.Next.{Next}
use Rattle.cpt_sections.specs.declared.section.Next.TheVariants as nexts

-- the trees behind the tables, and the end
abbrev pub ReadsTrees : TaskShape → Trees → Tables → ℕ → List CertLine → Outcome (Unit {0}) → Type 0
ReadsTrees t (trees.Closed bound) b n ls o = ReadsLastTree t bound b n ls o
ReadsTrees t (trees.Open refuted nodes) b n ls o = ReadsTwoTrees t refuted nodes b n ls o

-- what is read behind the closed tree
abbrev pub BehindTree : TaskShape → Trees → Tables → ℕ → List CertLine → Outcome (Unit {0}) → Type 0
BehindTree t (trees.Closed bound) b n ls o = o ≡ take_end n ls
BehindTree t (trees.Open refuted nodes) b n ls o =
    Then (ReadsOpenTree t b (refuted + 1)) (λ f n ls o. o ≡ take_counted_end nodes f n ls) n ls o

-- what is read behind the pair table
abbrev pub BehindPairs : TaskShape → Version → Aim → PairShape → ℕ → List CertLine → Outcome (Unit {0}) → Type 0
BehindPairs t v aims.Goal h n ls o = Then (JudgesGoal t h) (λ _ n ls o. o ≡ take_end n ls) n ls o
BehindPairs t v (aims.Trees trees) h n ls o = Then (ReadsDists t v h) (λ d. ReadsTrees t trees (record { pairs = h; dists = d })) n ls o

-- the pair table, and what is read behind it
abbrev pub ReadsAim : TaskShape → Version → Aim → ℕ → List CertLine → Outcome (Unit {0}) → Type 0
ReadsAim t v aim n ls o = Then (ReadsPairs t v) (BehindPairs t v aim) n ls o

-- what is read behind a plan with this makespan
abbrev pub BehindPlan : TaskShape → Version → ℕ → ℕ → List CertLine → Outcome (Unit {0}) → Type 0
BehindPlan t v zero n ls o = o ≡ take_end n ls
BehindPlan t v (suc m) n ls o = ReadsAim t v (aims.Trees (trees.Closed m)) n ls o

-- the occurrences that are read, and those behind them; where one of those that are read cannot stand in a plan with
-- this makespan the head is at fault
abbrev pub JudgesItems : TaskShape → ℕ → ℕ → Option (Vec Occ Global) → List Occ → ℕ → List CertLine → Outcome (List Occ) → Type 0
JudgesItems t m head (Some plan) os n ls o = JudgesPlan t m head (plan.items ++ os) n ls o
JudgesItems t m head None os n ls o = o ≡ faulted head whys.Plan

-- the lines of the plan that are left
abbrev pub ReadsItems : TaskShape → Items → ℕ → List CertLine → Outcome (List Occ) → Type 0
ReadsItems t i n ls o =
    Then (λ n ls x. x ≡ take_items i.left (record { act = i.act; start = i.start }) n ls) (JudgesItems t i.makespan i.head i.plan) n ls o

-- the first rows of a table
abbrev pub first_pair_rows : PairShape → ℕ → List (List Span)
first_pair_rows h k = map (pair_row h) (range_with_len 0 k)

-- the first k rows of a distance table
abbrev pub first_dist_rows : DistShape → ℕ → List (List Span)
first_dist_rows d k = map (dist_row d) (range_with_len 0 k)

-- the rows that are left
abbrev pub ReadsPairRows : TaskShape → Version → PairRows → ℕ → List CertLine → Outcome PairShape → Type 0
ReadsPairRows t v r n ls o =
    Then (λ n ls x. x ≡ take_pair_rows v (length t.atoms - r.next) n ls) (λ rows. JudgesPairs t r.head (first_pair_rows r.pairs r.next ++ rows)) n ls o

-- the rows of a distance table that are still to be read, and its judgement
abbrev pub ReadsDistRows : TaskShape → Version → DistRows → ℕ → List CertLine → Outcome DistShape → Type 0
ReadsDistRows t v r n ls o =
    Then (λ n ls x. x ≡ take_dist_rows v (length t.atoms) (length t.actions - r.next) n ls) (λ rows. JudgesDists t r.pairs r.head (first_dist_rows r.dists r.next ++ rows)) n ls o

-- with so many nodes done before these lines, and some open, so many are done behind them, and some open
abbrev pub is_tallied : ℕ → ℕ → Bool → List NodeLine → Bool
is_tallied nodes done left f = (done + count_by is_done f == nodes) && (left || list_any is_left f)

-- nothing
abbrev pub take_nothing : ℕ → List CertLine → Outcome (Unit {0})
take_nothing n [] = went tt [] n
take_nothing n (l ∷ ls) = faulted n whys.Grammar

-- the end, where the nodes are counted right
abbrev pub take_tallied_end : Bool → ℕ → List CertLine → Outcome (Unit {0})
take_tallied_end counted n (lines.End ∷ ls) = if counted then take_end n (lines.End ∷ ls) else faulted n whys.Count
take_tallied_end counted n _ = faulted n whys.Grammar

-- how the reading of what is still to be read ends, from line n on
abbrev pub Left : TaskShape → Version → Section → ℕ → List CertLine → Outcome (Unit {0}) → Type 0
Left t v (sections.Plan m) n ls o = Then (ReadsPlan t m) (λ _. BehindPlan t v m) n ls o
Left t v (sections.Items i) n ls o = Then (ReadsItems t i) (λ _. BehindPlan t v i.makespan) n ls o
Left t v (sections.Pairs aim) n ls o = ReadsAim t v aim n ls o
Left t v (sections.PairRows r) n ls o = Then (ReadsPairRows t v r) (BehindPairs t v r.aim) n ls o
Left t v (sections.Dists trees h) n ls o = BehindPairs t v (aims.Trees trees) h n ls o
Left t v (sections.DistRows r) n ls o = Then (ReadsDistRows t v r) (λ d. ReadsTrees t r.trees (record { pairs = r.pairs; dists = d })) n ls o
Left t v (sections.Tree trees b) n ls o = ReadsTrees t trees b n ls o
Left t v (sections.Nodes trees b w) n ls o = Then (ReadsParts t b false (parts_left w)) (λ _. BehindTree t trees b) n ls o
Left t v (sections.OpenTree refuted nodes b) n ls o = BehindTree t (trees.Open refuted nodes) b n ls o
Left t v (sections.OpenNodes nodes b w) n ls o =
    Then (ReadsParts t b true (parts_left w)) (λ f n ls o. o ≡ take_tallied_end (is_tallied nodes w.past.done w.past.left f) n ls) n ls o
Left t v sections.End n ls o = o ≡ take_end n ls
Left t v (sections.CountedEnd counted) n ls o = o ≡ take_tallied_end counted n ls
Left t v sections.Done n ls o = o ≡ take_nothing n ls

-- the bounds of the trees keep their limits
abbrev pub AreTrees : Trees → Type 0
AreTrees (trees.Closed bound) = bound ≤ 1000000
AreTrees (trees.Open refuted nodes) = refuted ≤ 999999

-- the bounds of the trees that are to come behind a table, if there are some, keep their limits
abbrev pub IsAim : Aim → Type 0
IsAim aims.Goal = Unit {0}
IsAim (aims.Trees trees) = AreTrees trees

-- lines of a plan are left, and each occurrence that is kept is one of the task that starts by the makespan
pub record AreItems (t : TaskShape) (n : ℕ) (i : Items) : Type 0 where
  pub makespan : i.makespan ≤ 1000000
  pub head : i.head < n
  pub some : 1 ≤ i.left
  pub few : i.left < 2 ^ 32
  pub listed : IfSome i.plan (λ plan. (length plan.items + i.left < 2 ^ 32) × All (λ (o : Occ). IsOccurrence t o × (o.start ≤ i.makespan)) plan.items)

-- the next line is that of a row of the table
pub record ArePairRows (t : TaskShape) (n : ℕ) (r : PairRows) : Type 0 where
  pub aim : IsAim r.aim
  pub fits : FitsPairs t r.pairs
  pub whole : IsWholePairs r.pairs
  pub more : r.next < length t.atoms
  pub line : n ≡ r.head + 1 + r.next

-- the rows of a distance table, read in part
pub record AreDistRows (t : TaskShape) (n : ℕ) (r : DistRows) : Type 0 where
  pub trees : AreTrees r.trees
  pub pairs : FitsPairs t r.pairs
  pub dists : FitsDists t r.dists
  pub whole : IsWholeDists r.dists
  pub more : r.next < length t.actions
  pub line : n ≡ r.head + 1 + r.next

-- something of the tree is left, and fewer nodes are done than lines are read
pub record AreNodesLeft (t : TaskShape) (n : ℕ) (may_open : Bool) (w : Walk) : Type 0 where
  pub walk : IsWalk t w
  pub unread : IsUnread w
  pub opens : w.past.may_open ≡ may_open
  pub done : w.past.done < n

-- what is still to be read from line n on is formed
abbrev pub IsSection : TaskShape → ℕ → Section → Type 0
IsSection t n (sections.Plan m) = m ≤ 1000000
IsSection t n (sections.Items i) = AreItems t n i
IsSection t n (sections.Pairs aim) = IsAim aim
IsSection t n (sections.PairRows r) = ArePairRows t n r
IsSection t n (sections.Dists trees h) = AreTrees trees × FitsPairs t h
IsSection t n (sections.DistRows r) = AreDistRows t n r
IsSection t n (sections.Tree trees b) = AreTrees trees × FitsTask t b
IsSection t n (sections.Nodes trees b w) = AreTrees trees × FitsTask t b × AreNodesLeft t n false w
IsSection t n (sections.OpenTree refuted nodes b) = (refuted ≤ 999999) × FitsTask t b
IsSection t n (sections.OpenNodes nodes b w) = FitsTask t b × AreNodesLeft t n true w
IsSection t n sections.End = Unit {0}
IsSection t n (sections.CountedEnd counted) = Unit {0}
IsSection t n sections.Done = Unit {0}

-- of a tree of which lines are left each sheet has at most k tokens more than the two of each root
abbrev pub HasFew : ℕ → Section → Type 0
HasFew k (sections.Nodes trees b w) = AreFew k w
HasFew k (sections.OpenNodes nodes b w) = AreFew k w
HasFew k _ = Unit {0}

-- the bytes of some line are read as this
abbrev pub IsLine : CertLine → Type 0
IsLine line = (bytes : List ℕ) × IsReadAs bytes line

-- Line n leads from a section to another: whatever comes behind the line is read from it as from there, and no sheet has
-- more tokens than before, but for one that the line brings. Or it is known from line n on that this is the first fault,
-- whatever comes behind.
abbrev pub Moves : TaskShape → Version → Section → ℕ → CertLine → Next → Type 0
Moves t v s n line (nexts.On new) =
    IsSection t (n + 1) new × ((k : ℕ) → HasFew k s → HasFew (k + bring_in line) new) × ((ls : List CertLine) (x : Outcome (Unit {0})) → Left t v new (n + 1) ls x → Left t v s n (line ∷ ls) x)
Moves t v s n line (nexts.Fault at why) = (at ≤ n) × ((ls : List CertLine) → Left t v s n (line ∷ ls) (faulted at why))

-- no line that can stand there comes
abbrev pub IsNothing : List CertLine → Type 0
IsNothing [] = Unit {0}
IsNothing (lines.Strange ∷ ls) = Unit {0}
IsNothing _ = ⊥

-- with nothing behind it a text ends too early
abbrev pub EndsEarly : TaskShape → Version → Section → ℕ → Type 0
EndsEarly t v s n = (ls : List CertLine) → IsNothing ls → Left t v s n ls (faulted n whys.Grammar)
