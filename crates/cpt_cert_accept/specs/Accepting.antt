use Rattle.std.specs.Prelude.{◌≡◌, ℕ, ◌+◌, zero, suc, ◌==◌, ◌&&◌, ◌||◌, nat_lt, nat_le, Bool, true, false, List, [], ◌∷◌, All, count_by}
use Rattle.std.specs.List.{list_any}
use Rattle.cpt_task.specs.declared.span.Span.TheVariants.{Never}
use Rattle.cpt_task.specs.declared.plan.Occ.{Occ}
use Rattle.cpt_task.specs.Shape.{TaskShape}
use Rattle.cpt_task.specs.Timeline.{IsValid, makespan}
use Rattle.cpt_tables.specs.declared.tables.Tables.{Tables}
use Rattle.cpt_tables.specs.Shapes.{PairShape, FitsPairs, IsWholePairs, IsWholeDists, set_span_of}
use Rattle.cpt_tables.specs.Admissible.{IsAdmissiblePairs, IsAdmissibleDists}
use Rattle.cpt_sheet.specs.declared.data.NodeLine.{NodeLine}
use Rattle.cpt_sheet.specs.declared.data.NodeLine.TheVariants.{Child, Narrow, Close, Branch, OpenNode}
use Rattle.cpt_sheet.specs.Gaps.{FitsTask}
use Rattle.cpt_calculus.specs.Root.{root_of}
use Rattle.cpt_cert_form.specs.declared.forms.Version.{Version}
use Rattle.cpt_cert_form.specs.declared.forms.Claim.{Claim}
use Rattle.cpt_cert_form.specs.declared.forms.Claim.TheVariants as claims
use Rattle.cpt_cert_form.specs.declared.forms.CertLine.{CertLine}
use Rattle.cpt_cert_form.specs.Forms.{Spells, spelled}
use Rattle.cpt_cert_form.specs.Text.{Parts, cert_lines, cert_text}
use Rattle.cpt_cert_accept.specs.Trees.{IsTreeOver}

-- the second occurrence starts later than the first, or with it and is of an action that is not before
abbrev pub is_no_sooner : Occ → Occ → Bool
is_no_sooner o q = nat_lt o.start q.start || ((o.start == q.start) && nat_le o.act q.act)

-- by start, then by action; the same occurrence may stand again
abbrev pub IsInOrder : List Occ → Type 0
IsInOrder [] = Unit {0}
IsInOrder (o ∷ []) = Unit {0}
IsInOrder (o ∷ q ∷ os) = (is_no_sooner o q ≡ true) × IsInOrder (q ∷ os)

-- a valid plan with this makespan
pub record IsPlanOf (t : TaskShape) (m : ℕ) (plan : List Occ) : Type 0 where
  pub valid : IsValid t plan
  pub makespan : makespan t plan ≡ m

-- an admissible pair table of the task's size
pub record HasPairs (t : TaskShape) (h : PairShape) : Type 0 where
  pub whole : IsWholePairs h
  pub fits : FitsPairs t h
  pub admissible : IsAdmissiblePairs t h

-- admissible tables of the task's sizes
pub record HasTables (t : TaskShape) (b : Tables) : Type 0 where
  pub whole_pairs : IsWholePairs b.pairs
  pub whole_dists : IsWholeDists b.dists
  pub fits : FitsTask t b
  pub pairs : IsAdmissiblePairs t b.pairs
  pub dists : IsAdmissibleDists t b.pairs b.dists

-- the line closes or branches a node
abbrev pub is_done : NodeLine → Bool
is_done (Child d) = false
is_done (Narrow step) = false
is_done Close = true
is_done (Branch flaw) = true
is_done OpenNode = false

-- the line leaves a node open
abbrev pub is_left : NodeLine → Bool
is_left (Child d) = false
is_left (Narrow step) = false
is_left Close = false
is_left (Branch flaw) = false
is_left OpenNode = true

-- a tree over the root of a bound in which each node is closed or branched
abbrev pub IsClosedAt : TaskShape → Tables → ℕ → List NodeLine → Type 0
IsClosedAt t b bound ls = IsTreeOver t b false (root_of t b bound) ls

-- a tree over the root of a bound in which so many nodes are closed or branched, and some are open
pub record IsOpenAt (t : TaskShape) (b : Tables) (bound nodes : ℕ) (ls : List NodeLine) : Type 0 where
  pub tree : IsTreeOver t b true (root_of t b bound) ls
  pub count : count_by is_done ls ≡ nodes
  pub some : list_any is_left ls ≡ true

-- a plan, and, where it is longer than nothing, tables and a closed tree at the bound below its makespan
abbrev pub ProvesOptimal : TaskShape → ℕ → Parts → Type 0
ProvesOptimal t zero c = IsPlanOf t zero c.plan
ProvesOptimal t (suc m) c = IsPlanOf t (suc m) c.plan × HasTables t c.tables × IsClosedAt t c.tables m c.tree

-- the parts that the claim asks for make it good
abbrev pub Proves : TaskShape → Claim → Parts → Type 0
Proves t (claims.Optimal m) c = ProvesOptimal t m c
Proves t (claims.NoneUpTo m) c = HasTables t c.tables × IsClosedAt t c.tables m c.tree
Proves t claims.Never c = HasPairs t c.tables.pairs × (set_span_of c.tables.pairs t.goal ≡ Never)
Proves t (claims.Spent refuted nodes) c = HasTables t c.tables × IsClosedAt t c.tables refuted c.tree × IsOpenAt t c.tables (refuted + 1) nodes c.partial

-- the line has a form of one of the two versions, its numbers keep their limits, and it is not too long
abbrev pub IsInForm : CertLine → Type 0
IsInForm l = Spells (spelled l) l

-- the text is the certificate of a task with these parts: each of its lines has a form, and the parts make the claim good
pub record IsCertificate (t : TaskShape) (text : List ℕ) (v : Version) (claim : Claim) (c : Parts) : Type 0 where
  pub claims : c.claim ≡ claim
  pub spelled : text ≡ cert_text v t c
  pub written : All IsInForm (cert_lines v t c)
  pub ordered : IsInOrder c.plan
  pub proves : Proves t claim c

-- the text is a certificate of the task in this version, with this claim
abbrev pub Accepts : TaskShape → List ℕ → Version → Claim → Type 0
Accepts t text v claim = (c : Parts) × IsCertificate t text v claim c
