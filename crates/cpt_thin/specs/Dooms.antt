use Rattle.std.specs.Prelude.{◌≡◌, ℕ, ◌+◌, ◌≤◌, Bool, if◌then◌else◌, List, [], ◌∷◌, ◌++◌, drop, Option, None, Some, ⊤}
use Rattle.cpt_task.specs.Shape.{TaskShape}
use Rattle.cpt_tables.specs.declared.tables.Tables.{Tables}
use Rattle.cpt_cert_form.specs.declared.forms.CertLine.{CertLine}
use Rattle.cpt_cert_accept.specs.declared.faults.Why.{Why}
use Rattle.cpt_cert_accept.specs.Trees.{Part}
use Rattle.cpt_cert_accept.specs.Reading.Outcome.{faulted}
use Rattle.cpt_cert_accept.specs.Descent.{ReadsAll}
use Rattle.cpt_walk.specs.declared.walk.Walk.{Walk}
use Rattle.cpt_walk.specs.Walks.{ReadsParts, parts_left, IsWalk, IsUnread, AreFew}
use Rattle.cpt_sections.specs.declared.section.Stage.{Stage}
use Rattle.cpt_sections.specs.Stages.{LeftOf}
use Rattle.cpt_thin.specs.declared.fates.Fate.{Fate}
use Rattle.cpt_thin.specs.declared.doubts.Met.{Met}
use Rattle.cpt_thin.specs.declared.doubts.Met.TheVariants as mets
use Rattle.cpt_thin.specs.Fates.{is_dropped}
use Rattle.cpt_thin.specs.Fronts.{read_of}

-- wherever these parts of a tree are read from these lines, a fault stands in the lines
abbrev pub IsDoomed : TaskShape → Tables → Bool → List Part → List CertLine → Type 0
IsDoomed t b mo ps ls = (n : ℕ) → (line : ℕ) × ((why : Why) × ReadsParts t b mo ps n ls (faulted line why))

-- wherever what is still to be read of a certificate is read from these lines, a fault stands in the lines
abbrev pub IsDoomedAt : TaskShape → Stage → List CertLine → Type 0
IsDoomedAt t s ls = (n : ℕ) → (line : ℕ) × ((why : Why) × LeftOf t s n ls (faulted line why))

-- these lines have a first fault
abbrev pub IsFaulty : TaskShape → List CertLine → Type 0
IsFaulty t ls = (line : ℕ) × ((why : Why) × ReadsAll t ls (faulted line why))

-- a tree of which lines are left, of no more than so many that were read
pub record IsGoing (t : TaskShape) (k : ℕ) (w : Walk) : Type 0 where
  pub walk : IsWalk t w
  pub unread : IsUnread w
  pub few : AreFew k w
  pub done : w.past.done ≤ k

-- the line, where it is not dropped
abbrev pub line_left : Fate → CertLine → List CertLine
line_left f l = if is_dropped f then [] else l ∷ []

-- a line leads from a walk to another: where that is doomed, this is
pub record Goes (t : TaskShape) (b : Tables) (w : Walk) (ls : List CertLine) (v : Walk) : Type 0 where
  pub going : (k : ℕ) → IsGoing t k w → IsGoing t (k + 1) v
  pub may_open : v.past.may_open ≡ w.past.may_open
  pub back : (rest : List CertLine) → IsDoomed t b w.past.may_open (parts_left v) rest → IsDoomed t b w.past.may_open (parts_left w) (ls ++ rest)

-- what a line comes to
abbrev pub Meets : TaskShape → Tables → Walk → List CertLine → Met → Type 0
Meets t b w ls (mets.On v) = Goes t b w ls v
Meets t b w ls mets.Fault = (rest : List CertLine) → IsDoomed t b w.past.may_open (parts_left w) (ls ++ rest)
Meets t b w ls mets.Read = ⊤
Meets t b w ls mets.Other = ⊤

-- a walk stands before the line at one place, which another came to from the line at another place: where the lines that
-- are left doom the first they doom the other
pub record IsBack (t : TaskShape) (b : Tables) (start w : Walk) (fates : List Fate) (ls : List CertLine) (place at : ℕ) : Type 0 where
  pub may_open : w.past.may_open ≡ start.past.may_open
  pub back : (rest : List CertLine) → IsDoomed t b start.past.may_open (parts_left w) (read_of (drop at fates) (drop at ls) ++ rest) → IsDoomed t b start.past.may_open (parts_left start) (read_of (drop place fates) (drop place ls) ++ rest)

-- a walk that stands where another stands, and of which that place alone is left to be read
pub record IsAlone (w v : Walk) : Type 0 where
  pub head : Part
  pub others : List Part
  pub whole : parts_left w ≡ head ∷ others
  pub alone : parts_left v ≡ head ∷ []
  pub may_open : v.past.may_open ≡ w.past.may_open
  pub going : (t : TaskShape) (k : ℕ) → IsWalk t w → AreFew k w → IsGoing t k v

-- the walk of which that place alone is left, where one is given
abbrev pub MayBeAlone : Walk → Option Walk → Type 0
MayBeAlone w None = ⊤
MayBeAlone w (Some v) = IsAlone w v
