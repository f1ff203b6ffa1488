use Rattle.std.specs.Prelude.{◌≡◌, ◌≢◌, ℕ, ◌+◌, ◌≤◌, ◌||◌, Bool, if◌then◌else◌, List, [], ◌∷◌, ◌++◌, length, drop, All}
use Rattle.cpt_task.specs.Shape.{TaskShape}
use Rattle.cpt_tables.specs.declared.tables.Tables.{Tables}
use Rattle.cpt_sheet.specs.declared.data.Sheet.{Sheet}
use Rattle.cpt_sheet.specs.declared.data.Decision.{Decision}
use Rattle.cpt_sheet.specs.declared.data.NodeLine.{NodeLine}
use Rattle.cpt_sheet.specs.declared.data.NodeLine.TheVariants.{Child}
use Rattle.cpt_sheet.specs.Formed.{IsFormed}
use Rattle.cpt_calculus.specs.Decisions.{Fits}
use Rattle.cpt_cert_form.specs.declared.forms.CertLine.{CertLine}
use Rattle.cpt_cert_form.specs.declared.forms.CertLine.TheVariants as lines
use Rattle.cpt_cert_accept.specs.declared.faults.Why.{Why}
use Rattle.cpt_cert_accept.specs.Accepting.{is_done, is_left}
use Rattle.cpt_cert_accept.specs.Trees.{Part, bring_of}
use Rattle.cpt_cert_accept.specs.Trees.Part.{node, worked, branches}
use Rattle.cpt_cert_accept.specs.Reading.{Outcome, After, behind}
use Rattle.cpt_cert_accept.specs.Reading.Outcome.{went, faulted}
use Rattle.cpt_cert_accept.specs.Descent.{Reads}
use Rattle.cpt_walk.specs.declared.walk.Frame.{Frame}
use Rattle.cpt_walk.specs.declared.walk.Place.{Place}
use Rattle.cpt_walk.specs.declared.walk.Place.TheVariants.{Node, Worked, Behind}
use Rattle.cpt_walk.specs.declared.walk.Past.{Past}
use Rattle.cpt_walk.specs.declared.walk.Walk.{Walk}
use Rattle.cpt_walk.specs.declared.walk.Turn.{Turn}
use Rattle.cpt_walk.specs.declared.walk.Turn.TheVariants.{On, Fault}

-- the reading of parts of a tree, one behind the other
abbrev pub ReadsParts : TaskShape → Tables → Bool → List Part → ℕ → List CertLine → Outcome (List NodeLine) → Type 0
ReadsParts t b mo [] n ls o = o ≡ went [] ls n
ReadsParts t b mo (p ∷ ps) n ls o =
    (x : Outcome (List NodeLine)) × Reads t b mo p n ls x × After (λ f m rest z. (y : Outcome (List NodeLine)) × ReadsParts t b mo ps m rest y × (z ≡ behind (λ g. f ++ g) y)) x o

-- the children of a branch that have not been met
abbrev pub still : Frame → List Decision
still f = drop f.met f.children

-- what is left of a branched node: its children still to be read
abbrev pub part_of : Frame → Part
part_of f = branches f.sheet (still f)

-- the branches, the last one first, before other parts
abbrev pub stacked : List Frame → List Part → List Part
stacked [] ps = ps
stacked (f ∷ fs) ps = stacked fs (part_of f ∷ ps)

-- what is still to be read of a tree
abbrev pub parts_at : Place → List Part → List Part
parts_at (Node s) ps = node s ∷ ps
parts_at (Worked s) ps = worked s ∷ ps
parts_at Behind ps = ps

-- what is still to be read, the innermost first
abbrev pub parts_left : Walk → List Part
parts_left w = parts_at w.place (stacked w.past.frames.items [])

-- a branch with a formed sheet, of which some child has not been met, and all such children fit
pub record IsFrame (t : TaskShape) (f : Frame) : Type 0 where
  pub formed : IsFormed t f.sheet
  pub some : still f ≢ []
  pub fit : All (Fits f.sheet) (still f)

-- the sheet at the place, if there is one, is formed
abbrev pub IsPlaceFormed : TaskShape → Place → Type 0
IsPlaceFormed t (Node s) = IsFormed t s
IsPlaceFormed t (Worked s) = IsFormed t s
IsPlaceFormed t Behind = Unit {0}

-- the sheets of the walk are formed
pub record IsWalk (t : TaskShape) (w : Walk) : Type 0 where
  pub frames : All (IsFrame t) w.past.frames.items
  pub place : IsPlaceFormed t w.place

-- a branch whose sheet has at most k tokens more than the two of each root
abbrev pub IsFewIn : ℕ → Frame → Type 0
IsFewIn k f = length f.sheet.tokens ≤ k + 2

-- the sheet at the place, if there is one, has at most so many tokens beside start and end
abbrev pub IsFewAt : ℕ → Place → Type 0
IsFewAt k (Node s) = length s.tokens ≤ k + 2
IsFewAt k (Worked s) = length s.tokens ≤ k + 2
IsFewAt k Behind = Unit {0}

-- each sheet of the walk has at most k tokens more than the two of each root
pub record AreFew (k : ℕ) (w : Walk) : Type 0 where
  pub frames : All (IsFewIn k) w.past.frames.items
  pub place : IsFewAt k w.place

-- a line led from a walk to another: with the lines read behind it, the line and these are read before it
pub record Leads (t : TaskShape) (b : Tables) (w : Walk) (line : NodeLine) (v : Walk) : Type 0 where
  pub walk : IsWalk t v
  pub may_open : v.past.may_open ≡ w.past.may_open
  pub done : v.past.done ≡ w.past.done + (if is_done line then 1 else 0)
  pub left : v.past.left ≡ (w.past.left || is_left line)
  pub few : (k : ℕ) → AreFew k w → AreFew (k + bring_of line) v
  pub reads : (n : ℕ) (ls : List CertLine) (x : Outcome (List NodeLine)) → ReadsParts t b w.past.may_open (parts_left v) (n + 1) ls x →
      ReadsParts t b w.past.may_open (parts_left w) n (lines.Node line ∷ ls) (behind (λ f. line ∷ f) x)

-- the line is at fault, whatever comes behind it
abbrev pub FailsAt : TaskShape → Tables → Walk → NodeLine → Why → Type 0
FailsAt t b w line why = (n : ℕ) (ls : List CertLine) → ReadsParts t b w.past.may_open (parts_left w) n (lines.Node line ∷ ls) (faulted n why)

-- what a line leads to
abbrev pub Turns : TaskShape → Tables → Walk → NodeLine → Turn → Type 0
Turns t b w line (On v) = Leads t b w line v
Turns t b w line (Fault why) = FailsAt t b w line why

-- a walk behind step lines of a node, one before a node, and one behind a node
abbrev pub at_work : Past → Sheet → Walk
at_work p s = record { past = p; place = Worked s }

-- a walk that begins a node with this sheet
abbrev pub at_node : Past → Sheet → Walk
at_node p s = record { past = p; place = Node s }

-- a walk whose tree is read
abbrev pub at_end : Past → Walk
at_end p = record { past = p; place = Behind }

-- where the walk is behind a node, a branch has children left
abbrev pub IsUnreadAt : Place → Past → Type 0
IsUnreadAt (Node s) p = Unit {0}
IsUnreadAt (Worked s) p = Unit {0}
IsUnreadAt Behind p = p.frames.items ≢ []

-- something of the tree is still to be read
abbrev pub IsUnread : Walk → Type 0
IsUnread w = IsUnreadAt w.place w.past

-- the walk comes behind the child line, where the branch is put behind the others
abbrev pub GoesDown : TaskShape → Tables → Past → Frame → Decision → Walk → Type 0
GoesDown t b p f d w =
    (q : Past) → q.may_open ≡ p.may_open → q.done ≡ p.done → q.left ≡ p.left → q.frames.items ≡ p.frames.items ++ f ∷ [] → Leads t b (at_end q) (Child d) w

-- where a walk goes on its sheets are formed
abbrev pub IsSoundTurn : TaskShape → Turn → Type 0
IsSoundTurn t (On v) = IsWalk t v
IsSoundTurn t (Fault why) = Unit {0}
