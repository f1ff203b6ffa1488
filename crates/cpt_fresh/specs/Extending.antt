use Rattle.std.specs.Prelude.{◌≡◌, ℕ, ◌≤◌, ◌<◌, ◌+◌, true, List, ◌++◌, length, Contains, Some}
use Rattle.cpt_task.specs.Shape.{TaskShape}
use Rattle.cpt_tables.specs.declared.tables.Tables.{Tables}
use Rattle.cpt_sheet.specs.declared.data.Cand.TheVariants.{Tok}
use Rattle.cpt_sheet.specs.declared.data.Decision.{Decision}
use Rattle.cpt_sheet.specs.declared.data.Decision.TheVariants.{Join, Bring, Before}
use Rattle.cpt_sheet.specs.declared.data.Kind.TheVariants.{Act}
use Rattle.cpt_sheet.specs.declared.data.Sheet.{Sheet}
use Rattle.cpt_sheet.specs.Below.{IsBelowSheet}
use Rattle.cpt_sheet.specs.Live.{IsLive}
use Rattle.cpt_sheet.specs.View.{kind_of, has_need, cands, before}
use Rattle.cpt_calculus.specs.Closing.{IsFresh}
use Rattle.cpt_calculus.specs.Decisions.{Fits, applied}
use Rattle.cpt_calculus.specs.Rules.{IsToken}

-- the tokens, preconditions, lists of one token and orders of the first sheet stand in the second, which may have more
pub record Extends (s u : Sheet) : Type 0 where
  pub count : length s.tokens ≤ length u.tokens
  pub kinds : (x : ℕ) → x < length s.tokens → kind_of u (Tok x) ≡ kind_of s (Tok x)
  pub needs : (x p : ℕ) → x < length s.tokens → has_need u x p ≡ has_need s x p
  pub suppliers : (x p y : ℕ) → has_need s x p ≡ true → IsToken (cands s x p) y → IsToken (cands u x p) y
  pub orders : (x y : ℕ) → before s x y ≡ true → before u x y ≡ true

-- what the decision asks for stands: the list is the one token, which is of the named action where it is brought, or the
-- order stands
abbrev pub Carries : Sheet → Decision → Type 0
Carries s (Join x p y) = (has_need s x p ≡ true) × IsToken (cands s x p) y
Carries s (Bring x p a) = (has_need s x p ≡ true) × ((y : ℕ) × (y < length s.tokens) × (kind_of s (Tok y) ≡ Act a) × IsToken (cands s x p) y)
Carries s (Before x y) = before s x y ≡ true

-- a sheet extends itself, and extending is transitive
abbrev pub ExtendsItself : Type 0
ExtendsItself = (s : Sheet) → Extends s s

-- what extends an extension extends the first
abbrev pub ExtendsOn : Type 0
ExtendsOn = (s u v : Sheet) → Extends s u → Extends u v → Extends s v

-- a live sheet extends each sheet above it
abbrev pub LiveExtends : Type 0
LiveExtends = (s u : Sheet) → IsBelowSheet s u → IsLive u → Extends s u

-- the sheet after a decision that fits extends the sheet before it
abbrev pub DecisionsExtend : Type 0
DecisionsExtend = (t : TaskShape) (s : Sheet) (d : Decision) → Fits s d → Extends s (applied t s d)

-- a fresh sheet extends the fresh sheet of each front of its decisions
abbrev pub FreshExtends : Type 0
FreshExtends =
    (rules : List ℕ) (t : TaskShape) (tables : Tables) (b : ℕ) (ds es : List Decision) (s u : Sheet) →
    IsFresh rules t tables b ds (Some s) → IsFresh rules t tables b (ds ++ es) (Some u) → Extends s u

-- the sheet after a decision that fits carries it
abbrev pub DecisionsAreCarried : Type 0
DecisionsAreCarried = (t : TaskShape) (s : Sheet) (d : Decision) → Fits s d → Carries (applied t s d) d

-- after a Bring the named list is the new token
abbrev pub BroughtIsNew : Type 0
BroughtIsNew = (t : TaskShape) (s : Sheet) (x p a : ℕ) → Fits s (Bring x p a) → IsToken (cands (applied t s (Bring x p a)) x p) (length s.tokens)

-- what a sheet carries each sheet that extends it carries
abbrev pub CarriedOn : Type 0
CarriedOn = (s u : Sheet) (d : Decision) → Extends s u → Carries s d → Carries u d

-- a fresh sheet carries each of its decisions
abbrev pub FreshCarries : Type 0
FreshCarries =
    (rules : List ℕ) (t : TaskShape) (tables : Tables) (b : ℕ) (ds : List Decision) (s : Sheet) (d : Decision) →
    IsFresh rules t tables b ds (Some s) → Contains ds d → Carries s d

-- a decision brings at most one token
abbrev pub DecisionsBringOne : Type 0
DecisionsBringOne = (t : TaskShape) (s : Sheet) (d : Decision) → length (applied t s d).tokens ≤ length s.tokens + 1

-- a fresh sheet has at most one token for each decision beside the start and the end
abbrev pub TokensByDecisions : Type 0
TokensByDecisions =
    (rules : List ℕ) (t : TaskShape) (tables : Tables) (b : ℕ) (ds : List Decision) (s : Sheet) →
    IsFresh rules t tables b ds (Some s) → length s.tokens ≤ 2 + length ds
