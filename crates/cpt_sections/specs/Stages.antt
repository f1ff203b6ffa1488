use Rattle.std.specs.Prelude.{◌≡◌, ℕ, ◌+◌, ◌≤◌, List, [], ◌∷◌, Option, None, Some}
use Rattle.cpt_task.specs.Shape.{TaskShape}
use Rattle.cpt_cert_form.specs.declared.forms.Version.{Version}
use Rattle.cpt_cert_form.specs.declared.forms.Claim.{Claim}
use Rattle.cpt_cert_form.specs.declared.forms.Claim.TheVariants as claims
use Rattle.cpt_cert_form.specs.declared.forms.CertLine.{CertLine}
use Rattle.cpt_cert_form.specs.declared.forms.CertLine.TheVariants as lines
use Rattle.cpt_cert_form.specs.Forms.{IsClaim}
use Rattle.cpt_cert_accept.specs.declared.faults.Why.{Why}
use Rattle.cpt_cert_accept.specs.declared.faults.Why.TheVariants as whys
use Rattle.cpt_cert_accept.specs.Reading.{Outcome, Then, take_version, take_claim}
use Rattle.cpt_cert_accept.specs.Reading.Outcome.{went, faulted}
use Rattle.cpt_cert_accept.specs.Descent.{ReadsBody}
use Rattle.cpt_sections.specs.declared.section.Stage.{Stage}
use Rattle.cpt_sections.specs.declared.section.Stage.TheVariants as stages
use Rattle.cpt_sections.specs.declared.section.Turned.{Turned}
use Rattle.cpt_sections.specs.declared.section.Turned.TheVariants as turns
use Rattle.cpt_sections.specs.declared.section.Trees.TheVariants as trees
use Rattle.cpt_sections.specs.declared.section.Aim.TheVariants as aims
use Rattle.cpt_sections.specs.declared.section.Section.{Section}
use Rattle.cpt_sections.specs.declared.section.Section.TheVariants as sections
use Rattle.cpt_sections.specs.declared.section.Next.{Next}
use Rattle.cpt_sections.specs.declared.section.Next.TheVariants as nexts
use Rattle.cpt_cert_accept.specs.Texts.{bring_in}
use Rattle.cpt_sections.specs.Sections.{Left, IsSection, HasFew, IsNothing}

-- how the reading of what is still to be read of a certificate ends, from line n on
abbrev pub LeftOf : TaskShape → Stage → ℕ → List CertLine → Outcome (Version × Claim) → Type 0
LeftOf t stages.First n ls o = Then (λ n ls x. x ≡ take_version n ls) (λ v. Then (λ n ls x. x ≡ take_claim n ls) (ReadsBody t v)) n ls o
LeftOf t (stages.Claimed v) n ls o = Then (λ n ls x. x ≡ take_claim n ls) (ReadsBody t v) n ls o
LeftOf t (stages.Sized v claim) n ls o = ReadsBody t v claim n ls o
LeftOf t (stages.Within v claim s) n ls o = Then (Left t v s) (λ _ n ls o. o ≡ went (v, claim) ls n) n ls o

-- what is still to be read from line n on is formed, and behind the first lines n is not too small
abbrev pub IsStage : TaskShape → ℕ → Stage → Type 0
IsStage t n stages.First = Unit {0}
IsStage t n (stages.Claimed v) = Unit {0}
IsStage t n (stages.Sized v claim) = (1 ≤ n) × IsClaim claim
IsStage t n (stages.Within v claim s) = (2 ≤ n) × IsSection t n s

-- of a tree of which lines are left each sheet has at most k tokens more than the two of each root
abbrev pub HasFewAt : ℕ → Stage → Type 0
HasFewAt k stages.First = Unit {0}
HasFewAt k (stages.Claimed v) = Unit {0}
HasFewAt k (stages.Sized v claim) = Unit {0}
HasFewAt k (stages.Within v claim s) = HasFew k s

-- the first section that the claim asks for
abbrev pub first_section : Claim → Section
first_section (claims.Optimal m) = sections.Plan m
first_section (claims.NoneUpTo m) = sections.Pairs (aims.Trees (trees.Closed m))
first_section claims.Never = sections.Pairs aims.Goal
first_section (claims.Spent refuted nodes) = sections.Pairs (aims.Trees (trees.Open refuted nodes))

-- what a line of a section leads to
abbrev pub turned : Version → Claim → Next → Turned
turned v claim (nexts.On s) = turns.On (stages.Within v claim s)
turned v claim (nexts.Fault at why) = turns.Fault at why

-- the version that the first line names
abbrev pub version_in : List CertLine → Option Version
version_in (lines.First v ∷ ls) = Some v
version_in _ = None

-- the version that the lines read so far name
abbrev pub version_at : Stage → Option Version
version_at stages.First = None
version_at (stages.Claimed v) = Some v
version_at (stages.Sized v claim) = Some v
version_at (stages.Within v claim s) = Some v

-- the version that is named when this line is read too
abbrev pub version_behind : Stage → CertLine → Option Version
version_behind stages.First line = version_in (line ∷ [])
version_behind (stages.Claimed v) line = Some v
version_behind (stages.Sized v claim) line = Some v
version_behind (stages.Within v claim s) line = Some v

-- line n leads to another stage
pub record Advances (t : TaskShape) (s : Stage) (n : ℕ) (line : CertLine) (new : Stage) : Type 0 where
  pub stage : IsStage t (n + 1) new
  pub version : version_at new ≡ version_behind s line
  pub few : (k : ℕ) → HasFewAt k s → HasFewAt (k + bring_in line) new
  pub reads : (ls : List CertLine) (x : Outcome (Version × Claim)) → LeftOf t new (n + 1) ls x → LeftOf t s n (line ∷ ls) x

-- it is known from line n on that this is the first fault, whatever comes behind
pub record Fails (t : TaskShape) (s : Stage) (n : ℕ) (line : CertLine) (at : ℕ) (why : Why) : Type 0 where
  pub within : at ≤ n
  pub version : version_at s ≡ version_behind s line
  pub reads : (ls : List CertLine) → LeftOf t s n (line ∷ ls) (faulted at why)

-- what a line leads to
abbrev pub Turns : TaskShape → Stage → ℕ → CertLine → Turned → Type 0
Turns t s n line (turns.On new) = Advances t s n line new
Turns t s n line (turns.Fault at why) = Fails t s n line at why

-- With nothing behind it a text ends too early, but where it is read whole and no line comes.
abbrev pub Ends : TaskShape → Stage → ℕ → Option (Version × Claim) → Type 0
Ends t s n None = (ls : List CertLine) → IsNothing ls → LeftOf t s n ls (faulted n whys.Grammar)
Ends t s n (Some claimed) =
    LeftOf t s n [] (went claimed [] n) × ((ls : List CertLine) → LeftOf t s n (lines.Strange ∷ ls) (faulted n whys.Grammar))
