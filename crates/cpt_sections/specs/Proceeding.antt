use Rattle.std.specs.Prelude.{ℕ, ◌+◌, ◌<◌, ◌≤◌, ◌^◌, List, length}
use Rattle.cpt_task.specs.Shape.{TaskShape}
use Rattle.cpt_tables.specs.Shapes.{FitsPairs, FitsDists, IsWholePairs, IsWholeDists}
use Rattle.cpt_cert_form.specs.declared.forms.Version.{Version}
use Rattle.cpt_cert_form.specs.declared.forms.CertLine.{CertLine}
use Rattle.cpt_cert_accept.specs.Reading.{Outcome}
use Rattle.cpt_cert_accept.specs.Reading.Outcome.{faulted}
use Rattle.cpt_sections.specs.declared.section.PairRows.{PairRows}
use Rattle.cpt_sections.specs.declared.section.DistRows.{DistRows}
use Rattle.cpt_sections.specs.declared.section.Next.{Next}
use Rattle.cpt_sections.specs.declared.section.Next.TheVariants as nexts
use Rattle.cpt_sections.specs.Sections.{Left, IsSection, HasFew, IsAim, AreTrees}

-- What is read so from line n on is read as this section, whatever lines come. Or it is known before line n is read that
-- this is the first fault. No tree has begun there.
abbrev pub Proceeds : TaskShape → Version → (ℕ → List CertLine → Outcome (Unit {0}) → Type 0) → ℕ → Next → Type 0
Proceeds t v Reads n (nexts.On new) =
    IsSection t n new × ((k : ℕ) → HasFew k new) × ((ls : List CertLine) (x : Outcome (Unit {0})) → Left t v new n ls x → Reads n ls x)
Proceeds t v Reads n (nexts.Fault at why) = (at < n) × ((ls : List CertLine) → Reads n ls (faulted at why))

-- some rows of a pair table are read, or all
pub record ArePairRowsSoFar (t : TaskShape) (r : PairRows) : Type 0 where
  pub aim : IsAim r.aim
  pub fits : FitsPairs t r.pairs
  pub whole : IsWholePairs r.pairs
  pub most : r.next ≤ length t.atoms
  pub late : 2 ≤ r.head + r.next
  pub early : r.head < 2 ^ 40

-- some rows of a distance table are read, or all
pub record AreDistRowsSoFar (t : TaskShape) (r : DistRows) : Type 0 where
  pub trees : AreTrees r.trees
  pub pairs : FitsPairs t r.pairs
  pub dists : FitsDists t r.dists
  pub whole : IsWholeDists r.dists
  pub most : r.next ≤ length t.actions
  pub early : r.head < 2 ^ 40
