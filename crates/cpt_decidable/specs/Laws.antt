use Rattle.std.specs.Prelude.{◌⊎◌, List}
use Rattle.cpt_task.specs.declared.plan.Occ.{Occ}
use Rattle.cpt_task.specs.declared.plan.Verdict.{Verdict}
use Rattle.cpt_task.specs.Shape.{TaskShape}
use Rattle.cpt_task.specs.Timeline.{IsPlan, IsValid}
use Rattle.cpt_task.specs.Judging.{Judges}
use Rattle.cpt_tables.specs.declared.faults.PairFault.{PairFault}
use Rattle.cpt_tables.specs.declared.faults.DistFault.{DistFault}
use Rattle.cpt_tables.specs.declared.tables.Tables.{Tables}
use Rattle.cpt_tables.specs.Shapes.{PairShape, DistShape}
use Rattle.cpt_tables.specs.Admissible.{IsAdmissiblePairs, IsAdmissibleDists, IsPairFault, IsDistFault}
use Rattle.cpt_sheet.specs.declared.data.Sheet.{Sheet}
use Rattle.cpt_sheet.specs.declared.data.Step.{Step}
use Rattle.cpt_sheet.specs.declared.data.Flaw.{Flaw}
use Rattle.cpt_sheet.specs.Live.{IsDead, IsLive}
use Rattle.cpt_calculus.specs.Rules.{IsLegal}
use Rattle.cpt_calculus.specs.Flaws.{IsFlaw}
use Rattle.cpt_decidable.specs.Decidable.{IsDecidable}

-- each plan is valid or not
abbrev pub EachPlanIsValidOrNot : Type 0
EachPlanIsValidOrNot = (t : TaskShape) (plan : List Occ) → IsDecidable (IsValid t plan)

-- each plan of the task has a verdict: it is valid, or there is a first cause against it
abbrev pub EachPlanHasAVerdict : Type 0
EachPlanHasAVerdict = (t : TaskShape) (plan : List Occ) → IsPlan t plan → (v : Verdict) × Judges t plan v

-- each pair table is admissible, or it has a least fault
abbrev pub EachPairTableIsRuled : Type 0
EachPairTableIsRuled = (t : TaskShape) (h : PairShape) → IsAdmissiblePairs t h ⊎ ((f : PairFault) × IsPairFault t h f)

-- each distance table is admissible, or it has a least fault
abbrev pub EachDistTableIsRuled : Type 0
EachDistTableIsRuled = (t : TaskShape) (h : PairShape) (d : DistShape) → IsAdmissibleDists t h d ⊎ ((f : DistFault) × IsDistFault t h d f)

-- each step is legal at a sheet or not
abbrev pub EachStepIsLegalOrNot : Type 0
EachStepIsLegalOrNot = (t : TaskShape) (b : Tables) (s : Sheet) (step : Step) → IsDecidable (IsLegal t b s step)

-- each sheet is dead or live
abbrev pub EachSheetIsDeadOrLive : Type 0
EachSheetIsDeadOrLive = (s : Sheet) → IsDead s ⊎ IsLive s

-- each flaw stands in a sheet or not
abbrev pub EachFlawStandsOrNot : Type 0
EachFlawStandsOrNot = (t : TaskShape) (s : Sheet) (f : Flaw) → IsDecidable (IsFlaw t s f)
