use Rattle.std.specs.Prelude.{◌≡◌, ℕ, ◌<◌, ◌≤◌, List, length, Option, Result, Ok, Err}
use Rattle.std.specs.Io.KnownBytes.{append_known}
use Rattle.cpt_io.specs.Meaning.{AppendsFront}
use Rattle.cpt_task.specs.Shape.{TaskShape}
use Rattle.cpt_tables.specs.declared.tables.Tables.{Tables}
use Rattle.cpt_calculus.specs.Rules.{all_rules}
use Rattle.cpt_outcome.specs.Nodes.{SearchProblem}
use Rattle.cpt_outcome.specs.Outcomes.{SearchOutcome, HasOutcome}
use Rattle.cpt_cert_form.specs.declared.forms.Version.{Version}
use Rattle.cpt_cert_form.specs.Text.{Parts, cert_text}
use Rattle.cpt_cert_accept.specs.Accepting.{IsCertificate}
use Rattle.cpt_evidence.specs.Evidence.{IsProvable, Tells, claim_of}
use Rattle.cpt_search.specs.declared.searching.Outcome.{Outcome}
use Rattle.cpt_search.specs.Answers.{HasTrees, outcome_of}
use Rattle.cpt_certify.specs.declared.proving.ProofError.{ProofError}
use Rattle.cpt_certify.specs.declared.proving.ProofError.TheVariants as errors

-- the search for a plan of the task over these tables, with all rules
abbrev pub full_search : TaskShape → Tables → SearchProblem
full_search t b = record { task = t; tables = b; rules = all_rules }

-- what a search for a plan of the task over these tables found, up to a greatest bound and with a budget of n nodes for each
-- bound, where that can be certified
pub record IsFound (t : TaskShape) (b : Tables) (most n : ℕ) (found : Outcome) : Type 0 where
  pub provable : IsProvable (full_search t b) most n
  pub outcome : HasOutcome (full_search t b) most n (outcome_of found)
  pub trees : HasTrees (full_search t b) most n found

-- The text is a certificate of the task, in this version, with the outcome's claim, and tells the outcome: it has the search's
-- tables and the texts of its trees.
pub record IsProofOf (t : TaskShape) (b : Tables) (most n : ℕ) (o : SearchOutcome) (v : Version) (text : List ℕ) : Type 0 where
  pub parts : Parts
  pub tells : Tells (full_search t b) most n o parts
  pub is : text ≡ cert_text v t parts
  pub certificate : IsCertificate t text v (claim_of most n o) parts

-- the text was put whole; or it has more than 2^36 bytes and nothing was put; or a front of it was put
abbrev pub PutsProof : {A : Type 0} → List ℕ → Option (List ℕ) → Option (List ℕ) → Result A ProofError → Type 0
PutsProof text old new (Ok a) = (length text ≤ 68719476736) × (new ≡ append_known old text)
PutsProof text old new (Err errors.TooLong) = (68719476736 < length text) × (new ≡ old)
PutsProof text old new (Err errors.Failed) = (length text ≤ 68719476736) × AppendsFront old new text
