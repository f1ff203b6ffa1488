-- each text has a ruling, or it is too long
use Rattle.std.proofs.Common.{◌≡◌, ℕ, ◌+◌, ◌<◌, ◌≤◌, ◌⊎◌, inl, inr, List, [], ◌++◌, length, take, drop, Some, refl, sym, ap, ◌∙◌, subst, arith, append_assoc, length-append, length-take}
use Rattle.std.proofs.lemmas.Bool.{cases_lt}
use Rattle.std.proofs.lemmas.List.{append-nil, take-append-drop}
use Rattle.cpt_task.specs.Shape.{TaskShape}
use Rattle.cpt_cert_form.specs.declared.forms.Version.{Version}
use Rattle.cpt_cert_form.specs.declared.forms.Claim.{Claim}
use Rattle.cpt_cert_form.specs.declared.forms.CertLine.{CertLine}
use Rattle.cpt_cert_read.specs.Texts.{ended}
use Rattle.cpt_cert_read.proofs.Splits.{Split, split_of, readings}
use Rattle.cpt_cert_accept.specs.declared.faults.Why.{Why}
use Rattle.cpt_cert_accept.specs.Reading.{Outcome}
use Rattle.cpt_cert_accept.specs.Reading.Outcome.{went, faulted}
use Rattle.cpt_cert_accept.specs.Descent.{ReadsAll}
use Rattle.cpt_cert_accept.proofs.OneOutcome.{one_outcome}
use Rattle.cpt_cert_laws.proofs.Fronts.{faults_stand}
use Rattle.cpt_sections.specs.Stages.{version_in}
use Rattle.cpt_check.specs.declared.judged.Judged.{Judged}
use Rattle.cpt_check.specs.declared.judged.Ruling.TheVariants.{Accepted, Rejected}
use Rattle.cpt_check.specs.Judging.{IsFront, StandsIn, StandsWithin, IsRejected, IsAccepted, IsTooLong, RulesOf}
use Rattle.cpt_check.proofs.Splits.{front_lines, front_first, front_within}
use Rattle.cpt_every_text.specs.Laws.{IsACertificate, HasAFault}
use Rattle.cpt_every_text.proofs.EachText.{each_text_is_ruled}
use Rattle.cpt_every_text.proofs.RunLines.{AllHaveRuns, zip_runs}
use Rattle.cpt_every_text.proofs.Sections.{lines_read}
use Rattle.cpt_every_ruling.specs.Laws.{EachTextHasARuling}

-- the text is accepted or rejected, or it is too long
abbrev IsRuled : TaskShape → ℕ → List ℕ → Type 0
IsRuled t most text = ((judged : Judged) × RulesOf t most text judged.version judged.ruling) ⊎ IsTooLong t most text

-- a text that is not too long
short_ruled : (t : TaskShape) (most : ℕ) (text : List ℕ) → length text ≤ most → (IsACertificate t text ⊎ HasAFault t text) → IsRuled t most text
short_ruled t most text short (inl (v, claim, accepts)) =
    let judged : Judged = record { version = Some v; ruling = Accepted claim } in
    let is : IsAccepted t most text (Some v) claim = record { size = short; named = v; version_is = refl; accepts = accepts } in
    inl (judged, is)
short_ruled t most text short (inr (line, why, fault)) =
    let judged : Judged = record { version = version_in fault.0; ruling = Rejected line why } in
    let is : IsRejected t most text (version_in fault.0) line why = record { version_is = (fault.0, fault.1, refl); first = fault; known = inl short } in
    inl (judged, is)

-- a text with more bytes than are taken, whose first bytes, as many as are taken, have these lines
module _ (t : TaskShape) (most : ℕ) (front more : List ℕ) (size : length front ≡ most) (s : Split front) where
  read : List CertLine
  read = (readings s.bodies).0

  is_front : IsFront (front ++ more) (length (ended s.bodies)) read
  unfolding read
  is_front = record {
    bodies = s.bodies;
    rest = s.tail ++ more;
    whole = ap (λ z. z ++ more) s.split.whole ∙ append_assoc (ended s.bodies) s.tail more;
    lines = s.split.lines;
    each = (readings s.bodies).1;
    size = refl;
  }

  is_within : length (ended s.bodies) ≤ most
  is_within = let whole = ap length s.split.whole in let both = length-append (ended s.bodies) s.tail in omega (arith, whole, both, size)

  -- a fault that stands within the bytes that are taken is how these lines are read
  stands_there : (o : Outcome (Version × Claim)) → ReadsAll t read o → (line : ℕ) (why : Why) → StandsWithin t most (front ++ more) line why → (o ≡ faulted line why) × (line ≤ length read)
  unfolding read
  stands_there o reads line why (bytes, (ls, of, le, stands)) =
      let inside = front_within front more bytes ls of (omega (arith, le, size)) in
      let k = front_first front s.bodies s.tail read bytes ls s.split (readings s.bodies).1 inside in
      let fault : ReadsAll t read (faulted line why) = subst (λ z. ReadsAll t z (faulted line why)) (sym k.3) (faults_stand t ls line why k.1 stands.fault stands.within) in
      let long : length read ≡ length ls + length k.1 = ap length k.3 ∙ length-append ls k.1 in
      let at = stands.within in
      (one_outcome t read o (faulted line why) reads fault, omega (arith, long, at))

  too_long : (o : Outcome (Version × Claim)) → ReadsAll t read o → most < length (front ++ more) → ((line : ℕ) (why : Why) → o ≡ faulted line why → line ≤ length read → ⊥) → IsTooLong t most (front ++ more)
  too_long o reads long none = record { size = long; faultless = λ line why stands. let h = stands_there o reads line why stands in none line why h.0 h.1 }

  apart : (v : Version × Claim) (rest : List CertLine) (m line : ℕ) (why : Why) → went v rest m ≡ faulted line why → ⊥
  apart v rest m line why e = absurd (cc)

  same_line : (line also : ℕ) (why other : Why) → ◌≡◌ {A = Outcome (Version × Claim)} (faulted line why) (faulted also other) → line ≡ also
  same_line line also why other e = cc

  rejected : (line : ℕ) (why : Why) → ReadsAll t read (faulted line why) → line ≤ length read → IsRuled t most (front ++ more)
  rejected line why reads at =
      let lines = front_lines (front ++ more) (length (ended s.bodies)) read is_front in
      let judged : Judged = record { version = version_in (read ++ lines.0); ruling = Rejected line why } in
      let stands : StandsIn t read line why = record { fault = reads; within = at } in
      let is : IsRejected t most (front ++ more) (version_in (read ++ lines.0)) line why = record {
        version_is = (read ++ lines.0, lines.1, refl);
        first = (read ++ lines.0, lines.1, faults_stand t read line why lines.0 reads at);
        known = inr (length (ended s.bodies), (read, is_front, is_within, stands));
      } in
      inl (judged, is)

  long_ruled : most < length (front ++ more) → IsRuled t most (front ++ more)
  unfolding read
  long_ruled long = go (lines_read t read (subst AllHaveRuns (append-nil read) (zip_runs s.bodies read [] (readings s.bodies).1)))
    where
      placed : (line : ℕ) (why : Why) → ReadsAll t read (faulted line why) → ((length read < line) ⊎ (line ≤ length read)) → IsRuled t most (front ++ more)
      placed line why reads (inl behind) = inr (too_long (faulted line why) reads long (λ also other e at. let same = same_line line also why other e in omega (arith, same, behind, at)))
      placed line why reads (inr at) = rejected line why reads at

      go : (o : Outcome (Version × Claim)) × ReadsAll t read o → IsRuled t most (front ++ more)
      go (went v rest m, reads) = inr (too_long (went v rest m) reads long (λ line why e at. apart v rest m line why e))
      go (faulted line why, reads) = placed line why reads (cases_lt (length read) line)

pub each_text_has_a_ruling : EachTextHasARuling
each_text_has_a_ruling t most text inside few = go (cases_lt most (length text))
  where
    parts : text ≡ take most text ++ drop most text
    parts = sym (take-append-drop most text)

    go : ((most < length text) ⊎ (length text ≤ most)) → IsRuled t most text
    go (inl long) =
        let size : length (take most text) ≡ most = length-take most text ∙ omega (arith, long) in
        subst (IsRuled t most) (sym parts) (long_ruled t most (take most text) (drop most text) size (split_of (take most text)) (subst (λ z. most < length z) parts long))
    go (inr short) = short_ruled t most text short (each_text_is_ruled t text inside (omega (arith, short, few)))
