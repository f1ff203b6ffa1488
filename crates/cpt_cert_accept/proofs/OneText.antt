-- a text has one first fault, or one version and claim
use Rattle.std.proofs.Common.{◌≡◌, ◌≢◌, ℕ, ◌+◌, ◌≤◌, ◌^◌, inl, List, [], ◌∷◌, ◌++◌, length, map, All, arith, refl, sym, ap, ◌∙◌, subst, append-nil}
use Rattle.std.specs.List.{AllZip}
use Rattle.std.proofs.lemmas.List.Elements.{All-head, All-tail, All-nil, All-cons}
use Rattle.cpt_task.specs.Shape.{TaskShape, InBounds}
use Rattle.cpt_cert_form.specs.declared.forms.Version.{Version}
use Rattle.cpt_cert_form.specs.declared.forms.Claim.{Claim}
use Rattle.cpt_cert_form.specs.declared.forms.CertLine.{CertLine}
use Rattle.cpt_cert_form.specs.declared.forms.CertLine.TheVariants as lines
use Rattle.cpt_cert_form.specs.Forms.{spelled, capped_line, IsWritten, IsClaim, IsReadAs}
use Rattle.cpt_cert_read.specs.Lines.{HasNoEnd}
use Rattle.cpt_cert_form.specs.Text.{Parts, cert_lines}
use Rattle.cpt_cert_accept.specs.declared.faults.Why.{Why}
use Rattle.cpt_cert_accept.specs.Accepting.{IsInForm, IsCertificate, Accepts}
use Rattle.cpt_cert_accept.specs.Reading.{Outcome}
use Rattle.cpt_cert_accept.specs.Reading.Outcome.{went, faulted}
use Rattle.cpt_cert_accept.specs.Descent.{ReadsAll}
use Rattle.cpt_cert_read.specs.Texts.{ended, AreLinesOf}
use Rattle.cpt_cert_read.proofs.Splits.{lines_once}
use Rattle.cpt_cert_accept.specs.Texts.{FirstFault}
use Rattle.cpt_cert_accept.proofs.OneOutcome.{one_outcome}
use Rattle.cpt_cert_accept.proofs.Whole.{lines_read}
use Rattle.cpt_cert_accept.proofs.BringBytes.{brings_capped}
use Rattle.cpt_cert_accept.proofs.Feedless.{feedless}
use Rattle.cpt_cert_accept.proofs.TextLines.{kept_lines, plain_lines, ended_spelled, room_of}

apart : {A : Type 0} (a : A) (ls : List CertLine) (m line : ℕ) (why : Why) → went a ls m ≡ faulted line why → ⊥
apart a ls m line why e = absurd (cc)

same_line : {A : Type 0} (x y : Outcome A) (line also : ℕ) (why other : Why) → x ≡ faulted line why → y ≡ faulted also other → x ≡ y → line ≡ also
same_line x y line also why other p q e = let k : faulted line why ≡ faulted also other = sym p ∙ e ∙ q in cc

same_why : {A : Type 0} (x y : Outcome A) (line also : ℕ) (why other : Why) → x ≡ faulted line why → y ≡ faulted also other → x ≡ y → why ≡ other
same_why x y line also why other p q e = let k : faulted line why ≡ faulted also other = sym p ∙ e ∙ q in cc

spelled_read : (ls : List CertLine) → All IsInForm ls → All HasNoEnd (map spelled ls) × AllZip IsReadAs (map spelled ls) (map capped_line ls)
spelled_read [] h = (All-nil HasNoEnd, tt)
spelled_read (l ∷ ls) h =
    let form = All-head IsInForm l ls h in
    let more = spelled_read ls (All-tail IsInForm l ls h) in
    (All-cons HasNoEnd (spelled l) (map spelled ls) (feedless l form.written) more.0, (inl (l, form, refl), more.1))

-- the lines of a certificate, as they are read
certificate_lines : (t : TaskShape) (text : List ℕ) (v : Version) (claim : Claim) (c : Parts) → IsCertificate t text v claim c → AreLinesOf text (map capped_line (cert_lines v t c))
certificate_lines t text v claim c is =
    let ls = cert_lines v t c in
    let k = spelled_read ls is.written in
    record {
      bodies = map spelled ls;
      tail = [];
      read = map capped_line ls;
      split = record { whole = is.spelled ∙ sym (ended_spelled ls) ∙ sym (append-nil (ended (map spelled ls))); lines = k.0; last = All-nil (λ z. z ≢ 10) };
      each = k.1;
      all = sym (append-nil (map capped_line ls));
    }

-- a certificate's lines are read whole
pub certificate_read : (t : TaskShape) (text : List ℕ) (v : Version) (claim : Claim) → InBounds t → length text ≤ 2 ^ 36 → Accepts t text v claim → (ls : List CertLine) × AreLinesOf text ls × ((m : ℕ) × ReadsAll t ls (went (v, claim) [] m))
certificate_read t text v claim inside short accepted =
    let c = accepted.0 in
    let is = accepted.1 in
    let ls = cert_lines v t c in
    let of = certificate_lines t text v claim c is in
    let same = brings_capped ls in
    let few = room_of text (map capped_line ls) short of in
    let line : IsInForm (lines.Claimed c.claim) = is.written 1 lines.End (omega arith) in
    let kept = kept_lines ls (plain_lines t v claim c inside is.claims (subst IsClaim is.claims line.written) is.proves (omega (arith, same, few))) in
    (ls, subst (AreLinesOf text) kept of, lines_read t v claim c is.claims is.ordered is.proves)

-- a text has at most one first fault
pub one_fault : (t : TaskShape) (text : List ℕ) (line also : ℕ) (why other : Why) → FirstFault t text line why → FirstFault t text also other → (line ≡ also) × (why ≡ other)
one_fault t text line also why other h k =
    let x : Outcome (Version × Claim) = faulted line why in
    let y : Outcome (Version × Claim) = faulted also other in
    let e : x ≡ y = one_outcome t h.0 x y h.2 (subst (λ z. ReadsAll t z y) (lines_once text k.0 h.0 k.1 h.1) k.2) in
    (same_line x y line also why other refl refl e, same_why x y line also why other refl refl e)

-- a certificate has no fault
pub no_fault : (t : TaskShape) (text : List ℕ) (v : Version) (claim : Claim) (line : ℕ) (why : Why) → InBounds t → length text ≤ 2 ^ 36 → Accepts t text v claim → FirstFault t text line why → ⊥
no_fault t text v claim line why inside short accepted fault =
    let k = certificate_read t text v claim inside short accepted in
    let both : Version × Claim = (v, claim) in
    apart both [] k.2.0 line why (one_outcome t k.0 (went both [] k.2.0) (faulted line why) k.2.1 (subst (λ z. ReadsAll t z (faulted line why)) (lines_once text fault.0 k.0 fault.1 k.1) fault.2))

-- a text has at most one version and claim
pub one_claim : (t : TaskShape) (text : List ℕ) (v w : Version) (claim also : Claim) → InBounds t → Accepts t text v claim → Accepts t text w also → (v ≡ w) × (claim ≡ also)
one_claim t text v w claim also inside h k =
    let a = certificate_lines t text v claim h.0 h.1 in
    let b = certificate_lines t text w also k.0 k.1 in
    let e = lines_once text (map capped_line (cert_lines v t h.0)) (map capped_line (cert_lines w t k.0)) a b in
    let both = heads_one v w h.0.claim k.0.claim _ _ e in
    (both.0, sym h.1.claims ∙ both.1 ∙ k.1.claims)
  where
    heads_one : (v w : Version) (claim also : Claim) (ls more : List CertLine) → lines.First v ∷ lines.Claimed claim ∷ ls ≡ lines.First w ∷ lines.Claimed also ∷ more → (v ≡ w) × (claim ≡ also)
    heads_one v w claim also ls more e = (cc, cc)
