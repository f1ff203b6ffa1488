-- what is said of a text
use Rattle.std.proofs.Common.{◌≡◌, ◌≢◌, ℕ, ◌+◌, ◌<◌, ◌≤◌, ◌⊎◌, inl, inr, List, [], ◌∷◌, ◌++◌, length, Option, None, Some, refl, sym, ap, ◌∙◌, subst, arith, append_assoc, append-nil, length-append}
use Rattle.std.proofs.lemmas.Bool.{cases_lt}
use Rattle.std.specs.List.{AllZip}
use Rattle.cpt_task.specs.Shape.{TaskShape}
use Rattle.cpt_cert_form.specs.declared.forms.Version.{Version}
use Rattle.cpt_cert_form.specs.declared.forms.Claim.{Claim}
use Rattle.cpt_cert_form.specs.declared.forms.CertLine.{CertLine}
use Rattle.cpt_cert_form.specs.declared.forms.CertLine.TheVariants as lines
use Rattle.cpt_cert_form.specs.Forms.{IsReadAs}
use Rattle.cpt_cert_read.specs.Lines.{kept}
use Rattle.cpt_cert_read.proofs.Enough.{kept_nothing}
use Rattle.cpt_cert_accept.specs.declared.faults.Why.{Why}
use Rattle.cpt_cert_accept.specs.declared.faults.Why.TheVariants as whys
use Rattle.cpt_cert_accept.specs.Reading.Outcome.{went, faulted}
use Rattle.cpt_cert_accept.specs.Descent.{ReadsAll}
use Rattle.cpt_cert_read.specs.Texts.{ended, unended, AreLinesOf}
use Rattle.cpt_sections.specs.declared.section.Stage.{Stage}
use Rattle.cpt_sections.specs.Stages.{LeftOf, version_in, version_at, Ends}
use Rattle.cpt_check.specs.declared.past.Past.{Past}
use Rattle.cpt_check.specs.declared.past.Fault.{Fault}
use Rattle.cpt_check.specs.Judging.{IsFront, StandsIn, IsVersionOf, IsRejected, IsTooLong}
use Rattle.cpt_check.specs.Progress.{IsRead, IsFoundAt, Concludes}
use Rattle.cpt_check.proofs.Lines.{last_apart, first_names}
use Rattle.cpt_cert_read.proofs.Splits.{zip_length}
use Rattle.cpt_check.proofs.Splits.{front_lines, front_first, front_within}

text_lines : (t : TaskShape) (text : List ℕ) (p : Past) (pending : List ℕ) → (h : IsRead t text p pending) → AreLinesOf text (h.read ++ unended h.finished.tail)
text_lines t text p pending h = record { bodies = h.finished.bodies; tail = h.finished.tail; read = h.read; split = h.finished.split; each = h.finished.each; all = refl }

-- a line without its line feed comes behind
strange_end : (t : TaskShape) (s : Stage) (n : ℕ) (o : Option (Version × Claim)) → Ends t s n o → LeftOf t s n (lines.Strange ∷ []) (faulted n whys.Grammar)
strange_end t s n None h = h (lines.Strange ∷ []) tt
strange_end t s n (Some claimed) h = h.1 []

pub ends_early : (t : TaskShape) (text : List ℕ) (p : Past) (pending : List ℕ) (o : Option (Version × Claim)) → (h : IsRead t text p pending) → Ends t p.stage (length h.read + 1) o → pending ≢ [] → Concludes t text p.count None
ends_early t text p pending o h ends some = (h.read ++ unended h.finished.tail, text_lines t text p pending h, subst (λ z. ReadsAll t (h.read ++ unended h.finished.tail) (faulted (z + 1) whys.Grammar)) (sym h.past.count) (go h.finished.tail h.finished.enough))
  where
    go : (tail : List ℕ) → pending ≡ kept tail → ReadsAll t (h.read ++ unended tail) (faulted (length h.read + 1) whys.Grammar)
    go [] e = absurd (some (e ∙ (kept_nothing []).1 refl))
    go (b ∷ tail) e = h.past.reads (lines.Strange ∷ []) (faulted (length h.read + 1) whys.Grammar) (strange_end t p.stage (length h.read + 1) o ends)

pub ends_whole : (t : TaskShape) (text : List ℕ) (p : Past) (pending : List ℕ) (o : Option (Version × Claim)) → (h : IsRead t text p pending) → Ends t p.stage (length h.read + 1) o → pending ≡ [] → Concludes t text p.count o
ends_whole t text p pending o h ends none = go o ends
  where
    same : h.read ++ [] ≡ h.read ++ unended h.finished.tail
    same = ap (λ z. h.read ++ unended z) (sym ((kept_nothing h.finished.tail).0 (sym h.finished.enough ∙ none)))

    go : (o : Option (Version × Claim)) → Ends t p.stage (length h.read + 1) o → Concludes t text p.count o
    go None k = (
      h.read ++ unended h.finished.tail,
      text_lines t text p pending h,
      subst (λ z. ReadsAll t (h.read ++ unended h.finished.tail) (faulted (z + 1) whys.Grammar)) (sym h.past.count) (subst (λ z. ReadsAll t z (faulted (length h.read + 1) whys.Grammar)) same (h.past.reads [] (faulted (length h.read + 1) whys.Grammar) (k [] tt))),
    )
    go (Some claimed) k = (
      h.read ++ unended h.finished.tail,
      text_lines t text p pending h,
      (length h.read + 1, subst (λ z. ReadsAll t z (went claimed [] (length h.read + 1))) same (h.past.reads [] (went claimed [] (length h.read + 1)) k.0)),
    )

-- the version that the first line of a text names
names_end : (read : List CertLine) (tail : List ℕ) → version_in read ≡ version_in (read ++ unended tail)
names_end [] [] = refl
names_end [] (b ∷ tail) = refl
names_end (r ∷ rs) tail = first_names r rs (rs ++ unended tail)

pub version_at_end : (t : TaskShape) (text : List ℕ) (p : Past) (pending : List ℕ) (version : Option Version) → IsRead t text p pending → version ≡ version_at p.stage → IsVersionOf text version
version_at_end t text p pending version h e = (h.read ++ unended h.finished.tail, text_lines t text p pending h, e ∙ h.past.version ∙ names_end h.read h.finished.tail)

names_more : (read : List CertLine) (last : CertLine) (more : List CertLine) → version_in (read ++ last ∷ []) ≡ version_in ((read ++ last ∷ []) ++ more)
names_more [] last more = first_names last [] more
names_more (r ∷ rs) last more = first_names r (rs ++ last ∷ []) ((rs ++ last ∷ []) ++ more)

-- no fault stands at the front of bytes that are read
pub read_faultless : (t : TaskShape) (bytes : List ℕ) (p : Past) (pending : List ℕ) (n : ℕ) (ls : List CertLine) (line : ℕ) (why : Why) → IsRead t bytes p pending → IsFront bytes n ls → StandsIn t ls line why → ⊥
read_faultless t bytes p pending n ls line why h f s =
    let k = front_first bytes h.finished.bodies h.finished.tail h.read n ls h.finished.split h.finished.each f in h.past.faultless ls k.1 k.3 line why s

found_front : (t : TaskShape) (bytes more : List ℕ) (f : Fault) → (h : IsFoundAt t bytes f) → IsFront (bytes ++ more) (length bytes) (h.read ++ h.last ∷ [])
found_front t bytes more f h = record {
  bodies = h.bodies;
  rest = more;
  whole = ap (λ z. z ++ more) (h.split.whole ∙ append-nil (ended h.bodies));
  lines = h.split.lines;
  each = h.each;
  size = ap length (h.split.whole ∙ append-nil (ended h.bodies));
}

-- a fault that is known after these bytes
pub found_rejected : (t : TaskShape) (most : ℕ) (bytes more : List ℕ) (f : Fault) → IsFoundAt t bytes f → length bytes ≤ most → IsRejected t most (bytes ++ more) f.version f.line f.why
found_rejected t most bytes more f h le =
    let front = found_front t bytes more f h in
    let all = front_lines (bytes ++ more) (length bytes) (h.read ++ h.last ∷ []) front in
    let size : length (h.read ++ h.last ∷ []) ≡ length h.read + 1 = length-append h.read (h.last ∷ []) in
    let within : f.line ≤ length h.read + 1 = h.found.within in
    record {
      version_is = ((h.read ++ h.last ∷ []) ++ all.0, all.1, h.found.version ∙ names_more h.read h.last all.0);
      first = ((h.read ++ h.last ∷ []) ++ all.0, all.1, subst (λ z. ReadsAll t z (faulted f.line f.why)) (sym (append_assoc h.read (h.last ∷ []) all.0)) (h.found.reads all.0));
      known = inr (length bytes, (h.read ++ h.last ∷ [], front, le, record { fault = h.found.reads []; within = omega (arith, within, size) }));
    }

-- in fewer bytes the fault does not stand
pub found_last : (t : TaskShape) (bytes more : List ℕ) (f : Fault) (n : ℕ) (ls : List CertLine) → IsFoundAt t bytes f → IsFront (bytes ++ more) n ls → StandsIn t ls f.line f.why → length bytes ≤ n
found_last t bytes more f n ls h front s =
    elim (cases_lt n (length bytes)) [
      | inl lt ↦ absurd (less lt (front_within bytes more n ls front (omega (arith, lt))))
      | inr le ↦ le
    ]
  where
    less : n < length bytes → IsFront bytes n ls → ⊥
    less lt k = go (front_first bytes h.bodies [] (h.read ++ h.last ∷ []) n ls h.split h.each k)
      where
        go : (more : List (List ℕ)) × (w : List CertLine) × (h.bodies ≡ k.bodies ++ more) × (h.read ++ h.last ∷ [] ≡ ls ++ w) × AllZip IsReadAs more w → ⊥
        go ([], w, same, read, each) =
            let bodies : h.bodies ≡ k.bodies = same ∙ append-nil k.bodies in
            let whole : length bytes ≡ length (ended k.bodies) = ap length (h.split.whole ∙ append-nil (ended h.bodies)) ∙ ap (λ z. length (ended z)) bodies in
            let size : n ≡ length (ended k.bodies) = k.size in omega (arith, lt, whole, size)
        go (b ∷ more, w, same, read, each) = apart (last_apart h.read h.last ls w read)
          where
            apart : (ls ≡ h.read ++ h.last ∷ []) ⊎ ((v : List CertLine) × (h.read ≡ ls ++ v)) → ⊥
            apart (inl e) =
                let some = zip_length (b ∷ more) w each in
                let all : length (h.read ++ h.last ∷ []) ≡ length ls + length w = ap length read ∙ length-append ls w in
                let equal : length ls ≡ length (h.read ++ h.last ∷ []) = ap length e in omega (arith, some, all, equal)
            apart (inr (v, e)) = h.found.faultless ls v e f.line f.why s

-- more bytes came than may be taken, and no fault stands in those that are taken
pub read_too_long : (t : TaskShape) (most : ℕ) (bytes more : List ℕ) (p : Past) (pending : List ℕ) → IsRead t bytes p pending → length bytes ≡ most → most < length (bytes ++ more) → IsTooLong t most (bytes ++ more)
read_too_long t most bytes more p pending h size long = record {
  size = long;
  faultless = λ line why (n, (ls, front, le, s)). read_faultless t bytes p pending n ls line why h (front_within bytes more n ls front (omega (arith, le, size))) s;
}
