-- one line more behind lines in which no fault stands
use Rattle.std.proofs.Common.{◌≡◌, ℕ, ◌+◌, ◌<◌, ◌≤◌, ◌⊎◌, inl, inr, List, [], ◌∷◌, ◌++◌, length, Option, None, Some, refl, sym, ◌∙◌, subst, arith, append_assoc, append-nil, length-append}
use Rattle.cpt_task.specs.Shape.{TaskShape}
use Rattle.cpt_cert_form.specs.declared.forms.Version.{Version}
use Rattle.cpt_cert_form.specs.declared.forms.Claim.{Claim}
use Rattle.cpt_cert_form.specs.declared.forms.CertLine.{CertLine}
use Rattle.cpt_cert_form.specs.declared.forms.CertLine.TheVariants as lines
use Rattle.cpt_cert_accept.specs.declared.faults.Why.{Why}
use Rattle.cpt_cert_accept.specs.declared.faults.Why.TheVariants as whys
use Rattle.cpt_cert_accept.specs.Reading.{Outcome}
use Rattle.cpt_cert_accept.specs.Reading.Outcome.{went, faulted}
use Rattle.cpt_cert_accept.specs.Descent.{ReadsAll}
use Rattle.cpt_cert_accept.proofs.OneOutcome.{one_outcome}
use Rattle.cpt_sections.specs.declared.section.Stage.{Stage}
use Rattle.cpt_sections.specs.declared.section.Stage.TheVariants as stages
use Rattle.cpt_cert_accept.specs.Texts.{brings_in}
use Rattle.cpt_cert_accept.proofs.BringBytes.{brings_in_append}
use Rattle.cpt_sections.specs.Stages.{LeftOf, IsStage, HasFewAt, version_in, version_at, version_behind, Advances, Fails, Ends}
use Rattle.cpt_check.specs.declared.past.Past.{Past}
use Rattle.cpt_check.specs.Judging.{StandsIn}
use Rattle.cpt_check.specs.Progress.{IsFaultless, IsPast, IsFoundIn}

-- a front of lines and one more is a front of the lines, or all
pub last_apart : (xs : List CertLine) (x : CertLine) (front more : List CertLine) → xs ++ x ∷ [] ≡ front ++ more → (front ≡ xs ++ x ∷ []) ⊎ ((w : List CertLine) × (xs ≡ front ++ w))
last_apart xs x [] more e = inr (xs, refl)
last_apart [] x (b ∷ []) more e = let k : x ∷ [] ≡ b ∷ more = e in inl (let h : x ≡ b = cc in cc)
last_apart [] x (b ∷ c ∷ bs) more e = let k : x ∷ [] ≡ b ∷ c ∷ (bs ++ more) = e in absurd (let h : [] ≡ c ∷ (bs ++ more) = cc in cc)
last_apart (y ∷ ys) x (b ∷ bs) more e = go (last_apart ys x bs more (tails e))
  where
    tails : y ∷ (ys ++ x ∷ []) ≡ b ∷ (bs ++ more) → ys ++ x ∷ [] ≡ bs ++ more
    tails e = cc

    heads : y ∷ (ys ++ x ∷ []) ≡ b ∷ (bs ++ more) → y ≡ b
    heads e = cc

    go : (bs ≡ ys ++ x ∷ []) ⊎ ((w : List CertLine) × (ys ≡ bs ++ w)) → (b ∷ bs ≡ y ∷ (ys ++ x ∷ [])) ⊎ ((w : List CertLine) × (y ∷ ys ≡ b ∷ (bs ++ w)))
    go (inl k) = let h = heads e in inl cc
    go (inr (w, k)) = let h = heads e in inr (w, cc)

-- the first line alone names the version
pub first_names : (r : CertLine) (a b : List CertLine) → version_in (r ∷ a) ≡ version_in (r ∷ b)
first_names (lines.First v) a b = refl
first_names _ a b = refl

-- the first of some lines in which no fault stands names a version
named : (t : TaskShape) (r : CertLine) (rs : List CertLine) → IsFaultless t (r ∷ rs) → (v : Version) × (version_in (r ∷ rs) ≡ Some v)
named t (lines.First v) rs h = (v, refl)
named t r rs h = absurd (h (r ∷ rs) [] (sym (append-nil (r ∷ rs))) 1 whys.Grammar (record { fault = (faulted 1 whys.Grammar, refl, refl); within = omega arith }))

-- the version that lines name, where the stage knows it
pub version_more : (t : TaskShape) (s : Stage) (read : List CertLine) (line : CertLine) (more : List CertLine) → version_at s ≡ version_in read → IsFaultless t read → version_in (read ++ line ∷ more) ≡ version_behind s line
version_more t stages.First [] line more e h = first_names line more []
version_more t (stages.Claimed v) [] line more e h = absurd (cc)
version_more t (stages.Sized v c) [] line more e h = absurd (cc)
version_more t (stages.Within v c s) [] line more e h = absurd (cc)
version_more t stages.First (r ∷ rs) line more e h = let n = named t r rs h in let k = n.1 in absurd (cc)
version_more t (stages.Claimed v) (r ∷ rs) line more e h = first_names r (rs ++ line ∷ more) rs ∙ sym e
version_more t (stages.Sized v c) (r ∷ rs) line more e h = first_names r (rs ++ line ∷ more) rs ∙ sym e
version_more t (stages.Within v c s) (r ∷ rs) line more e h = first_names r (rs ++ line ∷ more) rs ∙ sym e

-- the lines are read whole, or a fault comes behind them
abbrev IsRead : TaskShape → List CertLine → Type 0
IsRead t ls = (x : Outcome (Version × Claim)) × ReadsAll t ls x × ((line : ℕ) (why : Why) → x ≡ faulted line why → length ls < line)

ends_read : (t : TaskShape) (s : Stage) (n : ℕ) (ls : List CertLine) (o : Option (Version × Claim)) → Ends t s n o → n ≡ length ls + 1 → ((x : Outcome (Version × Claim)) → LeftOf t s n [] x → ReadsAll t ls x) → IsRead t ls
ends_read t s n ls None ends e reads = (faulted n whys.Grammar, reads (faulted n whys.Grammar) (ends [] tt), λ line why k. let same = line_of n line whys.Grammar why k in omega (arith, same, e))
  where
    line_of : (n line : ℕ) (w why : Why) → let x : Outcome (Version × Claim) = faulted n w in x ≡ faulted line why → n ≡ line
    line_of n line w why k = cc
ends_read t s n ls (Some claimed) ends e reads = (went claimed [] n, reads (went claimed [] n) ends.0, λ line why k. absurd (cc))

-- no fault stands in lines that are read whole
stands_not : (t : TaskShape) (ls : List CertLine) (line : ℕ) (why : Why) → IsRead t ls → StandsIn t ls line why → ⊥
stands_not t ls line why h s =
    let same = one_outcome t ls h.0 (faulted line why) h.1 s.fault in let behind = h.2 line why same in let within : line ≤ length ls = s.within in omega (arith, behind, within)

faultless_more : (t : TaskShape) (read : List CertLine) (line : CertLine) → IsFaultless t read → IsRead t (read ++ line ∷ []) → IsFaultless t (read ++ line ∷ [])
faultless_more t read line h all front more e at why s = go (last_apart read line front more e)
  where
    go : (front ≡ read ++ line ∷ []) ⊎ ((w : List CertLine) × (read ≡ front ++ w)) → ⊥
    go (inl k) = stands_not t (read ++ line ∷ []) at why all (subst (λ z. StandsIn t z at why) k s)
    go (inr (w, k)) = h front w k at why s

-- nothing is read
pub nothing_past : (t : TaskShape) → IsPast t [] (record { stage = stages.First; count = 0 })
nothing_past t = record {
  count = refl;
  stage = tt;
  version = refl;
  few = tt;
  reads = λ ls x h. h;
  faultless = λ front more e line why s. go front more e line why s;
}
  where
    go : (front more : List CertLine) → [] ≡ front ++ more → (line : ℕ) (why : Why) → StandsIn t front line why → ⊥
    go [] more e line why s = stands_not t [] line why (faulted 1 whys.Grammar, (faulted 1 whys.Grammar, refl, refl), λ at w k. let same = line_of 1 at whys.Grammar w k in omega (arith, same)) s
      where
        line_of : (n line : ℕ) (w why : Why) → let x : Outcome (Version × Claim) = faulted n w in x ≡ faulted line why → n ≡ line
        line_of n line w why k = cc
    go (f ∷ front) more e line why s = absurd (cc)

-- a line led on
pub past_more : (t : TaskShape) (read : List CertLine) (p : Past) (line : CertLine) (new : Stage) (o : Option (Version × Claim)) →
    IsPast t read p → Advances t p.stage (p.count + 1) line new → Ends t new (p.count + 1 + 1) o → IsPast t (read ++ line ∷ []) (record { stage = new; count = p.count + 1 })
past_more t read p line new o h a ends =
    let size : length (read ++ line ∷ []) ≡ length read + 1 = length-append read (line ∷ []) in
    let count : p.count ≡ length read = h.count in
    let n : p.count + 1 + 1 ≡ length (read ++ line ∷ []) + 1 = omega (arith, size, count) in
    let here : p.count + 1 ≡ length read + 1 = omega (arith, count) in
    let reads : (ls : List CertLine) (x : Outcome (Version × Claim)) → LeftOf t new (p.count + 1 + 1) ls x → ReadsAll t ((read ++ line ∷ []) ++ ls) x =
    λ ls x k. subst (λ z. ReadsAll t z x) (sym (append_assoc read (line ∷ []) ls)) (h.reads (line ∷ ls) x (subst (λ z. LeftOf t p.stage z (line ∷ ls) x) here (a.reads ls x k))) in
    record {
      count = omega (arith, size, count);
      stage = subst (λ z. IsStage t z new) n a.stage;
      few = subst (λ k. HasFewAt k new) (let e = brings_in_append read (line ∷ []) in omega (arith, e)) (a.few (brings_in read) h.few);
      version = a.version ∙ sym (version_more t p.stage read line [] h.version h.faultless);
      reads = λ ls x k. reads ls x (subst (λ z. LeftOf t new z ls x) (sym n) k);
      faultless = faultless_more t read line h.faultless (ends_read t new (p.count + 1 + 1) (read ++ line ∷ []) o ends n (λ x k. subst (λ z. ReadsAll t z x) (append-nil (read ++ line ∷ [])) (reads [] x k)));
    }

-- a line is at fault
pub past_fault : (t : TaskShape) (read : List CertLine) (p : Past) (line : CertLine) (at : ℕ) (why : Why) →
    IsPast t read p → Fails t p.stage (p.count + 1) line at why → IsFoundIn t read line (record { version = version_at p.stage; line = at; why = why })
past_fault t read p line at why h f =
    let count : p.count ≡ length read = h.count in
    let here : p.count + 1 ≡ length read + 1 = omega (arith, count) in
    let within : at ≤ p.count + 1 = f.within in
    record {
      version = f.version ∙ sym (version_more t p.stage read line [] h.version h.faultless);
      within = omega (arith, within, here);
      reads = λ ls. h.reads (line ∷ ls) (faulted at why) (subst (λ z. LeftOf t p.stage z (line ∷ ls) (faulted at why)) here (f.reads ls));
      faultless = h.faultless;
    }
