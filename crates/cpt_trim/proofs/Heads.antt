-- the first two lines of a certificate, which no step line is
use Rattle.std.proofs.Common.{◌≡◌, ℕ, inl, List, [], ◌∷◌, ◌++◌, false, refl, sym, ap, ◌∙◌, subst, append_assoc}
use Rattle.std.specs.List.{AllZip}
use Rattle.std.proofs.lemmas.List.Elements.{All-cons, All-head, All-tail}
use Rattle.cpt_task.specs.Shape.{TaskShape}
use Rattle.cpt_line.specs.Lines.{split}
use Rattle.cpt_sheet.specs.declared.data.NodeLine.TheVariants.{Narrow}
use Rattle.cpt_cert_form.specs.declared.forms.Version.{Version}
use Rattle.cpt_cert_form.specs.declared.forms.Claim.{Claim}
use Rattle.cpt_cert_form.specs.declared.forms.CertLine.{CertLine}
use Rattle.cpt_cert_form.specs.declared.forms.CertLine.TheVariants as lines
use Rattle.cpt_cert_form.specs.Forms.{spelled, IsReadAs}
use Rattle.cpt_cert_form.specs.Text.{sections, text_of as spelled_text}
use Rattle.cpt_cert_read.specs.Lines.{HasNoEnd}
use Rattle.cpt_cert_read.specs.Texts.{ended}
use Rattle.cpt_cert_read.proofs.Meaning.{one_meaning}
use Rattle.cpt_cert_read.proofs.Splits.{split_once}
use Rattle.cpt_cert_accept.specs.Accepting.{IsInForm, Accepts}
use Rattle.cpt_cert_accept.proofs.Feedless.{feedless}
use Rattle.cpt_thin.specs.declared.fates.Fate.{Fate}
use Rattle.cpt_thin.specs.declared.fates.Fate.TheVariants.{Fixed, Kept, Dropped}
use Rattle.cpt_thin.specs.Fates.{is_dropped}
use Rattle.cpt_trim.specs.Fates.{Befits, left_of, text_of}
use Rattle.cpt_trim.specs.Without.{SaysStep}
use Rattle.cpt_trim.proofs.SplitLines.{split_is, left_split}

-- the lines of the version and of the claim
pub record Heads (text : List ℕ) (v : Version) (claim : Claim) : Type 0 where
  pub first : List ℕ
  pub second : List ℕ
  pub rest : List (List ℕ)
  pub bodies : (split text).0 ≡ first ∷ second ∷ rest
  pub version : IsReadAs first (lines.First v)
  pub claim_is : IsReadAs second (lines.Claimed claim)

two_lines : (one two rest : List ℕ) → HasNoEnd one → HasNoEnd two → (split ((one ++ 10 ∷ []) ++ ((two ++ 10 ∷ []) ++ rest))).0 ≡ one ∷ two ∷ (split rest).0
two_lines one two rest p q =
    let text = (one ++ 10 ∷ []) ++ ((two ++ 10 ∷ []) ++ rest) in
    let is = split_is text in
    let more = split_is rest in
    let bodies = (split rest).0 in
    let tail = (split rest).1 in
    let inner : (two ++ 10 ∷ []) ++ rest ≡ ((two ++ 10 ∷ []) ++ ended bodies) ++ tail = ap (λ z. (two ++ 10 ∷ []) ++ z) more.whole ∙ sym (append_assoc (two ++ 10 ∷ []) (ended bodies) tail) in
    let whole : text ≡ ended (one ∷ two ∷ bodies) ++ tail = ap (λ z. (one ++ 10 ∷ []) ++ z) inner ∙ sym (append_assoc (one ++ 10 ∷ []) ((two ++ 10 ∷ []) ++ ended bodies) tail) in
    (split_once (split text).0 (one ∷ two ∷ bodies) (split text).1 tail is.lines (All-cons HasNoEnd one (two ∷ bodies) p (All-cons HasNoEnd two bodies q more.lines)) is.last more.last (sym is.whole ∙ whole)).0

pub heads : (t : TaskShape) (text : List ℕ) (v : Version) (claim : Claim) → Accepts t text v claim → Heads text v claim
heads t text v claim (c, is) =
    let one : CertLine = lines.First v in
    let two : CertLine = lines.Claimed c.claim in
    let others : List CertLine = lines.Sizes _ _ ∷ (sections v c.claim c ++ lines.End ∷ []) in
    let form = All-head IsInForm one (two ∷ others) is.written in
    let also = All-head IsInForm two others (All-tail IsInForm one (two ∷ others) is.written) in
    let whole = two_lines (spelled one) (spelled two) (spelled_text others) (feedless one form.written) (feedless two also.written) in
    record {
      first = spelled one;
      second = spelled two;
      rest = (split (spelled_text others)).0;
      bodies = ap (λ z. (split z).0) is.spelled ∙ whole;
      version = inl (one, form, refl);
      claim_is = subst (λ z. IsReadAs (spelled two) (lines.Claimed z)) is.claims (inl (two, also, refl));
    }

no_version_step : (body : List ℕ) (v : Version) → IsReadAs body (lines.First v) → SaysStep body → ⊥
no_version_step body v h (step, k) = let e = one_meaning body (lines.First v) (lines.Node (Narrow step)) h k in cc

no_claim_step : (body : List ℕ) (claim : Claim) → IsReadAs body (lines.Claimed claim) → SaysStep body → ⊥
no_claim_step body claim h (step, k) = let e = one_meaning body (lines.Claimed claim) (lines.Node (Narrow step)) h k in cc

not_dropped : (f : Fate) (b : List ℕ) → Befits f b → (SaysStep b → ⊥) → is_dropped f ≡ false
not_dropped Fixed b h other = refl
not_dropped Kept b h other = refl
not_dropped Dropped b h other = absurd (other h)

-- they are not dropped
two_left : (fs : List Fate) (one two : List ℕ) (bs : List (List ℕ)) → AllZip Befits fs (one ∷ two ∷ bs) → (SaysStep one → ⊥) → (SaysStep two → ⊥) → (rest : List (List ℕ)) × (left_of fs (one ∷ two ∷ bs) ≡ one ∷ two ∷ rest)
two_left [] one two bs h p q = absurd h
two_left (f ∷ []) one two bs h p q = absurd h.1
two_left (f ∷ g ∷ fs) one two bs h p q =
    let first = not_dropped f one h.0 p in
    let second = not_dropped g two h.1.0 q in
    (left_of fs bs, rw (first, second) refl)

same_first : (a b c d : List ℕ) (xs ys : List (List ℕ)) → a ∷ b ∷ xs ≡ c ∷ d ∷ ys → (a ≡ c) × (b ≡ d)
same_first a b c d xs ys e = (cc, cc)

same_version : (v w : Version) → lines.First v ≡ lines.First w → v ≡ w
same_version v w e = cc

same_claim : (c d : Claim) → lines.Claimed c ≡ lines.Claimed d → c ≡ d
same_claim c d e = cc

-- without step lines a certificate has the same version and claim
pub same_heads : (t : TaskShape) (text : List ℕ) (fs : List Fate) (v w : Version) (claim also : Claim) → AllZip Befits fs (split text).0 → Accepts t text v claim → Accepts t (text_of fs (split text).0 (split text).1) w also → (v ≡ w) × (claim ≡ also)
same_heads t text fs v w claim also befit a b =
    let h = heads t text v claim a in
    let k = heads t (text_of fs (split text).0 (split text).1) w also b in
    let left = two_left fs h.first h.second h.rest (subst (AllZip Befits fs) h.bodies befit) (no_version_step h.first v h.version) (no_claim_step h.second claim h.claim_is) in
    let same : h.first ∷ h.second ∷ left.0 ≡ k.first ∷ k.second ∷ k.rest = sym left.1 ∙ sym (ap (left_of fs) h.bodies) ∙ sym (left_split fs text).0 ∙ k.bodies in
    let both = same_first h.first h.second k.first k.second left.0 k.rest same in (
      same_version v w (one_meaning k.first (lines.First v) (lines.First w) (subst (λ z. IsReadAs z (lines.First v)) both.0 h.version) k.version),
      same_claim claim also (one_meaning k.second (lines.Claimed claim) (lines.Claimed also) (subst (λ z. IsReadAs z (lines.Claimed claim)) both.1 h.claim_is) k.claim_is),
    )
