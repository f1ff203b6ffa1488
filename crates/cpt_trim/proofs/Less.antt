-- what is left of a certificate
use Rattle.std.proofs.Common.{◌≡◌, ℕ, ◌+◌, ◌≤◌, ◌^◌, Bor, IfOk, Result, Ok, Err, Vec, map, List, [], ◌∷◌, ◌++◌, length, All, false, Option, Some, unwrap_or, sym, ap, ◌∙◌, subst, arith, length-append}
use Rattle.std.specs.Prelude.{slice_get, slice_set}
use Rattle.std.specs.List.{AllZip}
use Rattle.std.proofs.lemmas.List.Elements.{All-weaker}
use Rattle.std.specs.Global.{Global}
use Rattle.cpt_task.specs.Shape.{TaskShape, InBounds}
use Rattle.cpt_line.specs.Lines.{split}
use Rattle.cpt_cert_form.specs.declared.forms.Version.{Version}
use Rattle.cpt_cert_form.specs.declared.forms.Claim.{Claim}
use Rattle.cpt_cert_read.specs.Texts.{ended}
use Rattle.cpt_cert_accept.specs.declared.faults.Why.{Why}
use Rattle.cpt_cert_accept.specs.Accepting.{Accepts}
use Rattle.cpt_cert_accept.proofs.OneText.{no_fault}
use Rattle.cpt_check.specs.declared.judged.Judged.{Judged}
use Rattle.cpt_check.specs.declared.judged.Ruling.TheVariants.{Accepted, Rejected}
use Rattle.cpt_check.specs.Judging.{IsRejected, RulesOf}
use Rattle.cpt_thin.specs.declared.fates.Fate.{Fate}
use Rattle.cpt_thin.specs.declared.fates.Fate.TheVariants.{Dropped}
use Rattle.cpt_cert_read.specs.Lines.{HasNoEnd}
use Rattle.cpt_thin.specs.Fates.{is_dropped}
use Rattle.cpt_trim.specs.Fates.{AreFound, AreTold, Befits, IsNeeded, left_of, numbers_of, text_of}
use Rattle.cpt_trim.specs.Trimming.{IsLess, IsTrimmed}
use Rattle.cpt_trim.specs.Without.{IsAccepted, IsIrreducible, IsStepLine, without, without_from}
use Rattle.cpt_trim.proofs.FateLists.{IsOneLess, IsStepAt, all_left, befit_length, left_without, numbers_increase, numbers_step, one_less}
use Rattle.cpt_trim.proofs.Heads.{same_heads}
use Rattle.cpt_trim.proofs.SplitLines.{left_split, split_is}

-- a text that is accepted is a certificate
pub accepted_is : (t : TaskShape) (most : ℕ) (text : List ℕ) (j : Judged) (claim : Claim) → j.ruling ≡ Accepted claim → RulesOf t most text j.version j.ruling → IsAccepted t text
accepted_is t most text j claim e h = let k = subst (RulesOf t most text j.version) e h in (k.named, claim, k.accepts)

-- and one that is rejected is none
pub rejected_is : (t : TaskShape) (most : ℕ) (text : List ℕ) (j : Judged) (line : ℕ) (why : Why) → InBounds t → length text ≤ 2 ^ 36 → j.ruling ≡ Rejected line why → RulesOf t most text j.version j.ruling → IsAccepted t text → ⊥
rejected_is t most text j line why inside short e h (v, claim, accepts) = let k = subst (RulesOf t most text j.version) e h in no_fault t text v claim line why inside short accepts k.first

-- the text without the lines that are dropped
without_dropped : (text : List ℕ) (fs : List Fate) → AllZip Befits fs (split text).0 → without text (numbers_of 1 fs) ≡ text_of fs (split text).0 (split text).1
without_dropped text fs h = ap (λ z. ended z ++ (split text).1) (left_without 1 fs (split text).0 (befit_length fs (split text).0 h))

-- the text of the lines that are left, without one more of them
without_one : (text : List ℕ) (fs : List Fate) (number place : ℕ) → number ≡ place + 1 → (h : IsOneLess fs (split text).0 (without_from 1 ((1 + place) ∷ []) (left_of fs (split text).0))) → without (text_of fs (split text).0 (split text).1) (number ∷ []) ≡ text_of (slice_set fs h.place Dropped) (split text).0 (split text).1
without_one text fs number place e h =
    let same = left_split fs text in
    let at : number ≡ 1 + place = omega (arith, e) in
    ap (λ z. ended (without_from 1 (number ∷ []) z) ++ (split (text_of fs (split text).0 (split text).1)).1) same.0
    ∙ ap (λ z. ended (without_from 1 (number ∷ []) (left_of fs (split text).0)) ++ z) same.1
    ∙ ap (λ z. ended (without_from 1 (z ∷ []) (left_of fs (split text).0)) ++ (split text).1) at
    ∙ ap (λ z. ended z ++ (split text).1) h.same

least : (t : TaskShape) (text : List ℕ) (fs : List Fate) → AllZip Befits fs (split text).0 → ((place : ℕ) → IsNeeded t fs (split text).0 (split text).1 place) → (number : ℕ) → IsStepLine (text_of fs (split text).0 (split text).1) number → IsAccepted t (without (text_of fs (split text).0 (split text).1) (number ∷ [])) → ⊥
least t text fs befit needed number h accepted =
    let at : slice_get (left_of fs (split text).0) h.place ≡ Some h.body = ap (λ z. slice_get z h.place) (sym (left_split fs text).0) ∙ h.line in
    let less = one_less 1 h.place fs (split text).0 h.body befit at h.step in
    needed less.place less.kept (subst (IsAccepted t) (without_one text fs number h.place h.number_is less) accepted)

step_line : (text : List ℕ) (n : ℕ) → IsStepAt (split text).0 1 n → IsStepLine text n
step_line text n h = let e = h.number_is in record { place = h.place; number_is = omega (arith, e); body = h.body; line = h.line; step = h.step }

less_of : (t : TaskShape) (text : List ℕ) (fs : List Fate) → AreTold t fs (split text).0 (split text).1 → ((place : ℕ) → IsNeeded t fs (split text).0 (split text).1 place) → IsLess t text (numbers_of 1 fs)
less_of t text fs told needed =
    let same = without_dropped text fs told.befit in
    record {
      increasing = numbers_increase 1 fs;
      steps = All-weaker (IsStepAt (split text).0 1) (IsStepLine text) (λ n h. step_line text n h) (numbers_of 1 fs) (numbers_step 1 fs (split text).0 told.befit);
      irreducible = subst (IsIrreducible t) (sym same) (record { accepted = told.accepted; least = least t text fs told.befit needed });
      same = λ v w claim also a b. same_heads t text fs v w claim also told.befit a (subst (λ z. Accepts t z w also) same b);
    }

-- what is left where each line that is left is needed
less_told : (t : TaskShape) (text : List ℕ) (bodies : List (List ℕ)) (tail : List ℕ) (fs : List Fate) (numbers : List ℕ) → bodies ≡ (split text).0 → tail ≡ (split text).1 → AreTold t fs bodies tail → ((place : ℕ) → IsNeeded t fs bodies tail place) → numbers ≡ numbers_of 1 fs → IsLess t text numbers
less_told t text bodies tail fs numbers one two told needed e =
    subst (IsLess t text) (sym e) (less_of t text fs (subst (AreTold t fs (split text).0) two (subst (λ z. AreTold t fs z tail) one told)) (λ place. subst (λ z. IsNeeded t fs (split text).0 z place) two (subst (λ z. IsNeeded t fs z tail place) one (needed place))))

-- at first no line is dropped, and the text is the one that is trimmed
told_first : (t : TaskShape) (text : List ℕ) (bodies : List (List ℕ)) (tail : List ℕ) (fs : List Fate) → (bodies, tail) ≡ split text → AllZip Befits fs bodies → All (λ f. is_dropped f ≡ false) fs → IsAccepted t text → AreTold t fs bodies tail
told_first t text bodies tail fs e befit left accepted =
    let same : text_of fs bodies tail ≡ text = ap (λ z. ended z ++ tail) (all_left fs bodies (befit_length fs bodies befit) left) ∙ ap (λ (z : List (List ℕ) × List ℕ). ended z.0 ++ z.1) e ∙ sym (split_is text).whole in
    record { befit = befit; accepted = subst (IsAccepted t) (sym same) accepted }

parts_size : (text : List ℕ) (bodies : List (List ℕ)) (tail : List ℕ) → (bodies, tail) ≡ split text → length (ended bodies) + length tail ≡ length text
parts_size text bodies tail e = sym (length-append (ended bodies) tail) ∙ ap (λ (z : List (List ℕ) × List ℕ). length (ended z.0 ++ z.1)) e ∙ ap length (sym (split_is text).whole)

-- the numbers of the lines that are dropped at last
less_parts : (t : TaskShape) (text : List ℕ) (bodies : List (List ℕ)) (tail : List ℕ) (fs : List Fate) (numbers : List ℕ) → (bodies, tail) ≡ split text → AreTold t fs bodies tail → ((place : ℕ) → IsNeeded t fs bodies tail place) → numbers ≡ numbers_of 1 fs → IsLess t text numbers
less_parts t text bodies tail fs numbers e = less_told t text bodies tail fs numbers (ap (λ (z : List (List ℕ) × List ℕ). z.0) e) (ap (λ (z : List (List ℕ) × List ℕ). z.1) e)

-- a certificate that is trimmed
pub trimmed_of : (t : TaskShape) (text : List ℕ) (j : Judged) (claim : Claim) (version : Version) (numbers : List ℕ) → j.ruling ≡ Accepted claim → RulesOf t 16777216 text j.version j.ruling → ((named : Version) → j.version ≡ Some named → version ≡ named) → IsLess t text numbers → IsTrimmed t text version claim numbers
trimmed_of t text j claim version numbers e h named less =
    let k = subst (RulesOf t 16777216 text j.version) e h in
    let same : version ≡ k.named = named k.named k.version_is in
    let whole : Accepts t text version claim = subst (λ z. Accepts t text z claim) (sym same) k.accepts in
    let left = less.irreducible.accepted in
    let both = less.same version left.0 claim left.1 whole left.2 in
    record {
      whole = whole;
      increasing = less.increasing;
      steps = less.steps;
      accepts = subst (λ z. Accepts t (without text numbers) z claim) (sym both.0) (subst (Accepts t (without text numbers) left.0) (sym both.1) left.2);
      irreducible = less.irreducible;
    }

-- a text that is no certificate
pub rejected_of : (t : TaskShape) (text : List ℕ) (j : Judged) (line : ℕ) (why : Why) → j.ruling ≡ Rejected line why → RulesOf t 16777216 text j.version j.ruling → IsRejected t 16777216 text j.version line why
rejected_of t text j line why e h = subst (RulesOf t 16777216 text j.version) e h

-- the text of the lines that are left at last
left_parts : (text : List ℕ) (bodies : List (List ℕ)) (tail : List ℕ) (fs : List Fate) (numbers left : List ℕ) → (bodies, tail) ≡ split text → AllZip Befits fs bodies → numbers ≡ numbers_of 1 fs → left ≡ text_of fs bodies tail → left ≡ without text numbers
left_parts text bodies tail fs numbers left e befit are is =
    let one : bodies ≡ (split text).0 = ap (λ (z : List (List ℕ) × List ℕ). z.0) e in
    let two : tail ≡ (split text).1 = ap (λ (z : List (List ℕ) × List ℕ). z.1) e in
    is ∙ ap (λ z. text_of fs z tail) one ∙ ap (text_of fs (split text).0) two ∙ sym (without_dropped text fs (subst (AllZip Befits fs) one befit)) ∙ ap (without text) (sym are)

-- what is known of a version that is named
pub named_version : (o : Option Version) (d version named : Version) → version ≡ unwrap_or o d → o ≡ Some named → version ≡ named
named_version o d version named e some = e ∙ ap (λ z. unwrap_or z d) some

module _ (t : TaskShape) (text : List ℕ) (bodies other : List (Bor (List ℕ))) (tail : List ℕ) (same : other ≡ bodies) (e : (map (λ (b : Bor (List ℕ)). b.now) bodies, tail) ≡ split text) where
  -- at first, of lines that are taken twice
  pub told_at : (one : List (Bor (List ℕ))) (fs : List Fate) → one ≡ bodies → AllZip Befits fs (map (λ (b : Bor (List ℕ)). b.now) one) → All (λ f. is_dropped f ≡ false) fs → IsAccepted t text → AreTold t fs (map (λ (b : Bor (List ℕ)). b.now) other) tail
  told_at one fs f befit left accepted =
      subst (λ (z : List (Bor (List ℕ))). AreTold t fs (map (λ (b : Bor (List ℕ)). b.now) z) tail) (sym same)
      (told_first t text (map (λ (b : Bor (List ℕ)). b.now) bodies) tail fs e (subst (λ (z : List (Bor (List ℕ))). AllZip Befits fs (map (λ (b : Bor (List ℕ)). b.now) z)) f befit) left accepted)

  pub ends_at : All HasNoEnd (map (λ (b : Bor (List ℕ)). b.now) other) × HasNoEnd tail
  ends_at =
      let is = split_is text in
      subst (λ (z : List (Bor (List ℕ))). All HasNoEnd (map (λ (b : Bor (List ℕ)). b.now) z) × HasNoEnd tail) (sym same)
      (subst (λ (z : List (List ℕ) × List ℕ). All HasNoEnd z.0 × HasNoEnd z.1) (sym e) (is.lines, is.last))

  pub size_at : length text ≤ 16777216 → length (ended (map (λ (b : Bor (List ℕ)). b.now) other)) + length tail ≤ 16777216
  size_at size =
      let parts = parts_size text (map (λ (b : Bor (List ℕ)). b.now) bodies) tail e in
      subst (λ (z : List (Bor (List ℕ))). length (ended (map (λ (b : Bor (List ℕ)). b.now) z)) + length tail ≤ 16777216) (sym same) (omega (arith, size, parts))

  found_here : (numbers left : List ℕ) → AreFound t (map (λ (b : Bor (List ℕ)). b.now) other) tail numbers left → AreFound t (map (λ (b : Bor (List ℕ)). b.now) bodies) tail numbers left
  found_here numbers left h = subst (λ (z : List (Bor (List ℕ))). AreFound t (map (λ (b : Bor (List ℕ)). b.now) z) tail numbers left) same h

  -- and at last
  pub less_found : {E : Type 0} (r : Result (List ℕ × Vec ℕ Global) E) → IfOk r (λ found. AreFound t (map (λ (b : Bor (List ℕ)). b.now) other) tail found.0 found.1.items) → IfOk r (λ found. IsLess t text found.0)
  less_found (Ok (numbers, left)) h =
      let k = found_here numbers left.items h in less_parts t text (map (λ (b : Bor (List ℕ)). b.now) bodies) tail k.fates numbers e k.told k.needed k.numbers_are
  less_found (Err x) h = tt

  pub left_found : {E : Type 0} (r : Result (List ℕ × Vec ℕ Global) E) → IfOk r (λ found. AreFound t (map (λ (b : Bor (List ℕ)). b.now) other) tail found.0 found.1.items) → IfOk r (λ found. found.1.items ≡ without text found.0)
  left_found (Ok (numbers, left)) h =
      let k = found_here numbers left.items h in left_parts text (map (λ (b : Bor (List ℕ)). b.now) bodies) tail k.fates numbers left.items e k.told.befit k.numbers_are k.left_is
  left_found (Err x) h = tt
