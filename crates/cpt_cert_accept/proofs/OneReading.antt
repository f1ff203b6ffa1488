-- a part of a tree is read in one way
use Rattle.std.proofs.Common.{◌≡◌, ℕ, ◌+◌, Bool, List, ◌∷◌, ◌++◌, refl, sym, ap, ◌∙◌, subst}
use Rattle.cpt_task.specs.Shape.{TaskShape}
use Rattle.cpt_tables.specs.declared.tables.Tables.{Tables}
use Rattle.cpt_sheet.specs.declared.data.Sheet.{Sheet}
use Rattle.cpt_sheet.specs.declared.data.Decision.{Decision}
use Rattle.cpt_sheet.specs.declared.data.NodeLine.{NodeLine}
use Rattle.cpt_sheet.specs.declared.data.NodeLine.TheVariants.{Child, Narrow, Branch}
use Rattle.cpt_calculus.specs.Rules.{narrowed}
use Rattle.cpt_calculus.specs.Decisions.{applied}
use Rattle.cpt_calculus.specs.Flaws.{children}
use Rattle.cpt_cert_form.specs.declared.forms.CertLine.{CertLine}
use Rattle.cpt_cert_accept.specs.Trees.{Part}
use Rattle.cpt_cert_accept.specs.Trees.Part.{node, worked, branches}
use Rattle.cpt_cert_accept.specs.Reading.{Outcome, After, Then, behind}
use Rattle.cpt_cert_accept.specs.Reading.Outcome.{went, faulted}
use Rattle.cpt_cert_accept.specs.Descent.{Reads}
use Rattle.cpt_cert_accept.specs.Descent.Reads.{left, whole, step, illegal, close, alive, branch, flawless, strange, none, child, inside, other, childless}

-- at most one outcome
abbrev pub IsOne : {A : Type 0} → (ℕ → List CertLine → Outcome A → Type 0) → Type 0
IsOne {A} R = (n : ℕ) (ls : List CertLine) (x y : Outcome A) → R n ls x → R n ls y → x ≡ y

pub one_then : {A B : Type 0} (first : ℕ → List CertLine → Outcome A → Type 0) (next : A → ℕ → List CertLine → Outcome B → Type 0) → IsOne first → ((a : A) → IsOne (next a)) → IsOne (Then first next)
one_then {A} {B} first next one more n ls x y h k = after h.0 h.2 (subst (λ z. After next z y) (sym (one n ls h.0 k.0 h.1 k.1)) k.2)
  where
    after : (z : Outcome A) → After next z x → After next z y → x ≡ y
    after (went a rest m) p q = more a m rest x y p q
    after (faulted line why) p q = p ∙ sym q

-- what is read behind a child's node
abbrev Rest : TaskShape → Tables → Bool → Sheet → Decision → List Decision → Outcome (List NodeLine) → Outcome (List NodeLine) → Type 0
Rest t b may_open s d ds (went one rest m) o = (x : Outcome (List NodeLine)) × Reads t b may_open (branches s ds) m rest x × (o ≡ behind (λ f. Child d ∷ (one ++ f)) x)
Rest t b may_open s d ds (faulted line why) o = ⊥

pub one_reading : (t : TaskShape) (b : Tables) (may_open : Bool) (part : Part) (n : ℕ) (ls : List CertLine) (o o' : Outcome (List NodeLine)) →
    Reads t b may_open part n ls o → Reads t b may_open part n ls o' → o ≡ o'
one_reading t b may_open r i l y z (left s1 n1 ls1 e1) (left s2 n2 ls2 e2) =
    refl
one_reading t b may_open r i l y z (left s1 n1 ls1 e1) (whole s2 n2 ls2 o2 f2 h2) =
    absurd (cc)
one_reading t b may_open r i l y z (whole s1 n1 ls1 o1 f1 h1) (left s2 n2 ls2 e2) =
    absurd (cc)
one_reading t b may_open r i l y z (whole s1 n1 ls1 o1 f1 h1) (whole s2 n2 ls2 o2 f2 h2) =
    one_reading t b may_open (worked s1) n1 ls1 o1 o2 h1 h2
one_reading t b may_open r i l y z (step s1 n1 rule1 ls1 x1 o1 legal1 h1 e1) (step s2 n2 rule2 ls2 x2 o2 legal2 h2 e2) =
    e1 ∙ ap (behind (λ f. Narrow rule1 ∷ f)) (one_reading t b may_open (worked (narrowed s1 rule1)) (n1 + 1) ls1 x1 x2 h1 h2) ∙ sym e2
one_reading t b may_open r i l y z (step s1 n1 rule1 ls1 x1 o1 legal1 h1 e1) (illegal s2 n2 rule2 ls2 o2 no2 e2) =
    absurd (no2 legal1)
one_reading t b may_open r i l y z (step s1 n1 rule1 ls1 x1 o1 legal1 h1 e1) (strange s2 n2 ls2 o2 f2 e2) =
    absurd (cc)
one_reading t b may_open r i l y z (illegal s1 n1 rule1 ls1 o1 no1 e1) (step s2 n2 rule2 ls2 x2 o2 legal2 h2 e2) =
    absurd (no1 legal2)
one_reading t b may_open r i l y z (illegal s1 n1 rule1 ls1 o1 no1 e1) (illegal s2 n2 rule2 ls2 o2 no2 e2) =
    e1 ∙ sym e2
one_reading t b may_open r i l y z (illegal s1 n1 rule1 ls1 o1 no1 e1) (strange s2 n2 ls2 o2 f2 e2) =
    absurd (cc)
one_reading t b may_open r i l y z (close s1 n1 ls1 o1 dead1 e1) (close s2 n2 ls2 o2 dead2 e2) =
    e1 ∙ sym e2
one_reading t b may_open r i l y z (close s1 n1 ls1 o1 dead1 e1) (alive s2 n2 ls2 o2 no2 e2) =
    absurd (no2 dead1)
one_reading t b may_open r i l y z (close s1 n1 ls1 o1 dead1 e1) (strange s2 n2 ls2 o2 f2 e2) =
    absurd (cc)
one_reading t b may_open r i l y z (alive s1 n1 ls1 o1 no1 e1) (close s2 n2 ls2 o2 dead2 e2) =
    absurd (no1 dead2)
one_reading t b may_open r i l y z (alive s1 n1 ls1 o1 no1 e1) (alive s2 n2 ls2 o2 no2 e2) =
    e1 ∙ sym e2
one_reading t b may_open r i l y z (alive s1 n1 ls1 o1 no1 e1) (strange s2 n2 ls2 o2 f2 e2) =
    absurd (cc)
one_reading t b may_open r i l y z (branch s1 n1 flaw1 ls1 x1 o1 live1 stands1 h1 e1) (branch s2 n2 flaw2 ls2 x2 o2 live2 stands2 h2 e2) =
    e1 ∙ ap (behind (λ f. Branch flaw1 ∷ f)) (one_reading t b may_open (branches s1 (children s1 flaw1)) (n1 + 1) ls1 x1 x2 h1 h2) ∙ sym e2
one_reading t b may_open r i l y z (branch s1 n1 flaw1 ls1 x1 o1 live1 stands1 h1 e1) (flawless s2 n2 flaw2 ls2 o2 no2 e2) =
    absurd (no2 live1 stands1)
one_reading t b may_open r i l y z (branch s1 n1 flaw1 ls1 x1 o1 live1 stands1 h1 e1) (strange s2 n2 ls2 o2 f2 e2) =
    absurd (cc)
one_reading t b may_open r i l y z (flawless s1 n1 flaw1 ls1 o1 no1 e1) (branch s2 n2 flaw2 ls2 x2 o2 live2 stands2 h2 e2) =
    absurd (no1 live2 stands2)
one_reading t b may_open r i l y z (flawless s1 n1 flaw1 ls1 o1 no1 e1) (flawless s2 n2 flaw2 ls2 o2 no2 e2) =
    e1 ∙ sym e2
one_reading t b may_open r i l y z (flawless s1 n1 flaw1 ls1 o1 no1 e1) (strange s2 n2 ls2 o2 f2 e2) =
    absurd (cc)
one_reading t b may_open r i l y z (strange s1 n1 ls1 o1 f1 e1) (step s2 n2 rule2 ls2 x2 o2 legal2 h2 e2) =
    absurd (cc)
one_reading t b may_open r i l y z (strange s1 n1 ls1 o1 f1 e1) (illegal s2 n2 rule2 ls2 o2 no2 e2) =
    absurd (cc)
one_reading t b may_open r i l y z (strange s1 n1 ls1 o1 f1 e1) (close s2 n2 ls2 o2 dead2 e2) =
    absurd (cc)
one_reading t b may_open r i l y z (strange s1 n1 ls1 o1 f1 e1) (alive s2 n2 ls2 o2 no2 e2) =
    absurd (cc)
one_reading t b may_open r i l y z (strange s1 n1 ls1 o1 f1 e1) (branch s2 n2 flaw2 ls2 x2 o2 live2 stands2 h2 e2) =
    absurd (cc)
one_reading t b may_open r i l y z (strange s1 n1 ls1 o1 f1 e1) (flawless s2 n2 flaw2 ls2 o2 no2 e2) =
    absurd (cc)
one_reading t b may_open r i l y z (strange s1 n1 ls1 o1 f1 e1) (strange s2 n2 ls2 o2 f2 e2) =
    e1 ∙ sym e2
one_reading t b may_open r i l y z (none s1 n1 ls1 o1 e1) (none s2 n2 ls2 o2 e2) =
    e1 ∙ sym e2
one_reading t b may_open r i l y z (child s1 n1 d1 c1 ds1 ls1 one1 rest1 m1 x1 o1 same1 h1 k1 e1) (child s2 n2 d2 c2 ds2 ls2 one2 rest2 m2 x2 o2 same2 h2 k2 e2) =
    let again : went one1 rest1 m1 ≡ went one2 rest2 m2 = one_reading t b may_open (node (applied t s1 d1)) (n1 + 1) ls1 (went one1 rest1 m1) (went one2 rest2 m2) h1 h2 in
    let later : Rest t b may_open s1 d1 ds1 (went one1 rest1 m1) o2 = subst (λ w. Rest t b may_open s1 d1 ds1 w o2) (sym again) (x2, k2, e2) in
    let last : x1 ≡ later.0 = one_reading t b may_open (branches s1 ds1) m1 rest1 x1 later.0 k1 later.1 in
    e1 ∙ ap (behind (λ f. Child d1 ∷ (one1 ++ f))) last ∙ sym later.2
one_reading t b may_open r i l y z (child s1 n1 d1 c1 ds1 ls1 one1 rest1 m1 x1 o1 same1 h1 k1 e1) (inside s2 n2 d2 c2 ds2 ls2 line2 why2 o2 same2 h2 e2) =
    let again : went one1 rest1 m1 ≡ faulted line2 why2 = one_reading t b may_open (node (applied t s1 d1)) (n1 + 1) ls1 (went one1 rest1 m1) (faulted line2 why2) h1 h2 in absurd (cc)
one_reading t b may_open r i l y z (child s1 n1 d1 c1 ds1 ls1 one1 rest1 m1 x1 o1 same1 h1 k1 e1) (other s2 n2 d2 c2 ds2 ls2 o2 no2 e2) =
    absurd (no2 same1)
one_reading t b may_open r i l y z (child s1 n1 d1 c1 ds1 ls1 one1 rest1 m1 x1 o1 same1 h1 k1 e1) (childless s2 n2 d2 ds2 ls2 o2 f2 e2) =
    absurd (cc)
one_reading t b may_open r i l y z (inside s1 n1 d1 c1 ds1 ls1 line1 why1 o1 same1 h1 e1) (child s2 n2 d2 c2 ds2 ls2 one2 rest2 m2 x2 o2 same2 h2 k2 e2) =
    let again : faulted line1 why1 ≡ went one2 rest2 m2 = one_reading t b may_open (node (applied t s1 d1)) (n1 + 1) ls1 (faulted line1 why1) (went one2 rest2 m2) h1 h2 in absurd (cc)
one_reading t b may_open r i l y z (inside s1 n1 d1 c1 ds1 ls1 line1 why1 o1 same1 h1 e1) (inside s2 n2 d2 c2 ds2 ls2 line2 why2 o2 same2 h2 e2) =
    e1 ∙ one_reading t b may_open (node (applied t s1 d1)) (n1 + 1) ls1 (faulted line1 why1) (faulted line2 why2) h1 h2 ∙ sym e2
one_reading t b may_open r i l y z (inside s1 n1 d1 c1 ds1 ls1 line1 why1 o1 same1 h1 e1) (other s2 n2 d2 c2 ds2 ls2 o2 no2 e2) =
    absurd (no2 same1)
one_reading t b may_open r i l y z (inside s1 n1 d1 c1 ds1 ls1 line1 why1 o1 same1 h1 e1) (childless s2 n2 d2 ds2 ls2 o2 f2 e2) =
    absurd (cc)
one_reading t b may_open r i l y z (other s1 n1 d1 c1 ds1 ls1 o1 no1 e1) (child s2 n2 d2 c2 ds2 ls2 one2 rest2 m2 x2 o2 same2 h2 k2 e2) =
    absurd (no1 same2)
one_reading t b may_open r i l y z (other s1 n1 d1 c1 ds1 ls1 o1 no1 e1) (inside s2 n2 d2 c2 ds2 ls2 line2 why2 o2 same2 h2 e2) =
    absurd (no1 same2)
one_reading t b may_open r i l y z (other s1 n1 d1 c1 ds1 ls1 o1 no1 e1) (other s2 n2 d2 c2 ds2 ls2 o2 no2 e2) =
    e1 ∙ sym e2
one_reading t b may_open r i l y z (other s1 n1 d1 c1 ds1 ls1 o1 no1 e1) (childless s2 n2 d2 ds2 ls2 o2 f2 e2) =
    absurd (cc)
one_reading t b may_open r i l y z (childless s1 n1 d1 ds1 ls1 o1 f1 e1) (child s2 n2 d2 c2 ds2 ls2 one2 rest2 m2 x2 o2 same2 h2 k2 e2) =
    absurd (cc)
one_reading t b may_open r i l y z (childless s1 n1 d1 ds1 ls1 o1 f1 e1) (inside s2 n2 d2 c2 ds2 ls2 line2 why2 o2 same2 h2 e2) =
    absurd (cc)
one_reading t b may_open r i l y z (childless s1 n1 d1 ds1 ls1 o1 f1 e1) (other s2 n2 d2 c2 ds2 ls2 o2 no2 e2) =
    absurd (cc)
one_reading t b may_open r i l y z (childless s1 n1 d1 ds1 ls1 o1 f1 e1) (childless s2 n2 d2 ds2 ls2 o2 f2 e2) =
    e1 ∙ sym e2
