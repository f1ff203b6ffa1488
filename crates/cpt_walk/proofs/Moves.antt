-- what a line of a tree does to what is still to be read of it
use Rattle.std.proofs.Common.{◌≡◌, ◌≢◌, ℕ, ◌+◌, true, false, Bool, List, [], ◌∷◌, ◌++◌, refl, sym, ap, ◌∙◌, append_assoc}
use Rattle.cpt_task.specs.Shape.{TaskShape}
use Rattle.cpt_tables.specs.declared.tables.Tables.{Tables}
use Rattle.cpt_sheet.specs.declared.data.Sheet.{Sheet}
use Rattle.cpt_sheet.specs.declared.data.Step.{Step}
use Rattle.cpt_sheet.specs.declared.data.Decision.{Decision}
use Rattle.cpt_sheet.specs.declared.data.Flaw.{Flaw}
use Rattle.cpt_sheet.specs.declared.data.NodeLine.{NodeLine}
use Rattle.cpt_sheet.specs.declared.data.NodeLine.TheVariants.{Child, Narrow, Close, Branch, OpenNode}
use Rattle.cpt_sheet.specs.Live.{IsDead, IsLive}
use Rattle.cpt_calculus.specs.Rules.{IsLegal, narrowed}
use Rattle.cpt_calculus.specs.Decisions.{applied}
use Rattle.cpt_calculus.specs.Flaws.{IsFlaw, children}
use Rattle.cpt_cert_form.specs.declared.forms.CertLine.{CertLine}
use Rattle.cpt_cert_form.specs.declared.forms.CertLine.TheVariants as lines
use Rattle.cpt_cert_accept.specs.declared.faults.Why.{Why}
use Rattle.cpt_cert_accept.specs.declared.faults.Why.TheVariants as whys
use Rattle.cpt_cert_accept.specs.Trees.{Part}
use Rattle.cpt_cert_accept.specs.Trees.Part.{node, worked, branches}
use Rattle.cpt_cert_accept.specs.Reading.{Outcome, After, behind}
use Rattle.cpt_cert_accept.specs.Reading.Outcome.{went, faulted}
use Rattle.cpt_cert_accept.specs.Descent.{Reads, begins_left, begins_work, begins_child}
use Rattle.cpt_cert_accept.specs.Descent.Reads.{left, whole, step, illegal, close, alive, branch, flawless, strange, none, child, inside, other, childless}
use Rattle.cpt_walk.specs.Walks.{ReadsParts}

module _ (t : TaskShape) (b : Tables) (mo : Bool) where
  -- what is read behind a part
  abbrev Later : List Part → List NodeLine → ℕ → List CertLine → Outcome (List NodeLine) → Type 0
  Later ps f m rest z = (y : Outcome (List NodeLine)) × ReadsParts t b mo ps m rest y × (z ≡ behind (λ g. f ++ g) y)

  behind_twice : (f : List NodeLine) (l : NodeLine) (y : Outcome (List NodeLine)) → behind (λ g. l ∷ g) (behind (λ g. f ++ g) y) ≡ behind (λ g. (l ∷ f) ++ g) y
  behind_twice f l (went g rest m) = refl
  behind_twice f l (faulted line why) = refl

  behind_both : (f g : List NodeLine) (l : NodeLine) (y : Outcome (List NodeLine)) → behind (λ h. l ∷ h) (behind (λ h. f ++ h) (behind (λ h. g ++ h) y)) ≡ behind (λ h. (l ∷ (f ++ g)) ++ h) y
  behind_both f g l (went h rest m) = ap (λ z. went (l ∷ z) rest m) (sym (append_assoc f g h))
  behind_both f g l (faulted line why) = refl

  -- a line that leads from one part to another
  lift : (p q : Part) (ps : List Part) (l : NodeLine) (n : ℕ) (ls : List CertLine) (x : Outcome (List NodeLine)) →
      ((z : Outcome (List NodeLine)) → Reads t b mo q (n + 1) ls z → Reads t b mo p n (lines.Node l ∷ ls) (behind (λ f. l ∷ f) z)) →
      ReadsParts t b mo (q ∷ ps) (n + 1) ls x → ReadsParts t b mo (p ∷ ps) n (lines.Node l ∷ ls) (behind (λ f. l ∷ f) x)
  lift p q ps l n ls x make (z, reads, after) = (behind (λ f. l ∷ f) z, make z reads, go z after)
    where
      go : (z : Outcome (List NodeLine)) → After (Later ps) z x → After (Later ps) (behind (λ f. l ∷ f) z) (behind (λ f. l ∷ f) x)
      go (went f rest m) (y, more, e) = (y, more, ap (behind (λ g. l ∷ g)) e ∙ behind_twice f l y)
      go (faulted line why) e = ap (behind (λ g. l ∷ g)) e

  pub legal_moves : (s : Sheet) (rule : Step) (ps : List Part) (n : ℕ) (ls : List CertLine) (x : Outcome (List NodeLine)) → IsLegal t b s rule →
      ReadsParts t b mo (worked (narrowed s rule) ∷ ps) (n + 1) ls x → ReadsParts t b mo (worked s ∷ ps) n (lines.Node (Narrow rule) ∷ ls) (behind (λ f. Narrow rule ∷ f) x)
  legal_moves s rule ps n ls x legal = lift (worked s) (worked (narrowed s rule)) ps (Narrow rule) n ls x (λ z h. step s n rule ls z (behind (λ f. Narrow rule ∷ f) z) legal h refl)

  pub branch_moves : (s : Sheet) (flaw : Flaw) (ps : List Part) (n : ℕ) (ls : List CertLine) (x : Outcome (List NodeLine)) → IsLive s → IsFlaw t s flaw →
      ReadsParts t b mo (branches s (children s flaw) ∷ ps) (n + 1) ls x → ReadsParts t b mo (worked s ∷ ps) n (lines.Node (Branch flaw) ∷ ls) (behind (λ f. Branch flaw ∷ f) x)
  branch_moves s flaw ps n ls x live stands = lift (worked s) (branches s (children s flaw)) ps (Branch flaw) n ls x (λ z h. branch s n flaw ls z (behind (λ f. Branch flaw ∷ f) z) live stands h refl)

  pub close_moves : (s : Sheet) (ps : List Part) (n : ℕ) (ls : List CertLine) (x : Outcome (List NodeLine)) → IsDead s →
      ReadsParts t b mo ps (n + 1) ls x → ReadsParts t b mo (worked s ∷ ps) n (lines.Node Close ∷ ls) (behind (λ f. Close ∷ f) x)
  close_moves s ps n ls x dead h = (went (Close ∷ []) ls (n + 1), close s n ls (went (Close ∷ []) ls (n + 1)) dead refl, (x, h, refl))

  pub open_moves : (s : Sheet) (ps : List Part) (n : ℕ) (ls : List CertLine) (x : Outcome (List NodeLine)) → mo ≡ true →
      ReadsParts t b mo ps (n + 1) ls x → ReadsParts t b mo (node s ∷ ps) n (lines.Node OpenNode ∷ ls) (behind (λ f. OpenNode ∷ f) x)
  open_moves s ps n ls x may h = (went (OpenNode ∷ []) ls (n + 1), left s n ls may, (x, h, refl))

  -- a node whose first line does not leave it open
  pub node_works : (s : Sheet) (ps : List Part) (n : ℕ) (ls : List CertLine) (x : Outcome (List NodeLine)) → begins_left mo ls ≡ false → ReadsParts t b mo (worked s ∷ ps) n ls x → ReadsParts t b mo (node s ∷ ps) n ls x
  node_works s ps n ls x e (z, reads, after) = (z, whole s n ls z e reads, after)

  pub child_moves : (s : Sheet) (d : Decision) (ds : List Decision) (ps : List Part) (n : ℕ) (ls : List CertLine) (x : Outcome (List NodeLine)) →
      ReadsParts t b mo (node (applied t s d) ∷ branches s ds ∷ ps) (n + 1) ls x → ReadsParts t b mo (branches s (d ∷ ds) ∷ ps) n (lines.Node (Child d) ∷ ls) (behind (λ f. Child d ∷ f) x)
  child_moves s d ds ps n ls x (z, reads, after) = go z reads after
    where
      last : (one : List NodeLine) (m : ℕ) (rest : List CertLine) (y z : Outcome (List NodeLine)) → Reads t b mo (node (applied t s d)) (n + 1) ls (went one rest m) → Reads t b mo (branches s ds) m rest z → After (Later ps) z y →
          x ≡ behind (λ g. one ++ g) y → ReadsParts t b mo (branches s (d ∷ ds) ∷ ps) n (lines.Node (Child d) ∷ ls) (behind (λ f. Child d ∷ f) x)
      last one m rest y (went f r k) first second (w, more, e) q = (
        went (Child d ∷ (one ++ f)) r k,
        child s n d d ds ls one rest m (went f r k) (went (Child d ∷ (one ++ f)) r k) refl first second refl,
        (w, more, ap (behind (λ g. Child d ∷ g)) (q ∙ ap (behind (λ g. one ++ g)) e) ∙ behind_both one f (Child d) w),
      )
      last one m rest y (faulted line why) first second e q =
          (faulted line why, child s n d d ds ls one rest m (faulted line why) (faulted line why) refl first second refl, ap (behind (λ g. Child d ∷ g)) (q ∙ ap (behind (λ g. one ++ g)) e))

      go : (z : Outcome (List NodeLine)) → Reads t b mo (node (applied t s d)) (n + 1) ls z → After (Later (branches s ds ∷ ps)) z x → ReadsParts t b mo (branches s (d ∷ ds) ∷ ps) n (lines.Node (Child d) ∷ ls) (behind (λ f. Child d ∷ f) x)
      go (went one rest m) first (y, (z, second, after), e) = last one m rest y z first second after e
      go (faulted line why) first e = (faulted line why, inside s n d d ds ls line why (faulted line why) refl first refl, ap (behind (λ g. Child d ∷ g)) e)

  -- no children are left
  skip_none : (s : Sheet) (ps : List Part) (n : ℕ) (ls : List CertLine) (x : Outcome (List NodeLine)) → ReadsParts t b mo ps n ls x → ReadsParts t b mo (branches s [] ∷ ps) n ls x
  skip_none s ps n ls x h = (went [] ls n, none s n ls (went [] ls n) refl, (x, h, nothing x))
    where
      nothing : (x : Outcome (List NodeLine)) → x ≡ behind (λ g. [] ++ g) x
      nothing (went f rest m) = refl
      nothing (faulted line why) = refl

  pub last_child_moves : (s : Sheet) (d : Decision) (ps : List Part) (n : ℕ) (ls : List CertLine) (x : Outcome (List NodeLine)) →
      ReadsParts t b mo (node (applied t s d) ∷ ps) (n + 1) ls x → ReadsParts t b mo (branches s (d ∷ []) ∷ ps) n (lines.Node (Child d) ∷ ls) (behind (λ f. Child d ∷ f) x)
  last_child_moves s d ps n ls x (z, reads, after) = child_moves s d [] ps n ls x (z, reads, go z after)
    where
      go : (z : Outcome (List NodeLine)) → After (Later ps) z x → After (Later (branches s [] ∷ ps)) z x
      go (went f rest m) (y, more, e) = (y, skip_none s ps m rest y more, e)
      go (faulted line why) e = e

  -- faults
  fails : (p : Part) (ps : List Part) (n : ℕ) (ls : List CertLine) (why : Why) → Reads t b mo p n ls (faulted n why) → ReadsParts t b mo (p ∷ ps) n ls (faulted n why)
  fails p ps n ls why h = (faulted n why, h, refl)

  pub illegal_fails : (s : Sheet) (rule : Step) (ps : List Part) (n : ℕ) (ls : List CertLine) → (IsLegal t b s rule → ⊥) → ReadsParts t b mo (worked s ∷ ps) n (lines.Node (Narrow rule) ∷ ls) (faulted n whys.Step)
  illegal_fails s rule ps n ls h = fails (worked s) ps n _ whys.Step (illegal s n rule ls (faulted n whys.Step) h refl)

  pub alive_fails : (s : Sheet) (ps : List Part) (n : ℕ) (ls : List CertLine) → (IsDead s → ⊥) → ReadsParts t b mo (worked s ∷ ps) n (lines.Node Close ∷ ls) (faulted n whys.Close)
  alive_fails s ps n ls h = fails (worked s) ps n _ whys.Close (alive s n ls (faulted n whys.Close) h refl)

  pub flawless_fails : (s : Sheet) (flaw : Flaw) (ps : List Part) (n : ℕ) (ls : List CertLine) → (IsLive s → IsFlaw t s flaw → ⊥) → ReadsParts t b mo (worked s ∷ ps) n (lines.Node (Branch flaw) ∷ ls) (faulted n whys.Branch)
  flawless_fails s flaw ps n ls h = fails (worked s) ps n _ whys.Branch (flawless s n flaw ls (faulted n whys.Branch) h refl)

  pub strange_fails : (s : Sheet) (ps : List Part) (n : ℕ) (ls : List CertLine) → begins_work ls ≡ false → ReadsParts t b mo (worked s ∷ ps) n ls (faulted n whys.Grammar)
  strange_fails s ps n ls h = fails (worked s) ps n ls whys.Grammar (strange s n ls (faulted n whys.Grammar) h refl)

  pub other_fails : (s : Sheet) (d e : Decision) (ds : List Decision) (ps : List Part) (n : ℕ) (ls : List CertLine) → e ≢ d → ReadsParts t b mo (branches s (d ∷ ds) ∷ ps) n (lines.Node (Child e) ∷ ls) (faulted n whys.Child)
  other_fails s d e ds ps n ls h = fails (branches s (d ∷ ds)) ps n _ whys.Child (other s n d e ds ls (faulted n whys.Child) h refl)

  pub childless_fails : (s : Sheet) (d : Decision) (ds : List Decision) (ps : List Part) (n : ℕ) (ls : List CertLine) → begins_child ls ≡ false → ReadsParts t b mo (branches s (d ∷ ds) ∷ ps) n ls (faulted n whys.Grammar)
  childless_fails s d ds ps n ls h = fails (branches s (d ∷ ds)) ps n ls whys.Grammar (childless s n d ds ls (faulted n whys.Grammar) h refl)
