-- each part of a tree is read to an outcome
use Rattle.std.proofs.Common.{◌≡◌, ℕ, zero, suc, ◌+◌, ◌*◌, ◌<◌, ◌≤◌, ◌⊎◌, inl, inr, Bool, true, false, List, [], ◌∷◌, ◌++◌, length, refl, sym, subst, arith}
use Rattle.cpt_task.specs.Shape.{TaskShape}
use Rattle.cpt_tables.specs.declared.tables.Tables.{Tables}
use Rattle.cpt_sheet.specs.declared.data.Sheet.{Sheet}
use Rattle.cpt_sheet.specs.declared.data.Step.{Step}
use Rattle.cpt_sheet.specs.declared.data.Flaw.{Flaw}
use Rattle.cpt_sheet.specs.declared.data.Decision.{Decision}
use Rattle.cpt_sheet.specs.declared.data.NodeLine.{NodeLine}
use Rattle.cpt_sheet.specs.declared.data.NodeLine.TheVariants.{Child, Narrow, Close, Branch, OpenNode}
use Rattle.cpt_sheet.specs.Live.{IsDead, IsLive}
use Rattle.cpt_calculus.specs.Rules.{IsLegal, narrowed}
use Rattle.cpt_calculus.specs.Decisions.{applied}
use Rattle.cpt_calculus.specs.Flaws.{IsFlaw, children}
use Rattle.cpt_cert_form.specs.declared.forms.CertLine.{CertLine}
use Rattle.cpt_cert_form.specs.declared.forms.CertLine.TheVariants as lines
use Rattle.cpt_cert_accept.specs.declared.faults.Why.TheVariants as whys
use Rattle.cpt_cert_accept.specs.Trees.{Part}
use Rattle.cpt_cert_accept.specs.Trees.Part.{node, worked, branches}
use Rattle.cpt_cert_accept.specs.Reading.{Outcome, behind}
use Rattle.cpt_cert_accept.specs.Reading.Outcome.{went, faulted}
use Rattle.cpt_cert_accept.specs.Descent.{Reads, begins_left}
use Rattle.cpt_decidable.specs.Decidable.{IsDecidable}
use Rattle.cpt_decidable.proofs.Sheets.{is_dead, is_live, is_flaw, is_decision}
use Rattle.cpt_decidable.proofs.Steps.{is_legal}

-- where lines go on, no more are left than there were
abbrev pub Lessens : List CertLine → Outcome (List NodeLine) → Type 0
Lessens ls (went f rest m) = length rest ≤ length ls
Lessens ls (faulted line why) = Unit {0}

-- how a part is read, with no more lines left than there were
abbrev IsRead : TaskShape → Tables → Bool → Part → ℕ → List CertLine → Type 0
IsRead t b mo part n ls = (o : Outcome (List NodeLine)) × Reads t b mo part n ls o × Lessens ls o

-- a node is read behind what its first line may be
abbrev weight : Part → ℕ
weight (node s) = 1
weight (worked s) = 0
weight (branches s ds) = 0

lessens_behind : (f : List NodeLine → List NodeLine) (l : CertLine) (ls : List CertLine) (x : Outcome (List NodeLine)) → Lessens ls x → Lessens (l ∷ ls) (behind f x)
lessens_behind f l ls (went g rest m) h = omega (arith, h)
lessens_behind f l ls (faulted line why) h = tt

-- the first line leaves a node open, where that may be, or it does not
left_cases : (mo : Bool) (ls : List CertLine) → ((more : List CertLine) × (mo ≡ true) × (ls ≡ lines.Node OpenNode ∷ more)) ⊎ (begins_left mo ls ≡ false)
left_cases true (lines.Node OpenNode ∷ ls) = inl (ls, refl, refl)
left_cases false (lines.Node OpenNode ∷ ls) = inr refl
left_cases mo _ = inr refl

module _ (t : TaskShape) (b : Tables) (mo : Bool) where
  read_step : (s : Sheet) (n : ℕ) (step : Step) (ls : List CertLine) → IsDecidable (IsLegal t b s step) → IsRead t b mo (worked (narrowed s step)) (n + 1) ls → IsRead t b mo (worked s) n (lines.Node (Narrow step) ∷ ls)
  read_step s n step ls (inl legal) h = (behind (λ f. Narrow step ∷ f) h.0, Reads.step s n step ls h.0 _ legal h.1 refl, lessens_behind (λ f. Narrow step ∷ f) (lines.Node (Narrow step)) ls h.0 h.2)
  read_step s n step ls (inr none) h = (faulted n whys.Step, Reads.illegal s n step ls _ none refl, tt)

  read_close : (s : Sheet) (n : ℕ) (ls : List CertLine) → IsDecidable (IsDead s) → IsRead t b mo (worked s) n (lines.Node Close ∷ ls)
  read_close s n ls (inl dead) = (went (Close ∷ []) ls (n + 1), Reads.close s n ls _ dead refl, omega arith)
  read_close s n ls (inr none) = (faulted n whys.Close, Reads.alive s n ls _ none refl, tt)

  read_branch : (s : Sheet) (n : ℕ) (flaw : Flaw) (ls : List CertLine) → IsDecidable (IsLive s) → IsDecidable (IsFlaw t s flaw) → IsRead t b mo (branches s (children s flaw)) (n + 1) ls → IsRead t b mo (worked s) n (lines.Node (Branch flaw) ∷ ls)
  read_branch s n flaw ls (inl live) (inl stands) h = (behind (λ f. Branch flaw ∷ f) h.0, Reads.branch s n flaw ls h.0 _ live stands h.1 refl, lessens_behind (λ f. Branch flaw ∷ f) (lines.Node (Branch flaw)) ls h.0 h.2)
  read_branch s n flaw ls (inl live) (inr none) h = (faulted n whys.Branch, Reads.flawless s n flaw ls _ (λ _ stands. none stands) refl, tt)
  read_branch s n flaw ls (inr none) d h = (faulted n whys.Branch, Reads.flawless s n flaw ls _ (λ live _. none live) refl, tt)

  read_child : (s : Sheet) (n : ℕ) (d e : Decision) (ds : List Decision) (ls : List CertLine) → IsDecidable (e ≡ d) → IsRead t b mo (node (applied t s d)) (n + 1) ls → ((m : ℕ) (rest : List CertLine) → length rest ≤ length ls → IsRead t b mo (branches s ds) m rest)
      → IsRead t b mo (branches s (d ∷ ds)) n (lines.Node (Child e) ∷ ls)
  read_child s n d e ds ls (inr other) h more = (faulted n whys.Child, Reads.other s n d e ds ls _ other refl, tt)
  read_child s n d e ds ls (inl same) (faulted line why, reads, less) more = (faulted line why, Reads.inside s n d e ds ls line why _ same reads refl, tt)
  read_child s n d e ds ls (inl same) (went one rest m, reads, less) more =
      let k = more m rest less in
      (behind (λ f. Child d ∷ (one ++ f)) k.0, Reads.child s n d e ds ls one rest m k.0 _ same reads k.1 refl, last k.0 k.2)
    where
      last : (x : Outcome (List NodeLine)) → Lessens rest x → Lessens (lines.Node (Child e) ∷ ls) (behind (λ f. Child d ∷ (one ++ f)) x)
      last (went g left j) l = omega (arith, l, less)
      last (faulted line why) l = tt

  pub each_read : (k : ℕ) (part : Part) (n : ℕ) (ls : List CertLine) → 2 * length ls + weight part < k → IsRead t b mo part n ls
  each_read zero part n ls lt = absurd (omega (arith, lt))
  each_read (suc k) (node s) n ls lt = go (left_cases mo ls) (each_read k (worked s) n ls (omega (arith, lt)))
    where
      go : ((more : List CertLine) × (mo ≡ true) × (ls ≡ lines.Node OpenNode ∷ more)) ⊎ (begins_left mo ls ≡ false) → IsRead t b mo (worked s) n ls → IsRead t b mo (node s) n ls
      go (inl h) work = subst (IsRead t b mo (node s) n) (sym h.2) (went (OpenNode ∷ []) h.0 (n + 1), Reads.left s n h.0 h.1, omega arith)
      go (inr none) work = (work.0, Reads.whole s n ls work.0 none work.1, work.2)
  each_read (suc k) (worked s) n (lines.Node (Narrow step) ∷ ls) lt = read_step s n step ls (is_legal t b s step) (each_read k (worked (narrowed s step)) (n + 1) ls (omega (arith, lt)))
  each_read (suc k) (worked s) n (lines.Node Close ∷ ls) lt = read_close s n ls (is_dead s)
  each_read (suc k) (worked s) n (lines.Node (Branch flaw) ∷ ls) lt = read_branch s n flaw ls (is_live s) (is_flaw t s flaw) (each_read k (branches s (children s flaw)) (n + 1) ls (omega (arith, lt)))
  each_read (suc k) (worked s) n ls lt = (faulted n whys.Grammar, Reads.strange s n ls _ refl refl, tt)
  each_read (suc k) (branches s []) n ls lt = (went [] ls n, Reads.none s n ls _ refl, omega arith)
  each_read (suc k) (branches s (d ∷ ds)) n (lines.Node (Child e) ∷ ls) lt =
      read_child s n d e ds ls (is_decision e d) (each_read k (node (applied t s d)) (n + 1) ls (omega (arith, lt))) (λ m rest less. each_read k (branches s ds) m rest (omega (arith, lt, less)))
  each_read (suc k) (branches s (d ∷ ds)) n ls lt = (faulted n whys.Grammar, Reads.childless s n d ds ls _ refl refl, tt)
