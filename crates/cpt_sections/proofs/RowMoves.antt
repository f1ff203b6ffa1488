-- what a row of a table does to what is still to be read
use Rattle.std.proofs.Common.{◌≡◌, ◌≢◌, ℕ, suc, ◌+◌, ◌-◌, ◌<◌, if◌then◌else◌, true, false, List, [], ◌∷◌, ◌++◌, length, inl, inr, refl, sym, ap, subst, ◌∙◌, arith, append_assoc, append-nil}
use Rattle.cpt_task.specs.declared.span.Span.{Span}
use Rattle.cpt_task.specs.declared.span.Span.TheVariants.{Never}
use Rattle.cpt_task.specs.Shape.{TaskShape}
use Rattle.cpt_tables.specs.declared.faults.PairFault.{PairFault}
use Rattle.cpt_tables.specs.declared.faults.DistFault.{DistFault}
use Rattle.cpt_tables.specs.Shapes.{PairShape, set_span_of}
use Rattle.cpt_tables.specs.Admissible.{IsAdmissiblePairs, IsAdmissibleDists, IsPairFault, IsDistFault}
use Rattle.cpt_cert_form.specs.declared.forms.Version.{Version}
use Rattle.cpt_cert_form.specs.declared.forms.Run.{Run}
use Rattle.cpt_cert_form.specs.declared.forms.CertLine.{CertLine}
use Rattle.cpt_cert_form.specs.declared.forms.CertLine.TheVariants as lines
use Rattle.cpt_cert_accept.specs.declared.faults.Why.TheVariants as whys
use Rattle.cpt_cert_accept.specs.Reading.{Outcome, After, behind, values_of, is_row, take_pair_rows, take_pairs, take_dist_rows, take_dists, take_end, pair_rows, dist_rows, JudgesPairs, JudgesDists}
use Rattle.cpt_cert_accept.specs.Reading.Outcome.{went, faulted}
use Rattle.cpt_sections.specs.declared.section.Trees.{Trees}
use Rattle.cpt_sections.specs.declared.section.Aim.{Aim}
use Rattle.cpt_sections.specs.declared.section.Aim.TheVariants as aims
use Rattle.cpt_sections.specs.declared.section.PairRows.{PairRows}
use Rattle.cpt_sections.specs.declared.section.DistRows.{DistRows}
use Rattle.cpt_sections.specs.declared.section.Section.{Section}
use Rattle.cpt_sections.specs.declared.section.Section.TheVariants as sections
use Rattle.cpt_sections.specs.declared.section.Next.{Next}
use Rattle.cpt_sections.specs.declared.section.Next.TheVariants as nexts
use Rattle.cpt_cert_accept.specs.Texts.{bring_in}
use Rattle.cpt_sections.specs.Sections.{Left, Moves, BehindPairs, ReadsPairRows, ReadsDistRows, ReadsTrees, first_pair_rows, first_dist_rows}
use Rattle.cpt_sections.specs.Proceeding.{Proceeds, ArePairRowsSoFar, AreDistRowsSoFar}

module _ (t : TaskShape) (v : Version) where
  -- what is read so is read otherwise too
  pub proceed_by : (R S : ℕ → List CertLine → Outcome (Unit {0}) → Type 0) (n : ℕ) (next : Next) → ((ls : List CertLine) (x : Outcome (Unit {0})) → R n ls x → S n ls x) → Proceeds t v R n next → Proceeds t v S n next
  proceed_by R S n (nexts.On new) f h = (h.0, h.1, λ ls x g. f ls x (h.2 ls x g))
  proceed_by R S n (nexts.Fault at why) f h = (h.0, λ ls. f ls (faulted at why) (h.1 ls))

  -- a line leads to a section, and that to what comes next
  pub move_by : (old new : Section) (n : ℕ) (line : CertLine) (next : Next) → ((ls : List CertLine) (x : Outcome (Unit {0})) → Left t v new (n + 1) ls x → Left t v old n (line ∷ ls) x) → Proceeds t v (Left t v new) (n + 1) next → Moves t v old n line next
  move_by old new n line (nexts.On on) f h = (h.0, λ k few. h.1 (k + bring_in line), λ ls x g. f ls x (h.2 ls x g))
  move_by old new n line (nexts.Fault at why) f h = (let lt = h.0 in omega (arith, lt), λ ls. f ls (faulted at why) (h.1 ls))

  -- behind a pair table
  pub goal_never : (h : PairShape) (n : ℕ) (ls : List CertLine) (x : Outcome (Unit {0})) → set_span_of h t.goal ≡ Never → x ≡ take_end n ls → BehindPairs t v aims.Goal h n ls x
  goal_never h n ls x e end = (went tt ls n, inl (e, refl), end)

  pub goal_once : (h : PairShape) (n : ℕ) (ls : List CertLine) → set_span_of h t.goal ≢ Never → BehindPairs t v aims.Goal h n ls (faulted 2 whys.Goal)
  goal_once h n ls ne = (faulted 2 whys.Goal, inr (ne, refl), refl)

  -- no row is left
  no_pair_left : (r : PairRows) (n : ℕ) (ls : List CertLine) → r.next ≡ length t.atoms → went [] ls n ≡ take_pair_rows v (length t.atoms - r.next) n ls
  no_pair_left r n ls all = let none : 0 ≡ length t.atoms - r.next = omega (arith, all) in ap (λ k. take_pair_rows v k n ls) none

  all_pair_rows : (r : PairRows) → ArePairRowsSoFar t r → r.next ≡ length t.atoms → first_pair_rows r.pairs r.next ++ [] ≡ pair_rows r.pairs
  all_pair_rows r so all = let size = so.fits.size in let next : r.next ≡ r.pairs.atoms = omega (arith, size, all) in append-nil (first_pair_rows r.pairs r.next) ∙ ap (first_pair_rows r.pairs) next

  pub good_pairs : (r : PairRows) (n : ℕ) → ArePairRowsSoFar t r → r.next ≡ length t.atoms → IsAdmissiblePairs t r.pairs → (ls : List CertLine) (x : Outcome (Unit {0})) → BehindPairs t v r.aim r.pairs n ls x → Left t v (sections.PairRows r) n ls x
  good_pairs r n so all ok ls x h = (
    went r.pairs ls n,
    (went [] ls n, no_pair_left r n ls all, (r.pairs, record { whole = so.whole; fits = so.fits; same = all_pair_rows r so all }, inl (ok, refl))),
    h,
  )

  pub bad_pairs : (r : PairRows) (n : ℕ) → ArePairRowsSoFar t r → r.next ≡ length t.atoms → (f : PairFault) → IsPairFault t r.pairs f → (ls : List CertLine) → Left t v (sections.PairRows r) n ls (faulted (r.head + 1 + f.p) whys.Pair)
  bad_pairs r n so all f fault ls = (
    faulted (r.head + 1 + f.p) whys.Pair,
    (went [] ls n, no_pair_left r n ls all, (r.pairs, record { whole = so.whole; fits = so.fits; same = all_pair_rows r so all }, inr (f, fault, refl))),
    refl,
  )

  -- a row is read
  pub take_pair_row : (old new : PairRows) (n : ℕ) (runs : List Run) → new.aim ≡ old.aim → new.head ≡ old.head → new.next ≡ old.next + 1 → old.next < length t.atoms → is_row v (length t.atoms - old.next) runs ≡ true →
      first_pair_rows new.pairs new.next ≡ first_pair_rows old.pairs old.next ++ values_of runs ∷ [] →
      (ls : List CertLine) (x : Outcome (Unit {0})) → Left t v (sections.PairRows new) (n + 1) ls x → Left t v (sections.PairRows old) n (lines.PairRow runs ∷ ls) x
  take_pair_row old new n runs aim head next more row rows ls x (y, reads, rest) = (y, read reads, subst (λ a. After (BehindPairs t v a) y x) aim rest)
    where
      judged : (z : Outcome (List (List Span))) → After (λ rs. JudgesPairs t new.head (first_pair_rows new.pairs new.next ++ rs)) z y →
          After (λ rs. JudgesPairs t old.head (first_pair_rows old.pairs old.next ++ rs)) (behind (λ rs. values_of runs ∷ rs) z) y
      judged (went rs rest m) h =
          subst (λ k. JudgesPairs t k (first_pair_rows old.pairs old.next ++ (values_of runs ∷ rs)) m rest y) head
          (subst (λ (all : List (List Span)). JudgesPairs t new.head all m rest y) (ap (λ z. z ++ rs) rows ∙ append_assoc (first_pair_rows old.pairs old.next) (values_of runs ∷ []) rs) h)
      judged (faulted line why) h = h

      left : length t.atoms - old.next ≡ suc (length t.atoms - new.next)
      left = omega (arith, next, more)

      read : ReadsPairRows t v new (n + 1) ls y → ReadsPairRows t v old n (lines.PairRow runs ∷ ls) y
      read (z, e, h) = (
        behind (λ rs. values_of runs ∷ rs) z,
        ap (behind (λ rs. values_of runs ∷ rs)) e
            ∙ sym (ap (λ b. if b then behind (λ rs. values_of runs ∷ rs) (take_pair_rows v (length t.atoms - new.next) (n + 1) ls) else faulted n whys.Grammar) (subst (λ k. is_row v k runs ≡ true) left row))
            ∙ sym (ap (λ k. take_pair_rows v k n (lines.PairRow runs ∷ ls)) left),
        judged z h,
      )

  -- a line that is no row
  pair_row_fails : (r : PairRows) (n : ℕ) (line : CertLine) (ls : List CertLine) → take_pair_rows v (length t.atoms - r.next) n (line ∷ ls) ≡ faulted n whys.Grammar → Left t v (sections.PairRows r) n (line ∷ ls) (faulted n whys.Grammar)
  pair_row_fails r n line ls e = (faulted n whys.Grammar, (faulted n whys.Grammar, sym e, refl), refl)

  one_pair_more : (r : PairRows) → r.next < length t.atoms → length t.atoms - r.next ≡ suc (length t.atoms - (r.next + 1))
  one_pair_more r more = omega (arith, more)

  pub strange_pair_row : (r : PairRows) (n : ℕ) (line : CertLine) → r.next < length t.atoms → ((runs : List Run) → line ≢ lines.PairRow runs) → (ls : List CertLine) → Left t v (sections.PairRows r) n (line ∷ ls) (faulted n whys.Grammar)
  strange_pair_row r n line more ne ls = pair_row_fails r n line ls (ap (λ k. take_pair_rows v k n (line ∷ ls)) (one_pair_more r more) ∙ other (length t.atoms - (r.next + 1)) line ne)
    where
      other : (k : ℕ) (l : CertLine) → ((runs : List Run) → l ≢ lines.PairRow runs) → take_pair_rows v (suc k) n (l ∷ ls) ≡ faulted n whys.Grammar
      other k (lines.PairRow runs) h = absurd (h runs refl)
      other k _ h = refl

  pub false_pair_row : (r : PairRows) (n : ℕ) (runs : List Run) → r.next < length t.atoms → is_row v (length t.atoms - r.next) runs ≡ false → (ls : List CertLine) → Left t v (sections.PairRows r) n (lines.PairRow runs ∷ ls) (faulted n whys.Grammar)
  false_pair_row r n runs more bad ls =
      pair_row_fails r n (lines.PairRow runs) ls (
      ap (λ k. take_pair_rows v k n (lines.PairRow runs ∷ ls)) (one_pair_more r more)
      ∙ ap (λ b. if b then behind (λ rs. values_of runs ∷ rs) (take_pair_rows v (length t.atoms - (r.next + 1)) (n + 1) ls) else faulted n whys.Grammar) (subst (λ k. is_row v k runs ≡ false) (one_pair_more r more) bad)
      )

  -- the head of the pair table
  pub begin_pairs : (aim : Aim) (r : PairRows) (n : ℕ) → r.aim ≡ aim → r.head ≡ n → r.next ≡ 0 → (ls : List CertLine) (x : Outcome (Unit {0})) → Left t v (sections.PairRows r) (n + 1) ls x → Left t v (sections.Pairs aim) n (lines.Pairs ∷ ls) x
  begin_pairs aim r n same head none ls x (y, (z, e, h), rest) = (
    y,
    (z, e ∙ ap (λ k. take_pair_rows v k (n + 1) ls) (let all : length t.atoms - r.next ≡ length t.atoms = omega (arith, none) in all), judged z h),
    subst (λ a. After (BehindPairs t v a) y x) same rest,
  )
    where
      judged : (z : Outcome (List (List Span))) → After (λ rs. JudgesPairs t r.head (first_pair_rows r.pairs r.next ++ rs)) z y → After (JudgesPairs t n) z y
      judged (went rs end m) k = subst (λ i. JudgesPairs t i rs m end y) head (subst (λ i. JudgesPairs t r.head (first_pair_rows r.pairs i ++ rs) m end y) none k)
      judged (faulted line why) k = k

  pub strange_pairs : (aim : Aim) (n : ℕ) (line : CertLine) → line ≢ lines.Pairs → (ls : List CertLine) → Left t v (sections.Pairs aim) n (line ∷ ls) (faulted n whys.Grammar)
  strange_pairs aim n line ne ls = (faulted n whys.Grammar, (faulted n whys.Grammar, sym (other line ne), refl), refl)
    where
      other : (l : CertLine) → l ≢ lines.Pairs → take_pairs v (length t.atoms) n (l ∷ ls) ≡ faulted n whys.Grammar
      other lines.Pairs h = absurd (h refl)
      other _ h = refl

  -- no row of distances is left
  no_dist_left : (r : DistRows) (n : ℕ) (ls : List CertLine) → r.next ≡ length t.actions → went [] ls n ≡ take_dist_rows v (length t.atoms) (length t.actions - r.next) n ls
  no_dist_left r n ls all = let none : 0 ≡ length t.actions - r.next = omega (arith, all) in ap (λ k. take_dist_rows v (length t.atoms) k n ls) none

  all_dist_rows : (r : DistRows) → AreDistRowsSoFar t r → r.next ≡ length t.actions → first_dist_rows r.dists r.next ++ [] ≡ dist_rows r.dists
  all_dist_rows r so all = let size = so.dists.actions in let next : r.next ≡ r.dists.actions = omega (arith, size, all) in append-nil (first_dist_rows r.dists r.next) ∙ ap (first_dist_rows r.dists) next

  pub good_dists : (r : DistRows) (n : ℕ) → AreDistRowsSoFar t r → r.next ≡ length t.actions → IsAdmissibleDists t r.pairs r.dists → (ls : List CertLine) (x : Outcome (Unit {0})) → ReadsTrees t r.trees (record { pairs = r.pairs; dists = r.dists }) n ls x → Left t v (sections.DistRows r) n ls x
  good_dists r n so all ok ls x h = (
    went r.dists ls n,
    (went [] ls n, no_dist_left r n ls all, (r.dists, record { whole = so.whole; fits = so.dists; same = all_dist_rows r so all }, inl (ok, refl))),
    h,
  )

  pub bad_dists : (r : DistRows) (n : ℕ) → AreDistRowsSoFar t r → r.next ≡ length t.actions → (f : DistFault) → IsDistFault t r.pairs r.dists f → (ls : List CertLine) → Left t v (sections.DistRows r) n ls (faulted (r.head + 1 + f.act) whys.Dist)
  bad_dists r n so all f fault ls = (
    faulted (r.head + 1 + f.act) whys.Dist,
    (went [] ls n, no_dist_left r n ls all, (r.dists, record { whole = so.whole; fits = so.dists; same = all_dist_rows r so all }, inr (f, fault, refl))),
    refl,
  )

  -- a row of distances is read
  pub take_dist_row : (old new : DistRows) (n : ℕ) (runs : List Run) → new.trees ≡ old.trees → new.head ≡ old.head → new.pairs ≡ old.pairs → new.next ≡ old.next + 1 → old.next < length t.actions → is_row v (length t.atoms) runs ≡ true →
      first_dist_rows new.dists new.next ≡ first_dist_rows old.dists old.next ++ values_of runs ∷ [] →
      (ls : List CertLine) (x : Outcome (Unit {0})) → Left t v (sections.DistRows new) (n + 1) ls x → Left t v (sections.DistRows old) n (lines.DistRow runs ∷ ls) x
  take_dist_row old new n runs trees head pairs next more row rows ls x (y, reads, rest) = (
    y,
    read reads,
    subst (λ h. After (λ d. ReadsTrees t old.trees (record { pairs = h; dists = d })) y x) pairs (subst (λ a. After (λ d. ReadsTrees t a (record { pairs = new.pairs; dists = d })) y x) trees rest),
  )
    where
      judged : (z : Outcome (List (List Span))) → After (λ rs. JudgesDists t new.pairs new.head (first_dist_rows new.dists new.next ++ rs)) z y →
          After (λ rs. JudgesDists t old.pairs old.head (first_dist_rows old.dists old.next ++ rs)) (behind (λ rs. values_of runs ∷ rs) z) y
      judged (went rs rest m) h =
          subst (λ p. JudgesDists t p old.head (first_dist_rows old.dists old.next ++ (values_of runs ∷ rs)) m rest y) pairs
          (subst (λ k. JudgesDists t new.pairs k (first_dist_rows old.dists old.next ++ (values_of runs ∷ rs)) m rest y) head
          (subst (λ (all : List (List Span)). JudgesDists t new.pairs new.head all m rest y) (ap (λ z. z ++ rs) rows ∙ append_assoc (first_dist_rows old.dists old.next) (values_of runs ∷ []) rs) h))
      judged (faulted line why) h = h

      left : length t.actions - old.next ≡ suc (length t.actions - new.next)
      left = omega (arith, next, more)

      read : ReadsDistRows t v new (n + 1) ls y → ReadsDistRows t v old n (lines.DistRow runs ∷ ls) y
      read (z, e, h) = (
        behind (λ rs. values_of runs ∷ rs) z,
        ap (behind (λ rs. values_of runs ∷ rs)) e
            ∙ sym (ap (λ b. if b then behind (λ rs. values_of runs ∷ rs) (take_dist_rows v (length t.atoms) (length t.actions - new.next) (n + 1) ls) else faulted n whys.Grammar) row)
            ∙ sym (ap (λ k. take_dist_rows v (length t.atoms) k n (lines.DistRow runs ∷ ls)) left),
        judged z h,
      )

  -- a line that is no row of distances
  dist_row_fails : (r : DistRows) (n : ℕ) (line : CertLine) (ls : List CertLine) → take_dist_rows v (length t.atoms) (length t.actions - r.next) n (line ∷ ls) ≡ faulted n whys.Grammar → Left t v (sections.DistRows r) n (line ∷ ls) (faulted n whys.Grammar)
  dist_row_fails r n line ls e = (faulted n whys.Grammar, (faulted n whys.Grammar, sym e, refl), refl)

  one_dist_more : (r : DistRows) → r.next < length t.actions → length t.actions - r.next ≡ suc (length t.actions - (r.next + 1))
  one_dist_more r more = omega (arith, more)

  pub strange_dist_row : (r : DistRows) (n : ℕ) (line : CertLine) → r.next < length t.actions → ((runs : List Run) → line ≢ lines.DistRow runs) → (ls : List CertLine) → Left t v (sections.DistRows r) n (line ∷ ls) (faulted n whys.Grammar)
  strange_dist_row r n line more ne ls = dist_row_fails r n line ls (ap (λ k. take_dist_rows v (length t.atoms) k n (line ∷ ls)) (one_dist_more r more) ∙ other (length t.actions - (r.next + 1)) line ne)
    where
      other : (k : ℕ) (l : CertLine) → ((runs : List Run) → l ≢ lines.DistRow runs) → take_dist_rows v (length t.atoms) (suc k) n (l ∷ ls) ≡ faulted n whys.Grammar
      other k (lines.DistRow runs) h = absurd (h runs refl)
      other k _ h = refl

  pub false_dist_row : (r : DistRows) (n : ℕ) (runs : List Run) → r.next < length t.actions → is_row v (length t.atoms) runs ≡ false → (ls : List CertLine) → Left t v (sections.DistRows r) n (lines.DistRow runs ∷ ls) (faulted n whys.Grammar)
  false_dist_row r n runs more bad ls =
      dist_row_fails r n (lines.DistRow runs) ls (
      ap (λ k. take_dist_rows v (length t.atoms) k n (lines.DistRow runs ∷ ls)) (one_dist_more r more)
      ∙ ap (λ b. if b then behind (λ rs. values_of runs ∷ rs) (take_dist_rows v (length t.atoms) (length t.actions - (r.next + 1)) (n + 1) ls) else faulted n whys.Grammar) bad
      )

  -- the head of the distance table
  pub begin_dists : (trees : Trees) (h : PairShape) (r : DistRows) (n : ℕ) → r.trees ≡ trees → r.pairs ≡ h → r.head ≡ n → r.next ≡ 0 → (ls : List CertLine) (x : Outcome (Unit {0})) → Left t v (sections.DistRows r) (n + 1) ls x → Left t v (sections.Dists trees h) n (lines.Dists ∷ ls) x
  begin_dists trees h r n same over head none ls x (y, (z, e, k), rest) = (
    y,
    (z, e ∙ ap (λ i. take_dist_rows v (length t.atoms) i (n + 1) ls) (let all : length t.actions - r.next ≡ length t.actions = omega (arith, none) in all), judged z k),
    subst (λ p. After (λ d. ReadsTrees t trees (record { pairs = p; dists = d })) y x) over (subst (λ a. After (λ d. ReadsTrees t a (record { pairs = r.pairs; dists = d })) y x) same rest),
  )
    where
      judged : (z : Outcome (List (List Span))) → After (λ rs. JudgesDists t r.pairs r.head (first_dist_rows r.dists r.next ++ rs)) z y → After (JudgesDists t h n) z y
      judged (went rs end m) k =
          subst (λ p. JudgesDists t p n rs m end y) over (subst (λ i. JudgesDists t r.pairs i rs m end y) head (subst (λ i. JudgesDists t r.pairs r.head (first_dist_rows r.dists i ++ rs) m end y) none k))
      judged (faulted line why) k = k

  pub strange_dists : (trees : Trees) (h : PairShape) (n : ℕ) (line : CertLine) → line ≢ lines.Dists → (ls : List CertLine) → Left t v (sections.Dists trees h) n (line ∷ ls) (faulted n whys.Grammar)
  strange_dists trees h n line ne ls = (faulted n whys.Grammar, (faulted n whys.Grammar, sym (other line ne), refl), refl)
    where
      other : (l : CertLine) → l ≢ lines.Dists → take_dists v (length t.atoms) (length t.actions) n (l ∷ ls) ≡ faulted n whys.Grammar
      other lines.Dists h = absurd (h refl)
      other _ h = refl
