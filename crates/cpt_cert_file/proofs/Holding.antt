-- texts that are reached over a kept task
use Rattle.std.proofs.Common.{◌≡◌, ℕ, ◌≤◌, ◌⊎◌, inl, inr, true, false, Bool, IfSome, List, length, Option, None, Some, Result, Ok, Err, refl, sym, ap, ◌∙◌, subst}
use Rattle.std.specs.Prelude.{nat_lt, if◌then◌else◌}
use Rattle.std.proofs.lemmas.Bool.{ltb-false, le-ltb}
use Rattle.cpt_io.specs.Meaning.{Files}
use Rattle.cpt_task.specs.Shape.{TaskShape, InBounds}
use Rattle.cpt_domain.specs.declared.domain.Domain.{Domain}
use Rattle.cpt_facts.specs.declared.problem.Problem.{Problem}
use Rattle.cpt_reach.specs.declared.pruning.Pruned.{Pruned}
use Rattle.cpt_answer.specs.declared.ending.Cause.TheVariants.{Passed}
use Rattle.cpt_answer.specs.declared.ending.Ending.{Ending}
use Rattle.cpt_answer.specs.declared.ending.Ending.TheVariants.{Because, Read}
use Rattle.cpt_answer.specs.declared.ending.Reply.{Reply}
use Rattle.cpt_task.specs.declared.memory.Limit.TheVariants.{Certificate}
use Rattle.cpt_answer.specs.Endings.{Answer, answer_of, ending_answer, reply_answer}
use Rattle.cpt_answer.specs.Giving.{Gives, Then}
use Rattle.cpt_answer.proofs.Giving.{if_both, then_by_ok, then_ok}
use Rattle.cpt_answer.proofs.Promise.{not_zero_ending}
use Rattle.cpt_files.specs.declared.accepted.Accepted.{Accepted}
use Rattle.cpt_files.specs.Accepted.{AcceptsTask, IsAccepted, accepted}
use Rattle.cpt_files.proofs.Accepting.{accepted_is, is_accepted}
use Rattle.cpt_files.proofs.Once.{accepts_once}
use Rattle.cpt_files.proofs.Statuses.{IsNotOne, accepts_not_one}
use Rattle.cpt_kept.proofs.Standing.{stands_for}
use Rattle.cpt_cert_file.specs.Held.{HoldText, OverText}
use Rattle.cpt_cert_file.specs.Texts.{certificate_under, text_limit, within_limit}

-- a text that is read is not too long
limit_is : (long : Bool) (bytes text : List ℕ) → long ≡ nat_lt text_limit (length bytes) → (if long then Err (Because (Passed Certificate)) else Ok bytes) ≡ Ok text → (bytes ≡ text) × (length text ≤ text_limit)
limit_is true bytes text l e = absurd (cc)
limit_is false bytes text l e = let same : bytes ≡ text = cc in (same, subst (λ z. length z ≤ text_limit) same (ltb-false text_limit (length bytes) (sym l)))

within_is : (o : Option (List ℕ)) (text : List ℕ) → within_limit o ≡ Ok text → (o ≡ Some text) × (length text ≤ text_limit)
within_is None text e = absurd (cc)
within_is (Some bytes) text e = let k = limit_is (nat_lt text_limit (length bytes)) bytes text refl e in (ap Some k.0, k.1)

-- and one that is not too long is read
short_is : (o : Option (List ℕ)) (text : List ℕ) → o ≡ Some text → length text ≤ text_limit → within_limit o ≡ Ok text
short_is o text held size = ap within_limit held ∙ (let e : nat_lt text_limit (length text) ≡ false = le-ltb text_limit (length text) size in rw e refl)

-- a text that is not read ends with another status
limit_not_one : (long : Bool) (bytes : List ℕ) (f : Ending) → (if long then Err (Because (Passed Certificate)) else Ok bytes) ≡ Err f → IsNotOne f
limit_not_one true bytes f h = let same : Because (Passed Certificate) ≡ f = cc in subst IsNotOne same (λ z. cc)
limit_not_one false bytes f h = absurd (cc)

text_not_one : (o : Option (List ℕ)) (f : Ending) → within_limit o ≡ Err f → IsNotOne f
text_not_one None f h = let same : Read ≡ f = cc in subst IsNotOne same (λ z. cc)
text_not_one (Some bytes) f h = limit_not_one (nat_lt text_limit (length bytes)) bytes f h

-- the statuses of a text that is ruled on
abbrev pub IsLow : ℕ → Type 0
IsLow status = (status ≡ 0) ⊎ (status ≡ 1)

-- a stage before such a status did not end
then_low : {A : Type 0} (x : Result A Ending) (Q : A → Result Answer Ending → Type 0) (r : Result Answer Ending) → ((f : Ending) → x ≡ Err f → IsNotOne f) → Then x Q r → IsLow (answer_of r).status → (a : A) × (x ≡ Ok a) × Q a r
then_low (Ok a) Q r not h low = (a, refl, h)
then_low (Err f) Q r not h low =
    let same : (answer_of r).status ≡ (ending_answer f).status = ap (λ x. (answer_of x).status) h in
    absurd (elim low [ inl zero ↦ not_zero_ending f (sym same ∙ zero) | inr one ↦ not f refl (sym same ∙ one) ])

-- the numbers of the kept task of files are in range
pub bounds_of : (files : Files) (dn pn : List ℕ) (d : Domain) (p : Problem) (task : TaskShape) (kept : Pruned) → IsAccepted files dn pn d p task kept → InBounds kept.task
bounds_of files dn pn d p task kept h = (stands_for files dn pn d p task kept h).plain.bounds

pub held_bounds : (files : Files) (dn pn cn : List ℕ) (kept : Pruned) (text : List ℕ) → HoldText files dn pn cn kept text → InBounds kept.task
held_bounds files dn pn cn kept text h = bounds_of files dn pn h.domain h.problem h.task kept h.accepted

module _ (files : Files) (dn pn cn : List ℕ) (P : TaskShape → List ℕ → Result Answer Ending → Type 0) where
  -- a status of 0 or 1 is that of a text that is held
  pub reached : (r : Result Answer Ending) → OverText files dn pn cn P r → IsLow (answer_of r).status → (kept : Pruned) × (text : List ℕ) × HoldText files dn pn cn kept text × P kept.task text r
  reached r h low =
      let a = then_low h.0 (λ a. Then (certificate_under files cn) (P a.kept.task)) r (λ f e. accepts_not_one files dn pn f (subst (AcceptsTask files dn pn) e h.1)) h.2 low in
      let holds = is_accepted files dn pn a.0 (subst (AcceptsTask files dn pn) a.1 h.1) in
      let t = then_low (certificate_under files cn) (P a.0.kept.task) r (text_not_one (files cn)) a.2 low in
      let is = within_is (files cn) t.0 t.1 in
      (a.0.kept, t.0, record { domain = a.0.domain; problem = a.0.problem; task = holds.0; accepted = holds.1; cert_file = is.0; size = is.1 }, t.2)

  -- what is said of a text that is held is come to
  pub reach : (kept : Pruned) (text : List ℕ) (r : Result Answer Ending) → HoldText files dn pn cn kept text → P kept.task text r → OverText files dn pn cn P r
  reach kept text r h p = (
    Ok (accepted h.domain h.problem kept),
    accepted_is files dn pn h.domain h.problem h.task kept h.accepted,
    subst (λ x. Then x (P kept.task) r) (sym (short_is (files cn) text h.cert_file h.size)) p,
  )

  -- and nothing else
  pub over_held : (kept : Pruned) (text : List ℕ) (r : Result Answer Ending) → HoldText files dn pn cn kept text → OverText files dn pn cn P r → P kept.task text r
  over_held kept text r h k =
      let same : k.0 ≡ Ok (accepted h.domain h.problem kept) = accepts_once files dn pn k.0 (Ok (accepted h.domain h.problem kept)) k.1 (accepted_is files dn pn h.domain h.problem h.task kept h.accepted) in
      let over = subst (λ x. Then x (λ a. Then (certificate_under files cn) (P a.kept.task)) r) same k.2 in
      subst (λ x. Then x (P kept.task) r) (short_is (files cn) text h.cert_file h.size) over

-- where a text has one answer of a kind, what is come to has one of the kind
module _ (files : Files) (dn pn cn : List ℕ) (P : TaskShape → List ℕ → Result Answer Ending → Type 0) (G : Result Answer Ending → Type 0) (once : (t : TaskShape) (text : List ℕ) → InBounds t → length text ≤ text_limit → (r s : Result Answer Ending) → P t text r → P t text s → G r → r ≡ s) where
  text_once : (t : TaskShape) → InBounds t → (x : Result (List ℕ) Ending) → x ≡ certificate_under files cn → (r s : Result Answer Ending) → Then x (P t) r → Then x (P t) s → G r → r ≡ s
  text_once t inside (Ok text) e r s h k g = once t text inside (within_is (files cn) text (sym e)).1 r s h k g
  text_once t inside (Err f) e r s h k g = h ∙ sym k

  task_once : (x : Result Accepted Ending) → AcceptsTask files dn pn x → (r s : Result Answer Ending) → Then x (λ a. Then (certificate_under files cn) (P a.kept.task)) r → Then x (λ a. Then (certificate_under files cn) (P a.kept.task)) s
      → G r → r ≡ s
  task_once (Ok a) accepts r s h k g =
      let holds = is_accepted files dn pn a accepts in
      text_once a.kept.task (bounds_of files dn pn a.domain a.problem holds.0 a.kept holds.1) (certificate_under files cn) refl r s h k g
  task_once (Err f) accepts r s h k g = h ∙ sym k

  pub over_text_once : (r s : Result Answer Ending) → OverText files dn pn cn P r → OverText files dn pn cn P s → G r → r ≡ s
  over_text_once r s h k g =
      let same : k.0 ≡ h.0 = accepts_once files dn pn k.0 h.0 k.1 h.1 in
      task_once h.0 h.1 r s h.2 (subst (λ x. Then x (λ a. Then (certificate_under files cn) (P a.kept.task)) s) same k.2) g

-- the answer to a text that was read over an accepted task is that of the files
pub over_text : (o q : Option Files) (steady : Bool) (dn pn cn : List ℕ) (P : TaskShape → List ℕ → Result Answer Ending → Type 0) (a : Accepted) (text : List ℕ) (r : Result Reply Ending) → q ≡ o
    → IfSome o (λ files. AcceptsTask files dn pn (Ok a)) → IfSome q (λ files. certificate_under files cn ≡ Ok text) → Gives steady reply_answer r (P a.kept.task text) → IfSome o (λ files. Gives steady reply_answer r (OverText files dn pn cn P))
over_text o q steady dn pn cn P a text r same h k g =
    if_both o q (λ files. AcceptsTask files dn pn (Ok a)) (λ files. certificate_under files cn ≡ Ok text) (λ files. Gives steady reply_answer r (OverText files dn pn cn P)) same
    (λ files x y. then_by_ok steady reply_answer (AcceptsTask files dn pn) a r (λ b. Then (certificate_under files cn) (P b.kept.task)) x (then_ok steady reply_answer (certificate_under files cn) text r (P a.kept.task) y g)) h k
