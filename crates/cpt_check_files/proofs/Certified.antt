use Rattle.std.proofs.Common.{◌≡◌, ℕ, ◌≤◌, inl, inr, ◌++◌, List, length, Option, None, Some, Result, Ok, Err, arith, refl, sym, ap, ◌∙◌, subst}
use Rattle.std.proofs.lemmas.List.Elements.{All-weaker}
use Rattle.std.specs.List.Sorted.{IsStrictlyIncreasing}
use Rattle.cpt_io.specs.Meaning.{Files}
use Rattle.cpt_task.specs.Shape.{TaskShape, InBounds}
use Rattle.cpt_task.specs.Optimal.{IsOptimal}
use Rattle.cpt_task.specs.declared.plan.Occ.{Occ}
use Rattle.cpt_task_text.specs.Plain.{HasShortLists, IsPlain}
use Rattle.cpt_ground.specs.Laws.{HasSamePlans}
use Rattle.cpt_ground.specs.declared.signed.Signed.{Signed}
use Rattle.cpt_reach.specs.Plans.{KeepsPlans, older_plan}
use Rattle.cpt_soundness.specs.Sets.{HasSets}
use Rattle.cpt_cert_form.specs.declared.forms.Claim.{Claim}
use Rattle.cpt_cert_form.specs.declared.forms.Claim.TheVariants.{Optimal, NoneUpTo, Never, Spent}
use Rattle.cpt_cert_form.specs.declared.forms.Version.{Version}
use Rattle.cpt_cert_accept.specs.declared.faults.Why.{Why}
use Rattle.cpt_cert_accept.specs.Accepting.{Accepts}
use Rattle.cpt_cert_accept.specs.Laws.{HoldsOf}
use Rattle.cpt_cert_accept.proofs.Truth.{certificates_hold}
use Rattle.cpt_check.specs.declared.judged.Judged.{Judged}
use Rattle.cpt_check.specs.declared.judged.Ruling.{Ruling}
use Rattle.cpt_check.specs.declared.judged.Ruling.TheVariants.{Accepted, Rejected}
use Rattle.cpt_check.specs.Judging.{IsAccepted, IsRejected, RulesOf}
use Rattle.cpt_files.specs.declared.accepted.Accepted.{Accepted as Read}
use Rattle.cpt_answer.specs.declared.ending.Ending.{Ending}
use Rattle.cpt_answer.specs.declared.ending.Ending.TheVariants as endings
use Rattle.cpt_files.specs.Accepted.{AcceptsTask, IsAccepted as IsTask, accepted}
use Rattle.cpt_domain.specs.declared.domain.Domain.{Domain}
use Rattle.cpt_facts.specs.declared.problem.Problem.{Problem}
use Rattle.cpt_reach.specs.declared.pruning.Pruned.{Pruned}
use Rattle.cpt_check_files.specs.Commands.{IsRuling}
use Rattle.cpt_answer.specs.Endings.{Answer, answer, answer_of}
use Rattle.cpt_answer.specs.Giving.{Then, ThenBy}
use Rattle.cpt_files.proofs.Accepting.{accepted_is, is_accepted}
use Rattle.cpt_files.proofs.Once.{accepts_once}
use Rattle.cpt_answer.proofs.Giving.{then_by_once}
use Rattle.cpt_files.proofs.Statuses.{IsNotOne, accepts_not_one}
use Rattle.cpt_check_files.specs.Claims.{HoldCertificate, HoldFault, HoldsOfReading, HoldsOverGround, HoldsWithAbsence}
use Rattle.cpt_check_files.specs.Rulings.{AnswersRuling, ChecksFiles, RulesFile, RulesText, accepted_lines, bytes_of, cert_limit, rejected_lines, ruling_answer, ruling_line, ruling_status, version_line}
use Rattle.cpt_check_files.proofs.RulingOnce.{judged, rules_file_once}
use Rattle.cpt_answer.proofs.Promise.{then_zero}
use Rattle.cpt_kept.specs.Kept.{StandsFor}
use Rattle.cpt_kept.proofs.Standing.{older_makespan, stands_for}

-- what a plain task needs is listed once each
sets_of : (t : TaskShape) → IsPlain t → HasSets t
sets_of t plain = record { goal = plain.goal; pre = All-weaker HasShortLists (λ a. IsStrictlyIncreasing a.pre) (λ a lists. lists.pre.increasing) t.actions plain.lists }

-- the numbers of the kept task of files are in range
accepted_bounds : (files : Files) (dn pn : List ℕ) (a : Read) → AcceptsTask files dn pn (Ok a) → InBounds a.kept.task
accepted_bounds files dn pn a h =
    let is = is_accepted files dn pn a h in
    (stands_for files dn pn a.domain a.problem is.0 a.kept is.1).plain.bounds

-- a domain, a problem and a certificate come to one end
pub checks_files_once : (files : Files) (d p c : List ℕ) (r s : Result Answer Ending) → ChecksFiles files d p c r → ChecksFiles files d p c s → r ≡ s
checks_files_once files d p c r s =
    then_by_once (AcceptsTask files d p) (λ a. ThenBy (RulesFile files a.kept.task c) AnswersRuling) (accepts_once files d p)
    (λ a x y read. then_by_once (RulesFile files a.kept.task c) AnswersRuling (rules_file_once files a.kept.task c (accepted_bounds files d p a read)) (λ j u v _ h k. h ∙ sym k) x y) r s

-- a claim that holds of the kept part holds of the task
over_ground : (old new : TaskShape) (actions : List ℕ) (claim : Claim) (plan : List Occ) → KeepsPlans old new actions → HoldsOf new claim plan → HoldsOverGround old claim (older_plan actions plan)
over_ground old new actions (Optimal m) plan k h =
    let of_task = h.0.valid.of_task in
    let onto = k.onto plan of_task in
    ((k.optimal (older_plan actions plan)).1 (onto.0, subst (IsOptimal new) (sym onto.1) h.0), sym (older_makespan old new actions plan k of_task) ∙ h.1)
over_ground old new actions (NoneUpTo m) plan k h = (k.refuted m).1 h
over_ground old new actions Never plan k h = k.no_plan.1 h
over_ground old new actions (Spent refuted nodes) plan k h = (k.refuted refuted).1 h

-- and of a reading with the same plans
of_reading : (t : TaskShape) (s : Signed) (claim : Claim) (plan : List Occ) → HasSamePlans t s → HoldsOverGround t claim plan → HoldsOfReading s claim plan
of_reading t s (Optimal m) plan same h = (
  record {
    valid = (same.valid plan).0 h.0.valid;
    least = λ other valid. omega (arith, h.0.least other ((same.valid other).1 valid), same.makespan plan, same.makespan other);
  },
  sym (same.makespan plan) ∙ h.1,
)
of_reading t s (NoneUpTo m) plan same h = λ other valid low. h other ((same.valid other).1 valid) (omega (arith, low, same.makespan other))
of_reading t s Never plan same h = λ other valid. h other ((same.valid other).1 valid)
of_reading t s (Spent refuted nodes) plan same h = λ other valid low. h other ((same.valid other).1 valid) (omega (arith, low, same.makespan other))

module _ (files : Files) (dn pn cn : List ℕ) where
  standing : (v : Version) (claim : Claim) (h : HoldCertificate files dn pn cn v claim) → StandsFor h.domain h.problem h.task h.kept
  standing v claim h = stands_for files dn pn h.domain h.problem h.task h.kept h.accepted

  -- the claim of a certificate of the kept part holds of it
  pub holds_of_kept : (v : Version) (claim : Claim) (h : HoldCertificate files dn pn cn v claim) → HoldsOf h.kept.task claim h.parts.plan
  holds_of_kept v claim h =
      let plain = (standing v claim h).plain in
      certificates_hold h.kept.task h.text v claim h.parts plain.bounds (sets_of h.kept.task plain) h.certificate

  -- and of the ground task
  pub holds_over_ground : (v : Version) (claim : Claim) (h : HoldCertificate files dn pn cn v claim) → HoldsOverGround h.task claim (older_plan h.kept.actions h.parts.plan)
  holds_over_ground v claim h = over_ground h.task h.kept.task h.kept.actions claim h.parts.plan (standing v claim h).keeps (holds_of_kept v claim h)

  -- and of the reading with absence
  pub holds_with_absence : (v : Version) (claim : Claim) (h : HoldCertificate files dn pn cn v claim) → HoldsWithAbsence h.domain h.problem claim (older_plan h.kept.actions h.parts.plan)
  holds_with_absence v claim h =
      let stands = standing v claim h in
      record {
        reading = stands.reading;
        reads = stands.reads;
        holds = of_reading h.task stands.reading claim (older_plan h.kept.actions h.parts.plan) stands.same (holds_over_ground v claim h);
      }

-- a text that was ruled on is that of the file
text_of : (o : Option (List ℕ)) (t : TaskShape) (j : Judged) → Then (bytes_of o) (RulesText t) (Ok j) → (text : List ℕ) × (o ≡ Some text) × RulesText t text (Ok j)
text_of None t j h = absurd (cc)
text_of (Some text) t j h = (text, refl, h)

-- a status of 0 is that of an accepted certificate
pub record IsGood (t : TaskShape) (text : List ℕ) (version : Option Version) (ruling : Ruling) : Type 0 where
  pub named : Version
  pub claim : Claim
  pub size : length text ≤ cert_limit
  pub accepts : Accepts t text named claim
  pub told : version_line version ++ ruling_line ruling ≡ accepted_lines named claim

ruling_zero : (t : TaskShape) (text : List ℕ) (version : Option Version) (ruling : Ruling) → RulesOf t cert_limit text version ruling → ruling_status ruling ≡ 0 → IsGood t text version ruling
ruling_zero t text version (Accepted claim) h zero =
    record { named = h.named; claim = claim; size = h.size; accepts = h.accepts; told = ap (λ v. (ruling_answer (judged v (Accepted claim))).text) h.version_is }
ruling_zero t text version (Rejected line why) h zero = absurd (cc)

same_text : (a b : Answer) (text : List ℕ) → a ≡ b → b.text ≡ text → a.text ≡ text
same_text a b text e f = ap (λ (a : Answer). a.text) e ∙ f

pub zero_is_checked : (files : Files) (dn pn cn : List ℕ) (r : Result Answer Ending) → ChecksFiles files dn pn cn r → (answer_of r).status ≡ 0
    → (version : Version) × (claim : Claim) × HoldCertificate files dn pn cn version claim × ((answer_of r).text ≡ accepted_lines version claim)
zero_is_checked files dn pn cn r h zero =
    let a = then_zero h.0 (λ a. ThenBy (RulesFile files a.kept.task cn) AnswersRuling) r h.2 zero in
    let holds = is_accepted files dn pn a.0 (subst (AcceptsTask files dn pn) a.1 h.1) in
    let j = then_zero a.2.0 AnswersRuling r a.2.2 zero in
    let read = text_of (files cn) a.0.kept.task j.0 (subst (RulesFile files a.0.kept.task cn) j.1 a.2.1) in
    let same : answer_of r ≡ ruling_answer j.0 = ap answer_of j.2 in
    let good = ruling_zero a.0.kept.task read.0 j.0.version j.0.ruling read.2 (sym (ap (λ (a : Answer). a.status) same) ∙ zero) in (
      good.named,
      good.claim,
      record {
        domain = a.0.domain;
        problem = a.0.problem;
        task = holds.0;
        kept = a.0.kept;
        accepted = holds.1;
        text = read.0;
        cert_file = read.1;
        size = good.size;
        parts = good.accepts.0;
        certificate = good.accepts.1;
      },
      same_text (answer_of r) (ruling_answer j.0) (accepted_lines good.named good.claim) same good.told,
    )

-- what a file that is ruled on comes to
file_ruled : (o : Option (List ℕ)) (t : TaskShape) (text : List ℕ) (j : Judged) → o ≡ Some text → RulesText t text (Ok j) → Then (bytes_of o) (RulesText t) (Ok j)
file_ruled o t text j e h = subst (λ x. Then (bytes_of x) (RulesText t) (Ok j)) (sym e) h

-- a certificate is answered so
pub checked_is_zero : (files : Files) (dn pn cn : List ℕ) (v : Version) (claim : Claim) → HoldCertificate files dn pn cn v claim → ChecksFiles files dn pn cn (Ok (answer 0 (accepted_lines v claim)))
checked_is_zero files dn pn cn v claim h =
    let rules : IsAccepted h.kept.task cert_limit h.text (Some v) claim = record { size = h.size; named = v; version_is = refl; accepts = (h.parts, h.certificate) } in (
      Ok (accepted h.domain h.problem h.kept),
      accepted_is files dn pn h.domain h.problem h.task h.kept h.accepted,
      (Ok (judged (Some v) (Accepted claim)), file_ruled (files cn) h.kept.task h.text (judged (Some v) (Accepted claim)) h.cert_file rules, refl),
    )

-- and a text with a fault so
pub fault_is_one : (files : Files) (dn pn cn : List ℕ) (v : Option Version) (line : ℕ) (why : Why) → HoldFault files dn pn cn v line why → ChecksFiles files dn pn cn (Ok (answer 1 (rejected_lines v line why)))
fault_is_one files dn pn cn v line why h = (
  Ok (accepted h.domain h.problem h.kept),
  accepted_is files dn pn h.domain h.problem h.task h.kept h.accepted,
  (Ok (judged v (Rejected line why)), file_ruled (files cn) h.kept.task h.text (judged v (Rejected line why)) h.cert_file h.rejected, refl),
)

-- a text that is not judged ends with another status
rules_not_one : (o : Option (List ℕ)) (t : TaskShape) (f : Ending) → Then (bytes_of o) (RulesText t) (Err f) → IsNotOne f
rules_not_one None t f h = let e : f ≡ endings.Read = cc in subst IsNotOne (sym e) (λ z. cc)
rules_not_one (Some text) t f h = subst IsNotOne (sym h.1) (λ z. cc)

-- a stage before a status of 1 did not end
then_one : {A : Type 0} (x : Result A Ending) (Q : A → Result Answer Ending → Type 0) (r : Result Answer Ending) → ((f : Ending) → x ≡ Err f → IsNotOne f) → Then x Q r → (answer_of r).status ≡ 1 → (a : A) × (x ≡ Ok a) × Q a r
then_one (Ok a) Q r not h one = (a, refl, h)
then_one (Err f) Q r not h one = absurd (not f refl (sym (ap (λ x. (answer_of x).status) h) ∙ one))

-- a status of 1 is that of a text with a fault
pub record IsFaulty (t : TaskShape) (text : List ℕ) (version : Option Version) (ruling : Ruling) : Type 0 where
  pub line : ℕ
  pub why : Why
  pub rejected : IsRejected t cert_limit text version line why
  pub told : version_line version ++ ruling_line ruling ≡ rejected_lines version line why

ruling_one : (t : TaskShape) (text : List ℕ) (version : Option Version) (ruling : Ruling) → RulesOf t cert_limit text version ruling → ruling_status ruling ≡ 1 → IsFaulty t text version ruling
ruling_one t text version (Accepted claim) h one = absurd (cc)
ruling_one t text version (Rejected line why) h one = record { line = line; why = why; rejected = h; told = refl }

pub one_is_fault : (files : Files) (dn pn cn : List ℕ) (r : Result Answer Ending) → ChecksFiles files dn pn cn r → (answer_of r).status ≡ 1
    → (version : Option Version) × (line : ℕ) × (why : Why) × HoldFault files dn pn cn version line why × ((answer_of r).text ≡ rejected_lines version line why)
one_is_fault files dn pn cn r h one =
    let a = then_one h.0 (λ a. ThenBy (RulesFile files a.kept.task cn) AnswersRuling) r (λ f e. accepts_not_one files dn pn f (subst (AcceptsTask files dn pn) e h.1)) h.2 one in
    let holds = is_accepted files dn pn a.0 (subst (AcceptsTask files dn pn) a.1 h.1) in
    let j = then_one a.2.0 AnswersRuling r (λ f e. rules_not_one (files cn) a.0.kept.task f (subst (RulesFile files a.0.kept.task cn) e a.2.1)) a.2.2 one in
    let read = text_of (files cn) a.0.kept.task j.0 (subst (RulesFile files a.0.kept.task cn) j.1 a.2.1) in
    let same : answer_of r ≡ ruling_answer j.0 = ap answer_of j.2 in
    let bad = ruling_one a.0.kept.task read.0 j.0.version j.0.ruling read.2 (sym (ap (λ (a : Answer). a.status) same) ∙ one) in (
      j.0.version,
      bad.line,
      bad.why,
      record {
        domain = a.0.domain;
        problem = a.0.problem;
        task = holds.0;
        kept = a.0.kept;
        accepted = holds.1;
        text = read.0;
        cert_file = read.1;
        rejected = bad.rejected;
      },
      same_text (answer_of r) (ruling_answer j.0) (rejected_lines j.0.version bad.line bad.why) same bad.told,
    )

-- over an accepted task, a text that is not too long is ruled on
ruled : (o : Option (List ℕ)) (t : TaskShape) (text : List ℕ) (y : Result Judged Ending) (r : Result Answer Ending) → o ≡ Some text → length text ≤ cert_limit → Then (bytes_of o) (RulesText t) y → Then y AnswersRuling r → IsRuling (answer_of r).status
ruled None t text y r same size h k = absurd (cc)
ruled (Some bytes) t text (Ok j) r same size h k = subst IsRuling (sym (ap (λ x. (answer_of x).status) k)) (ruling_is j.ruling)
  where
    ruling_is : (ruling : Ruling) → IsRuling (ruling_status ruling)
    ruling_is (Accepted claim) = inl refl
    ruling_is (Rejected line why) = inr (inl refl)
ruled (Some bytes) t text (Err e) r same size h k =
    let long = h.0.size in
    let bytes_are : bytes ≡ text = cc in
    absurd (omega (arith, ap length bytes_are, long, size))

pub checks_ruling : (files : Files) (dn pn cn : List ℕ) (d : Domain) (p : Problem) (task : TaskShape) (kept : Pruned) (text : List ℕ) → IsTask files dn pn d p task kept → files cn ≡ Some text → length text ≤ cert_limit
    → (r : Result Answer Ending) → ChecksFiles files dn pn cn r → IsRuling (answer_of r).status
checks_ruling files dn pn cn d p task kept text a held size r h =
    let same : h.0 ≡ Ok (accepted d p kept) = accepts_once files dn pn h.0 (Ok (accepted d p kept)) h.1 (accepted_is files dn pn d p task kept a) in
    let k = subst (λ x. Then x (λ a. ThenBy (RulesFile files a.kept.task cn) AnswersRuling) r) same h.2 in
    ruled (files cn) kept.task text k.0 r held size k.1 k.2
