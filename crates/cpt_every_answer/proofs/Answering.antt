-- commands over accepted files have an answer
use Rattle.std.proofs.Common.{◌≡◌, ℕ, ◌≤◌, ◌⊎◌, inl, inr, Bool, true, false, List, length, map, Option, None, Some, Result, Ok, Err, IfSome, refl, subst, arith}
use Rattle.std.specs.Prelude.{nat_lt, if◌then◌else◌}
use Rattle.std.proofs.lemmas.Bool.{cases_lt, lt-ltb}
use Rattle.cpt_io.specs.Meaning.{Files}
use Rattle.cpt_task.specs.Shape.{TaskShape, InBounds}
use Rattle.cpt_task.specs.Timeline.{IsPlan}
use Rattle.cpt_task.specs.declared.memory.Limit.TheVariants.{Certificate}
use Rattle.cpt_task_text.specs.Spelling.{spelling}
use Rattle.cpt_plan_text.specs.declared.reading.PlanText.{PlanText}
use Rattle.cpt_plan_text.specs.Knowing.{task_finds}
use Rattle.cpt_plan_text.proofs.Finding.{knows_actions}
use Rattle.cpt_reach.proofs.KeptLemmas.{kept_in_bounds}
use Rattle.cpt_answer.specs.declared.ending.Ending.{Ending}
use Rattle.cpt_answer.specs.declared.ending.Ending.TheVariants.{Because}
use Rattle.cpt_answer.specs.declared.ending.Cause.TheVariants.{Passed}
use Rattle.cpt_answer.specs.Endings.{Answer, answer, answer_of, usage_answer}
use Rattle.cpt_answer.specs.Giving.{Then, ThenBy}
use Rattle.cpt_files.specs.declared.accepted.Accepted.{Accepted}
use Rattle.cpt_files.specs.Accepted.{AcceptsTask, accepted}
use Rattle.cpt_files.specs.Files.{task_under, plan_under}
use Rattle.cpt_files.specs.Names.{kept_finds}
use Rattle.cpt_files.proofs.Accepting.{accepted_is}
use Rattle.cpt_files.proofs.Naming.{knows_kept}
use Rattle.cpt_validate.specs.Verdicts.{AnswersVerdict, JudgesFiles, JudgesPlan, accepted_plan, verdict_answer}
use Rattle.cpt_validate.proofs.Zero.{plan_of_task}
use Rattle.cpt_listing.specs.Listing.{ListsTask}
use Rattle.cpt_check.specs.declared.judged.Judged.{Judged}
use Rattle.cpt_check.specs.Judging.{RulesOf, IsTooLong}
use Rattle.cpt_check_files.specs.Rulings.{AnswersRuling, ChecksFiles, RulesFile, RulesText, bytes_under, cert_limit, ruling_answer}
use Rattle.cpt_cert_file.specs.Texts.{certificate_under, text_limit, within_limit}
use Rattle.cpt_counts.specs.declared.kinds.Counts.{Counts}
use Rattle.cpt_counts.specs.Counting.{AreCounts, count_begun, count_same, rule_fronts, tree_lines}
use Rattle.std.specs.Prelude.{codes}
use Rattle.cpt_explain_cert_files.specs.Counted.{CountsFiles, CountsText, counted_answer}
use Rattle.cpt_json_form.specs.Values.{task_value}
use Rattle.cpt_json_files.specs.Faults.{json_line}
use Rattle.cpt_json_files.specs.Exporting.{ExportsTask}
use Rattle.cpt_words.specs.Words.{Asked, asked_in, benching, checking, counting, explaining, exporting, json_validation, judging, listing, proving, solving, tightening, trimming, validation}
use Rattle.cpt_top.specs.Commands.{AnswersTo, IsSettled, Reaches}
use Rattle.cpt_top.proofs.Once.{one_answer}
use Rattle.cpt_decidable.proofs.Verdicts.{verdict_of}
use Rattle.cpt_every_ruling.proofs.Ruling.{each_text_has_a_ruling}
use Rattle.cpt_every_answer.specs.Laws.{AreAccepted, CanBeAnswered, EachIsAnswered}

-- something is come to
abbrev Comes : (Result Answer Ending → Type 0) → Type 0
Comes P = (r : Result Answer Ending) × P r

then_some : {A : Type 0} (x : Result A Ending) (P : A → Result Answer Ending → Type 0) → ((a : A) → x ≡ Ok a → Comes (P a)) → Comes (Then x P)
then_some (Ok a) P more = more a refl
then_some (Err e) P more = (Err e, refl)

-- over an accepted domain and problem
over_accepted : (files : Files) (dn pn : List ℕ) (Q : Accepted → Result Answer Ending → Type 0) → AreAccepted files dn pn → ((a : Accepted) → InBounds a.kept.task → Comes (Q a)) → Comes (ThenBy (AcceptsTask files dn pn) Q)
over_accepted files dn pn Q (kept, held) more =
    let a = accepted held.domain held.problem kept in
    let prunes = held.accepted.prunes in
    let few_atoms = prunes.1 in
    let few_actions = prunes.2 in
    let bounds = kept_in_bounds held.task kept.task kept.atoms kept.actions held.accepted.bounds prunes.0 (omega (arith, few_atoms)) (omega (arith, few_actions)) in
    let last = more a bounds in
    (last.0, (Ok a, accepted_is files dn pn held.domain held.problem held.task kept held.accepted, last.1))

verdict_some : (task : TaskShape) (plan : PlanText) → IsPlan task plan.occs → Comes (AnswersVerdict task plan)
verdict_some task plan of_task = let v = verdict_of task plan.occs of_task in (Ok (verdict_answer task plan v.0), (v.0, v.1, refl))

judges_files_some : (files : Files) (t p : List ℕ) → Comes (JudgesFiles files t p)
judges_files_some files t p =
    then_some (task_under files t) (λ task. Then (plan_under files task p) (AnswersVerdict task))
    (λ task _. then_some (plan_under files task p) (AnswersVerdict task) (λ plan e. verdict_some task plan (plan_of_task files (task_finds task) task p plan (knows_actions task) e)))

judges_plan_some : (files : Files) (dn pn n : List ℕ) → AreAccepted files dn pn → Comes (JudgesPlan files dn pn n)
judges_plan_some files dn pn n held =
    over_accepted files dn pn (λ a. Then (accepted_plan files a n) (AnswersVerdict a.kept.task)) held
    (λ a _. then_some (accepted_plan files a n) (AnswersVerdict a.kept.task)
    (λ plan e. verdict_some a.kept.task plan (plan_of_task files (kept_finds a.domain a.problem a.kept) a.kept.task n plan (knows_kept a.domain a.problem a.kept) e)))

lists_some : (files : Files) (dn pn : List ℕ) → AreAccepted files dn pn → Comes (ListsTask files dn pn)
lists_some files dn pn held = over_accepted files dn pn (λ a r. r ≡ Ok (answer 0 (spelling a.kept.task))) held (λ a _. (Ok (answer 0 (spelling a.kept.task)), refl))

exports_some : (files : Files) (dn pn : List ℕ) → AreAccepted files dn pn → Comes (ExportsTask files dn pn)
exports_some files dn pn held = over_accepted files dn pn (λ a r. r ≡ Ok (answer 0 (json_line (task_value a.kept.task)))) held (λ a _. (Ok (answer 0 (json_line (task_value a.kept.task))), refl))

-- a certificate
rules_some : (t : TaskShape) (text : List ℕ) → InBounds t → (r : Result Judged Ending) × RulesText t text r
rules_some t text inside = go (each_text_has_a_ruling t cert_limit text inside (omega arith))
  where
    go : (((judged : Judged) × RulesOf t cert_limit text judged.version judged.ruling) ⊎ IsTooLong t cert_limit text) → (r : Result Judged Ending) × RulesText t text r
    go (inl h) = (Ok h.0, h.1)
    go (inr long) = (Err (Because (Passed Certificate)), (long, refl))

rules_file_some : (t : TaskShape) (x : Result (List ℕ) Ending) → InBounds t → (r : Result Judged Ending) × Then x (RulesText t) r
rules_file_some t (Ok text) inside = rules_some t text inside
rules_file_some t (Err e) inside = (Err e, refl)

ruling_some : (P : Result Judged Ending → Type 0) → (x : Result Judged Ending) × P x → Comes (ThenBy P AnswersRuling)
ruling_some P (Ok judged, h) = (Ok (ruling_answer judged), (Ok judged, h, refl))
ruling_some P (Err e, h) = (Err e, (Err e, h, refl))

checks_some : (files : Files) (dn pn c : List ℕ) → AreAccepted files dn pn → Comes (ChecksFiles files dn pn c)
checks_some files dn pn c held =
    over_accepted files dn pn (λ a. ThenBy (RulesFile files a.kept.task c) AnswersRuling) held
    (λ a inside. ruling_some (RulesFile files a.kept.task c) (rules_file_some a.kept.task (bytes_under files c) inside))

-- the numbers of its lines
counts_of : (text : List ℕ) → (counts : Counts) × AreCounts text counts
counts_of text =
    let counts : Counts = record {
      closed = count_same (codes "close") (tree_lines text);
      branched = count_begun (codes "branch ") (tree_lines text);
      left = count_same (codes "open") (tree_lines text);
      rules = map (λ front. count_begun front (tree_lines text)) rule_fronts;
    } in
    (counts, record { closed = refl; branched = refl; left = refl; rules = refl })

short_text : (o : Option (List ℕ)) (text : List ℕ) → within_limit o ≡ Ok text → length text ≤ text_limit
short_text None text e = absurd (cc)
short_text (Some bytes) text e = go (nat_lt text_limit (length bytes)) refl e
  where
    go : (c : Bool) → nat_lt text_limit (length bytes) ≡ c → (if c then Err (Because (Passed Certificate)) else Ok bytes) ≡ Ok text → length text ≤ text_limit
    go true k e = absurd (cc)
    go false k e =
        let same : bytes ≡ text = cc in
        let least : length bytes ≤ text_limit = elim (cases_lt text_limit (length bytes)) [ inl l ↦ (let t : nat_lt text_limit (length bytes) ≡ true = lt-ltb text_limit (length bytes) l in absurd (cc)) | inr m ↦ m ] in
        subst (λ z. length z ≤ text_limit) same least

counts_text_some : (t : TaskShape) (text : List ℕ) → InBounds t → length text ≤ text_limit → Comes (CountsText t text)
counts_text_some t text inside short = go (each_text_has_a_ruling t text_limit text inside (omega arith)) (counts_of text)
  where
    go : (((judged : Judged) × RulesOf t text_limit text judged.version judged.ruling) ⊎ IsTooLong t text_limit text) → (counts : Counts) × AreCounts text counts → Comes (CountsText t text)
    go (inl h) k = (Ok (counted_answer h.0 k.0), (h.0, h.1, (k.0, k.1, refl)))
    go (inr long) k = let size = long.size in absurd (omega (arith, size, short))

counts_some : (files : Files) (dn pn c : List ℕ) → AreAccepted files dn pn → Comes (CountsFiles files dn pn c)
counts_some files dn pn c held =
    over_accepted files dn pn (λ a. Then (certificate_under files c) (CountsText a.kept.task)) held
    (λ a inside. then_some (certificate_under files c) (CountsText a.kept.task) (λ text e. counts_text_some a.kept.task text inside (short_text (files c) text e)))

-- all of them
reaches_some : (files : Files) (asked : Asked) → CanBeAnswered files asked → Comes (Reaches files asked)
reaches_some files (validation t p) can = judges_files_some files t p
reaches_some files (judging dn pn n) can = judges_plan_some files dn pn n can
reaches_some files (listing dn pn) can = lists_some files dn pn can
reaches_some files (checking dn pn c) can = checks_some files dn pn c can
reaches_some files (solving dn pn budget) can = absurd can
reaches_some files (proving dn pn budget version) can = absurd can
reaches_some files (trimming dn pn c) can = absurd can
reaches_some files (tightening dn pn n) can = absurd can
reaches_some files (explaining dn pn n) can = absurd can
reaches_some files (counting dn pn c) can = counts_some files dn pn c can
reaches_some files (exporting dn pn) can = exports_some files dn pn can
reaches_some files (json_validation t p) can = absurd can
reaches_some files (benching n) can = absurd can

settled : (files : Files) (asked : Asked) → CanBeAnswered files asked → IsSettled asked
settled files (validation t p) can = tt
settled files (judging dn pn n) can = tt
settled files (listing dn pn) can = tt
settled files (checking dn pn c) can = tt
settled files (solving dn pn budget) can = tt
settled files (proving dn pn budget version) can = can
settled files (trimming dn pn c) can = can
settled files (tightening dn pn n) can = tt
settled files (explaining dn pn n) can = tt
settled files (counting dn pn c) can = tt
settled files (exporting dn pn) can = tt
settled files (json_validation t p) can = tt
settled files (benching n) can = can

all_settled : (files : Files) (o : Option Asked) → IfSome o (CanBeAnswered files) → IfSome o IsSettled
all_settled files None can = tt
all_settled files (Some asked) can = settled files asked can

answers_some : (files : Files) (o : Option Asked) → IfSome o (CanBeAnswered files) → (a : Answer) × AnswersTo files o a
answers_some files None can = (usage_answer, refl)
answers_some files (Some asked) can = let h = reaches_some files asked can in (answer_of h.0, (h.0, h.1, refl))

pub each_is_answered : EachIsAnswered
each_is_answered files words can =
    let h = answers_some files (asked_in words) can in
    (h.0, h.1, λ b is. one_answer files words b h.0 (all_settled files (asked_in words) can) is h.1)
