use Rattle.std.proofs.Common.{◌≡◌, ◌↔◌, ℕ, ◌<◌, ◌≤◌, ◌⊎◌, inl, inr, Bool, IsTrue, List, [], Option, None, Some, IfSome, refl, sym, ◌∙◌, subst, arith}
use Rattle.std.specs.Prelude.{IsSome}
use Rattle.std.specs.Io.KnownBytes.{append_known}
use Rattle.cpt_io.specs.Meaning.{Files, AppendsFront}
use Rattle.cpt_answer.specs.Endings.{Answer, answer, read_answer, usage_answer}
use Rattle.cpt_answer.specs.Lines.{memory_line, read_line}
use Rattle.cpt_answer.specs.Promise.{AnswersOver, Call, IsAnswerOf, IsQuiet, MayWrite, Performs, answers, call}
use Rattle.cpt_answer.specs.Writing.{Output, Writes}
use Rattle.cpt_answer.proofs.Giving.{if_some_weaker}
use Rattle.cpt_answer.proofs.Promise as general
use Rattle.cpt_words.specs.Laws.{AsksBench, AsksChecking, AsksCounting, AsksExplaining, AsksExport, AsksJson, AsksJudging, AsksListing, AsksProving, AsksSolving, AsksTightening, AsksTrimming, AsksValidation, IsUsage}
use Rattle.cpt_words.specs.Words.{Asked, asked_in, benching, checking, counting, explaining, exporting, json_validation, judging, listing, proving, solving, tightening, trimming, validation}
use Rattle.cpt_options.specs.declared.options.Budget.{Budget}
use Rattle.cpt_cert_form.specs.declared.forms.Version.{Version}
use Rattle.cpt_words.proofs.Reading.{reads_words}
use Rattle.cpt_validate.specs.Commands.{ValidatesProblem, ValidatesTask}
use Rattle.cpt_listing.specs.Listing.{ListsProblem}
use Rattle.cpt_check_files.specs.Commands.{ChecksProblem}
use Rattle.cpt_bench.specs.Commands.{BenchesProblem}
use Rattle.cpt_prove.specs.Commands.{ProvesProblem}
use Rattle.cpt_trim_files.specs.Commands.{TrimsProblem}
use Rattle.cpt_plan_files.specs.Commands.{ExplainsProblem, TightensProblem}
use Rattle.cpt_explain_cert_files.specs.Commands.{CountsProblem}
use Rattle.cpt_json_files.specs.Exporting.{ExportsProblem}
use Rattle.cpt_json_files.specs.Validating.{ValidatesJson}
use Rattle.cpt_solve.specs.Commands.{SolvesProblem}
use Rattle.cpt_top.specs.Commands.{Answers, AnswersTo, AnswersWords, Keeps, NamesFiles, Reaches}

-- what a call promises, over words and files, with what is left of the file that was opened last
pub record AllKept (o : Option Files) (words : List (List ℕ)) (left : Option (List ℕ)) (x : Call) : Type 0 where
  pub known : x.status ≤ 9
  pub only : IfSome o (λ files. x.status < 7 → (text : List ℕ) × Answers files words (answer x.status text) × (x.new.written ≡ append_known x.old.written text))
  pub given : IfSome o (λ files. IsQuiet (Answers files words read_answer → ⊥) x
      → (x.status ≡ 9) ⊎ ((a : Answer) × Answers files words a × (a.status < 7) × (x.status ≡ a.status) × (x.new.written ≡ append_known x.old.written a.text)))
  pub end : x.status ≡ 0 → ((n : ℕ) → AsksBench words n → ⊥) → IsSome o → left ≡ Some []
  pub usage : x.status ≡ 5 → IsUsage words
  pub unknown : IsUsage words → (x.status ≡ 5) ⊎ (x.status ≡ 8)
  pub read : (x.status ≡ 7) ↔ ((x.before < x.now) × (x.new.faults ≡ x.old.faults))
  pub read_text : x.status ≡ 7 → x.new.written ≡ append_known x.old.written read_line
  pub lacking : IfSome o (λ files. IsTrue x.steady → x.before < x.now → Answers files words read_answer)
  pub write : (x.status ≡ 8) ↔ (x.old.faults < x.new.faults)
  pub front : IfSome o (λ files. x.status ≡ 8 → (text : List ℕ) × MayWrite (Answers files words) text × AppendsFront x.old.written x.new.written text)
  pub memory : x.status ≡ 9 → x.new.written ≡ append_known x.old.written memory_line
  pub reads : x.before ≤ x.now
  pub writes : x.old.faults ≤ x.new.faults
  pub validate_task : IfSome o (λ files. (task_name plan_name : List ℕ) → AsksValidation words task_name plan_name → ValidatesTask files task_name plan_name x)
  pub validate : IfSome o (λ files. (domain_name problem_name plan_name : List ℕ) → AsksJudging words domain_name problem_name plan_name → ValidatesProblem files domain_name problem_name plan_name x)
  pub ground : IfSome o (λ files. (domain_name problem_name : List ℕ) → AsksListing words domain_name problem_name → ListsProblem files domain_name problem_name x)
  pub check : IfSome o (λ files. (domain_name problem_name cert_name : List ℕ) → AsksChecking words domain_name problem_name cert_name → ChecksProblem files domain_name problem_name cert_name x)
  pub solve : IfSome o (λ files. (domain_name problem_name : List ℕ) (budget : Budget) → AsksSolving words domain_name problem_name budget → SolvesProblem files domain_name problem_name budget x)
  pub prove : IfSome o (λ files. (domain_name problem_name : List ℕ) (budget : Budget) (version : Version) → AsksProving words domain_name problem_name budget version → ProvesProblem files domain_name problem_name budget version x)
  pub trim : IfSome o (λ files. (domain_name problem_name cert_name : List ℕ) → AsksTrimming words domain_name problem_name cert_name → TrimsProblem files domain_name problem_name cert_name x)
  pub tighten : IfSome o (λ files. (domain_name problem_name plan_name : List ℕ) → AsksTightening words domain_name problem_name plan_name → TightensProblem files domain_name problem_name plan_name x)
  pub explain : IfSome o (λ files. (domain_name problem_name plan_name : List ℕ) → AsksExplaining words domain_name problem_name plan_name → ExplainsProblem files domain_name problem_name plan_name x)
  pub explain_cert : IfSome o (λ files. (domain_name problem_name cert_name : List ℕ) → AsksCounting words domain_name problem_name cert_name → CountsProblem files domain_name problem_name cert_name x)
  pub export : IfSome o (λ files. (domain_name problem_name : List ℕ) → AsksExport words domain_name problem_name → ExportsProblem files domain_name problem_name x)
  pub validate_json : IfSome o (λ files. (task_name plan_name : List ℕ) → AsksJson words task_name plan_name → ValidatesJson files task_name plan_name x)
  pub bench : IfSome o (λ files. (n : ℕ) → AsksBench words n → BenchesProblem n x)

-- the command that is asked for keeps its promise
abbrev CommandKeeps : Option Files → List (List ℕ) → Call → Type 0
CommandKeeps o words x = IfSome o (λ files. (asked : Asked) → asked_in words ≡ Some asked → Keeps files asked x)

-- over told files the answers are those to the words
words_over : (o : Option Files) (words : List (List ℕ)) (x : Call) → Performs (AnswersWords o words) x → IfSome o (λ files. Performs (Answers files words) x)
words_over None words x h = tt
words_over (Some files) words x h = general.performs_weaker (AnswersWords (Some files) words) (Answers files words) x (λ a is. is.over) h

-- what follows for every call
all_kept : (o : Option Files) (words : List (List ℕ)) (left : Option (List ℕ)) (x : Call) → Performs (AnswersWords o words) x → CommandKeeps o words x → (x.status ≡ 0 → ((n : ℕ) → AsksBench words n → ⊥) → IsSome o → left ≡ Some [])
    → (IsUsage words → (x.status ≡ 5) ⊎ (x.status ≡ 8)) → AllKept o words left x
all_kept o words left x h kept end unknown =
    let over = words_over o words x h in
    let A = AnswersWords o words in
    let P : Files → Type 0 = λ files. Performs (Answers files words) x in
    let Kept : Files → Type 0 = λ files. (asked : Asked) → asked_in words ≡ Some asked → Keeps files asked x in
    record {
      known = general.known A x h;
      only = if_some_weaker o P (λ files. x.status < 7 → (text : List ℕ) × Answers files words (answer x.status text) × (x.new.written ≡ append_known x.old.written text)) (λ files. general.only (Answers files words) x) over;
      given = if_some_weaker o P
          (λ files. IsQuiet (Answers files words read_answer → ⊥) x
          → (x.status ≡ 9) ⊎ ((a : Answer) × Answers files words a × (a.status < 7) × (x.status ≡ a.status) × (x.new.written ≡ append_known x.old.written a.text)))
          (λ files. general.given (Answers files words) x) over;
      end = end;
      usage = (λ five. let told = general.only A x h (omega (arith, five)) in told.1.asked five);
      unknown = unknown;
      read = general.read_exactly A x h;
      read_text = general.read_text A x h;
      lacking = if_some_weaker o P (λ files. IsTrue x.steady → x.before < x.now → Answers files words read_answer) (λ files. general.lacking (Answers files words) x) over;
      write = general.write_exactly A x h;
      front = if_some_weaker o P (λ files. x.status ≡ 8 → (text : List ℕ) × MayWrite (Answers files words) text × AppendsFront x.old.written x.new.written text) (λ files. general.front (Answers files words) x) over;
      memory = general.memory_text A x h;
      reads = general.never_falls A x h;
      writes = general.output_never_falls A x h;
      validate_task = if_some_weaker o Kept (λ files. (t p : List ℕ) → AsksValidation words t p → ValidatesTask files t p x) (λ files k t p asks. k (validation t p) ((reads_words.validation words t p).1 asks)) kept;
      validate = if_some_weaker o Kept (λ files. (d p n : List ℕ) → AsksJudging words d p n → ValidatesProblem files d p n x) (λ files k d p n asks. k (judging d p n) ((reads_words.judging words d p n).1 asks)) kept;
      ground = if_some_weaker o Kept (λ files. (d p : List ℕ) → AsksListing words d p → ListsProblem files d p x) (λ files k d p asks. k (listing d p) ((reads_words.listing words d p).1 asks)) kept;
      check = if_some_weaker o Kept (λ files. (d p c : List ℕ) → AsksChecking words d p c → ChecksProblem files d p c x) (λ files k d p c asks. k (checking d p c) ((reads_words.checking words d p c).1 asks)) kept;
      solve = if_some_weaker o Kept (λ files. (d p : List ℕ) (budget : Budget) → AsksSolving words d p budget → SolvesProblem files d p budget x) (λ files k d p budget asks. k (solving d p budget) ((reads_words.solving words d p budget).1 asks)) kept;
      prove = if_some_weaker o Kept (λ files. (d p : List ℕ) (budget : Budget) (version : Version) → AsksProving words d p budget version → ProvesProblem files d p budget version x) (λ files k d p budget version asks. k (proving d p budget version) ((reads_words.proving words d p budget version).1 asks)) kept;
      trim = if_some_weaker o Kept (λ files. (d p c : List ℕ) → AsksTrimming words d p c → TrimsProblem files d p c x) (λ files k d p c asks. k (trimming d p c) ((reads_words.trimming words d p c).1 asks)) kept;
      tighten = if_some_weaker o Kept (λ files. (d p n : List ℕ) → AsksTightening words d p n → TightensProblem files d p n x) (λ files k d p n asks. k (tightening d p n) ((reads_words.tightening words d p n).1 asks)) kept;
      explain = if_some_weaker o Kept (λ files. (d p n : List ℕ) → AsksExplaining words d p n → ExplainsProblem files d p n x) (λ files k d p n asks. k (explaining d p n) ((reads_words.explaining words d p n).1 asks)) kept;
      explain_cert = if_some_weaker o Kept (λ files. (d p c : List ℕ) → AsksCounting words d p c → CountsProblem files d p c x) (λ files k d p c asks. k (counting d p c) ((reads_words.counting words d p c).1 asks)) kept;
      export = if_some_weaker o Kept (λ files. (d p : List ℕ) → AsksExport words d p → ExportsProblem files d p x) (λ files k d p asks. k (exporting d p) ((reads_words.exporting words d p).1 asks)) kept;
      validate_json = if_some_weaker o Kept (λ files. (t p : List ℕ) → AsksJson words t p → ValidatesJson files t p x) (λ files k t p asks. k (json_validation t p) ((reads_words.json_validation words t p).1 asks)) kept;
      bench = if_some_weaker o Kept (λ files. (n : ℕ) → AsksBench words n → BenchesProblem n x) (λ files k n asks. k (benching n) ((reads_words.benching words n).1 asks)) kept;
    }

-- the answers of the command that is asked for are those to the words
to_words : (o : Option Files) (words : List (List ℕ)) (asked : Asked) (a : Answer) → asked_in words ≡ Some asked → AnswersOver o (λ files. Reaches files asked) a → AnswersWords o words a
to_words o words asked a e h = record {
  over = if_some_weaker o (λ files. IsAnswerOf (Reaches files asked) a) (λ files. Answers files words a) (λ files is. subst (λ x. AnswersTo files x a) (sym e) is) h.over;
  asked = (λ five. absurd (h.asked five));
}

same_asked : (words : List (List ℕ)) (asked other : Asked) → asked_in words ≡ Some asked → asked_in words ≡ Some other → asked ≡ other
same_asked words asked other e f = let g : Some asked ≡ Some other = sym e ∙ f in cc

-- words that do not ask for bench name files
names_files : (words : List (List ℕ)) (asked : Asked) → asked_in words ≡ Some asked → ((n : ℕ) → AsksBench words n → ⊥) → NamesFiles asked
names_files words (validation task_name plan_name) e none = tt
names_files words (judging domain_name problem_name plan_name) e none = tt
names_files words (listing domain_name problem_name) e none = tt
names_files words (checking domain_name problem_name cert_name) e none = tt
names_files words (solving domain_name problem_name budget) e none = tt
names_files words (proving domain_name problem_name budget version) e none = tt
names_files words (trimming domain_name problem_name cert_name) e none = tt
names_files words (tightening domain_name problem_name plan_name) e none = tt
names_files words (explaining domain_name problem_name plan_name) e none = tt
names_files words (counting domain_name problem_name cert_name) e none = tt
names_files words (exporting domain_name problem_name) e none = tt
names_files words (json_validation task_name plan_name) e none = tt
names_files words (benching n) e none = none n ((reads_words.benching words n).0 e)

-- what follows where a command is asked for
pub command_kept : (o : Option Files) (words : List (List ℕ)) (left : Option (List ℕ)) (x : Call) (asked : Asked) → asked_in words ≡ Some asked → Performs (AnswersOver o (λ files. Reaches files asked)) x
    → IfSome o (λ files. Keeps files asked x) → (x.status ≡ 0 → NamesFiles asked → IsSome o → left ≡ Some []) → AllKept o words left x
command_kept o words left x asked e h keeps end =
    all_kept o words left x (general.performs_weaker (AnswersOver o (λ files. Reaches files asked)) (AnswersWords o words) x (λ a. to_words o words asked a e) h)
    (if_some_weaker o (λ files. Keeps files asked x) (λ files. (other : Asked) → asked_in words ≡ Some other → Keeps files other x) (λ files k other f. subst (λ a. Keeps files a x) (same_asked words asked other e f) k) keeps) (λ zero none. end zero (names_files words asked e none))
    (λ none. absurd (let f : None ≡ Some asked = sym none ∙ e in cc))

-- what follows where none is
pub told_all : {X : Type 0} (o : Option X) (P : X → Type 0) → ((x : X) → P x) → IfSome o P
told_all None P f = tt
told_all (Some x) P f = f x

usage_status : (old new : Output) (status : ℕ) → Writes old new usage_answer status → (status ≡ 5) ⊎ (status ≡ 8)
usage_status old new status w = elim w [ inl whole ↦ inl whole.status_is | inr front ↦ inr front.status_is ]

pub usage_kept : (o : Option Files) (words : List (List ℕ)) (left : Option (List ℕ)) (steady : Bool) (before : ℕ) (old new : Output) (status : ℕ) → IsUsage words → Writes old new usage_answer status
    → AllKept o words left (call steady before before old new status)
usage_kept o words left steady before old new status none w =
    let is : AnswersWords o words usage_answer = record { over = told_all o (λ files. Answers files words usage_answer) (λ files. subst (λ x. AnswersTo files x usage_answer) (sym none) refl); asked = (λ five. none) } in
    let which = usage_status old new status w in
    all_kept o words left (call steady before before old new status) (answers usage_answer is (omega arith) refl w)
    (told_all o (λ files. (asked : Asked) → asked_in words ≡ Some asked → Keeps files asked (call steady before before old new status)) (λ files asked e. absurd (let f : None ≡ Some asked = sym none ∙ e in cc)))
    (λ zero. absurd (elim which [ inl five ↦ omega (arith, zero, five) | inr eight ↦ omega (arith, zero, eight) ]))
    (λ _. which)
