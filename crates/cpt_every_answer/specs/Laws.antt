use Rattle.std.specs.Prelude.{◌≡◌, List, ℕ, IfSome}
use Rattle.cpt_io.specs.Meaning.{Files}
use Rattle.cpt_reach.specs.declared.pruning.Pruned.{Pruned}
use Rattle.cpt_answer.specs.Endings.{Answer}
use Rattle.cpt_kept.specs.Kept.{HoldKept}
use Rattle.cpt_words.specs.Words.{Asked, asked_in, benching, checking, counting, explaining, exporting, json_validation, judging, listing, proving, solving, tightening, trimming, validation}
use Rattle.cpt_top.specs.Commands.{Answers}

-- the two files hold a domain and a problem of it that are accepted, and no quantity of their task passes a limit
abbrev pub AreAccepted : Files → (domain_name problem_name : List ℕ) → Type 0
AreAccepted files domain_name problem_name = (kept : Pruned) × HoldKept files domain_name problem_name kept

-- what is asked for is to judge a plan over a task text, or is one of `validate`, `ground`, `check`, `explain-cert` and `export` over
-- files that hold an accepted domain and an accepted problem
abbrev pub CanBeAnswered : Files → Asked → Type 0
CanBeAnswered files (validation task_name plan_name) = Unit {0}
CanBeAnswered files (judging domain_name problem_name plan_name) = AreAccepted files domain_name problem_name
CanBeAnswered files (listing domain_name problem_name) = AreAccepted files domain_name problem_name
CanBeAnswered files (checking domain_name problem_name cert_name) = AreAccepted files domain_name problem_name
CanBeAnswered files (solving domain_name problem_name budget) = ⊥
CanBeAnswered files (proving domain_name problem_name budget version) = ⊥
CanBeAnswered files (trimming domain_name problem_name cert_name) = ⊥
CanBeAnswered files (tightening domain_name problem_name plan_name) = ⊥
CanBeAnswered files (explaining domain_name problem_name plan_name) = ⊥
CanBeAnswered files (counting domain_name problem_name cert_name) = AreAccepted files domain_name problem_name
CanBeAnswered files (exporting domain_name problem_name) = AreAccepted files domain_name problem_name
CanBeAnswered files (json_validation task_name plan_name) = ⊥
CanBeAnswered files (benching size) = ⊥

-- words that ask for such a command, or for none, have one answer over the files, and no other
abbrev pub EachIsAnswered : Type 0
EachIsAnswered =
    (files : Files) (words : List (List ℕ)) → IfSome (asked_in words) (CanBeAnswered files) → (a : Answer) × Answers files words a × ((b : Answer) → Answers files words b → b ≡ a)
