use Rattle.std.proofs.Common.{◌≡◌, ℕ, Bool, List, Option, Result, Ok, IfSome}
use Rattle.cpt_io.specs.Meaning.{Files}
use Rattle.cpt_check.specs.declared.judged.Judged.{Judged}
use Rattle.cpt_files.specs.declared.accepted.Accepted.{Accepted}
use Rattle.cpt_answer.specs.declared.ending.Ending.{Ending}
use Rattle.cpt_files.specs.Accepted.{AcceptsTask}
use Rattle.cpt_answer.specs.Giving.{Gives, ThenBy}
use Rattle.cpt_answer.proofs.Giving.{if_both, then_by_ok}
use Rattle.cpt_answer.specs.declared.ending.Reply.{Reply}
use Rattle.cpt_check_files.specs.Rulings.{AnswersRuling, ChecksFiles, RulesFile}
use Rattle.cpt_answer.specs.Endings.{reply_answer}

-- the ruling on the text that was read over the accepted task is that of the files
pub checked_files : (o q : Option Files) (steady : Bool) (dn pn name : List ℕ) (a : Accepted) (j : Judged) (r : Result Reply Ending) → q ≡ o → IfSome o (λ files. AcceptsTask files dn pn (Ok a))
    → IfSome q (λ files. RulesFile files a.kept.task name (Ok j)) → Gives steady reply_answer r (AnswersRuling j) → IfSome o (λ files. Gives steady reply_answer r (ChecksFiles files dn pn name))
checked_files o q steady dn pn name a j r same h k g =
    if_both o q (λ files. AcceptsTask files dn pn (Ok a)) (λ files. RulesFile files a.kept.task name (Ok j)) (λ files. Gives steady reply_answer r (ChecksFiles files dn pn name)) same
    (λ files x y. then_by_ok steady reply_answer (AcceptsTask files dn pn) a r (λ b. ThenBy (RulesFile files b.kept.task name) AnswersRuling) x
    (then_by_ok steady reply_answer (RulesFile files a.kept.task name) j r AnswersRuling y g)) h k
