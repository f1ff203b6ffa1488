use Rattle.std.proofs.Common.{◌≡◌, Option, None, Some, Result, IfSome, sym, ◌∙◌}
use Rattle.cpt_io.specs.Meaning.{Files}
use Rattle.cpt_answer.specs.declared.ending.Ending.{Ending}
use Rattle.cpt_answer.specs.Endings.{Answer}
use Rattle.cpt_answer.proofs.Promise.{one_answer as one}
use Rattle.cpt_words.specs.Words.{Asked, asked_in, benching, checking, counting, explaining, exporting, json_validation, judging, listing, proving, solving, tightening, trimming, validation}
use Rattle.cpt_validate.proofs.Once.{judges_files_once, judges_plan_once}
use Rattle.cpt_listing.proofs.Keeping.{lists_task_once}
use Rattle.cpt_check_files.proofs.Certified.{checks_files_once}
use Rattle.cpt_plan_files.proofs.Once.{explains_once, tightens_once}
use Rattle.cpt_explain_cert_files.proofs.Once.{counts_once}
use Rattle.cpt_json_files.proofs.Zero.{exports_once, judges_json_once}
use Rattle.cpt_solve.proofs.Deciding.{solves_once}
use Rattle.cpt_top.specs.Commands.{AnswersTo, IsSettled, OneAnswer, Reaches}

reaches_once : (files : Files) (asked : Asked) (r s : Result Answer Ending) → IsSettled asked → Reaches files asked r → Reaches files asked s → r ≡ s
reaches_once files (validation t p) r s settled = judges_files_once files t p r s
reaches_once files (judging d p n) r s settled = judges_plan_once files d p n r s
reaches_once files (listing d p) r s settled = lists_task_once files d p r s
reaches_once files (checking d p c) r s settled = checks_files_once files d p c r s
reaches_once files (solving d p budget) r s settled = solves_once files d p budget r s
reaches_once files (proving d p budget version) r s settled = absurd settled
reaches_once files (trimming d p c) r s settled = absurd settled
reaches_once files (tightening d p n) r s settled = tightens_once files d p n r s
reaches_once files (explaining d p n) r s settled = explains_once files d p n r s
reaches_once files (counting d p c) r s settled = counts_once files d p c r s
reaches_once files (exporting d p) r s settled = exports_once files d p r s
reaches_once files (json_validation t p) r s settled = judges_json_once files t p r s
reaches_once files (benching n) r s settled = absurd settled

answers_once : (files : Files) (asked : Option Asked) (a b : Answer) → IfSome asked IsSettled → AnswersTo files asked a → AnswersTo files asked b → a ≡ b
answers_once files (Some asked) a b settled h k = one (Reaches files asked) (λ r s. reaches_once files asked r s settled) a b h k
answers_once files None a b settled h k = h ∙ sym k

-- words over files have at most one answer
pub one_answer : OneAnswer
one_answer files words a b settled h k = answers_once files (asked_in words) a b settled h k
