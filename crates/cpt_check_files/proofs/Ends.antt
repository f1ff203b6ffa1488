use Rattle.std.proofs.Common.{◌≡◌, ℕ, true, false, List, [], Option, None, Some, Result, Ok, Err, IfOk, sym, ap, ◌∙◌}
use Rattle.std.specs.Prelude.{IsSome}
use Rattle.cpt_io.specs.Meaning.{Files, MayHold, Opens}
use Rattle.cpt_task.specs.Shape.{TaskShape}
use Rattle.cpt_check.specs.declared.judged.Judged.{Judged}
use Rattle.cpt_check.specs.declared.judged.Ruling.{Ruling}
use Rattle.cpt_check.specs.declared.judged.Ruling.TheVariants.{Accepted, Rejected}
use Rattle.cpt_check.specs.Judging.{LeavesOf}
use Rattle.cpt_answer.specs.declared.ending.Ending.{Ending}
use Rattle.cpt_answer.specs.declared.ending.Reply.{Reply}
use Rattle.cpt_answer.specs.Endings.{answer_of, reply_answer}
use Rattle.cpt_answer.specs.Giving.{Gives}
use Rattle.cpt_check_files.specs.Rulings.{AnswersRuling, ruling_status}

-- of an accepted text nothing is left
pub accepted_end : (t : TaskShape) (text : List ℕ) (left : Option (List ℕ)) (ruling : Ruling) → LeavesOf t text left ruling → ruling_status ruling ≡ 0 → left ≡ Some []
accepted_end t text left (Accepted claim) h zero = h
accepted_end t text left (Rejected line why) h zero = absurd (cc)

-- a file that was opened has bytes that are left, where they are told
some_left : (x left : Option (List ℕ)) (Z : Type 0) → left ≡ x → IsSome x → ((text : List ℕ) → left ≡ Some text → Z) → Z
some_left (Some text) left Z same held f = f text same
some_left None left Z same held f = let never : false ≡ true = held in absurd (cc)

pub opened_end : (o : Option Files) (name : List ℕ) (left : Option (List ℕ)) (Z : Type 0) → Opens o name left → MayHold o name → ((text : List ℕ) → left ≡ Some text → Z) → IsSome o → Z
opened_end (Some files) name left Z opens held f told = some_left (files name) left Z opens held f
opened_end None name left Z opens held f told = let never : false ≡ true = told in absurd (cc)

-- a reply of status 0 is that of an accepted text
pub reply_end : (r : Result Reply Ending) (j : Judged) (Z : Type 0) → Gives true reply_answer r (AnswersRuling j) → (ruling_status j.ruling ≡ 0 → Z) → IfOk r (λ reply. reply.status ≡ 0 → Z)
reply_end (Ok reply) j Z g z = λ zero. z (sym (ap (λ x. (answer_of x).status) g) ∙ zero)
reply_end (Err e) j Z g z = tt

pub ruled_end : (o : Option Files) (name : List ℕ) (left now : Option (List ℕ)) (r : Result Judged Ending) → Opens o name left → MayHold o name
    → IfOk r (λ judged. ruling_status judged.ruling ≡ 0 → (text : List ℕ) → left ≡ Some text → now ≡ Some []) → IfOk r (λ judged. ruling_status judged.ruling ≡ 0 → IsSome o → now ≡ Some [])
ruled_end o name left now (Ok judged) opens held h = λ zero. opened_end o name left (now ≡ Some []) opens held (h zero)
ruled_end o name left now (Err e) opens held h = tt
