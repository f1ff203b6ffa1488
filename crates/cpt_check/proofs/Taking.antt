-- pieces of a text, one behind another
use Rattle.std.proofs.Common.{◌≡◌, ℕ, ◌+◌, ◌*◌, ◌<◌, ◌≤◌, ◌^◌, List, [], ◌∷◌, ◌++◌, length, take, drop, Option, None, Some, Result, Ok, Err, refl, sym, ap, ◌∙◌, subst, arith, append_assoc, length-append}
use Rattle.std.proofs.lemmas.List.{take-append-drop, take_all, length-take, length-take-le}
use Rattle.cpt_task.specs.Shape.{TaskShape}
use Rattle.cpt_cert_form.specs.declared.forms.CertLine.{CertLine}
use Rattle.cpt_cert_read.specs.Lines.{Finishes, Feeds}
use Rattle.cpt_cert_read.specs.Texts.{ended}
use Rattle.cpt_cert_read.proofs.Splits.{zip_length, few_lines}
use Rattle.cpt_cert_read.proofs.Feeding as feeding
use Rattle.cpt_cert_accept.specs.Texts.{brings_in}
use Rattle.cpt_cert_accept.proofs.BringBytes.{lines_bytes}
use Rattle.cpt_sections.specs.Sections.{IsLine}
use Rattle.cpt_sections.specs.Stages.{IsStage, HasFewAt}
use Rattle.cpt_sections.proofs.StageLines.{more_few_at}
use Rattle.cpt_check.specs.declared.past.Past.{Past}
use Rattle.cpt_check.specs.declared.past.Fault.{Fault}
use Rattle.cpt_check.specs.declared.past.Found.TheVariants as founds
use Rattle.cpt_check.specs.declared.judged.CheckError.TheVariants as errors
use Rattle.cpt_check.specs.Progress.{IsPast, IsFoundIn, IsRead, IsFoundAt, Takes, TakesFront}

-- the whole lines of bytes that are read, and what stands behind them
size_of : (t : TaskShape) (bytes : List ℕ) (p : Past) (pending : List ℕ) → (h : IsRead t bytes p pending) → length bytes ≡ length (ended h.finished.bodies) + length h.finished.tail
size_of t bytes p pending h = ap length h.finished.split.whole ∙ length-append (ended h.finished.bodies) h.finished.tail

-- no more lines are past than bytes
pub past_few : (t : TaskShape) (bytes : List ℕ) (p : Past) (pending : List ℕ) → IsRead t bytes p pending → p.count ≤ length bytes
past_few t bytes p pending h =
    let few = few_lines h.finished.bodies in
    let same = zip_length h.finished.bodies h.read h.finished.each in
    let count : p.count ≡ length h.read = h.past.count in
    let size = size_of t bytes p pending h in
    omega (arith, few, same, count, size)

-- no sheet has too many tokens where so few bytes are read
pub past_tokens : (t : TaskShape) (bytes : List ℕ) (p : Past) (pending : List ℕ) → IsRead t bytes p pending → length bytes ≤ 2 ^ 36 → HasFewAt 4294967292 p.stage
past_tokens t bytes p pending h short =
    let some = lines_bytes h.finished.bodies h.read h.finished.each in
    let size = size_of t bytes p pending h in
    more_few_at (brings_in h.read) 4294967292 p.stage (omega (arith, some, size, short)) h.past.few

pub read_start : (t : TaskShape) (p : Past) (pending : List ℕ) → IsPast t [] p → pending ≡ [] → IsRead t [] p pending
read_start t p pending h e = record { read = []; finished = feeding.none_finished pending e; past = h }

-- a line at which a fault is known
found_line : (t : TaskShape) (bytes : List ℕ) (p : Past) (before piece body : List ℕ) (line : CertLine) (fault : Fault) → (h : IsRead t bytes p before) → Finishes before piece body line →
    IsFoundIn t h.read line fault → IsFoundAt t (bytes ++ (body ++ 10 ∷ [])) fault
found_line t bytes p before piece body line fault h f k =
    let all = feeding.line_more bytes h.read before piece body line [] h.finished f refl in
    record {
      bodies = all.bodies;
      read = h.read;
      last = line;
      split = feeding.whole_split (bytes ++ (body ++ 10 ∷ [])) (h.read ++ line ∷ []) all;
      each = all.each;
      found = k;
    }

-- a line that ends in a piece leads on
pub fed_line : (t : TaskShape) (bytes : List ℕ) (p : Past) (before after piece : List ℕ) (at taken : ℕ) (line : CertLine) (new : Past) →
    IsRead t (bytes ++ take at piece) p before → Feeds before after (drop at piece) (Ok (taken, Some line)) → ((read : List CertLine) → IsPast t read p → IsPast t (read ++ line ∷ []) new) → IsRead t (bytes ++ take (at + taken) piece) new after
fed_line t bytes p before after piece at taken line new h feeds leads =
    record { read = h.read ++ line ∷ []; finished = feeding.fed_line bytes h.read before after piece at taken line h.finished feeds; past = leads h.read h.past }

-- a line that ends in a piece is at fault
pub fed_fault : (t : TaskShape) (bytes : List ℕ) (p : Past) (before after piece : List ℕ) (at taken : ℕ) (line : CertLine) (fault : Fault) →
    IsRead t (bytes ++ take at piece) p before → Feeds before after (drop at piece) (Ok (taken, Some line)) → ((read : List CertLine) → IsPast t read p → IsFoundIn t read line fault) →
    (front : List ℕ) × (more : List ℕ) × (piece ≡ front ++ more) × IsFoundAt t (bytes ++ front) fault
fed_fault t bytes p before after piece at taken line fault h (body, f, size, e) leads = (
  take at piece ++ (body ++ 10 ∷ []),
  f.rest,
  feeding.line_behind piece at body f.rest f.piece_is,
  subst (λ z. IsFoundAt t z fault) (append_assoc bytes (take at piece) (body ++ 10 ∷ [])) (found_line t (bytes ++ take at piece) p before (drop at piece) body line fault h f (leads h.read h.past)),
)

-- no line ends in what is left of a piece
pub fed_none : (t : TaskShape) (bytes : List ℕ) (p : Past) (before after piece : List ℕ) (at taken : ℕ) → IsRead t (bytes ++ take at piece) p before → Feeds before after (drop at piece) (Ok (taken, None)) → IsRead t (bytes ++ piece) p after
fed_none t bytes p before after piece at taken h feeds = record { read = h.read; finished = feeding.fed_none bytes h.read before after piece at taken h.finished feeds; past = h.past }

-- the line that ends is a line
pub fed_is_line : (t : TaskShape) (bytes : List ℕ) (p : Past) (before after piece : List ℕ) (taken : ℕ) (line : CertLine) → IsRead t bytes p before → Feeds before after piece (Ok (taken, Some line)) → IsLine line
fed_is_line t bytes p before after piece taken line h (body, f, size, e) = (h.finished.tail ++ body, feeding.line_read bytes h.read before piece body line h.finished f)

-- what can be read next
pub stage_next : (t : TaskShape) (bytes : List ℕ) (p : Past) (pending : List ℕ) → IsRead t bytes p pending → IsStage t (p.count + 1) p.stage
stage_next t bytes p pending h = subst (λ z. IsStage t (z + 1) p.stage) (sym h.past.count) h.past.stage

-- there is room for the piece
pub front_on : (t : TaskShape) (bytes piece : List ℕ) (room : ℕ) (new : Past) (pending : List ℕ) → Takes t bytes (take room piece) pending (founds.On new) → length piece ≤ room → TakesFront t bytes piece room pending (Ok (founds.On new))
front_on t bytes piece room new pending h le = (le, subst (λ z. IsRead t (bytes ++ z) new pending) (take_all room piece le) h)

-- there is no room for the piece
pub front_too_long : (t : TaskShape) (bytes piece : List ℕ) (room : ℕ) (new : Past) (pending : List ℕ) → Takes t bytes (take room piece) pending (founds.On new) → room < length piece → TakesFront t bytes piece room pending (Err errors.TooLong)
front_too_long t bytes piece room new pending h lt = (take room piece, drop room piece, new, sym (take-append-drop room piece), length-take-le room piece (omega (arith, lt)), lt, h)

-- a fault is known in the part for which there is room
pub front_fault : (t : TaskShape) (bytes piece : List ℕ) (room : ℕ) (fault : Fault) (pending : List ℕ) → Takes t bytes (take room piece) pending (founds.Fault fault) → TakesFront t bytes piece room pending (Ok (founds.Fault fault))
front_fault t bytes piece room fault pending (front, more, e, found) = (
  front,
  more ++ drop room piece,
  sym (take-append-drop room piece) ∙ ap (λ z. z ++ drop room piece) e ∙ append_assoc front more (drop room piece),
  (let size = length-take room piece in let parts : length (take room piece) ≡ length front + length more = ap length e ∙ length-append front more in omega (arith, size, parts)),
  found,
)
