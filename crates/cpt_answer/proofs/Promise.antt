use Rattle.std.proofs.Common.{◌≡◌, ◌≢◌, ◌↔◌, ℕ, ◌<◌, ◌≤◌, ◌⊎◌, inl, inr, Bool, IsTrue, List, Option, None, Some, Result, Ok, Err, IfOk, IfSome, refl, sym, ap, ◌∙◌, subst, arith}
use Rattle.std.specs.Prelude.{OnOk}
use Rattle.std.specs.Io.KnownBytes.{append_known}
use Rattle.cpt_io.specs.Meaning.{Files, AppendsFront}
use Rattle.cpt_task.specs.declared.memory.Limit.{Limit}
use Rattle.cpt_answer.specs.declared.ending.Cause.{Cause}
use Rattle.cpt_answer.specs.declared.ending.Cause.TheVariants.{Passed, DomainByte, ProblemByte, TaskLine, PlanLine, PlanUnknown, MustLast, IsUnreachable}
use Rattle.cpt_answer.specs.declared.ending.Ending.{Ending}
use Rattle.cpt_answer.specs.declared.ending.Ending.TheVariants.{Because, Read, Memory}
use Rattle.cpt_answer.specs.declared.ending.Reply.{Reply}
use Rattle.cpt_answer.specs.Endings.{Answer, answer, answer_of, cause_answer, memory_answer, read_answer, reply_answer, told}
use Rattle.cpt_answer.specs.Giving.{Gives, Then}
use Rattle.cpt_answer.specs.Lines.{memory_line, read_line}
use Rattle.cpt_answer.specs.Promise.{AnswersOver, Call, IsAnswerOf, IsQuiet, IsUndisturbed, MayWrite, Performs, answers, call, cannot_read, wants_memory}
use Rattle.cpt_answer.specs.Writing.{Output, Tells, Writes, WritesFront, WritesWhole}
use Rattle.cpt_answer.proofs.Giving.{if_some_weaker}

-- what a command does whose answers are also answers of something weaker
pub performs_weaker : (A B : Answer → Type 0) (x : Call) → ((a : Answer) → A a → B a) → Performs A x → Performs B x
performs_weaker A B x f (answers a is low kept w) = answers a (f a is) low kept w
performs_weaker A B x f (cannot_read is rose w) = cannot_read (λ always. f read_answer (is always)) rose w
performs_weaker A B x f (wants_memory kept w) = wants_memory kept w

-- a cause is answered with status 1 or 4, or it is a limit that was passed
pub cause_kind : (c : Cause) → ((cause_answer c).status ≡ 1) ⊎ ((cause_answer c).status ≡ 4) ⊎ ((limit : Limit) × (c ≡ Passed limit))
cause_kind (MustLast line dur) = inl refl
cause_kind (IsUnreachable line) = inl refl
cause_kind (DomainByte at fault) = inr (inl refl)
cause_kind (ProblemByte at fault) = inr (inl refl)
cause_kind (TaskLine line) = inr (inl refl)
cause_kind (PlanLine line) = inr (inl refl)
cause_kind (PlanUnknown line) = inr (inl refl)
cause_kind (Passed limit) = inr (inr (limit, refl))

cause_status : (c : Cause) → ((cause_answer c).status ≡ 1) ⊎ ((cause_answer c).status ≡ 4) ⊎ ((cause_answer c).status ≡ 6)
cause_status c = elim (cause_kind c) [
  | inl one ↦ inl one
  | inr k ↦ elim k [ inl four ↦ inr (inl four) | inr passed ↦ inr (inr (ap (λ c. (cause_answer c).status) passed.1)) ]
]

pub cause_low : (c : Cause) → (cause_answer c).status < 7
cause_low c = elim (cause_status c) [ inl one ↦ omega (arith, one) | inr k ↦ elim k [ inl four ↦ omega (arith, four) | inr six ↦ omega (arith, six) ] ]

cause_not_five : (c : Cause) → (cause_answer c).status ≢ 5
cause_not_five c five = elim (cause_status c) [ inl one ↦ omega (arith, one, five) | inr k ↦ elim k [ inl four ↦ omega (arith, four, five) | inr six ↦ omega (arith, six, five) ] ]

cause_not_zero : (c : Cause) → (cause_answer c).status ≢ 0
cause_not_zero c zero = elim (cause_status c) [ inl one ↦ omega (arith, one, zero) | inr k ↦ elim k [ inl four ↦ omega (arith, four, zero) | inr six ↦ omega (arith, six, zero) ] ]

-- what is known of a reply, or of how a command ends
pub record Worked (o : Option Files) (steady : Bool) (P : Files → Result Answer Ending → Type 0) (r : Result Reply Ending) (before now : ℕ) : Type 0 where
  pub answer : IfSome o (λ files. Gives steady reply_answer r (P files))
  pub status : IfOk r (λ reply. reply.status ≤ 3)
  pub failed : r ≡ Err Read → before < now
  pub kept : r ≢ Err Read → now ≡ before

-- what is come to is an answer
comes_to : (o : Option Files) (P : Files → Result Answer Ending → Type 0) (r : Result Answer Ending) → (answer_of r).status ≢ 5 → IfSome o (λ files. P files r) → AnswersOver o P (answer_of r)
comes_to o P r not h = record { over = if_some_weaker o (λ files. P files r) (λ files. IsAnswerOf (P files) (answer_of r)) (λ files p. (r, p, refl)) h; asked = not }

always_read : (o : Option Files) (steady : Bool) (P : Files → Result Answer Ending → Type 0) → IfSome o (λ files. IsTrue steady → P files (Err Read)) → IsTrue steady → AnswersOver o P read_answer
always_read o steady P h always = comes_to o P (Err Read) (λ e. cc) (if_some_weaker o (λ files. IsTrue steady → P files (Err Read)) (λ files. P files (Err Read)) (λ files g. g always) h)

-- a command that writes its reply, or how it ends
pub performs : (o : Option Files) (steady : Bool) (P : Files → Result Answer Ending → Type 0) (r : Result Reply Ending) (before now : ℕ) (old new : Output) (status : ℕ) → Worked o steady P r before now → Tells (told r) old new status
    → Performs (AnswersOver o P) (call steady before now old new status)
performs o steady P (Ok reply) before now old new status h w =
    answers (reply_answer reply) (comes_to o P (Ok (reply_answer reply)) (λ e. omega (arith, h.status, e)) h.answer) (omega (arith, h.status)) (h.kept (λ e. cc)) w
performs o steady P (Err (Because cause)) before now old new status h w = elim w [
  | inl said ↦ answers (cause_answer cause) (comes_to o P (Err (Because cause)) (cause_not_five cause) h.answer) (cause_low cause) (h.kept (λ e. cc)) said
  | inr memory ↦ wants_memory (h.kept (λ e. cc)) memory
]
performs o steady P (Err Read) before now old new status h w = cannot_read (always_read o steady P h.answer) (h.failed refl) w
performs o steady P (Err Memory) before now old new status h w = wants_memory (h.kept (λ e. cc)) w

-- the status that was written is at most 9
writes_low : (old new : Output) (a : Answer) (status n : ℕ) → Writes old new a status → a.status ≤ n → 8 ≤ n → status ≤ n
writes_low old new a status n w low eight = elim w [ inl whole ↦ omega (arith, whole.status_is, low) | inr front ↦ omega (arith, front.status_is, eight) ]

-- a status other than 8 is that of the answer
whole_of : (old new : Output) (a : Answer) (status : ℕ) → Writes old new a status → status ≢ 8 → WritesWhole old new a status
whole_of old new a status w not = elim w [ inl whole ↦ whole | inr front ↦ absurd (not front.status_is) ]

falls_not : (old new : Output) (a : Answer) (status : ℕ) → Writes old new a status → old.faults ≤ new.faults
falls_not old new a status w = elim w [ inl whole ↦ omega (arith, whole.faults) | inr front ↦ omega (arith, front.faults) ]

eight_rose : (old new : Output) (a : Answer) (status : ℕ) → a.status ≢ 8 → Writes old new a status → status ≡ 8 → old.faults < new.faults
eight_rose old new a status not w eight = elim w [ inl whole ↦ absurd (not (sym whole.status_is ∙ eight)) | inr front ↦ front.faults ]

rose_eight : (old new : Output) (a : Answer) (status : ℕ) → Writes old new a status → old.faults < new.faults → status ≡ 8
rose_eight old new a status w rose = elim w [ inl whole ↦ absurd (omega (arith, whole.faults, rose)) | inr front ↦ front.status_is ]

same_status : (old new : Output) (a : Answer) (status : ℕ) → Writes old new a status → new.faults ≡ old.faults → WritesWhole old new a status
same_status old new a status w same = elim w [ inl whole ↦ whole | inr front ↦ absurd (omega (arith, front.faults, same)) ]

front_text : (old new : Output) (a : Answer) (status : ℕ) → a.status ≢ 8 → Writes old new a status → status ≡ 8 → AppendsFront old.written new.written a.text
front_text old new a status not w eight = elim w [ inl whole ↦ absurd (not (sym whole.status_is ∙ eight)) | inr front ↦ front.written ]

-- what is enough for a call to be quiet
pub undisturbed : (held : Type 0) (x : Call) → held → IsUndisturbed x → IsQuiet held x
undisturbed held x is quiet = record { output = quiet.output; library = elim quiet.library [ inl kept ↦ inl kept | inr always ↦ inr (always, is) ] }

pub quieter : (held other : Type 0) (x : Call) → (held → other) → IsQuiet held x → IsQuiet other x
quieter held other x f quiet = record { output = quiet.output; library = elim quiet.library [ inl kept ↦ inl kept | inr always ↦ inr (always.0, f always.1) ] }

module _ (A : Answer → Type 0) where
  pub known : (x : Call) → Performs A x → x.status ≤ 9
  known x (answers a is low kept w) = writes_low x.old x.new a x.status 9 w (omega (arith, low)) (omega arith)
  known x (cannot_read is rose w) = writes_low x.old x.new read_answer x.status 9 w (omega arith) (omega arith)
  known x (wants_memory kept w) = writes_low x.old x.new memory_answer x.status 9 w (omega arith) (omega arith)

  pub never_falls : (x : Call) → Performs A x → x.before ≤ x.now
  never_falls x (answers a is low kept w) = omega (arith, kept)
  never_falls x (cannot_read is rose w) = omega (arith, rose)
  never_falls x (wants_memory kept w) = omega (arith, kept)

  pub output_never_falls : (x : Call) → Performs A x → x.old.faults ≤ x.new.faults
  output_never_falls x (answers a is low kept w) = falls_not x.old x.new a x.status w
  output_never_falls x (cannot_read is rose w) = falls_not x.old x.new read_answer x.status w
  output_never_falls x (wants_memory kept w) = falls_not x.old x.new memory_answer x.status w

  -- a status below 7 is that of an answer, whose text was written
  pub only : (x : Call) → Performs A x → x.status < 7 → (text : List ℕ) × A (answer x.status text) × (x.new.written ≡ append_known x.old.written text)
  only x (answers a is low kept w) small =
      let whole = whole_of x.old x.new a x.status w (λ e. omega (arith, e, small)) in
      (a.text, subst A (ap (λ (s : ℕ). answer s a.text) (sym whole.status_is)) is, whole.written)
  only x (cannot_read is rose w) small = absurd (omega (arith, small, (whole_of x.old x.new read_answer x.status w (λ e. omega (arith, e, small))).status_is))
  only x (wants_memory kept w) small = absurd (omega (arith, small, (whole_of x.old x.new memory_answer x.status w (λ e. omega (arith, e, small))).status_is))

  read_only : (x : Call) → Performs A x → x.status ≡ 7 → (x.before < x.now) × (x.new.faults ≡ x.old.faults)
  read_only x (answers a is low kept w) seven = absurd (omega (arith, low, seven, (whole_of x.old x.new a x.status w (λ e. omega (arith, e, seven))).status_is))
  read_only x (cannot_read is rose w) seven = (rose, (whole_of x.old x.new read_answer x.status w (λ e. omega (arith, e, seven))).faults)
  read_only x (wants_memory kept w) seven = absurd (omega (arith, seven, (whole_of x.old x.new memory_answer x.status w (λ e. omega (arith, e, seven))).status_is))

  read_comes : (x : Call) → Performs A x → (x.before < x.now) × (x.new.faults ≡ x.old.faults) → x.status ≡ 7
  read_comes x (answers a is low kept w) h = absurd (omega (arith, kept, h.0))
  read_comes x (cannot_read is rose w) h = (same_status x.old x.new read_answer x.status w h.1).status_is
  read_comes x (wants_memory kept w) h = absurd (omega (arith, kept, h.0))

  -- 7 comes exactly where a read failed and no write did
  pub read_exactly : (x : Call) → Performs A x → (x.status ≡ 7) ↔ ((x.before < x.now) × (x.new.faults ≡ x.old.faults))
  read_exactly x h = (read_only x h, read_comes x h)

  pub read_text : (x : Call) → Performs A x → x.status ≡ 7 → x.new.written ≡ append_known x.old.written read_line
  read_text x (answers a is low kept w) seven = absurd (omega (arith, low, seven, (whole_of x.old x.new a x.status w (λ e. omega (arith, e, seven))).status_is))
  read_text x (cannot_read is rose w) seven = (whole_of x.old x.new read_answer x.status w (λ e. omega (arith, e, seven))).written
  read_text x (wants_memory kept w) seven = absurd (omega (arith, seven, (whole_of x.old x.new memory_answer x.status w (λ e. omega (arith, e, seven))).status_is))

  pub memory_text : (x : Call) → Performs A x → x.status ≡ 9 → x.new.written ≡ append_known x.old.written memory_line
  memory_text x (answers a is low kept w) nine = absurd (omega (arith, low, nine, (whole_of x.old x.new a x.status w (λ e. omega (arith, e, nine))).status_is))
  memory_text x (cannot_read is rose w) nine = absurd (omega (arith, nine, (whole_of x.old x.new read_answer x.status w (λ e. omega (arith, e, nine))).status_is))
  memory_text x (wants_memory kept w) nine = (whole_of x.old x.new memory_answer x.status w (λ e. omega (arith, e, nine))).written

  -- over a steady library a read fails only where that is an answer
  pub lacking : (x : Call) → Performs A x → IsTrue x.steady → x.before < x.now → A read_answer
  lacking x (answers a is low kept w) always rose = absurd (omega (arith, kept, rose))
  lacking x (cannot_read is up w) always rose = is always
  lacking x (wants_memory kept w) always rose = absurd (omega (arith, kept, rose))

  write_only : (x : Call) → Performs A x → x.status ≡ 8 → x.old.faults < x.new.faults
  write_only x (answers a is low kept w) eight = eight_rose x.old x.new a x.status (λ e. omega (arith, e, low)) w eight
  write_only x (cannot_read is rose w) eight = eight_rose x.old x.new read_answer x.status (λ e. cc) w eight
  write_only x (wants_memory kept w) eight = eight_rose x.old x.new memory_answer x.status (λ e. cc) w eight

  write_comes : (x : Call) → Performs A x → x.old.faults < x.new.faults → x.status ≡ 8
  write_comes x (answers a is low kept w) rose = rose_eight x.old x.new a x.status w rose
  write_comes x (cannot_read is up w) rose = rose_eight x.old x.new read_answer x.status w rose
  write_comes x (wants_memory kept w) rose = rose_eight x.old x.new memory_answer x.status w rose

  -- 8 comes exactly where a write failed
  pub write_exactly : (x : Call) → Performs A x → (x.status ≡ 8) ↔ (x.old.faults < x.new.faults)
  write_exactly x h = (write_only x h, write_comes x h)

  -- and then a front of a text was written that may be
  pub front : (x : Call) → Performs A x → x.status ≡ 8 → (text : List ℕ) × MayWrite A text × AppendsFront x.old.written x.new.written text
  front x (answers a is low kept w) eight = (a.text, inl (a, is, refl), front_text x.old x.new a x.status (λ e. omega (arith, e, low)) w eight)
  front x (cannot_read is rose w) eight = (read_line, inr (inl refl), front_text x.old x.new read_answer x.status (λ e. cc) w eight)
  front x (wants_memory kept w) eight = (memory_line, inr (inr refl), front_text x.old x.new memory_answer x.status (λ e. cc) w eight)

  -- where nothing disturbs the call and that a file cannot be read is no answer, an answer is given or memory is refused
  pub given : (x : Call) → Performs A x → IsQuiet (A read_answer → ⊥) x → (x.status ≡ 9) ⊎ ((a : Answer) × A a × (a.status < 7) × (x.status ≡ a.status) × (x.new.written ≡ append_known x.old.written a.text))
  given x (answers a is low kept w) quiet = let whole = same_status x.old x.new a x.status w quiet.output in inr (a, is, low, whole.status_is, whole.written)
  given x (cannot_read is rose w) quiet = elim quiet.library [ inl kept ↦ absurd (omega (arith, kept, rose)) | inr always ↦ absurd (always.1 (is always.0)) ]
  given x (wants_memory kept w) quiet = inl (same_status x.old x.new memory_answer x.status w quiet.output).status_is

  -- where there is one answer, and it is not that a file cannot be read, it is given or memory is refused
  pub complete : (x : Call) → Performs A x → (a : Answer) → A a → ((b : Answer) → A b → a ≡ b) → a.status ≢ 7 → IsUndisturbed x → (x.status ≡ 9) ⊎ ((x.status ≡ a.status) × (x.new.written ≡ append_known x.old.written a.text))
  complete x h a is one not quiet = elim (given x h (undisturbed (A read_answer → ⊥) x (λ never. not (ap (λ (a : Answer). a.status) (one read_answer never))) quiet)) [
    | inl memory ↦ inl memory
    | inr g ↦ let same : g.0 ≡ a = sym (one g.0 g.1) in inr (g.3 ∙ ap (λ (a : Answer). a.status) same, g.4 ∙ ap (λ (a : Answer). append_known x.old.written a.text) same)
  ]

-- where nothing disturbs the call, its status is as each answer's is, or that of want of memory
pub among : (A : Answer → Type 0) (S : ℕ → Type 0) (x : Call) → S 9 → ((a : Answer) → A a → a.status < 7 → S a.status) → Performs A x → IsQuiet (A read_answer → ⊥) x → S x.status
among A S x nine each h quiet = elim (given A x h quiet) [
  | inl memory ↦ subst S (sym memory) nine
  | inr g ↦ subst S (sym g.3) (each g.0 g.1 g.2)
]

-- what the answers over told files are answers of
pub performs_over : (o : Option Files) (P : Files → Result Answer Ending → Type 0) (x : Call) → Performs (AnswersOver o P) x → IfSome o (λ files. Performs (IsAnswerOf (P files)) x)
performs_over None P x h = tt
performs_over (Some files) P x h = performs_weaker (AnswersOver (Some files) P) (IsAnswerOf (P files)) x (λ a is. is.over) h

module _ (P : Result Answer Ending → Type 0) where
  -- a status below 7 is that of what is come to, whose text was written
  pub told_of : (x : Call) (s : ℕ) → s < 7 → Performs (IsAnswerOf P) x → x.status ≡ s → (r : Result Answer Ending) × P r × ((answer_of r).status ≡ s) × (x.new.written ≡ append_known x.old.written (answer_of r).text)
  told_of x s low h is =
      let told = only (IsAnswerOf P) x h (omega (arith, is, low)) in
      let a : IsAnswerOf P (answer x.status told.0) = told.1 in
      (a.0, a.1, sym (ap (λ (a : Answer). a.status) a.2) ∙ is, told.2 ∙ ap (append_known x.old.written) (ap (λ (a : Answer). a.text) a.2))

  -- where one end is come to there is one answer
  pub one_answer : ((r s : Result Answer Ending) → P r → P s → r ≡ s) → (a b : Answer) → IsAnswerOf P a → IsAnswerOf P b → a ≡ b
  one_answer once a b h k = h.2 ∙ ap answer_of (once h.0 k.0 h.1 k.1) ∙ sym k.2

  -- and it is given, unless a call fails or memory is refused
  pub comes : (x : Call) → ((r s : Result Answer Ending) → P r → P s → r ≡ s) → Performs (IsAnswerOf P) x → (a : Answer) → IsAnswerOf P a → a.status ≢ 7 → IsUndisturbed x
      → (x.status ≡ 9) ⊎ ((x.status ≡ a.status) × (x.new.written ≡ append_known x.old.written a.text))
  comes x once h a is = complete (IsAnswerOf P) x h a is (λ b. one_answer once a b is)

  pub comes_with : (x : Call) → ((r s : Result Answer Ending) → P r → P s → r ≡ s) → Performs (IsAnswerOf P) x → (s : ℕ) (text : List ℕ) → s ≢ 7 → P (Ok (answer s text)) → IsUndisturbed x
      → (x.status ≡ 9) ⊎ ((x.status ≡ s) × (x.new.written ≡ append_known x.old.written text))
  comes_with x once h s text not is = comes x once h (answer s text) (Ok (answer s text), is, refl) not

-- no ending has a status of 0
pub not_zero_ending : (e : Ending) → (answer_of (Err e)).status ≢ 0
not_zero_ending (Because cause) = cause_not_zero cause
not_zero_ending Read = λ z. cc
not_zero_ending Memory = λ z. cc

-- a stage before a status of 0 did not end
pub then_zero : {A : Type 0} (x : Result A Ending) (Q : A → Result Answer Ending → Type 0) (r : Result Answer Ending) → Then x Q r → (answer_of r).status ≡ 0 → (a : A) × (x ≡ Ok a) × Q a r
then_zero (Ok a) Q r h zero = (a, refl, h)
then_zero (Err e) Q r h zero = absurd (not_zero_ending e (sym (ap (λ x. (answer_of x).status) h) ∙ zero))

-- a status of 0 is written only of a reply
not_zero : (old new : Output) (a : Answer) (status : ℕ) → a.status ≢ 0 → Writes old new a status → status ≢ 0
not_zero old new a status not w zero = elim w [ inl whole ↦ not (sym whole.status_is ∙ zero) | inr front ↦ absurd (omega (arith, front.status_is, zero)) ]

pub zero_is_ok : (Z : Type 0) (r : Result Reply Ending) (old new : Output) (status : ℕ) → Tells (told r) old new status → status ≡ 0 → OnOk r Z → Z
zero_is_ok Z (Ok reply) old new status w zero z = z
zero_is_ok Z (Err (Because cause)) old new status w zero z = elim w [
  | inl said ↦ absurd (not_zero old new (cause_answer cause) status (cause_not_zero cause) said zero)
  | inr memory ↦ absurd (not_zero old new memory_answer status (λ z. cc) memory zero)
]
zero_is_ok Z (Err Read) old new status w zero z = absurd (not_zero old new read_answer status (λ z. cc) w zero)
zero_is_ok Z (Err Memory) old new status w zero z = absurd (not_zero old new memory_answer status (λ z. cc) w zero)

-- a reply with a status of at most 1
pub low_status : (r : Result Reply Ending) → IfOk r (λ reply. reply.status ≤ 1) → IfOk r (λ reply. reply.status ≤ 3)
low_status (Ok reply) h = omega (arith, h)
low_status (Err e) h = tt

-- and only of a reply with that status
zero_of : (Z : Type 0) (old new : Output) (s status : ℕ) (text : List ℕ) → Writes old new (answer s text) status → status ≡ 0 → (s ≡ 0 → Z) → Z
zero_of Z old new s status text w zero z = elim w [ inl whole ↦ z (sym whole.status_is ∙ zero) | inr front ↦ absurd (omega (arith, front.status_is, zero)) ]

pub zero_is_reply : (Z : Type 0) (r : Result Reply Ending) (old new : Output) (status : ℕ) → Tells (told r) old new status → status ≡ 0 → IfOk r (λ reply. reply.status ≡ 0 → Z) → Z
zero_is_reply Z (Ok reply) old new status w zero z = zero_of Z old new reply.status status reply.text.items w zero z
zero_is_reply Z (Err e) old new status w zero z = zero_is_ok Z (Err e) old new status w zero tt

-- that a file cannot be read is an answer only where it is come to
read_by : (P : Result Answer Ending → Type 0) (r : Result Answer Ending) → ((a : Answer) → P (Ok a) → a.status ≢ 7) → P r → read_answer ≡ answer_of r → P (Err Read)
read_by P (Ok a) not is e = absurd (not a is (sym (ap (λ (a : Answer). a.status) e)))
read_by P (Err (Because cause)) not is e = absurd (omega (arith, cause_low cause, ap (λ (a : Answer). a.status) e))
read_by P (Err Read) not is e = is
read_by P (Err Memory) not is e = absurd (omega (arith, ap (λ (a : Answer). a.status) e))

pub read_comes_to : (P : Result Answer Ending → Type 0) → ((a : Answer) → P (Ok a) → a.status ≢ 7) → IsAnswerOf P read_answer → P (Err Read)
read_comes_to P not h = read_by P h.0 not h.1 h.2
