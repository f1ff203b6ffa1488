-- pieces of a text, one behind another
use Rattle.std.proofs.Common.{◌≡◌, ◌≢◌, ℕ, ◌+◌, ◌-◌, List, [], ◌∷◌, ◌++◌, length, take, drop, Option, None, Some, Result, Ok, Err, refl, sym, ap, ◌∙◌, subst, arith, append_assoc, append-nil, length-drop}
use Rattle.std.proofs.Math.Seq.{take-add, take-append-add}
use Rattle.std.proofs.lemmas.List.{take-append-drop, take_all}
use Rattle.std.proofs.lemmas.List.Elements.{All-nil, All-cons, All-append}
use Rattle.cpt_task.specs.declared.memory.Memory.{Memory}
use Rattle.cpt_cert_form.specs.declared.forms.CertLine.{CertLine}
use Rattle.cpt_cert_form.specs.declared.forms.CertLine.TheVariants as lines
use Rattle.cpt_cert_form.specs.Forms.{IsReadAs}
use Rattle.cpt_cert_read.specs.Lines.{kept, HasNoEnd, Finishes, Feeds}
use Rattle.cpt_cert_read.specs.Texts.{ended, IsSplit, unended, AreLinesOf, AreFinished}
use Rattle.cpt_cert_read.proofs.Enough.{kept_reading, kept_twice, kept_nothing}
use Rattle.cpt_cert_read.proofs.Splits.{zip_append, ended_append}

-- nothing is read
pub none_finished : (pending : List ℕ) → pending ≡ [] → AreFinished [] [] pending
none_finished pending e = record {
  bodies = [];
  tail = [];
  split = record { whole = refl; lines = All-nil HasNoEnd; last = All-nil (λ z. z ≢ 10) };
  each = tt;
  enough = e ∙ sym ((kept_nothing []).1 refl);
}

kept_more : (before tail more : List ℕ) → before ≡ kept tail → kept (before ++ more) ≡ kept (tail ++ more)
kept_more before tail more e = ap (λ z. kept (z ++ more)) e ∙ kept_twice tail more

-- a piece in which no line ends
more_pending : (text : List ℕ) (read : List CertLine) (before after piece : List ℕ) → AreFinished text read before → HasNoEnd piece → after ≡ kept (before ++ piece) → AreFinished (text ++ piece) read after
more_pending text read before after piece h none e = record {
  bodies = h.bodies;
  tail = h.tail ++ piece;
  split = record {
    whole = ap (λ z. z ++ piece) h.split.whole ∙ append_assoc (ended h.bodies) h.tail piece;
    lines = h.split.lines;
    last = All-append (λ z. z ≢ 10) h.tail piece h.split.last none;
  };
  each = h.each;
  enough = e ∙ kept_more before h.tail piece h.enough;
}

-- what the line that ends is read as
pub line_read : (text : List ℕ) (read : List CertLine) (before piece body : List ℕ) (line : CertLine) → (h : AreFinished text read before) → Finishes before piece body line → IsReadAs (h.tail ++ body) line
line_read text read before piece body line h f = (kept_reading (h.tail ++ body) line).0 (subst (λ z. IsReadAs z line) (kept_more before h.tail body h.enough) f.read)

line_split : (text body tail : List ℕ) (bodies : List (List ℕ)) → IsSplit text bodies tail → HasNoEnd body → IsSplit (text ++ (body ++ 10 ∷ [])) (bodies ++ (tail ++ body) ∷ []) []
line_split text body tail bodies h none = record {
  whole =
      ap (λ z. z ++ (body ++ 10 ∷ [])) h.whole ∙ append_assoc (ended bodies) tail (body ++ 10 ∷ []) ∙ ap (λ z. ended bodies ++ z) (sym (append_assoc tail body (10 ∷ []))) ∙
      ap (λ z. ended bodies ++ z) (sym (append-nil ((tail ++ body) ++ 10 ∷ []))) ∙ sym (ended_append bodies ((tail ++ body) ∷ [])) ∙ sym (append-nil (ended (bodies ++ (tail ++ body) ∷ [])));
  lines = All-append HasNoEnd bodies ((tail ++ body) ∷ []) h.lines (All-cons HasNoEnd (tail ++ body) [] (All-append (λ z. z ≢ 10) tail body h.last none) (All-nil HasNoEnd));
  last = All-nil (λ z. z ≢ 10);
}

-- a line that ends behind what is kept
pub line_more : (text : List ℕ) (read : List CertLine) (before piece body : List ℕ) (line : CertLine) (after : List ℕ) → AreFinished text read before → Finishes before piece body line → after ≡ [] →
    AreFinished (text ++ (body ++ 10 ∷ [])) (read ++ line ∷ []) after
line_more text read before piece body line after h f e = record {
  bodies = h.bodies ++ (h.tail ++ body) ∷ [];
  tail = [];
  split = line_split text body h.tail h.bodies h.split f.unended;
  each = zip_append h.bodies ((h.tail ++ body) ∷ []) read (line ∷ []) h.each (line_read text read before piece body line h f, tt);
  enough = e ∙ sym ((kept_nothing []).1 refl);
}

take_more : (piece : List ℕ) (at taken : ℕ) (body rest : List ℕ) → drop at piece ≡ body ++ 10 ∷ rest → taken ≡ length body + 1 → take (at + taken) piece ≡ take at piece ++ (body ++ 10 ∷ [])
take_more piece at taken body rest e size =
    ap (λ z. take (at + z) piece) size ∙ take-add at (length body + 1) piece ∙ ap (λ z. take at piece ++ take (length body + 1) z) e ∙ ap (λ z. take at piece ++ z) (take-append-add body (10 ∷ rest) 1)

-- what stands behind a line that ends in a piece
pub line_behind : (piece : List ℕ) (at : ℕ) (body rest : List ℕ) → drop at piece ≡ body ++ 10 ∷ rest → piece ≡ (take at piece ++ (body ++ 10 ∷ [])) ++ rest
line_behind piece at body rest e =
    sym (take-append-drop at piece) ∙ ap (λ z. take at piece ++ z) (e ∙ sym (append_assoc body (10 ∷ []) rest)) ∙ sym (append_assoc (take at piece) (body ++ 10 ∷ []) rest)

-- a line more of a piece
pub fed_line : (text : List ℕ) (read : List CertLine) (before after piece : List ℕ) (at taken : ℕ) (line : CertLine) →
    AreFinished (text ++ take at piece) read before → Feeds before after (drop at piece) (Ok (taken, Some line)) → AreFinished (text ++ take (at + taken) piece) (read ++ line ∷ []) after
fed_line text read before after piece at taken line h (body, f, size, e) =
    subst (λ z. AreFinished z (read ++ line ∷ []) after) (append_assoc text (take at piece) (body ++ 10 ∷ []) ∙ ap (λ z. text ++ z) (sym (take_more piece at taken body f.rest f.piece_is size)))
    (line_more (text ++ take at piece) read before (drop at piece) body line after h f e)

-- no line ends in what is left of a piece
pub fed_none : (text : List ℕ) (read : List CertLine) (before after piece : List ℕ) (at taken : ℕ) → AreFinished (text ++ take at piece) read before → Feeds before after (drop at piece) (Ok (taken, None)) → AreFinished (text ++ piece) read after
fed_none text read before after piece at taken h (none, size, e) =
    subst (λ z. AreFinished z read after) (append_assoc text (take at piece) (drop at piece) ∙ ap (λ z. text ++ z) (take-append-drop at piece)) (more_pending (text ++ take at piece) read before after (drop at piece) h none e)

-- the rest of a piece, as a slice
pub fed_rest : (before after piece : List ℕ) (at : ℕ) (r : Result (ℕ × Option CertLine) Memory) → Feeds before after (take (length piece - at) (drop at piece)) r → Feeds before after (drop at piece) r
fed_rest before after piece at r h = subst (λ z. Feeds before after z r) (take_all (length piece - at) (drop at piece) (let size = length-drop at piece in omega (arith, size))) h

-- a text that is finished
pub all_finished : (text : List ℕ) (read : List CertLine) (pending : List ℕ) → AreFinished text read pending → pending ≡ [] → AreLinesOf text read
all_finished text read pending h none =
    let no_tail = (kept_nothing h.tail).0 (sym h.enough ∙ none) in
    record { bodies = h.bodies; tail = h.tail; read = read; split = h.split; each = h.each; all = sym (append-nil read) ∙ ap (λ z. read ++ unended z) (sym no_tail) }

-- where nothing is kept the bytes are whole lines
pub whole_split : (text : List ℕ) (read : List CertLine) → (h : AreFinished text read []) → IsSplit text h.bodies []
whole_split text read h = subst (IsSplit text h.bodies) ((kept_nothing h.tail).0 (sym h.enough)) h.split

-- a text whose last line lacks its line feed
pub left_pending : (text : List ℕ) (read : List CertLine) (pending : List ℕ) → AreFinished text read pending → pending ≢ [] → AreLinesOf text (read ++ lines.Strange ∷ [])
left_pending text read pending h some = record { bodies = h.bodies; tail = h.tail; read = read; split = h.split; each = h.each; all = ap (λ z. read ++ z) (sym (strange h.tail h.enough)) }
  where
    strange : (tail : List ℕ) → pending ≡ kept tail → unended tail ≡ lines.Strange ∷ []
    strange [] e = absurd (some (e ∙ (kept_nothing []).1 refl))
    strange (b ∷ tail) e = refl
