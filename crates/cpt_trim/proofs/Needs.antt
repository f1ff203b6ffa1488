-- lines without which a text is known to be no certificate
use Rattle.std.proofs.Common.{◌≡◌, ℕ, zero, suc, ◌+◌, ◌<◌, ◌≤◌, Bool, true, false, List, [], ◌∷◌, ◌++◌, length, All, take, drop, get_or, refl, sym, ap, ◌∙◌, subst, arith, append_assoc, inl, inr, map, Bor}
use Rattle.std.proofs.lemmas.List.{length-map, length-take-le}
use Rattle.std.proofs.lemmas.Bool.{cases_lt}
use Rattle.std.specs.Prelude.{slice_set, MatchBool, IfOk, Result, Ok, Err, ◌||◌, ⊤}
use Rattle.std.specs.List.{AllZip}
use Rattle.cpt_task.specs.Shape.{TaskShape, InBounds}
use Rattle.cpt_cert_form.specs.declared.forms.CertLine.{CertLine}
use Rattle.cpt_cert_form.specs.Forms.{IsReadAs}
use Rattle.cpt_cert_read.specs.Texts.{ended, unended, AreLinesOf}
use Rattle.cpt_cert_accept.specs.Reading.Outcome.{faulted}
use Rattle.cpt_cert_accept.proofs.OneText.{no_fault}
use Rattle.cpt_thin.specs.declared.fates.Fate.{Fate}
use Rattle.cpt_thin.specs.declared.fates.Fate.TheVariants.{Fixed, Kept, Dropped}
use Rattle.cpt_thin.specs.declared.fronts.Front.{Front}
use Rattle.cpt_trim.specs.Fates.{kept_in, left_of, text_of, AreLines, AreTold, Befits, Drops, IsNeeded}
use Rattle.cpt_thin.specs.Fronts.{IsFrontOf, read_of}
use Rattle.cpt_thin.specs.Dooms.{IsDoomedAt, IsFaulty, line_left}
use Rattle.cpt_thin.specs.Thinner.{Thins, IsThinner}
use Rattle.cpt_sections.specs.Sections.{IsLine}
use Rattle.cpt_cert_read.proofs.Splits.{few_lines, zip_length}
use Rattle.cpt_trim.specs.Without.{IsAccepted}
use Rattle.cpt_trim.proofs.FateLists.{fewer_dropped, length_dropped, past_end, text_short, told_dropped}
use Rattle.cpt_trim.proofs.SplitLines.{left_feedless}

-- what the lines are read as that are not dropped
left_each : (fs : List Fate) (bs : List (List ℕ)) (ls : List CertLine) → AllZip IsReadAs bs ls → AllZip IsReadAs (left_of fs bs) (read_of fs ls)
left_each [] [] [] h = tt
left_each [] (b ∷ bs) ls h = tt
left_each [] [] (l ∷ ls) h = tt
left_each (f ∷ fs) [] [] h = tt
left_each (f ∷ fs) [] (l ∷ ls) h = absurd h
left_each (f ∷ fs) (b ∷ bs) [] h = absurd h
left_each (Fixed ∷ fs) (b ∷ bs) (l ∷ ls) h = (h.0, left_each fs bs ls h.1)
left_each (Kept ∷ fs) (b ∷ bs) (l ∷ ls) h = (h.0, left_each fs bs ls h.1)
left_each (Dropped ∷ fs) (b ∷ bs) (l ∷ ls) h = left_each fs bs ls h.1

cons_left : (f : Fate) (fs : List Fate) (l : CertLine) (ls a b : List CertLine) → read_of fs ls ≡ a ++ b → read_of (f ∷ fs) (l ∷ ls) ≡ read_of (f ∷ []) (l ∷ []) ++ (a ++ b)
cons_left Fixed fs l ls a b e = ap (λ z. l ∷ z) e
cons_left Kept fs l ls a b e = ap (λ z. l ∷ z) e
cons_left Dropped fs l ls a b e = e

cons_take : (f : Fate) (fs : List Fate) (l : CertLine) (ls : List CertLine) → read_of (f ∷ fs) (l ∷ ls) ≡ read_of (f ∷ []) (l ∷ []) ++ read_of fs ls
cons_take Fixed fs l ls = refl
cons_take Kept fs l ls = refl
cons_take Dropped fs l ls = refl

-- the lines before a place and behind it
without_place : (fs : List Fate) (ls : List CertLine) (i : ℕ) → i < length fs → length fs ≡ length ls → read_of (slice_set fs i Dropped) ls ≡ read_of (take i fs) (take i ls) ++ read_of (drop (suc i) fs) (drop (suc i) ls)
without_place [] ls i lt same = absurd (omega (arith, lt))
without_place (f ∷ fs) [] i lt same = absurd (omega (arith, same))
without_place (f ∷ fs) (l ∷ ls) zero lt same = refl
without_place (f ∷ fs) (l ∷ ls) (suc i) lt same =
    let more = without_place fs ls i (omega (arith, lt)) (omega (arith, same)) in
    cons_left f (slice_set fs i Dropped) l ls (read_of (take i fs) (take i ls)) (read_of (drop (suc i) fs) (drop (suc i) ls)) more
    ∙ sym (append_assoc (read_of (f ∷ []) (l ∷ [])) (read_of (take i fs) (take i ls)) (read_of (drop (suc i) fs) (drop (suc i) ls)))
    ∙ ap (λ z. z ++ read_of (drop (suc i) fs) (drop (suc i) ls)) (sym (cons_take f (take i fs) l (take i ls)))

-- one line more
taken_behind : (fs : List Fate) (ls : List CertLine) (i : ℕ) (d : Fate) (e : CertLine) → i < length fs → length fs ≡ length ls → read_of (take (suc i) fs) (take (suc i) ls) ≡ read_of (take i fs) (take i ls) ++ line_left (get_or fs i d) (get_or ls i e)
taken_behind [] ls i d e lt same = absurd (omega (arith, lt))
taken_behind (f ∷ fs) [] i d e lt same = absurd (omega (arith, same))
taken_behind (Fixed ∷ fs) (l ∷ ls) zero d e lt same = refl
taken_behind (Kept ∷ fs) (l ∷ ls) zero d e lt same = refl
taken_behind (Dropped ∷ fs) (l ∷ ls) zero d e lt same = refl
taken_behind (f ∷ fs) (l ∷ ls) (suc i) d e lt same =
    cons_left f (take (suc i) fs) l (take (suc i) ls) (read_of (take i fs) (take i ls)) (line_left (get_or fs i d) (get_or ls i e)) (taken_behind fs ls i d e (omega (arith, lt)) (omega (arith, same)))
    ∙ sym (append_assoc (read_of (f ∷ []) (l ∷ [])) (read_of (take i fs) (take i ls)) (line_left (get_or fs i d) (get_or ls i e)))
    ∙ ap (λ z. z ++ line_left (get_or fs i d) (get_or ls i e)) (sym (cons_take f (take i fs) l (take i ls)))

pub taken_more : (fs : List Fate) (ls : List CertLine) (i : ℕ) (d : Fate) (e : CertLine) → i < length fs → length fs ≡ length ls → read_of (take (i + 1) fs) (take (i + 1) ls) ≡ read_of (take i fs) (take i ls) ++ line_left (get_or fs i d) (get_or ls i e)
taken_more fs ls i d e lt same =
    let one : suc i ≡ i + 1 = omega arith in
    subst (λ z. read_of (take z fs) (take z ls) ≡ read_of (take i fs) (take i ls) ++ line_left (get_or fs i d) (get_or ls i e)) one (taken_behind fs ls i d e lt same)

-- no more lines are left than there are
pub read_short : (fs : List Fate) (ls : List CertLine) → length (read_of fs ls) ≤ length ls
read_short [] ls = omega arith
read_short (f ∷ fs) [] = omega arith
read_short (Fixed ∷ fs) (l ∷ ls) = let k = read_short fs ls in omega (arith, k)
read_short (Kept ∷ fs) (l ∷ ls) = let k = read_short fs ls in omega (arith, k)
read_short (Dropped ∷ fs) (l ∷ ls) = let k = read_short fs ls in omega (arith, k)

-- fates before a place at which one changes
pub taken_same : (fs : List Fate) (i : ℕ) (f : Fate) → take i (slice_set fs i f) ≡ take i fs
taken_same [] i f = refl
taken_same (g ∷ fs) zero f = refl
taken_same (g ∷ fs) (suc i) f = ap (λ z. g ∷ z) (taken_same fs i f)

-- the text without the line at the place has a first fault
pub needed_known : (t : TaskShape) (fs : List Fate) (bs : List (List ℕ)) (tail : List ℕ) (ls : List CertLine) (i : ℕ) → InBounds t → AreLines bs tail ls → i < length fs → length fs ≡ length ls → length (ended bs) + length tail ≤ 16777216 →
    ((rest : List CertLine) → IsFaulty t (read_of (take i fs) (take i ls) ++ (read_of (drop (i + 1) fs) (drop (i + 1) ls) ++ rest))) → IsNeeded t fs bs tail i
needed_known t fs bs tail ls i inside are lt same size faulty kept (v, claim, accepts) =
    let new = slice_set fs i Dropped in
    let one : i + 1 ≡ suc i = omega arith in
    let f = subst (λ z. IsFaulty t (read_of (take i fs) (take i ls) ++ (read_of (drop z fs) (drop z ls) ++ unended tail))) one (faulty (unended tail)) in
    let whole : read_of (take i fs) (take i ls) ++ (read_of (drop (suc i) fs) (drop (suc i) ls) ++ unended tail) ≡ read_of new ls ++ unended tail =
    sym (append_assoc (read_of (take i fs) (take i ls)) (read_of (drop (suc i) fs) (drop (suc i) ls)) (unended tail)) ∙ ap (λ z. z ++ unended tail) (sym (without_place fs ls i lt same)) in
    let g = subst (IsFaulty t) whole f in
    let lines : AreLinesOf (text_of new bs tail) (read_of new ls ++ unended tail) = record {
      bodies = left_of new bs;
      tail = tail;
      read = read_of new ls;
      split = record { whole = refl; lines = left_feedless new bs are.feedless; last = are.last };
      each = left_each new bs ls are.each;
      all = refl;
    } in
    let short = text_short new bs tail size in
    no_fault t (text_of new bs tail) v claim g.0 g.1.0 inside (omega (arith, short)) accepts (read_of new ls ++ unended tail, lines, g.1.1)

-- what is known behind lines that are read
pub faulty_front : (t : TaskShape) (read ls : List CertLine) (f : Front) → IsFrontOf t read f → IsDoomedAt t f.stage ls → IsFaulty t (read ++ ls)
faulty_front t read ls f h doom = let d = doom (length read + 1) in (d.0, (d.1.0, h.reads ls (faulted d.0 d.1.0) d.1.1))

pub faulty_if : (t : TaskShape) (read ls : List CertLine) (f : Front) (doomed : Bool) → IsFrontOf t read f → MatchBool doomed ((rest : List CertLine) → IsDoomedAt t f.stage (ls ++ rest)) ⊤ → MatchBool doomed ((rest : List CertLine) → IsFaulty t (read ++ (ls ++ rest))) ⊤
faulty_if t read ls f true h doom = λ rest. faulty_front t read (ls ++ rest) f h (doom rest)
faulty_if t read ls f false h doom = tt

-- as many lines as bodies, and not too many
pub lines_many : (bodies : List (Bor (List ℕ))) (tail : List ℕ) (ls : List CertLine) → AreLines (map (λ (b : Bor (List ℕ)). b.now) bodies) tail ls → length ls ≡ length bodies
lines_many bodies tail ls are =
    let now : Bor (List ℕ) → List ℕ = λ b. b.now in
    let size = length-map bodies now in
    let same = zip_length (map now bodies) ls are.each in
    omega (arith, size, same)

pub lines_few : (bodies : List (Bor (List ℕ))) (tail : List ℕ) (ls : List CertLine) → AreLines (map (λ (b : Bor (List ℕ)). b.now) bodies) tail ls → length (ended (map (λ (b : Bor (List ℕ)). b.now) bodies)) + length tail ≤ 16777216 → length ls ≤ 16777216
lines_few bodies tail ls are le =
    let bs = map (λ (b : Bor (List ℕ)). b.now) bodies in
    let few = few_lines bs in
    let same = zip_length bs ls are.each in
    omega (arith, few, same, le)

-- each line is one
each_line : (bs : List (List ℕ)) (ls : List CertLine) (i : ℕ) (e : CertLine) → AllZip IsReadAs bs ls → i < length ls → IsLine (get_or ls i e)
each_line bs [] i e h lt = absurd (omega (arith, lt))
each_line [] (l ∷ ls) i e h lt = absurd h
each_line (b ∷ bs) (l ∷ ls) zero e h lt = (b, h.0)
each_line (b ∷ bs) (l ∷ ls) (suc i) e h lt = each_line bs ls i e h.1 (omega (arith, lt))

pub line_at : (bs : List (List ℕ)) (tail : List ℕ) (ls : List CertLine) (i : ℕ) (e : CertLine) → AreLines bs tail ls → i < length ls → IsLine (get_or ls i e)
line_at bs tail ls i e are lt = each_line bs ls i e are.each lt

-- before the place the fates are the same
pub tried_same : (t : TaskShape) (old new : List Fate) (bs : List (List ℕ)) (tail : List ℕ) (i : ℕ) (dropped : Bool) → MatchBool dropped (Drops t old bs tail i new) ((new ≡ old) × IsNeeded t old bs tail i) → take i new ≡ take i old
tried_same t old new bs tail i true h = ap (take i) h.set ∙ taken_same old i Dropped
tried_same t old new bs tail i false h = ap (take i) h.0

pub tried_size : (t : TaskShape) (old new : List Fate) (bs : List (List ℕ)) (tail : List ℕ) (i : ℕ) (dropped : Bool) → MatchBool dropped (Drops t old bs tail i new) ((new ≡ old) × IsNeeded t old bs tail i) → length new ≡ length old
tried_size t old new bs tail i true h = length_dropped t old new bs tail i h
tried_size t old new bs tail i false h = ap length h.0

pub taken_most : (fs : List Fate) (ls : List CertLine) (i : ℕ) → i < length ls → length (read_of (take i fs) (take i ls)) ≤ i
taken_most fs ls i lt =
    let short = read_short (take i fs) (take i ls) in
    let size = length-take-le i ls (omega (arith, lt)) in
    omega (arith, short, size)

-- the lines that are read are no more than those before the place
pub taken_few : (fs : List Fate) (ls : List CertLine) (i : ℕ) → i < length ls → length ls ≤ 16777216 → length (read_of (take i fs) (take i ls)) < 16777216
taken_few fs ls i lt le =
    let short = read_short (take i fs) (take i ls) in
    let size = length-take-le i ls (omega (arith, lt)) in
    omega (arith, short, size, lt, le)

-- where each line before the end is needed each is
pub all_needed : (t : TaskShape) (fs : List Fate) (bs : List (List ℕ)) (tail : List ℕ) (n : ℕ) → length fs ≤ n → ((k : ℕ) → k < n → IsNeeded t fs bs tail k) → (k : ℕ) → IsNeeded t fs bs tail k
all_needed t fs bs tail n le below k =
    elim (cases_lt k n) [
      | inl lt ↦ below k lt
      | inr ge ↦ (λ kept accepted. past_end fs k (omega (arith, le, ge)) kept)
    ]

-- the line at a place and those before it
pub needed_to : (t : TaskShape) (fs : List Fate) (bs : List (List ℕ)) (tail : List ℕ) (place k : ℕ) → IsNeeded t fs bs tail place → ((j : ℕ) → j < place → IsNeeded t fs bs tail j) → k < place + 1 → IsNeeded t fs bs tail k
needed_to t fs bs tail place k here before lt =
    elim (cases_lt k place) [
      | inl less ↦ before k less
      | inr ge ↦ (let e : place ≡ k = omega (arith, lt, ge) in subst (IsNeeded t fs bs tail) e here)
    ]

pub by_bool : (b : Bool) (P Q : Type 0) → (b ≡ true → P) → (b ≡ false → Q) → MatchBool b P Q
by_bool true P Q p q = p refl
by_bool false P Q p q = q refl

-- fates by which more lines are dropped
thins_befit : (f g : Fate) (b : List ℕ) → Thins f g → Befits f b → Befits g b
thins_befit Fixed Fixed b h k = k
thins_befit Fixed Kept b h k = absurd h
thins_befit Fixed Dropped b h k = absurd h
thins_befit Kept Fixed b h k = absurd h
thins_befit Kept Kept b h k = k
thins_befit Kept Dropped b h k = k
thins_befit Dropped Fixed b h k = absurd h
thins_befit Dropped Kept b h k = absurd h
thins_befit Dropped Dropped b h k = k

each_befit : (fs gs : List Fate) (bs : List (List ℕ)) → AllZip Thins fs gs → AllZip Befits fs bs → AllZip Befits gs bs
each_befit [] [] bs h k = k
each_befit [] (g ∷ gs) bs h k = absurd h
each_befit (f ∷ fs) [] bs h k = absurd h
each_befit (f ∷ fs) (g ∷ gs) [] h k = absurd k
each_befit (f ∷ fs) (g ∷ gs) (b ∷ bs) h k = (thins_befit f g b h.0 k.0, each_befit fs gs bs h.1 k.1)

pub thinner_told : (t : TaskShape) (fs gs : List Fate) (bs : List (List ℕ)) (tail : List ℕ) → IsThinner fs gs → AreTold t fs bs tail → IsAccepted t (text_of gs bs tail) → AreTold t gs bs tail
thinner_told t fs gs bs tail h told accepted = record { befit = each_befit fs gs bs h.each told.befit; accepted = accepted }

each_size : (a b : List Fate) → AllZip Thins a b → length b ≡ length a
each_size [] [] h = refl
each_size [] (y ∷ b) h = absurd h
each_size (x ∷ a) [] h = absurd h
each_size (x ∷ a) (y ∷ b) h = ap suc (each_size a b h.1)

pub thinner_size : (a b : List Fate) → IsThinner a b → length b ≡ length a
thinner_size a b h = each_size a b h.each

-- all lines are lines
pub are_lines : (bs : List (List ℕ)) (tail : List ℕ) (ls : List CertLine) → AreLines bs tail ls → All IsLine ls
are_lines bs tail ls are = λ i d lt. each_line bs ls i d are.each lt

pub faulty_ok : {E : Type 0} (t : TaskShape) (read ls : List CertLine) (f : Front) (r : Result Bool E) → IsFrontOf t read f → IfOk r (λ doomed. MatchBool doomed ((rest : List CertLine) → IsDoomedAt t f.stage (ls ++ rest)) ⊤) → IfOk r (λ doomed. MatchBool doomed ((rest : List CertLine) → IsFaulty t (read ++ (ls ++ rest))) ⊤)
faulty_ok t read ls f (Ok doomed) h k = faulty_if t read ls f doomed h k
faulty_ok t read ls f (Err e) h k = tt

-- lines up to a place that were tried, where fewer are left if one was dropped and each is needed if none was
pub record AreTried (t : TaskShape) (start new : List Fate) (bs : List (List ℕ)) (tail : List ℕ) (most : ℕ) (dropped : Bool) : Type 0 where
  pub told : AreTold t new bs tail
  pub count : kept_in new ≤ kept_in start
  pub fewer : dropped ≡ true → kept_in new < kept_in start
  pub needed : dropped ≡ false → (k : ℕ) → k < most → IsNeeded t new bs tail k

tried_drop : (t : TaskShape) (start old new : List Fate) (bs : List (List ℕ)) (tail : List ℕ) (place : ℕ) → AreTold t old bs tail → kept_in old ≤ kept_in start → Drops t old bs tail place new → AreTried t start new bs tail (place + 1) true
tried_drop t start old new bs tail place told count h =
    let fewer = fewer_dropped t old new bs tail place h in
    record {
      told = told_dropped t old new bs tail place told h;
      count = omega (arith, count, fewer);
      fewer = λ e. omega (arith, count, fewer);
      needed = λ e. absurd (cc);
    }

tried_keep : (t : TaskShape) (start old new : List Fate) (bs : List (List ℕ)) (tail : List ℕ) (place : ℕ) (was : Bool) → AreTried t start old bs tail place was → new ≡ old → IsNeeded t old bs tail place → AreTried t start new bs tail (place + 1) was
tried_keep t start old new bs tail place was h same here =
    subst (λ z. AreTried t start z bs tail (place + 1) was) (sym same) (record {
      told = h.told;
      count = h.count;
      fewer = h.fewer;
      needed = λ e k lt. needed_to t old bs tail place k here (h.needed e) lt;
    })

-- one line more
pub tried_more : (t : TaskShape) (start old new : List Fate) (bs : List (List ℕ)) (tail : List ℕ) (place : ℕ) (was one r : Bool) → r ≡ (was || one) → AreTried t start old bs tail place was → MatchBool one (Drops t old bs tail place new) ((new ≡ old) × IsNeeded t old bs tail place) → AreTried t start new bs tail (place + 1) r
tried_more t start old new bs tail place true true r e h k = subst (AreTried t start new bs tail (place + 1)) (sym e) (tried_drop t start old new bs tail place h.told h.count k)
tried_more t start old new bs tail place false true r e h k = subst (AreTried t start new bs tail (place + 1)) (sym e) (tried_drop t start old new bs tail place h.told h.count k)
tried_more t start old new bs tail place true false r e h k = subst (AreTried t start new bs tail (place + 1)) (sym e) (tried_keep t start old new bs tail place true h k.0 k.1)
tried_more t start old new bs tail place false false r e h k = subst (AreTried t start new bs tail (place + 1)) (sym e) (tried_keep t start old new bs tail place false h k.0 k.1)

pub none_tried : (t : TaskShape) (start : List Fate) (bs : List (List ℕ)) (tail : List ℕ) → AreTold t start bs tail → AreTried t start start bs tail 0 false
none_tried t start bs tail told = record {
  told = told;
  count = omega arith;
  fewer = λ e. absurd (cc);
  needed = λ e k lt. absurd (omega (arith, lt));
}
