-- each text has lines, and they are read in one way
use Rattle.std.proofs.Common.{◌≡◌, ◌≢◌, ℕ, ◌+◌, ◌≤◌, ◌⊎◌, inl, inr, List, [], ◌∷◌, ◌++◌, length, All, unwrap_or, refl, sym, ap, ◌∙◌, subst, arith, append_assoc, length-append}
use Rattle.std.specs.List.{AllZip}
use Rattle.std.proofs.lemmas.Bool.{cases_lt, cases_eq}
use Rattle.std.proofs.lemmas.List.Elements.{All-nil, All-cons, All-head, All-tail, All-contains, Contains-append_right}
use Rattle.cpt_cert_form.specs.declared.forms.CertLine.{CertLine}
use Rattle.cpt_cert_form.specs.declared.forms.CertLine.TheVariants as lines
use Rattle.cpt_cert_form.specs.Forms.{IsReadAs}
use Rattle.cpt_cert_read.specs.Lines.{HasNoEnd}
use Rattle.cpt_cert_read.specs.Reading.{words_in, line_in}
use Rattle.cpt_cert_read.specs.Texts.{ended, IsSplit, unended, AreLinesOf, EachHasLines}
use Rattle.cpt_cert_read.proofs.Meaning.{short_meaning, long_meaning, one_meaning}

-- two texts that go on behind a first line end are cut there alike
cut_once : (a b x y : List ℕ) → HasNoEnd a → HasNoEnd b → a ++ 10 ∷ x ≡ b ++ 10 ∷ y → (a ≡ b) × (x ≡ y)
cut_once [] [] x y p q e = (refl, tail_of 10 10 x y e)
  where
    tail_of : (c d : ℕ) (xs ys : List ℕ) → c ∷ xs ≡ d ∷ ys → xs ≡ ys
    tail_of c d xs ys e = cc
cut_once [] (c ∷ b) x y p q e = absurd (All-head (λ z. z ≢ 10) c b q (let k : 10 ≡ c = head_of 10 c x (b ++ 10 ∷ y) e in sym k))
  where
    head_of : (c d : ℕ) (xs ys : List ℕ) → c ∷ xs ≡ d ∷ ys → c ≡ d
    head_of c d xs ys e = cc
cut_once (c ∷ a) [] x y p q e = absurd (All-head (λ z. z ≢ 10) c a p (head_of c 10 (a ++ 10 ∷ x) y e))
  where
    head_of : (c d : ℕ) (xs ys : List ℕ) → c ∷ xs ≡ d ∷ ys → c ≡ d
    head_of c d xs ys e = cc
cut_once (c ∷ a) (d ∷ b) x y p q e =
    let k = cut_once a b x y (All-tail (λ z. z ≢ 10) c a p) (All-tail (λ z. z ≢ 10) d b q) (tails e) in let h : c ≡ d = heads e in let j = k.0 in (cc, k.1)
  where
    tails : c ∷ (a ++ 10 ∷ x) ≡ d ∷ (b ++ 10 ∷ y) → a ++ 10 ∷ x ≡ b ++ 10 ∷ y
    tails e = cc

    heads : c ∷ (a ++ 10 ∷ x) ≡ d ∷ (b ++ 10 ∷ y) → c ≡ d
    heads e = cc

no_feed : (a x : List ℕ) → HasNoEnd (a ++ 10 ∷ x) → ⊥
no_feed a x h = All-contains (λ z. z ≢ 10) (a ++ 10 ∷ x) 10 h (Contains-append_right a (10 ∷ x) 10 (0, omega arith, refl)) refl

one_more : (body : List ℕ) (bodies : List (List ℕ)) (tail : List ℕ) → ended (body ∷ bodies) ++ tail ≡ body ++ 10 ∷ (ended bodies ++ tail)
one_more body bodies tail = append_assoc (body ++ 10 ∷ []) (ended bodies) tail ∙ append_assoc body (10 ∷ []) (ended bodies ++ tail)

pub split_once : (bs cs : List (List ℕ)) (x y : List ℕ) → All HasNoEnd bs → All HasNoEnd cs → HasNoEnd x → HasNoEnd y → ended bs ++ x ≡ ended cs ++ y → (bs ≡ cs) × (x ≡ y)
split_once [] [] x y p q h k e = (refl, e)
split_once [] (c ∷ cs) x y p q h k e = absurd (no_feed c (ended cs ++ y) (subst HasNoEnd (e ∙ one_more c cs y) h))
split_once (b ∷ bs) [] x y p q h k e = absurd (no_feed b (ended bs ++ x) (subst HasNoEnd (sym e ∙ one_more b bs x) k))
split_once (b ∷ bs) (c ∷ cs) x y p q h k e =
    let first = cut_once b c (ended bs ++ x) (ended cs ++ y) (All-head HasNoEnd b bs p) (All-head HasNoEnd c cs q) (sym (one_more b bs x) ∙ e ∙ one_more c cs y) in
    let more = split_once bs cs x y (All-tail HasNoEnd b bs p) (All-tail HasNoEnd c cs q) h k first.1 in
    let i = first.0 in let j = more.0 in (cc, more.1)

-- the lines of bytes
pub record Split (text : List ℕ) : Type 0 where
  pub bodies : List (List ℕ)
  pub tail : List ℕ
  pub split : IsSplit text bodies tail

split_at_end : (b : ℕ) (bs : List ℕ) → b ≡ 10 → Split bs → Split (b ∷ bs)
split_at_end b bs e h = record {
  bodies = [] ∷ h.bodies;
  tail = h.tail;
  split = record {
    whole = let k : bs ≡ ended h.bodies ++ h.tail = h.split.whole in let j : b ∷ bs ≡ 10 ∷ (ended h.bodies ++ h.tail) = cc in j;
    lines = All-cons HasNoEnd [] h.bodies (All-nil (λ z. z ≢ 10)) h.split.lines;
    last = h.split.last;
  };
}

split_inside : (b : ℕ) (bs : List ℕ) (bodies : List (List ℕ)) (tail : List ℕ) → b ≢ 10 → IsSplit bs bodies tail → Split (b ∷ bs)
split_inside b bs [] tail e h = record {
  bodies = [];
  tail = b ∷ tail;
  split = record { whole = ap (λ z. b ∷ z) h.whole; lines = h.lines; last = All-cons (λ z. z ≢ 10) b tail e h.last };
}
split_inside b bs (c ∷ cs) tail e h = record {
  bodies = (b ∷ c) ∷ cs;
  tail = tail;
  split = record {
    whole = ap (λ z. b ∷ z) h.whole;
    lines = All-cons HasNoEnd (b ∷ c) cs (All-cons (λ z. z ≢ 10) b c e (All-head HasNoEnd c cs h.lines)) (All-tail HasNoEnd c cs h.lines);
    last = h.last;
  };
}

pub split_of : (text : List ℕ) → Split text
split_of [] = record { bodies = []; tail = []; split = record { whole = refl; lines = All-nil HasNoEnd; last = All-nil (λ z. z ≢ 10) } }
split_of (b ∷ bs) = go (split_of bs) (cases_eq b 10)
  where
    go : Split bs → (b ≡ 10) ⊎ (b ≡ 10 → ⊥) → Split (b ∷ bs)
    go h (inl e) = split_at_end b bs e h
    go h (inr e) = split_inside b bs h.bodies h.tail e h.split

-- what a line is read as
reading : (bytes : List ℕ) → (line : CertLine) × IsReadAs bytes line
reading bytes =
    elim (cases_lt 65536 (length bytes)) [
      | inl long ↦ (lines.Strange, long_meaning bytes long)
      | inr short ↦ (unwrap_or (line_in (words_in bytes)) lines.Strange, short_meaning bytes short)
    ]

pub readings : (bodies : List (List ℕ)) → (read : List CertLine) × AllZip IsReadAs bodies read
readings [] = ([], tt)
readings (b ∷ bodies) = let r = reading b in let rs = readings bodies in (r.0 ∷ rs.0, (r.1, rs.1))

pub zip_append : (bodies more : List (List ℕ)) (read also : List CertLine) → AllZip IsReadAs bodies read → AllZip IsReadAs more also → AllZip IsReadAs (bodies ++ more) (read ++ also)
zip_append [] more [] also h k = k
zip_append [] more (r ∷ read) also h k = absurd h
zip_append (b ∷ bodies) more [] also h k = absurd h
zip_append (b ∷ bodies) more (r ∷ read) also h k = (h.0, zip_append bodies more read also h.1 k)

pub zip_length : (bodies : List (List ℕ)) (read : List CertLine) → AllZip IsReadAs bodies read → length bodies ≡ length read
zip_length [] [] h = refl
zip_length [] (r ∷ read) h = absurd h
zip_length (b ∷ bodies) [] h = absurd h
zip_length (b ∷ bodies) (r ∷ read) h = let k = zip_length bodies read h.1 in omega (arith, k)

pub ended_append : (bodies more : List (List ℕ)) → ended (bodies ++ more) ≡ ended bodies ++ ended more
ended_append [] more = refl
ended_append (b ∷ bodies) more = ap (λ z. (b ++ 10 ∷ []) ++ z) (ended_append bodies more) ∙ sym (append_assoc (b ++ 10 ∷ []) (ended bodies) (ended more))

-- each line has its line feed
pub few_lines : (bodies : List (List ℕ)) → length bodies ≤ length (ended bodies)
few_lines [] = omega arith
few_lines (b ∷ bodies) =
    let k = few_lines bodies in
    let size : length (ended (b ∷ bodies)) ≡ length (b ++ 10 ∷ []) + length (ended bodies) = length-append (b ++ 10 ∷ []) (ended bodies) in
    let one : length (b ++ 10 ∷ []) ≡ length b + 1 = length-append b (10 ∷ []) in
    omega (arith, k, size, one)

zip_once : (bodies : List (List ℕ)) (read also : List CertLine) → AllZip IsReadAs bodies read → AllZip IsReadAs bodies also → read ≡ also
zip_once [] [] [] h k = refl
zip_once [] [] (s ∷ also) h k = absurd k
zip_once [] (r ∷ read) also h k = absurd h
zip_once (b ∷ bodies) [] also h k = absurd h
zip_once (b ∷ bodies) (r ∷ read) [] h k = absurd k
zip_once (b ∷ bodies) (r ∷ read) (s ∷ also) h k = let e = one_meaning b r s h.0 k.0 in let f = zip_once bodies read also h.1 k.1 in cc

-- the lines of a text are read in one way
pub lines_once : (text : List ℕ) (ls also : List CertLine) → AreLinesOf text ls → AreLinesOf text also → ls ≡ also
lines_once text ls also h k =
    let same = split_once h.bodies k.bodies h.tail k.tail h.split.lines k.split.lines h.split.last k.split.last (sym h.split.whole ∙ k.split.whole) in
    let read = zip_once h.bodies h.read k.read h.each (subst (λ z. AllZip IsReadAs z k.read) (sym same.0) k.each) in
    h.all ∙ ap (λ z. z ++ unended h.tail) read ∙ ap (λ z. k.read ++ unended z) same.1 ∙ sym k.all

-- each text has lines
pub lines_of : (text : List ℕ) → (ls : List CertLine) × AreLinesOf text ls
lines_of text =
    let s = split_of text in
    let r = readings s.bodies in (r.0 ++ unended s.tail, record { bodies = s.bodies; tail = s.tail; read = r.0; split = s.split; each = r.1; all = refl })

pub each_has_lines : EachHasLines
each_has_lines text = let h = lines_of text in (h.0, h.1, λ also k. lines_once text also h.0 k h.1)
