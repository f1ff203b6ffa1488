-- the lines of a text
use Rattle.std.proofs.Common.{◌≡◌, ◌≢◌, ℕ, true, false, List, [], ◌∷◌, ◌++◌, All, refl, sym, ap, arith, inl, inr, ◌⊎◌}
use Rattle.std.specs.Prelude.{◌==◌}
use Rattle.std.proofs.lemmas.Bool.{cases_eq}
use Rattle.std.proofs.lemmas.List.Elements.{All-nil, All-cons, All-head, All-tail}
use Rattle.cpt_line.specs.Lines.{glue, split}
use Rattle.cpt_cert_read.specs.Lines.{HasNoEnd}
use Rattle.cpt_cert_read.specs.Texts.{ended, IsSplit}
use Rattle.cpt_cert_read.proofs.Splits.{split_once}
use Rattle.cpt_thin.specs.declared.fates.Fate.{Fate}
use Rattle.cpt_thin.specs.declared.fates.Fate.TheVariants.{Fixed, Kept, Dropped}
use Rattle.cpt_trim.specs.Fates.{left_of, text_of}

glued : (b : ℕ) (bs : List ℕ) (bodies : List (List ℕ)) (tail : List ℕ) → b ≢ 10 → IsSplit bs bodies tail → IsSplit (b ∷ bs) (glue (b ∷ []) (bodies, tail)).0 (glue (b ∷ []) (bodies, tail)).1
glued b bs [] tail e h = record { whole = ap (λ z. b ∷ z) h.whole; lines = h.lines; last = All-cons (λ z. z ≢ 10) b tail e h.last }
glued b bs (c ∷ cs) tail e h = record {
  whole = ap (λ z. b ∷ z) h.whole;
  lines = All-cons HasNoEnd (b ∷ c) cs (All-cons (λ z. z ≢ 10) b c e (All-head HasNoEnd c cs h.lines)) (All-tail HasNoEnd c cs h.lines);
  last = h.last;
}

ending : (b : ℕ) (bs : List ℕ) (bodies : List (List ℕ)) (tail : List ℕ) → b ≡ 10 → IsSplit bs bodies tail → IsSplit (b ∷ bs) ([] ∷ bodies) tail
ending b bs bodies tail e more = record {
  whole = let k : bs ≡ ended bodies ++ tail = more.whole in let j : b ∷ bs ≡ 10 ∷ (ended bodies ++ tail) = cc in j;
  lines = All-cons HasNoEnd [] bodies (All-nil (λ z. z ≢ 10)) more.lines;
  last = more.last;
}

split_step : (b : ℕ) (bs : List ℕ) → IsSplit bs (split bs).0 (split bs).1 → (b ≡ 10) ⊎ (b ≡ 10 → ⊥) → IsSplit (b ∷ bs) (split (b ∷ bs)).0 (split (b ∷ bs)).1
split_step b bs more (inl e) = let test : (b == 10) ≡ true = grind arith in rw test (ending b bs (split bs).0 (split bs).1 e more)
split_step b bs more (inr e) = let test : (b == 10) ≡ false = grind arith in rw test (glued b bs (split bs).0 (split bs).1 e more)

-- what `split` gives are the lines of the text
pub split_is : (text : List ℕ) → IsSplit text (split text).0 (split text).1
split_is [] = record { whole = refl; lines = All-nil HasNoEnd; last = All-nil (λ z. z ≢ 10) }
split_is (b ∷ bs) = split_step b bs (split_is bs) (cases_eq b 10)

-- `split` gives the lines that a text is made of
pub split_ended : (bodies : List (List ℕ)) (tail : List ℕ) → All HasNoEnd bodies → HasNoEnd tail → ((split (ended bodies ++ tail)).0 ≡ bodies) × ((split (ended bodies ++ tail)).1 ≡ tail)
split_ended bodies tail lines last =
    let is = split_is (ended bodies ++ tail) in
    split_once (split (ended bodies ++ tail)).0 bodies (split (ended bodies ++ tail)).1 tail is.lines lines is.last last (sym is.whole)

pub left_feedless : (fs : List Fate) (bs : List (List ℕ)) → All HasNoEnd bs → All HasNoEnd (left_of fs bs)
left_feedless [] bs h = All-nil HasNoEnd
left_feedless (f ∷ fs) [] h = All-nil HasNoEnd
left_feedless (Fixed ∷ fs) (b ∷ bs) h = All-cons HasNoEnd b (left_of fs bs) (All-head HasNoEnd b bs h) (left_feedless fs bs (All-tail HasNoEnd b bs h))
left_feedless (Kept ∷ fs) (b ∷ bs) h = All-cons HasNoEnd b (left_of fs bs) (All-head HasNoEnd b bs h) (left_feedless fs bs (All-tail HasNoEnd b bs h))
left_feedless (Dropped ∷ fs) (b ∷ bs) h = left_feedless fs bs (All-tail HasNoEnd b bs h)

-- the lines of the text of those that are not dropped
pub left_split : (fs : List Fate) (text : List ℕ) → ((split (text_of fs (split text).0 (split text).1)).0 ≡ left_of fs (split text).0) × ((split (text_of fs (split text).0 (split text).1)).1 ≡ (split text).1)
left_split fs text = let is = split_is text in split_ended (left_of fs (split text).0) (split text).1 (left_feedless fs (split text).0 is.lines) is.last
