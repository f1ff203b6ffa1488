-- the candidates of a list by their places
use Rattle.std.proofs.Common.{◌≡◌, ◌≢◌, ℕ, suc, zero, ◌+◌, ◌-◌, ◌≤◌, ◌<◌, List, [], ◌∷◌, ◌++◌, ◌==◌, Bool, true, false, if◌then◌else◌, length, get_or, slice_get, take, drop, Option, Some, None, is_some, not, MatchBool, MatchOption, append-nil, refl, sym, ◌∙◌, ap, arith, take-append-drop}
use Rattle.std.specs.Prelude.{map, ◌&&◌}
use Rattle.std.proofs.lemmas.Bool.{and_parts, eqb-false, eqb-true}
use Rattle.std.proofs.lemmas.List.{length-append, map-append, map_more, nil_from_length, take_all}
use Rattle.std.proofs.Math.Seq.{drop-cons}
use Rattle.cpt_sheet.specs.declared.data.Cand.{Cand}
use Rattle.cpt_sheet.specs.declared.data.Cand.TheVariants.{Tok, Out}
use Rattle.cpt_sheet.specs.View.{has}
use Rattle.cpt_layout.specs.Places.{Frame, adders_at, all_cands, kept, table}
use Rattle.cpt_layout.proofs.Lists.{if_true, table_snoc}
use Rattle.cpt_block.specs.Blocks.{bit}
use Rattle.cpt_block.proofs.Kepts.{kept_append, kept_snoc}
use Rattle.cpt_cells.specs.Lists.{outs_in, tokens_in}

abbrev more : Bool → List Cand → Cand → List Cand
more b xs c = if b then xs ++ c ∷ [] else xs

pub tokens_next : (cs : List Cand) (n : ℕ) → tokens_in cs (n + 1) ≡ (if has (Tok n) cs then tokens_in cs n ++ Tok n ∷ [] else tokens_in cs n)
tokens_next cs n =
    let z : 0 + n ≡ n = omega arith in
    let o : n + 1 ≡ suc n = omega arith in
    ap (λ (i : ℕ). tokens_in cs i) o
    ∙ (ap (λ (ds : List Cand). kept (λ c. has c cs) ds) (table_snoc Tok 0 n ∙ ap (λ (i : ℕ). table Tok 0 n ++ Tok i ∷ []) z)
    ∙ kept_snoc (λ c. has c cs) (table Tok 0 n) (Tok n))

pub outs_next : (cs : List Cand) (bs : List ℕ) (i : ℕ) → i < length bs →
    outs_in cs (take (i + 1) bs) ≡ (if has (Out (get_or bs i 0)) cs then outs_in cs (take i bs) ++ Out (get_or bs i 0) ∷ [] else outs_in cs (take i bs))
outs_next cs bs i l =
    ap (λ (ds : List Cand). kept (λ c. has c cs) ds) (map_more Out bs i 0 l)
    ∙ kept_snoc (λ c. has c cs) (map Out (take i bs)) (Out (get_or bs i 0))

nth_here : (xs : List Cand) (c : Cand) (rest : List Cand) → slice_get (xs ++ c ∷ rest) (length xs) ≡ Some c
nth_here [] c rest = refl
nth_here (x ∷ xs) c rest = nth_here xs c rest

nth_kept : (f : Cand → Bool) (xs ds : List Cand) (c : Cand) (place : ℕ) → f c ≡ true → place ≡ length (kept f xs) → slice_get (kept f (xs ++ c ∷ ds)) place ≡ Some c
nth_kept f xs ds c place t e =
    ap (λ (i : ℕ). slice_get (kept f (xs ++ c ∷ ds)) i) e
    ∙ (ap (λ (ys : List Cand). slice_get ys (length (kept f xs))) (kept_append f xs (c ∷ ds) ∙ ap (λ (ys : List Cand). kept f xs ++ ys) (if_true (f c) (c ∷ kept f ds) (kept f ds) t))
    ∙ nth_here (kept f xs) c (kept f ds))

table_split : (i m n : ℕ) → table Tok i (m + n) ≡ table Tok i m ++ table Tok (i + m) n
table_split i zero n = (let z : 0 + n ≡ n = omega arith in let e : i ≡ i + 0 = omega arith in ap (λ (k : ℕ). table Tok i k) z ∙ ap (λ (k : ℕ). table Tok k n) e)
table_split i (suc m) n =
    let z : suc m + n ≡ suc (m + n) = omega arith in
    let e : suc i + m ≡ i + suc m = omega arith in
    ap (λ (k : ℕ). table Tok i k) z
    ∙ ap (λ (ds : List Cand). Tok i ∷ ds) (table_split (suc i) m n ∙ ap (λ (k : ℕ). table Tok (suc i) m ++ table Tok k n) e)

pub nth_token : (cs : List Cand) (n y place : ℕ) → y < n → has (Tok y) cs ≡ true → place ≡ length (tokens_in cs y) → slice_get (tokens_in cs n) place ≡ Some (Tok y)
nth_token cs n y place l t e =
    let f : Cand → Bool = λ c. has c cs in
    let k : ℕ = n - suc y in
    let z : n ≡ y + suc k = omega arith in
    let a : 0 + y ≡ y = omega arith in
    let b : table Tok 0 n ≡ table Tok 0 y ++ Tok y ∷ table Tok (suc y) k = ap (λ (i : ℕ). table Tok 0 i) z ∙ (table_split 0 y (suc k) ∙ ap (λ (i : ℕ). table Tok 0 y ++ table Tok i (suc k)) a) in
    ap (λ (ds : List Cand). slice_get (kept f ds) place) b ∙ nth_kept f (table Tok 0 y) (table Tok (suc y) k) (Tok y) place t e

pub nth_out : (cs : List Cand) (bs : List ℕ) (i place : ℕ) → i < length bs → has (Out (get_or bs i 0)) cs ≡ true → place ≡ length (outs_in cs (take i bs)) → slice_get (outs_in cs bs) place ≡ Some (Out (get_or bs i 0))
nth_out cs bs i place l t e =
    let f : Cand → Bool = λ c. has c cs in
    let b : bs ≡ take i bs ++ get_or bs i 0 ∷ drop (suc i) bs = sym (take-append-drop i bs) ∙ ap (λ (zs : List ℕ). take i bs ++ zs) (drop-cons bs i 0 l) in
    ap (λ (zs : List ℕ). slice_get (kept f (map Out zs)) place) b
    ∙ (ap (λ (ds : List Cand). slice_get (kept f ds) place) (map-append Out (take i bs) (get_or bs i 0 ∷ drop (suc i) bs))
    ∙ nth_kept f (map Out (take i bs)) (map Out (drop (suc i) bs)) (Out (get_or bs i 0)) place t e)

-- a list in order is its tokens and its outside actions
pub by_parts : (s : Frame) (p : ℕ) (cs : List Cand) → cs ≡ kept (λ c. has c cs) (all_cands s p) → cs ≡ tokens_in cs (length s.kinds) ++ outs_in cs (adders_at s p)
by_parts s p cs e = e ∙ kept_append (λ c. has c cs) (table Tok 0 (length s.kinds)) (map Out (adders_at s p))

pub get_left : (xs ys : List Cand) (place : ℕ) → place < length xs → slice_get (xs ++ ys) place ≡ slice_get xs place
get_left [] ys place l = absurd (omega arith)
get_left (x ∷ xs) ys zero l = refl
get_left (x ∷ xs) ys (suc place) l = get_left xs ys place (omega arith)

pub get_right : (xs ys : List Cand) (place rest : ℕ) → length xs + rest ≡ place → slice_get (xs ++ ys) place ≡ slice_get ys rest
get_right [] ys place rest e = ap (λ (i : ℕ). slice_get ys i) (let z : place ≡ rest = omega arith in z)
get_right (x ∷ xs) ys zero rest e = absurd (omega arith)
get_right (x ∷ xs) ys (suc place) rest e = get_right xs ys place rest (omega arith)

-- one more of those that were passed
bit_length : (b : Bool) (xs : List Cand) (c : Cand) → length (more b xs c) ≡ length xs + bit b
bit_length true xs c = length-append xs (c ∷ [])
bit_length false xs c = (let e : length xs ≡ length xs + 0 = omega arith in e)

pub tokens_more : (cs : List Cand) (n count one : ℕ) → count ≡ length (tokens_in cs n) → one ≡ bit (has (Tok n) cs) → count + one ≡ length (tokens_in cs (n + 1))
tokens_more cs n count one h k =
    let l : length (tokens_in cs (n + 1)) ≡ length (tokens_in cs n) + bit (has (Tok n) cs) = ap (λ (ds : List Cand). length ds) (tokens_next cs n) ∙ bit_length (has (Tok n) cs) (tokens_in cs n) (Tok n) in
    omega arith

pub outs_more : (cs : List Cand) (bs : List ℕ) (i count one : ℕ) → i < length bs → count ≡ length (outs_in cs (take i bs)) → one ≡ bit (has (Out (get_or bs i 0)) cs) → count + one ≡ length (outs_in cs (take (i + 1) bs))
outs_more cs bs i count one b h k =
    let l : length (outs_in cs (take (i + 1) bs)) ≡ length (outs_in cs (take i bs)) + bit (has (Out (get_or bs i 0)) cs) = ap (λ (ds : List Cand). length ds) (outs_next cs bs i b) ∙ bit_length (has (Out (get_or bs i 0)) cs) (outs_in cs (take i bs)) (Out (get_or bs i 0)) in
    omega arith

-- none more is passed
pub tokens_none : (cs : List Cand) (n : ℕ) → length (tokens_in cs n) ≡ 0 → has (Tok n) cs ≡ false → length (tokens_in cs (n + 1)) ≡ 0
tokens_none cs n h f = sym (tokens_more cs n 0 0 (sym h) (sym (ap bit f)))

pub outs_none : (cs : List Cand) (bs : List ℕ) (i : ℕ) → i < length bs → length (outs_in cs (take i bs)) ≡ 0 → has (Out (get_or bs i 0)) cs ≡ false → length (outs_in cs (take (i + 1) bs)) ≡ 0
outs_none cs bs i l h f = sym (outs_more cs bs i 0 0 l (sym h) (sym (ap bit f)))

pub outs_all : (cs : List Cand) (bs : List ℕ) (i : ℕ) → length bs ≤ i → length (outs_in cs (take i bs)) ≡ 0 → length (outs_in cs bs) ≡ 0
outs_all cs bs i l h = ap (λ (zs : List ℕ). length (outs_in cs zs)) (sym (take_all i bs l)) ∙ h

-- a list that has one is not empty, and with an outside action it is not one token
pub not_empty : (c : Cand) (cs : List Cand) → has c cs ≡ true → cs ≢ []
not_empty c cs t e = (let k : has c [] ≡ true = ap (λ (ds : List Cand). has c ds) (sym e) ∙ t in cc)

pub not_token : (a : ℕ) (cs : List Cand) → has (Out a) cs ≡ true → (y : ℕ) → cs ≢ Tok y ∷ []
not_token a cs t y e = (let k : has (Out a) (Tok y ∷ []) ≡ true = ap (λ (ds : List Cand). has (Out a) ds) (sym e) ∙ t in cc)

-- the token that was found, if one was
abbrev pub token_list : Option ℕ → List Cand
token_list None = []
token_list (Some y) = Tok y ∷ []

pub found_none : (cs : List Cand) (n : ℕ) (o : Option ℕ) → tokens_in cs n ≡ token_list o → has (Tok n) cs ≡ false → tokens_in cs (n + 1) ≡ token_list o
found_none cs n o h f = tokens_next cs n ∙ (ap (λ b. if b then tokens_in cs n ++ Tok n ∷ [] else tokens_in cs n) f ∙ h)

pub found_one : (cs : List Cand) (n : ℕ) (o : Option ℕ) → tokens_in cs n ≡ token_list o → is_some o ≡ false → has (Tok n) cs ≡ true → tokens_in cs (n + 1) ≡ Tok n ∷ []
found_one cs n None h i t = tokens_next cs n ∙ (ap (λ b. if b then tokens_in cs n ++ Tok n ∷ [] else tokens_in cs n) t ∙ ap (λ (ds : List Cand). ds ++ Tok n ∷ []) h)
found_one cs n (Some y) h i t = absurd (let k : true ≡ false = i in cc)

tokens_rest : (cs : List Cand) (m n : ℕ) → length (tokens_in cs m) ≤ length (tokens_in cs (m + n))
tokens_rest cs m n =
    let e : tokens_in cs (m + n) ≡ tokens_in cs m ++ kept (λ c. has c cs) (table Tok (0 + m) n) = ap (λ (ds : List Cand). kept (λ c. has c cs) ds) (table_split 0 m n) ∙ kept_append (λ c. has c cs) (table Tok 0 m) (table Tok (0 + m) n) in
    let l = ap (λ (ds : List Cand). length ds) e ∙ length-append (tokens_in cs m) (kept (λ c. has c cs) (table Tok (0 + m) n)) in
    omega arith

pub found_two : (cs : List Cand) (n all : ℕ) (o : Option ℕ) → n < all → tokens_in cs n ≡ token_list o → is_some o ≡ true → has (Tok n) cs ≡ true → length (tokens_in cs all) ≢ 1
found_two cs n all None b h i t e = absurd (let k : false ≡ true = i in cc)
found_two cs n all (Some y) b h i t e =
    let k : tokens_in cs (n + 1) ≡ (Tok y ∷ []) ++ Tok n ∷ [] = tokens_next cs n ∙ (ap (λ b. if b then tokens_in cs n ++ Tok n ∷ [] else tokens_in cs n) t ∙ ap (λ (ds : List Cand). ds ++ Tok n ∷ []) h) in
    let m : length (tokens_in cs (n + 1)) ≡ 2 = ap (λ (ds : List Cand). length ds) k in
    let r = tokens_rest cs (n + 1) (all - (n + 1)) in
    let z : n + 1 + (all - (n + 1)) ≡ all = omega arith in
    let q : length (tokens_in cs (n + 1 + (all - (n + 1)))) ≡ length (tokens_in cs all) = ap (λ (i : ℕ). length (tokens_in cs i)) z in
    absurd (omega arith)

pub found_is : (cs : List Cand) (n all : ℕ) (o : Option ℕ) → n ≡ all → tokens_in cs n ≡ token_list o → MatchOption o (length (tokens_in cs all) ≢ 1) (λ y. tokens_in cs all ≡ Tok y ∷ [])
found_is cs n all None e h = λ k. (let m : length (tokens_in cs all) ≡ 0 = ap (λ (ds : List Cand). length ds) (ap (λ (i : ℕ). tokens_in cs i) (sym e) ∙ h) in absurd (omega arith))
found_is cs n all (Some y) e h = ap (λ (i : ℕ). tokens_in cs i) (sym e) ∙ h

pub bit_most : (b : Bool) → bit b ≤ 1
bit_most true = omega arith
bit_most false = omega arith

pub is_there : (r listed : Bool) (passed place : ℕ) → r ≡ (listed && (passed == place)) → r ≡ true → (listed ≡ true) × (place ≡ passed)
is_there r listed passed place e t = (let q = and_parts listed (passed == place) (sym e ∙ t) in (q.0, sym (eqb-true passed place q.1)))

pub passes_on : (listed : Bool) (passed place : ℕ) → (listed && (passed == place)) ≡ false → passed ≤ place → passed + bit listed ≤ place
passes_on true passed place f l = (let n = eqb-false passed place f in omega arith)
passes_on false passed place f l = omega arith

module _ (f : Frame) (p q : ℕ) (cs l : List Cand) (order : cs ≡ kept (λ c. has c cs) (all_cands f p)) (list : cs ≡ l) (atom : q ≡ p) where
  split : cs ≡ tokens_in l (length f.kinds) ++ outs_in l (adders_at f q)
  split =
      by_parts f p cs order
      ∙ (ap (λ (ds : List Cand). tokens_in ds (length f.kinds) ++ outs_in ds (adders_at f p)) list
      ∙ ap (λ (r : ℕ). tokens_in l (length f.kinds) ++ outs_in l (adders_at f r)) (sym atom))

  pub count_is : length (tokens_in l (length f.kinds)) + length (outs_in l (adders_at f q)) ≡ length cs
  count_is = sym (ap (λ (ds : List Cand). length ds) split ∙ length-append (tokens_in l (length f.kinds)) (outs_in l (adders_at f q)))

  pub empty_is : (r : Bool) → length (outs_in l (adders_at f q)) ≡ 0 → (r ≡ true → l ≢ []) → (r ≡ false → length (tokens_in l (length f.kinds)) ≡ 0) → MatchBool (not r) (l ≡ []) (l ≢ [])
  empty_is true o full none = full refl
  empty_is false o full none = (let n = none refl in let k = count_is in sym list ∙ nil_from_length cs (omega arith))

  pub single_is : (r : Option ℕ) → length (outs_in l (adders_at f q)) ≡ 0 → MatchOption r (length (tokens_in l (length f.kinds)) ≢ 1) (λ y. tokens_in l (length f.kinds) ≡ Tok y ∷ []) →
      MatchOption r ((y : ℕ) → cs ≡ Tok y ∷ [] → ⊥) (λ y. cs ≡ Tok y ∷ [])
  single_is None o h = λ y e. (let k = count_is in let m : length cs ≡ 1 = ap (λ (ds : List Cand). length ds) e in h (omega arith))
  single_is (Some y) o h =
      split
      ∙ (ap (λ (ds : List Cand). tokens_in l (length f.kinds) ++ ds) (nil_from_length (outs_in l (adders_at f q)) o)
      ∙ (append-nil (tokens_in l (length f.kinds)) ∙ h))

  pub cand_left : (place : ℕ) (c : Cand) → place < length (tokens_in l (length f.kinds)) → slice_get (tokens_in l (length f.kinds)) place ≡ Some c → slice_get cs place ≡ Some c
  cand_left place c b h =
      ap (λ (ds : List Cand). slice_get ds place) split
      ∙ (get_left (tokens_in l (length f.kinds)) (outs_in l (adders_at f q)) place b ∙ h)

  pub cand_right : (place rest : ℕ) (c : Cand) → length (tokens_in l (length f.kinds)) + rest ≡ place → slice_get (outs_in l (adders_at f q)) rest ≡ Some c → slice_get cs place ≡ Some c
  cand_right place rest c b h =
      ap (λ (ds : List Cand). slice_get ds place) split
      ∙ (get_right (tokens_in l (length f.kinds)) (outs_in l (adders_at f q)) place rest b ∙ h)

-- the first of a list, and a list of one
pub no_first : (cs : List Cand) → length cs ≡ 0 → None ≡ slice_get cs 0
no_first [] h = refl
no_first (c ∷ cs) h = absurd (omega arith)

pub one_is : (cs : List Cand) (c : Cand) → length cs ≡ 1 → slice_get cs 0 ≡ Some c → cs ≡ c ∷ []
one_is [] c h e = absurd (omega arith)
one_is (d ∷ []) c h e = (let k : d ≡ c = cc in ap (λ (x : Cand). x ∷ []) k)
one_is (d ∷ (b ∷ cs)) c h e = absurd (omega arith)

pub not_one : (cs : List Cand) (y : ℕ) → length cs ≢ 1 → cs ≡ Tok y ∷ [] → ⊥
not_one cs y h e = h (ap (λ (ds : List Cand). length ds) e)

pub out_first : (cs : List Cand) (a y : ℕ) → slice_get cs 0 ≡ Some (Out a) → cs ≡ Tok y ∷ [] → ⊥
out_first cs a y h e = (let k : Some (Tok y) ≡ Some (Out a) = sym (ap (λ (ds : List Cand). slice_get ds 0) e) ∙ h in cc)
