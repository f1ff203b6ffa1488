-- Names: where they end, that they have no line feed, and that no two are the same.
use Rattle.std.proofs.Common.{◌≡◌, ◌≢◌, ℕ, suc, ◌+◌, ◌<◌, Bool, true, false, ◌&&◌, cond, eqb, inl, inr, List, [], ◌∷◌, ◌++◌, length, get_or, refl, sym, ap, subst, ◌∙◌, append_assoc, append-nil, length-append, arith}
use Rattle.std.specs.Str.{bytes_eq}
use Rattle.std.proofs.lemmas.Bool.{and_parts, or_from, eqb-true, ne_eqb, false≢true, false_from_ne_true, cases_lt}
use Rattle.std.proofs.lemmas.List.{nil_from_length}
use Rattle.std.proofs.Math.ListN.{get_or-append}
use Rattle.std.proofs.Math.Seq.{get_or-append_seam}
use Rattle.std.proofs.lemmas.List.Elements.{All-push}
use Rattle.std.proofs.lemmas.List.Folds.{list_any_at}
use Rattle.cpt_line.specs.Names.{word_byte, name_after, is_name, AreNames}
use Rattle.cpt_task_text.specs.Reading.{is_among, name_length}
use Rattle.cpt_task_text.proofs.Binding.{eq_bytes, same_bytes}

-- no line feed is among the bytes
abbrev pub NoFeed : List ℕ → Type 0
NoFeed [] = Unit {0}
NoFeed (b ∷ bs) = (eqb b 10 ≡ false) × NoFeed bs

pub NoFeed-append : (xs ys : List ℕ) → NoFeed xs → NoFeed ys → NoFeed (xs ++ ys)
NoFeed-append [] ys h k = k
NoFeed-append (x ∷ xs) ys h k = (h.0, NoFeed-append xs ys h.1 k)

-- what a name is after its first byte
pub record NamedOn (b : ℕ) (bs : List ℕ) : Type 0 where
  pub in_word : Bool
  pub rest : name_after in_word bs ≡ true
  pub no_feed : eqb b 10 ≡ false

word_no_feed : (b : ℕ) → word_byte b ≡ true → eqb b 10 ≡ false
word_no_feed b h = ne_eqb b 10 (λ z. false≢true (sym (ap word_byte z) ∙ h))

named_on_by : (in_word : Bool) (b : ℕ) (bs : List ℕ) (space : Bool) → eqb b 32 ≡ space → cond space (in_word && name_after false bs) (word_byte b && name_after true bs) ≡ true → NamedOn b bs
named_on_by in_word b bs true e h =
    let same : b ≡ 32 = eqb-true b 32 e in
    record { in_word = false; rest = (and_parts in_word (name_after false bs) h).1; no_feed = ne_eqb b 10 (λ z. omega (arith, same, z)) }
named_on_by in_word b bs false e h =
    let p = and_parts (word_byte b) (name_after true bs) h in
    record { in_word = true; rest = p.1; no_feed = word_no_feed b p.0 }

closes : (in_word : Bool) (bs : List ℕ) → (in_word && eqb (length bs) 0) ≡ true → bs ≡ []
closes in_word bs h = nil_from_length bs (eqb-true (length bs) 0 (and_parts in_word (eqb (length bs) 0) h).1)

-- the first closing parenthesis ends the name
ends_by : (b : ℕ) (bs rest : List ℕ) (in_word : Bool) (close : Bool)
    → cond close (in_word && eqb (length bs) 0) (cond (eqb b 32) (in_word && name_after false bs) (word_byte b && name_after true bs)) ≡ true
    → ((w : Bool) → name_after w bs ≡ true → name_length (bs ++ rest) ≡ length bs) → cond close 1 (name_length (bs ++ rest) + 1) ≡ length (b ∷ bs)
ends_by b bs rest in_word true h more = ap (λ (xs : List ℕ). length (b ∷ xs)) (sym (closes in_word bs h))
ends_by b bs rest in_word false h more =
    let on = named_on_by in_word b bs (eqb b 32) refl h in
    let e : name_length (bs ++ rest) ≡ length bs = more on.in_word on.rest in
    omega (arith, e)

ends_name : (bs rest : List ℕ) (in_word : Bool) → name_after in_word bs ≡ true → name_length (bs ++ rest) ≡ length bs
ends_name [] rest in_word h = absurd (false≢true h)
ends_name (b ∷ bs) rest in_word h = ends_by b bs rest in_word (eqb b 41) h (λ w k. ends_name bs rest w k)

pub name_length_of : (name rest : List ℕ) → is_name name ≡ true → name_length (name ++ rest) ≡ length name
name_length_of [] rest h = absurd (false≢true h)
name_length_of (b ∷ bs) rest h =
    let p = and_parts (eqb b 40) (name_after false bs) h in
    let open_first : b ≡ 40 = eqb-true b 40 p.0 in
    let other : eqb b 41 ≡ false = ne_eqb b 41 (λ z. omega (arith, open_first, z)) in
    let e : name_length (bs ++ rest) ≡ length bs = ends_name bs rest false p.1 in
    rw other (omega (arith, e))

feedless_by : (b : ℕ) (bs : List ℕ) (in_word : Bool) (close : Bool) → eqb b 41 ≡ close
    → cond close (in_word && eqb (length bs) 0) (cond (eqb b 32) (in_word && name_after false bs) (word_byte b && name_after true bs)) ≡ true
    → ((w : Bool) → name_after w bs ≡ true → NoFeed bs) → NoFeed (b ∷ bs)
feedless_by b bs in_word true e h more =
    let same : b ≡ 41 = eqb-true b 41 e in
    (ne_eqb b 10 (λ z. omega (arith, same, z)), subst NoFeed (sym (closes in_word bs h)) tt)
feedless_by b bs in_word false e h more =
    let on = named_on_by in_word b bs (eqb b 32) refl h in
    (on.no_feed, more on.in_word on.rest)

feedless_after : (bs : List ℕ) (in_word : Bool) → name_after in_word bs ≡ true → NoFeed bs
feedless_after [] in_word h = tt
feedless_after (b ∷ bs) in_word h = feedless_by b bs in_word (eqb b 41) refl h (λ w k. feedless_after bs w k)

pub NoFeed-name : (name : List ℕ) → is_name name ≡ true → NoFeed name
NoFeed-name [] h = tt
NoFeed-name (b ∷ bs) h =
    let p = and_parts (eqb b 40) (name_after false bs) h in
    let open_first : b ≡ 40 = eqb-true b 40 p.0 in
    (ne_eqb b 10 (λ z. omega (arith, open_first, z)), feedless_after bs false p.1)

-- ---- names of which none is among those before it

abbrev pub AreNew : List (List ℕ) → List (List ℕ) → Type 0
AreNew seen [] = Unit {0}
AreNew seen (name ∷ names) = (is_name name ≡ true) × (is_among seen name ≡ false) × AreNew (seen ++ name ∷ []) names

apart_from_among : (seen : List (List ℕ)) (name : List ℕ) → is_among seen name ≡ false → (i : ℕ) → i < length seen → get_or seen i [] ≢ name
apart_from_among seen name h i lt e =
    false≢true (sym h ∙ list_any_at (bytes_eq name) seen i [] lt (subst (λ (x : List ℕ). bytes_eq name x ≡ true) (sym e) (same_bytes name)))

among_from_apart : (seen : List (List ℕ)) (name : List ℕ) → ((i : ℕ) → i < length seen → get_or seen i [] ≢ name) → is_among seen name ≡ false
among_from_apart [] name h = refl
among_from_apart (other ∷ seen) name h =
    or_from (bytes_eq name other) (is_among seen name) (false_from_ne_true _ (λ e. h 0 (omega arith) (sym (eq_bytes name other e)))) (among_from_apart seen name (λ i lt. h (suc i) (omega (arith, lt))))

distinct_push : (seen : List (List ℕ)) (name : List ℕ) → AreNames seen → is_among seen name ≡ false → (i j : ℕ) → i < j → j < length (seen ++ name ∷ []) → get_or (seen ++ name ∷ []) i [] ≢ get_or (seen ++ name ∷ []) j []
distinct_push seen name names h i j lt within e =
    let size : length (seen ++ name ∷ []) ≡ length seen + 1 = length-append seen (name ∷ []) in
    let below : i < length seen = omega (arith, lt, within, size) in
    let left : get_or (seen ++ name ∷ []) i [] ≡ get_or seen i [] = get_or-append seen (name ∷ []) [] i below in
    elim (cases_lt j (length seen)) [
      | inl low ↦ names.distinct i j lt low (sym left ∙ e ∙ get_or-append seen (name ∷ []) [] j low)
      | inr high ↦
          let k : j ≡ length seen = omega (arith, high, within, size) in
          let right : get_or (seen ++ name ∷ []) j [] ≡ name = ap (λ (n : ℕ). get_or (seen ++ name ∷ []) n []) k ∙ get_or-append_seam seen name [] [] in
          apart_from_among seen name h i below (sym left ∙ e ∙ right)
    ]

pub names_from_new : (seen names : List (List ℕ)) → AreNames seen → AreNew seen names → AreNames (seen ++ names)
names_from_new seen [] h new = subst AreNames (sym (append-nil seen)) h
names_from_new seen (name ∷ names) h new =
    let more : AreNames (seen ++ name ∷ []) = record { legal = All-push (λ x. is_name x ≡ true) seen name h.legal new.0; distinct = λ i j lt within. distinct_push seen name h new.1 i j lt within } in
    subst AreNames (append_assoc seen (name ∷ []) names) (names_from_new (seen ++ name ∷ []) names more new.2)

pub no_names : AreNames []
no_names = record { legal = λ i d lt. absurd (omega (arith, lt)); distinct = λ i j lt within. absurd (omega (arith, within)) }

pub new_from_names : (seen names : List (List ℕ)) → AreNames (seen ++ names) → AreNew seen names
new_from_names seen [] h = tt
new_from_names seen (name ∷ names) h =
    let size : length (seen ++ name ∷ names) ≡ length seen + length (name ∷ names) = length-append seen (name ∷ names) in
    let here : get_or (seen ++ name ∷ names) (length seen) [] ≡ name = get_or-append_seam seen name names [] in (
      subst (λ (x : List ℕ). is_name x ≡ true) here (h.legal (length seen) [] (omega (arith, size))),
      among_from_apart seen name (λ i lt e. h.distinct i (length seen) lt (omega (arith, size)) (get_or-append seen (name ∷ names) [] i lt ∙ e ∙ sym here)),
      new_from_names (seen ++ name ∷ []) names (subst AreNames (sym (append_assoc seen (name ∷ []) names)) h),
    )
