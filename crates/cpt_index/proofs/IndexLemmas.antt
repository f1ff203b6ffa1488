-- lists that are made by looking at one after the other
use Rattle.std.proofs.Common.{◌≡◌, ◌⊎◌, length-append, inl, inr, ℕ, zero, suc, ◌+◌, ◌-◌, ◌<◌, ◌≤◌, List, [], ◌∷◌, ◌++◌, length, map, take, if◌then◌else◌, Bool, true, false, MatchBool, All, Contains, slice_index_or, get_or, slice_get, unwrap_or, refl, sym, ◌∙◌, ap, subst, arith}
use Rattle.std.proofs.lemmas.Bool.{cases_lt}
use Rattle.std.proofs.lemmas.List.Elements.{All-contains, All-append, All-cons, All-nil, Contains-append_left, Contains-append_right}
use Rattle.std.proofs.lemmas.Option.{unwrap_or-slice_get, slice_get_past}
use Rattle.std.proofs.Math.ListN.{get_or-append}
use Rattle.std.proofs.lemmas.List.{get_or_append_left, get_or_past, length-map, length-take, length-take-le, map-append, nil_from_length, take-take, take_all, take_more}
use Rattle.std.proofs.Math.Seq.{get_or-append_seam}
use Rattle.std.specs.Prelude.{Vec, vec_capacity, vec_len}
use Rattle.std.specs.List.Sorted.{IsStrictlyIncreasing}
use Rattle.cpt_task.specs.Shape.{TaskShape, InBounds, HasAtomsBelow}
use Rattle.cpt_task.specs.declared.task.Action.{Action}
use Rattle.cpt_task.specs.Timeline.{idle, is_in}
use Rattle.cpt_tables.specs.Admissible.{nth_action}
use Rattle.cpt_sheet.specs.declared.data.Cand.{Cand}
use Rattle.cpt_sheet.specs.declared.data.Cand.TheVariants.{Tok, Out}
use Rattle.cpt_sheet.specs.declared.data.Kind.{Kind}
use Rattle.cpt_sheet.specs.declared.data.Kind.TheVariants.{Start, End, Act}
use Rattle.cpt_sheet.specs.declared.data.Need.{Need}
use Rattle.cpt_sheet.specs.declared.data.Sheet.{Sheet}
use Rattle.cpt_sheet.specs.declared.data.Token.{Token}
use Rattle.cpt_sheet.specs.Formed.{IsFormed}
use Rattle.cpt_sheet.specs.Roles.{adds_of, needs_of, deletes_of, Adds, Deletes, Clash}
use Rattle.cpt_sheet.specs.View.{kind_of, token_at, no_token, has_need, has_atom}
use Rattle.cpt_sheet.proofs.GapLemmas.{needs_within}
use Rattle.cpt_index.specs.declared.index.Index.{Index}
use Rattle.cpt_index.specs.declared.index.Seat.{Seat}
use Rattle.cpt_index.specs.Index.{Among, IsFoesOf, IsIndexOf, IsListsOf, IsOutside, IsSeat, OffersAmong, DeletesAmong, NeedsAmong, ClashesAmong, kinds_in, kinds_of, lists_at, nth_kind, outside}
use Rattle.cpt_index.specs.Rows.{AreRowsOf, HasSpares, IsEditedAt, contents, places, row_at, with_last, without_last}
use Rattle.cpt_index.specs.Lists.{Lists, IsConsumer, IsDeleter, IsOffer, IsRival}
use Rattle.cpt_index.proofs.NeedLemmas.{atoms_from, atoms_back, in_list, listed_in}
use Rattle.cpt_index.proofs.RowLemmas.{count_of, each_place, has_place, rows_more, rows_less, rows_none, without_last_at}

pub among_none : {A : Type 0} (P Q : A → Type 0) → ((x : A) → Q x → ⊥) → Among P Q []
among_none P Q none = record { sound = All-nil P; complete = λ x q p. absurd (none x q) }

-- one more is looked at, and is in the list
pub among_more : {A : Type 0} (P Q R : A → Type 0) (xs : List A) (c : A) → P c → ((x : A) → R x → (x ≡ c) ⊎ Q x) → Among P Q xs → Among P R (xs ++ c ∷ [])
among_more P Q R xs c here next h = record {
  sound = All-append P xs (c ∷ []) h.sound (All-cons P c [] here (All-nil P));
  complete = λ x r p. elim (next x r) [
    | inl e ↦ Contains-append_right xs (c ∷ []) x (0, omega arith, sym e)
    | inr q ↦ Contains-append_left xs (c ∷ []) x (h.complete x q p)
  ];
}

-- one more is looked at, and is not in the list
pub among_same : {A : Type 0} (P Q R : A → Type 0) (xs : List A) (c : A) → (P c → ⊥) → ((x : A) → R x → (x ≡ c) ⊎ Q x) → Among P Q xs → Among P R xs
among_same P Q R xs c none next h = record {
  sound = h.sound;
  complete = λ x r p. elim (next x r) [ inl e ↦ absurd (none (subst P e p)) | inr q ↦ h.complete x q p ];
}

pub next_number : (n : ℕ) (x : ℕ) → x < n + 1 → (x ≡ n) ⊎ (x < n)
next_number n x lt = elim (cases_lt x n) [ inl h ↦ inr h | inr h ↦ inl (omega arith) ]

-- nothing was looked at
pub among_start : {A : Type 0} (P Q : A → Type 0) (xs : List A) → xs ≡ [] → ((x : A) → Q x → ⊥) → Among P Q xs
among_start P Q xs e none = subst (λ ys. Among P Q ys) (sym e) (among_none P Q none)

-- one more is looked at
pub among_put : {A : Type 0} (P Q R : A → Type 0) (xs ys : List A) (c : A) (r : Bool) → ys ≡ (if r then xs ++ c ∷ [] else xs) → MatchBool r (P c) (P c → ⊥) →
    ((x : A) → R x → (x ≡ c) ⊎ Q x) → Among P Q xs → Among P R ys
among_put P Q R xs ys c true e here next h = subst (λ zs. Among P R zs) (sym e) (among_more P Q R xs c here next h)
among_put P Q R xs ys c false e here next h = subst (λ zs. Among P R zs) (sym e) (among_same P Q R xs c here next h)

-- all were looked at
pub among_all : {A : Type 0} (P Q : A → Type 0) (xs ys : List A) → ys ≡ xs → ((x : A) → P x → Q x) → Among P Q xs → Lists P ys
among_all P Q xs ys e all h = subst (λ zs. Lists P zs) (sym e) (record { sound = h.sound; complete = λ x p. h.complete x (all x p) p })

nothing_in : (p : ℕ) → Contains [] p → ⊥
nothing_in p (k, lt, e) = omega (arith, lt)

-- past the last token there is the start
kind_past : (ks : List Kind) (x : ℕ) → length ks ≤ x → nth_kind ks x ≡ Start
kind_past [] x le = refl
kind_past (k ∷ ks) zero le = absurd (omega arith)
kind_past (k ∷ ks) (suc x) le = kind_past ks x (omega arith)

-- what the start does not do only a token that is there does
there : (P : Kind → Type 0) (ks : List Kind) (x : ℕ) → (P Start → ⊥) → P (nth_kind ks x) → x < length ks
there P ks x none h = elim (cases_lt x (length ks)) [ inl lt ↦ lt | inr le ↦ absurd (none (subst P (kind_past ks x le) h)) ]

pub deletes_before : (t : TaskShape) (ks : List Kind) (p x : ℕ) → DeletesAmong t ks p x → x < length ks
deletes_before t ks p x h = there (λ k. Contains (deletes_of t k) p) ks x (λ k. nothing_in p k) h

pub needs_before : (t : TaskShape) (ks : List Kind) (p x : ℕ) → NeedsAmong t ks p x → x < length ks
needs_before t ks p x h = there (λ k. Contains (needs_of t k) p) ks x (λ k. nothing_in p k) h

pub clashes_before : (t : TaskShape) (ks : List Kind) (a x : ℕ) → ClashesAmong t ks a x → x < length ks
clashes_before t ks a x h = there (λ k. Clash t k (Act a)) ks x (λ k. k) h

-- all that is added or deleted is in range
act_within : (f : Action → List ℕ) (t : TaskShape) (a : ℕ) → ((z : Action) → HasAtomsBelow (length t.atoms) z → All (λ p. p < length t.atoms) (f z)) → f idle ≡ [] → InBounds t →
    All (λ p. p < length t.atoms) (f (nth_action t a))
act_within f t a each none h =
    elim (cases_lt a (length t.actions)) [
      | inl l ↦ each (nth_action t a) (h.actions a idle l)
      | inr m ↦ subst (λ xs. All (λ p. p < length t.atoms) xs) (sym (ap f (get_or_past t.actions a idle m) ∙ none)) (All-nil (λ p. p < length t.atoms))
    ]

pub adds_within : (t : TaskShape) (k : Kind) → InBounds t → All (λ p. p < length t.atoms) (adds_of t k)
adds_within t Start h = h.init
adds_within t End h = All-nil (λ p. p < length t.atoms)
adds_within t (Act a) h = act_within (λ z. z.add) t a (λ z w. w.add) refl h

pub deletes_within : (t : TaskShape) (k : Kind) → InBounds t → All (λ p. p < length t.atoms) (deletes_of t k)
deletes_within t Start h = All-nil (λ p. p < length t.atoms)
deletes_within t End h = All-nil (λ p. p < length t.atoms)
deletes_within t (Act a) h = act_within (λ z. z.dele) t a (λ z w. w.dele) refl h

not_past : (n p : ℕ) (xs : List ℕ) → All (λ q. q < n) xs → n ≤ p → Contains xs p → ⊥
not_past n p xs all le h = let lt = All-contains (λ q. q < n) xs p all h in omega arith

lists_none : {A : Type 0} (P : A → Type 0) → ((x : A) → P x → ⊥) → Lists P []
lists_none P none = record { sound = All-nil P; complete = λ x p. absurd (none x p) }

offers_past : (t : TaskShape) (ks : List Kind) (p : ℕ) → InBounds t → length t.atoms ≤ p → (x : Cand) → OffersAmong t ks p x → ⊥
offers_past t ks p h le (Tok y) o = not_past (length t.atoms) p (adds_of t (nth_kind ks y)) (adds_within t (nth_kind ks y) h) le o.1
offers_past t ks p h le (Out a) o = not_past (length t.atoms) p (adds_of t (Act a)) (adds_within t (Act a) h) le o.1

-- the lists of an atom that is not there are empty
pub lists_past : (t : TaskShape) (ks : List Kind) (p : ℕ) → InBounds t → length t.atoms ≤ p → IsListsOf t ks p (record { offers = []; deleters = []; consumers = [] })
lists_past t ks p h le = record {
  offers = lists_none (OffersAmong t ks p) (offers_past t ks p h le);
  deleters = lists_none (DeletesAmong t ks p) (λ x d. not_past (length t.atoms) p (deletes_of t (nth_kind ks x)) (deletes_within t (nth_kind ks x) h) le d);
  consumers = lists_none (NeedsAmong t ks p) (λ x d. not_past (length t.atoms) p (needs_of t (nth_kind ks x)) (needs_within t (nth_kind ks x) h) le d);
}

clash_there : (t : TaskShape) (k : Kind) (a : ℕ) → Clash t k (Act a) → a < length t.actions
clash_there t (Act b) a h = h.second
clash_there t Start a h = absurd h
clash_there t End a h = absurd h

-- nobody interferes with an action that is not there
pub rivals_past : (t : TaskShape) (ks : List Kind) (a : ℕ) → length t.actions ≤ a → Lists (ClashesAmong t ks a) []
rivals_past t ks a le = lists_none (ClashesAmong t ks a) (λ x h. let lt = clash_there t (nth_kind ks x) a h in omega arith)

-- what the seats stand for
no_seat : Seat
no_seat = record { kind = Start; foes = [] }

nth_seat : (zs : List Seat) (y : ℕ) → nth_kind (map (λ (z : Seat). z.kind) zs) y ≡ (get_or zs y no_seat).kind
unfolding no_seat
nth_seat [] y = refl
nth_seat (z ∷ zs) zero = refl
nth_seat (z ∷ zs) (suc y) = nth_seat zs y

module _ (ks : List Kind) (zs : List Seat) (e : map (λ (z : Seat). z.kind) zs ≡ ks) where
  kind_here : (y : ℕ) → (get_or zs y no_seat).kind ≡ nth_kind ks y
  kind_here y = sym (nth_seat zs y) ∙ ap (λ l. nth_kind l y) e

  seats_count : length zs ≡ length ks
  seats_count = sym (length-map zs (λ (z : Seat). z.kind)) ∙ ap length e

  -- the tokens whose seats pass the test are those of which P holds
  tokens_listed : (P : Kind → Type 0) (f : Seat → Bool) → ((y : ℕ) → y < length zs → f (get_or zs y no_seat) ≡ true → P (get_or zs y no_seat).kind) →
      ((y : ℕ) → y < length zs → P (get_or zs y no_seat).kind → f (get_or zs y no_seat) ≡ true) → ((x : ℕ) → P (nth_kind ks x) → x < length ks) →
      Lists (λ x. P (nth_kind ks x)) (map (λ x. x) (places f 0 zs))
  tokens_listed P f there back within = record {
    sound = each_place f (λ x. x) no_seat (λ x. P (nth_kind ks x)) zs (λ y lt h. subst P (kind_here y) (there y lt h));
    complete = λ x h.
        let lt : x < length zs = let k = within x h in let c = seats_count in omega arith in
        has_place f (λ x. x) no_seat zs x lt (back x lt (subst P (sym (kind_here x)) h));
  }

  offers_sound : (t : TaskShape) (p : ℕ) → All (OffersAmong t ks p) (outside t p ++ map Tok (places (λ z. is_in p (adds_of t z.kind)) 0 zs))
  offers_sound t p =
      All-append (OffersAmong t ks p) (outside t p) (map Tok (places (λ z. is_in p (adds_of t z.kind)) 0 zs))
      (each_place (λ (a : Action). is_in p a.add) Out idle (OffersAmong t ks p) t.actions (λ a lt h. (lt, in_list p (nth_action t a).add h)))
      (each_place (λ (z : Seat). is_in p (adds_of t z.kind)) Tok no_seat (OffersAmong t ks p) zs
      (λ y lt h. (let c = seats_count in omega arith, subst (λ k. Adds t k p) (kind_here y) (in_list p (adds_of t (get_or zs y no_seat).kind) h))))

  offers_complete : (t : TaskShape) (p : ℕ) (c : Cand) → OffersAmong t ks p c → Contains (outside t p ++ map Tok (places (λ z. is_in p (adds_of t z.kind)) 0 zs)) c
  offers_complete t p (Out a) h =
      Contains-append_left (outside t p) (map Tok (places (λ z. is_in p (adds_of t z.kind)) 0 zs)) (Out a)
      (has_place (λ (b : Action). is_in p b.add) Out idle t.actions a h.0 (listed_in p (nth_action t a).add h.1))
  offers_complete t p (Tok y) h =
      Contains-append_right (outside t p) (map Tok (places (λ z. is_in p (adds_of t z.kind)) 0 zs)) (Tok y)
      (has_place (λ (z : Seat). is_in p (adds_of t z.kind)) Tok no_seat zs y (let c = seats_count in let l = h.0 in omega arith)
      (listed_in p (adds_of t (get_or zs y no_seat).kind) (subst (λ k. Adds t k p) (sym (kind_here y)) h.1)))

module _ (t : TaskShape) (ks : List Kind) (i : Index) (h : IsIndexOf t ks i) where
  lists_within : (p : ℕ) → p < length t.atoms → IsListsOf t ks p (lists_at i p)
  lists_within p lt = record {
    offers = subst (λ l. Lists (OffersAmong t ks p) l) (sym (h.offers.each p lt)) (record { sound = offers_sound ks i.seats.items h.kinds t p; complete = offers_complete ks i.seats.items h.kinds t p });
    deleters = subst (λ l. Lists (DeletesAmong t ks p) l) (sym (h.deleters.each p lt))
        (tokens_listed ks i.seats.items h.kinds (λ k. Deletes t k p) (λ z. is_in p (deletes_of t z.kind)) (λ y m e. in_list p (deletes_of t (get_or i.seats.items y no_seat).kind) e)
        (λ y m c. listed_in p (deletes_of t (get_or i.seats.items y no_seat).kind) c) (deletes_before t ks p));
    consumers = subst (λ l. Lists (NeedsAmong t ks p) l) (sym (h.consumers.each p lt))
        (tokens_listed ks i.seats.items h.kinds (λ k. Contains (needs_of t k) p) (λ z. is_in p (needs_of t z.kind)) (λ y m e. in_list p (needs_of t (get_or i.seats.items y no_seat).kind) e)
        (λ y m c. listed_in p (needs_of t (get_or i.seats.items y no_seat).kind) c) (needs_before t ks p));
  }

  -- the lists of each atom
  pub lists_are : (p : ℕ) → IsListsOf t ks p (lists_at i p)
  lists_are p =
      elim (cases_lt p (length t.atoms)) [
        | inl lt ↦ lists_within p lt
        | inr le ↦
            let past = lists_past t ks p h.bounds le in
            record {
              offers = subst (λ l. Lists (OffersAmong t ks p) l) (sym (get_or_past (contents i.offers) p [] (let c = h.offers.count in omega arith))) past.offers;
              deleters = subst (λ l. Lists (DeletesAmong t ks p) l) (sym (get_or_past (contents i.deleters) p [] (let c = h.deleters.count in omega arith))) past.deleters;
              consumers = subst (λ l. Lists (NeedsAmong t ks p) l) (sym (get_or_past (contents i.consumers) p [] (let c = h.consumers.count in omega arith))) past.consumers;
            }
      ]

  -- the list of each action
  pub rivals_are : (a : ℕ) → Lists (ClashesAmong t ks a) (row_at (contents i.rivals) a)
  rivals_are a =
      elim (cases_lt a (length t.actions)) [
        | inl lt ↦
            subst (λ l. Lists (ClashesAmong t ks a) l) (sym (h.rivals.each a lt))
            (tokens_listed ks i.seats.items h.kinds (λ k. Clash t k (Act a)) (λ z. is_in a z.foes)
            (λ y m e. All-contains (λ b. Clash t (get_or i.seats.items y no_seat).kind (Act b)) (get_or i.seats.items y no_seat).foes a (h.seats y no_seat m).each.sound (in_list a (get_or i.seats.items y no_seat).foes e))
            (λ y m c. listed_in a (get_or i.seats.items y no_seat).foes ((h.seats y no_seat m).each.complete a c)) (clashes_before t ks a))
        | inr le ↦ subst (λ l. Lists (ClashesAmong t ks a) l) (sym (get_or_past (contents i.rivals) a [] (let c = h.rivals.count in omega arith))) (rivals_past t ks a le)
      ]

-- one more action is looked at
pub foes_more : (t : TaskShape) (k : Kind) (a : ℕ) (r : Bool) (xs ys : List ℕ) → ys ≡ (if r then xs ++ a ∷ [] else xs) → MatchBool r (Clash t k (Act a)) (Clash t k (Act a) → ⊥) →
    Among (λ b. Clash t k (Act b)) (λ b. b < a) xs → Among (λ b. Clash t k (Act b)) (λ b. b < a + 1) ys
foes_more t k a r xs ys e h w = among_put (λ b. Clash t k (Act b)) (λ b. b < a) (λ b. b < a + 1) xs ys a r e h (next_number a) w

pub foes_all : (t : TaskShape) (k : Kind) (n : ℕ) (xs ys : List ℕ) → ys ≡ xs → length t.actions ≤ n → Among (λ b. Clash t k (Act b)) (λ b. b < n) xs → Lists (λ b. Clash t k (Act b)) ys
foes_all t k n xs ys e le h = among_all (λ b. Clash t k (Act b)) (λ b. b < n) xs ys e (λ b c. let l = clash_there t k b c in omega arith) h

pub foes_within : (t : TaskShape) (k : Kind) (foes : List ℕ) → IsFoesOf t k foes → All (λ a. a < length t.actions) foes
foes_within t k foes h b d lt = clash_there t k (get_or foes b d) (h.each.sound b d lt)

-- nothing of the index changed
pub same_index : (t : TaskShape) (ks : List Kind) (i j : Index) → j.seats.items ≡ i.seats.items → contents j.offers ≡ contents i.offers → contents j.deleters ≡ contents i.deleters →
    contents j.consumers ≡ contents i.consumers → contents j.rivals ≡ contents i.rivals → IsIndexOf t ks i → IsIndexOf t ks j
same_index t ks i j s o d c r h = record {
  bounds = h.bounds;
  kinds = ap (λ (zs : List Seat). map (λ (z : Seat). z.kind) zs) s ∙ h.kinds;
  seats = subst (λ zs. All (IsSeat t) zs) (sym s) h.seats;
  offers = subst (λ zs. AreRowsOf (length t.atoms) (outside t) Tok (λ z. adds_of t z.kind) zs (contents j.offers)) (sym s) (subst (λ rows. AreRowsOf (length t.atoms) (outside t) Tok (λ z. adds_of t z.kind) i.seats.items rows) (sym o) h.offers);
  deleters = subst (λ zs. AreRowsOf (length t.atoms) (λ p. []) (λ x. x) (λ z. deletes_of t z.kind) zs (contents j.deleters)) (sym s) (subst (λ rows. AreRowsOf (length t.atoms) (λ p. []) (λ x. x) (λ z. deletes_of t z.kind) i.seats.items rows) (sym d) h.deleters);
  consumers = subst (λ zs. AreRowsOf (length t.atoms) (λ p. []) (λ x. x) (λ z. needs_of t z.kind) zs (contents j.consumers)) (sym s) (subst (λ rows. AreRowsOf (length t.atoms) (λ p. []) (λ x. x) (λ z. needs_of t z.kind) i.seats.items rows) (sym c) h.consumers);
  rivals = subst (λ zs. AreRowsOf (length t.actions) (λ p. []) (λ x. x) (λ z. z.foes) zs (contents j.rivals)) (sym s) (subst (λ rows. AreRowsOf (length t.actions) (λ p. []) (λ x. x) (λ z. z.foes) i.seats.items rows) (sym r) h.rivals);
}

-- rows of a token more
pub edited_as : {X : Type 0} (y z : X) (at for : List ℕ) (old new : List (List X)) → y ≡ z → at ≡ for → IsEditedAt (with_last y) at old new → IsEditedAt (with_last z) for old new
edited_as y z at for old new e f h = subst (λ w. IsEditedAt (with_last w) for old new) e (subst (λ w. IsEditedAt (with_last y) w old new) f h)

-- a token more
pub index_more : (t : TaskShape) (ks : List Kind) (i j : Index) (z : Seat) → IsIndexOf t ks i → IsSeat t z → j.seats.items ≡ i.seats.items ++ z ∷ [] →
    IsEditedAt (with_last (Tok (length i.seats.items))) (adds_of t z.kind) (contents i.offers) (contents j.offers) →
    IsEditedAt (with_last (length i.seats.items)) (deletes_of t z.kind) (contents i.deleters) (contents j.deleters) →
    IsEditedAt (with_last (length i.seats.items)) (needs_of t z.kind) (contents i.consumers) (contents j.consumers) →
    IsEditedAt (with_last (length i.seats.items)) z.foes (contents i.rivals) (contents j.rivals) → IsIndexOf t (ks ++ z.kind ∷ []) j
index_more t ks i j z h w s o d c r = record {
  bounds = h.bounds;
  kinds = ap (λ (zs : List Seat). map (λ (y : Seat). y.kind) zs) s ∙ (map-append (λ (y : Seat). y.kind) i.seats.items (z ∷ []) ∙ ap (λ l. l ++ z.kind ∷ []) h.kinds);
  seats = subst (λ zs. All (IsSeat t) zs) (sym s) (All-append (IsSeat t) i.seats.items (z ∷ []) h.seats (All-cons (IsSeat t) z [] w (All-nil (IsSeat t))));
  offers = subst (λ zs. AreRowsOf (length t.atoms) (outside t) Tok (λ y. adds_of t y.kind) zs (contents j.offers)) (sym s)
      (rows_more (length t.atoms) (outside t) Tok (λ (y : Seat). adds_of t y.kind) i.seats.items z (contents i.offers) (contents j.offers) h.offers o);
  deleters = subst (λ zs. AreRowsOf (length t.atoms) (λ p. []) (λ x. x) (λ y. deletes_of t y.kind) zs (contents j.deleters)) (sym s)
      (rows_more (length t.atoms) (λ p. []) (λ x. x) (λ (y : Seat). deletes_of t y.kind) i.seats.items z (contents i.deleters) (contents j.deleters) h.deleters d);
  consumers = subst (λ zs. AreRowsOf (length t.atoms) (λ p. []) (λ x. x) (λ y. needs_of t y.kind) zs (contents j.consumers)) (sym s)
      (rows_more (length t.atoms) (λ p. []) (λ x. x) (λ (y : Seat). needs_of t y.kind) i.seats.items z (contents i.consumers) (contents j.consumers) h.consumers c);
  rivals = subst (λ zs. AreRowsOf (length t.actions) (λ p. []) (λ x. x) (λ y. y.foes) zs (contents j.rivals)) (sym s)
      (rows_more (length t.actions) (λ p. []) (λ x. x) (λ (y : Seat). y.foes) i.seats.items z (contents i.rivals) (contents j.rivals) h.rivals r);
}

-- a token less
pub index_less : (t : TaskShape) (ks : List Kind) (i j : Index) (z : Seat) → IsIndexOf t ks i → i.seats.items ≡ j.seats.items ++ z ∷ [] →
    IsEditedAt without_last (adds_of t z.kind) (contents i.offers) (contents j.offers) → IsEditedAt without_last (deletes_of t z.kind) (contents i.deleters) (contents j.deleters) →
    IsEditedAt without_last (needs_of t z.kind) (contents i.consumers) (contents j.consumers) → IsEditedAt without_last z.foes (contents i.rivals) (contents j.rivals) →
    IsIndexOf t (without_last ks) j
index_less t ks i j z h s o d c r =
    let e : ks ≡ kinds_in j ++ z.kind ∷ [] = sym h.kinds ∙ (ap (λ (zs : List Seat). map (λ (y : Seat). y.kind) zs) s ∙ map-append (λ (y : Seat). y.kind) j.seats.items (z ∷ [])) in
    record {
      bounds = h.bounds;
      kinds = sym (ap (λ l. without_last l) e ∙ without_last_at (kinds_in j) z.kind);
      seats = λ k q lt. subst (IsSeat t) (ap (λ (zs : List Seat). get_or zs k q) s ∙ get_or_append_left j.seats.items (z ∷ []) q k lt) (h.seats k q (let l = length-append j.seats.items (z ∷ []) in let m = ap length s in omega arith));
      offers = rows_less (length t.atoms) (outside t) Tok (λ (y : Seat). adds_of t y.kind) j.seats.items z (contents i.offers) (contents j.offers)
          (subst (λ zs. AreRowsOf (length t.atoms) (outside t) Tok (λ y. adds_of t y.kind) zs (contents i.offers)) s h.offers) o;
      deleters = rows_less (length t.atoms) (λ p. []) (λ x. x) (λ (y : Seat). deletes_of t y.kind) j.seats.items z (contents i.deleters) (contents j.deleters)
          (subst (λ zs. AreRowsOf (length t.atoms) (λ p. []) (λ x. x) (λ y. deletes_of t y.kind) zs (contents i.deleters)) s h.deleters) d;
      consumers = rows_less (length t.atoms) (λ p. []) (λ x. x) (λ (y : Seat). needs_of t y.kind) j.seats.items z (contents i.consumers) (contents j.consumers)
          (subst (λ zs. AreRowsOf (length t.atoms) (λ p. []) (λ x. x) (λ y. needs_of t y.kind) zs (contents i.consumers)) s h.consumers) c;
      rivals = rows_less (length t.actions) (λ p. []) (λ x. x) (λ (y : Seat). y.foes) j.seats.items z (contents i.rivals) (contents j.rivals)
          (subst (λ zs. AreRowsOf (length t.actions) (λ p. []) (λ x. x) (λ y. y.foes) zs (contents i.rivals)) s h.rivals) r;
    }

-- no token was there
index_none : (t : TaskShape) (ks : List Kind) (i : Index) → length i.seats.items ≡ 0 → IsIndexOf t ks i → ks ≡ []
index_none t ks i e h = nil_from_length ks (sym (ap length h.kinds) ∙ (length-map i.seats.items (λ (z : Seat). z.kind) ∙ e))

-- an index that is known by its kinds
pub index_as : (t : TaskShape) (ks ls : List Kind) (i : Index) → ks ≡ ls → IsIndexOf t ks i → IsIndexOf t ls i
index_as t ks ls i e h = subst (λ zs. IsIndexOf t zs i) e h

pub index_itself : (t : TaskShape) (ks : List Kind) (i : Index) → IsIndexOf t ks i → IsIndexOf t (kinds_in i) i
index_itself t ks i h = index_as t ks (kinds_in i) i (sym h.kinds) h

pub index_empty : (t : TaskShape) (ks : List Kind) (i j : Index) → length i.seats.items ≡ 0 → length j.seats.items ≡ 0 → contents j.offers ≡ contents i.offers → contents j.deleters ≡ contents i.deleters →
    contents j.consumers ≡ contents i.consumers → contents j.rivals ≡ contents i.rivals → IsIndexOf t ks i → IsIndexOf t (without_last ks) j
index_empty t ks i j e f o d c r h =
    let n : ks ≡ [] = index_none t ks i e h in
    index_as t ks (without_last ks) j (n ∙ sym (ap (λ l. without_last l) n))
    (same_index t ks i j (nil_from_length j.seats.items f ∙ sym (nil_from_length i.seats.items e)) o d c r h)

pub seat_last : (t : TaskShape) (xs ys : List Seat) (z : Seat) → xs ≡ ys ++ z ∷ [] → All (IsSeat t) xs → IsSeat t z
seat_last t xs ys z e all =
    let w : All (IsSeat t) (ys ++ z ∷ []) = subst (λ (zs : List Seat). All (IsSeat t) zs) e all in
    let l = length-append ys (z ∷ []) in
    subst (IsSeat t) (get_or-append_seam ys z [] z) (w (length ys) z (omega arith))

pub edited_for : {X : Type 0} (edit : List X → List X) (at for : List ℕ) (old new : List (List X)) → at ≡ for → IsEditedAt edit at old new → IsEditedAt edit for old new
edited_for edit at for old new e h = subst (λ w. IsEditedAt edit w old new) e h

pub increasing_as : (at for : List ℕ) → at ≡ for → IsStrictlyIncreasing for → IsStrictlyIncreasing at
increasing_as at for e h = subst IsStrictlyIncreasing (sym e) h

pub rows_within : {X Z : Type 0} (rows : List (Vec X Z)) (n : ℕ) (at for : List ℕ) → length (contents rows) ≡ n → at ≡ for → All (λ p. p < n) for → All (λ p. p < length rows) at
rows_within rows n at for c e all = subst (λ ps. All (λ p. p < length rows) ps) (sym e) (λ k d lt. let h = all k d lt in let m = count_of rows in omega arith)

pub spares_as : {X Z : Type 0} (rows : List (Vec X Z)) (at for : List ℕ) → at ≡ for → HasSpares rows for → HasSpares rows at
spares_as rows at for e h = subst (λ ps. HasSpares rows ps) (sym e) h

pub spares_from : {X Z : Type 0} (rows : List (Vec X Z)) (at for : List ℕ) → at ≡ for → HasSpares rows at → HasSpares rows for
spares_from rows at for e h = subst (λ ps. HasSpares rows ps) e h

pub rows_same : {X Z : Type 0} (rows : List (Vec X Z)) (n : ℕ) (at for : List ℕ) → length rows ≡ n → at ≡ for → All (λ p. p < n) for → All (λ p. p < length rows) at
rows_same rows n at for c e all = subst (λ ps. All (λ p. p < length rows) ps) (sym e) (λ k d lt. let h = all k d lt in omega arith)

pub count_same : {X Z : Type 0} (rows : List (Vec X Z)) (n : ℕ) → length (contents rows) ≡ n → length rows ≡ n
count_same rows n e = sym (count_of rows) ∙ e

pub seats_room : {X Z : Type 0} (v w : Vec X Z) → w ≡ v → vec_len v < vec_capacity v → vec_len w < vec_capacity w
seats_room {X = X} {Z = Z} v w e h = subst (λ (u : Vec X Z). vec_len u < vec_capacity u) (sym e) h

pub kinds_more : (ks ls : List Kind) (x : ℕ) (k : Kind) → x < length ks → ls ≡ take x ks → k ≡ nth_kind ks x → ls ++ k ∷ [] ≡ take (x + 1) ks
kinds_more ks ls x k lt e f = ap (λ zs. zs ++ k ∷ []) e ∙ (ap (λ (j : Kind). take x ks ++ j ∷ []) f ∙ sym (take_more ks x Start lt))

pub shorter : (ks : List Kind) (m k : ℕ) → m ≤ length ks → k ≡ m - 1 → without_last (take m ks) ≡ take k ks
shorter ks m k le e =
    take-take (length (take m ks) - 1) m ks (let l = length-take m ks in omega arith)
    ∙ ap (λ n. take n ks) (let l = length-take-le m ks le in let w : length (take m ks) - 1 ≡ k = omega arith in w)

pub taken : (ks : List Kind) (c p : ℕ) → p ≡ length ks - c → take (length ks - p) ks ≡ take c ks
taken ks c p e =
    elim (cases_lt (length ks) c) [
      | inl lt ↦ take_all (length ks - p) ks (omega arith) ∙ sym (take_all c ks (omega arith))
      | inr le ↦ ap (λ n. take n ks) (let w : length ks - p ≡ c = omega arith in w)
    ]

pub count_in : (i : Index) → vec_len i.seats ≡ length (kinds_in i)
count_in i = i.seats.ok.0 ∙ sym (length-map i.seats.items (λ (z : Seat). z.kind))

-- one more outside action is looked at
pub outside_more : (t : TaskShape) (a : ℕ) (at : List ℕ) (old mid now : List (List Cand)) → a < length t.actions → at ≡ adds_of t (Act a) → IsOutside t (take a t.actions) old → mid ≡ old →
    IsEditedAt (with_last (Out a)) at mid now → IsOutside t (take (a + 1) t.actions) now
outside_more t a at old mid now lt e h m w =
    let n : Out a ≡ Out (length (take a t.actions)) = ap Out (sym (length-take-le a t.actions (omega arith))) in
    let k : IsEditedAt (with_last (Out (length (take a t.actions)))) (get_or t.actions a idle).add old now =
    edited_as (Out a) (Out (length (take a t.actions))) at (get_or t.actions a idle).add old now n e (subst (λ rows. IsEditedAt (with_last (Out a)) at rows now) m w) in
    subst (λ (l : List Action). IsOutside t l now) (sym (take_more t.actions a idle lt))
    (rows_more (length t.atoms) (λ p. []) Out (λ (z : Action). z.add) (take a t.actions) (get_or t.actions a idle) old now h k)

pub outside_none : (t : TaskShape) (rows : List (List Cand)) → length rows ≡ length t.atoms → ((p : ℕ) → row_at rows p ≡ []) → IsOutside t [] rows
outside_none t rows e h = rows_none (length t.atoms) (λ p. []) Out (λ (z : Action). z.add) rows e (λ p m. h p)

pub outside_all : (t : TaskShape) (a : ℕ) (rows : List (List Cand)) → length t.actions ≤ a → IsOutside t (take a t.actions) rows → IsOutside t t.actions rows
outside_all t a rows le h = subst (λ (l : List Action). IsOutside t l rows) (take_all a t.actions le) h

-- with no token
pub index_bare : (t : TaskShape) (i : Index) → InBounds t → i.seats.items ≡ [] → IsOutside t t.actions (contents i.offers) → length (contents i.deleters) ≡ length t.atoms → ((p : ℕ) → row_at (contents i.deleters) p ≡ []) →
    length (contents i.consumers) ≡ length t.atoms → ((p : ℕ) → row_at (contents i.consumers) p ≡ []) → length (contents i.rivals) ≡ length t.actions → ((p : ℕ) → row_at (contents i.rivals) p ≡ []) → IsIndexOf t [] i
index_bare t i b e o d dn c cn r rn = record {
  bounds = b;
  kinds = ap (λ (zs : List Seat). map (λ (z : Seat). z.kind) zs) e;
  seats = subst (λ zs. All (IsSeat t) zs) (sym e) (All-nil (IsSeat t));
  offers = subst (λ zs. AreRowsOf (length t.atoms) (outside t) Tok (λ z. adds_of t z.kind) zs (contents i.offers)) (sym e)
      (rows_none (length t.atoms) (outside t) Tok (λ (z : Seat). adds_of t z.kind) (contents i.offers) o.count (λ p m. o.each p m));
  deleters = subst (λ zs. AreRowsOf (length t.atoms) (λ p. []) (λ x. x) (λ z. deletes_of t z.kind) zs (contents i.deleters)) (sym e)
      (rows_none (length t.atoms) (λ p. []) (λ x. x) (λ (z : Seat). deletes_of t z.kind) (contents i.deleters) d (λ p m. dn p));
  consumers = subst (λ zs. AreRowsOf (length t.atoms) (λ p. []) (λ x. x) (λ z. needs_of t z.kind) zs (contents i.consumers)) (sym e)
      (rows_none (length t.atoms) (λ p. []) (λ x. x) (λ (z : Seat). needs_of t z.kind) (contents i.consumers) c (λ p m. cn p));
  rivals = subst (λ zs. AreRowsOf (length t.actions) (λ p. []) (λ x. x) (λ z. z.foes) zs (contents i.rivals)) (sym e)
      (rows_none (length t.actions) (λ p. []) (λ x. x) (λ (z : Seat). z.foes) (contents i.rivals) r (λ p m. rn p));
}

-- one list more
pub nth_more : {A : Type 0} (P : ℕ → A → Type 0) (xs : List A) (x d : A) (n : ℕ) → length xs ≡ n → ((q : ℕ) → q < n → P q (unwrap_or (slice_get xs q) d)) → P n x →
    (q : ℕ) → q < n + 1 → P q (unwrap_or (slice_get (xs ++ x ∷ []) q) d)
nth_more P xs x d n e h here q lt =
    elim (next_number n q lt) [
      | inl k ↦ subst (λ m. P m (unwrap_or (slice_get (xs ++ x ∷ []) m) d)) (sym (k ∙ sym e))
          (subst (P (length xs)) (sym (unwrap_or-slice_get (xs ++ x ∷ []) (length xs) d ∙ get_or-append_seam xs x [] d)) (subst (λ m. P m x) (sym e) here))
      | inr k ↦ subst (P q) (unwrap_or-slice_get xs q d ∙ (sym (get_or-append xs (x ∷ []) d q (omega arith)) ∙ sym (unwrap_or-slice_get (xs ++ x ∷ []) q d))) (h q k)
    ]

pub nth_put : {A : Type 0} (P : ℕ → A → Type 0) (xs ys : List A) (x d : A) (n : ℕ) → ys ≡ xs ++ x ∷ [] → length xs ≡ n → ((q : ℕ) → q < n → P q (unwrap_or (slice_get xs q) d)) → P n x →
    (q : ℕ) → q < n + 1 → P q (unwrap_or (slice_get ys q) d)
nth_put P xs ys x d n e l h here q lt = subst (λ zs. P q (unwrap_or (slice_get zs q) d)) (sym e) (nth_more P xs x d n l h here q lt)

pub count_put : {A : Type 0} (xs ys : List A) (x : A) (n : ℕ) → ys ≡ xs ++ x ∷ [] → length xs ≡ n → length ys ≡ n + 1
count_put xs ys x n e l = let k = ap length e in let m = length-append xs (x ∷ []) in omega arith

-- all lists, and the default past the last one
pub nth_all : {A : Type 0} (P : ℕ → A → Type 0) (xs : List A) (d : A) (n : ℕ) → length xs ≡ n → ((q : ℕ) → q < n → P q (unwrap_or (slice_get xs q) d)) → ((q : ℕ) → n ≤ q → P q d) →
    (q : ℕ) → P q (unwrap_or (slice_get xs q) d)
nth_all P xs d n e h past q =
    elim (cases_lt q n) [
      | inl lt ↦ h q lt
      | inr le ↦ subst (P q) (sym (ap (λ o. unwrap_or o d) (slice_get_past xs q (omega arith)))) (past q le)
    ]

-- what a list of kinds says of the tokens of a sheet
nth_of : (zs : List Token) (x : ℕ) → nth_kind (map (λ (z : Token). z.kind) zs) x ≡ (slice_index_or zs x no_token).kind
nth_of [] x = refl
nth_of (z ∷ zs) zero = refl
nth_of (z ∷ zs) (suc x) = nth_of zs x

pub kind_is : (s : Sheet) (x : ℕ) → nth_kind (kinds_of s) x ≡ kind_of s (Tok x)
kind_is s x = nth_of s.tokens x ∙ ap (λ (z : Token). z.kind) (sym (unwrap_or-slice_get s.tokens x no_token))

lists_as : {A : Type 0} (P Q : A → Type 0) (xs : List A) → ((x : A) → P x → Q x) → ((x : A) → Q x → P x) → Lists P xs → Lists Q xs
lists_as P Q xs f g h = record { sound = λ k d lt. f (slice_index_or xs k d) (h.sound k d lt); complete = λ x q. h.complete x (g x q) }

length_kinds : (s : Sheet) → length (kinds_of s) ≡ length s.tokens
length_kinds s = go s.tokens
  where
    go : (zs : List Token) → length (map (λ (z : Token). z.kind) zs) ≡ length zs
    go [] = refl
    go (z ∷ zs) = ap suc (go zs)

offer_of : (t : TaskShape) (s : Sheet) (p : ℕ) (c : Cand) → OffersAmong t (kinds_of s) p c → IsOffer t s p c
offer_of t s p (Tok y) h = (let e = length_kinds s in let k = h.0 in omega arith, subst (λ k. Adds t k p) (kind_is s y) h.1)
offer_of t s p (Out a) h = h

offer_from : (t : TaskShape) (s : Sheet) (p : ℕ) (c : Cand) → IsOffer t s p c → OffersAmong t (kinds_of s) p c
offer_from t s p (Tok y) h = (let e = length_kinds s in let k = h.0 in omega arith, subst (λ k. Adds t k p) (sym (kind_is s y)) h.1)
offer_from t s p (Out a) h = h

pub offers_seen : (t : TaskShape) (s : Sheet) (i : Index) (p : ℕ) → IsIndexOf t (kinds_of s) i → Lists (IsOffer t s p) (lists_at i p).offers
offers_seen t s i p h = lists_as (OffersAmong t (kinds_of s) p) (IsOffer t s p) (lists_at i p).offers (offer_of t s p) (offer_from t s p) (lists_are t (kinds_of s) i h p).offers

pub deleters_seen : (t : TaskShape) (s : Sheet) (i : Index) (p : ℕ) → IsIndexOf t (kinds_of s) i → Lists (IsDeleter t s p) (lists_at i p).deleters
deleters_seen t s i p h =
    lists_as (DeletesAmong t (kinds_of s) p) (IsDeleter t s p) (lists_at i p).deleters
    (λ d k. listed_in p (deletes_of t (kind_of s (Tok d))) (subst (λ z. Deletes t z p) (kind_is s d) k))
    (λ d k. subst (λ z. Deletes t z p) (sym (kind_is s d)) (in_list p (deletes_of t (kind_of s (Tok d))) k))
    (lists_are t (kinds_of s) i h p).deleters

need_from : (t : TaskShape) (s : Sheet) (p x : ℕ) → IsFormed t s → NeedsAmong t (kinds_of s) p x → has_need s x p ≡ true
need_from t s p x f h =
    let lt : x < length s.tokens = let e = length_kinds s in let k = needs_before t (kinds_of s) p x h in omega arith in
    let w : Contains (map (λ (n : Need). n.atom) (token_at s x).lists) p = subst (λ xs. Contains xs p) (sym (f.needs x lt)) (subst (λ z. Contains (needs_of t z) p) (kind_is s x) h) in
    atoms_back p (token_at s x).lists w.0 w.1 w.2

need_to : (t : TaskShape) (s : Sheet) (p x : ℕ) → IsFormed t s → has_need s x p ≡ true → NeedsAmong t (kinds_of s) p x
need_to t s p x f h =
    elim (cases_lt x (length s.tokens)) [
      | inl lt ↦ subst (λ z. Contains (needs_of t z) p) (sym (kind_is s x)) (subst (λ xs. Contains xs p) (f.needs x lt) (atoms_from p (token_at s x).lists h))
      | inr le ↦ absurd (let e : has_atom p (no_token).lists ≡ true = subst (λ (o : Token). has_atom p o.lists ≡ true) (ap (λ o. unwrap_or o no_token) (slice_get_past s.tokens x le)) h in cc)
    ]

pub consumers_seen : (t : TaskShape) (s : Sheet) (i : Index) (p : ℕ) → IsFormed t s → IsIndexOf t (kinds_of s) i → Lists (IsConsumer s p) (lists_at i p).consumers
consumers_seen t s i p f h =
    lists_as (NeedsAmong t (kinds_of s) p) (IsConsumer s p) (lists_at i p).consumers (λ x k. need_from t s p x f k) (λ x k. need_to t s p x f k) (lists_are t (kinds_of s) i h p).consumers

pub rivals_seen : (t : TaskShape) (s : Sheet) (i : Index) (a : ℕ) → IsIndexOf t (kinds_of s) i → Lists (IsRival t s a) (row_at (contents i.rivals) a)
rivals_seen t s i a h =
    lists_as (ClashesAmong t (kinds_of s) a) (IsRival t s a) (row_at (contents i.rivals) a) (λ z k. subst (λ w. Clash t w (Act a)) (kind_is s z) k)
    (λ z k. subst (λ w. Clash t w (Act a)) (sym (kind_is s z)) k) (rivals_are t (kinds_of s) i h a)
