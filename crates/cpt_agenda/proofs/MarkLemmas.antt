-- the marks of an agenda
use Rattle.std.proofs.Common.{◌≡◌, ◌≢◌, ℕ, zero, suc, ◌+◌, ◌<◌, List, [], ◌∷◌, ◌++◌, Bool, true, false, ◌||◌, ◌==◌, length, get_or, set, refl, sym, ◌∙◌, ap, subst, arith, inl, inr, get_or-set_same, get_or-set_other, length-append}
use Rattle.std.proofs.lemmas.Bool.{cases_lt, cases_eq, or_left, or_right, both_ways, eq-eqb, eqb-true, false_from_ne_true}
use Rattle.std.proofs.lemmas.List.Folds.{list_any-append}
use Rattle.std.proofs.lemmas.List.Sums.{sum_by-set, sum_by-cons}
use Rattle.std.proofs.Math.ListN.{get_or-eq_default}
use Rattle.cpt_sheet.specs.declared.data.Cand.{Cand}
use Rattle.cpt_sheet.specs.declared.data.Cand.TheVariants.{Tok, Out}
use Rattle.cpt_sheet.specs.View.{has, same}
use Rattle.cpt_calculus.proofs.Parts.{same_is, same_self}
use Rattle.std.specs.VecDeque.{deque_len, deque_capacity}
use Rattle.cpt_agenda.specs.declared.agenda.Agenda.TheInside.{Inside}
use Rattle.cpt_agenda.specs.Agendas.{AgendaShape, HasMark}
use Rattle.cpt_agenda.specs.Cells.{IsSound, shape_of}
use Rattle.cpt_agenda.specs.Marks.{mark_of, clear, free, free_in, IsDistinct}

pub marked_within : (m : List Bool) (k : ℕ) → get_or m k false ≡ true → k < length m
marked_within m k h =
    elim (cases_lt k (length m)) [
      | inl l ↦ l
      | inr g ↦ absurd (let e : get_or m k false ≡ false = get_or-eq_default m false g in cc)
    ]

or_false : (a : Bool) → (a || false) ≡ a
or_false true = refl
or_false false = refl

pub has_put : (d c : Cand) (q : List Cand) → has d (q ++ c ∷ []) ≡ (has d q || same c d)
has_put d c q = list_any-append (λ e. same e d) q (c ∷ []) ∙ ap (λ z. has d q || z) (or_false (same c d))

same_turn : (c d : Cand) → same c d ≡ false → same d c ≡ false
same_turn c d h = false_from_ne_true (same d c) (λ e. let k : d ≡ c = same_is d c e in both_ways (same c d) h (subst (λ z. same c z ≡ true) (sym k) (same_self c)))

-- at another number
eq_other : (x y : ℕ) → x ≢ y → (x == y) ≡ false
eq_other x y ne = false_from_ne_true (x == y) (λ e. ne (eqb-true x y e))

module _ (ts os : List Bool) (q : List Cand) (h : (c : Cand) → mark_of ts os c ≡ has c q) where
  pub put_token : (x : ℕ) → x < length ts → (d : Cand) → mark_of (set ts x true) os d ≡ has d (q ++ Tok x ∷ [])
  put_token x l (Out o) = h (Out o) ∙ (sym (or_false (has (Out o) q)) ∙ sym (has_put (Out o) (Tok x) q))
  put_token x l (Tok y) =
      elim (cases_eq y x) [
        | inl e ↦ (let k : same (Tok x) (Tok y) ≡ true = eq-eqb x y (sym e) in
            subst (λ z. get_or (set ts x true) z false ≡ true) (sym e) (get_or-set_same ts x true false l) ∙ sym (has_put (Tok y) (Tok x) q ∙ or_right (has (Tok y) q) (same (Tok x) (Tok y)) k))
        | inr ne ↦ (let k : same (Tok x) (Tok y) ≡ false = eq_other x y (λ e. ne (sym e)) in
            get_or-set_other ts x y true false ne ∙ (h (Tok y) ∙ sym (has_put (Tok y) (Tok x) q ∙ (ap (λ z. has (Tok y) q || z) k ∙ or_false (has (Tok y) q)))))
      ]

  pub put_out : (x : ℕ) → x < length os → (d : Cand) → mark_of ts (set os x true) d ≡ has d (q ++ Out x ∷ [])
  put_out x l (Tok o) = h (Tok o) ∙ (sym (or_false (has (Tok o) q)) ∙ sym (has_put (Tok o) (Out x) q))
  put_out x l (Out y) =
      elim (cases_eq y x) [
        | inl e ↦ (let k : same (Out x) (Out y) ≡ true = eq-eqb x y (sym e) in
            subst (λ z. get_or (set os x true) z false ≡ true) (sym e) (get_or-set_same os x true false l) ∙ sym (has_put (Out y) (Out x) q ∙ or_right (has (Out y) q) (same (Out x) (Out y)) k))
        | inr ne ↦ (let k : same (Out x) (Out y) ≡ false = eq_other x y (λ e. ne (sym e)) in
            get_or-set_other os x y true false ne ∙ (h (Out y) ∙ sym (has_put (Out y) (Out x) q ∙ (ap (λ z. has (Out y) q || z) k ∙ or_false (has (Out y) q)))))
      ]

module _ (ts os : List Bool) (q : List Cand) where
  pub took_token : (x : ℕ) → ((c : Cand) → mark_of ts os c ≡ has c (Tok x ∷ q)) → has (Tok x) q ≡ false → (d : Cand) → mark_of (set ts x false) os d ≡ has d q
  took_token x h f (Out o) = h (Out o)
  took_token x h f (Tok y) =
      let l : x < length ts = marked_within ts x (h (Tok x) ∙ or_left (same (Tok x) (Tok x)) (has (Tok x) q) (same_self (Tok x))) in
      elim (cases_eq y x) [
        | inl e ↦ subst (λ z. get_or (set ts x false) z false ≡ has (Tok z) q) (sym e) (get_or-set_same ts x false false l ∙ sym f)
        | inr ne ↦ get_or-set_other ts x y false false ne ∙ (h (Tok y) ∙ ap (λ z. z || has (Tok y) q) (eq_other x y (λ e. ne (sym e))))
      ]

  pub took_out : (x : ℕ) → ((c : Cand) → mark_of ts os c ≡ has c (Out x ∷ q)) → has (Out x) q ≡ false → (d : Cand) → mark_of ts (set os x false) d ≡ has d q
  took_out x h f (Tok o) = h (Tok o)
  took_out x h f (Out y) =
      let l : x < length os = marked_within os x (h (Out x) ∙ or_left (same (Out x) (Out x)) (has (Out x) q) (same_self (Out x))) in
      elim (cases_eq y x) [
        | inl e ↦ subst (λ z. get_or (set os x false) z false ≡ has (Out z) q) (sym e) (get_or-set_same os x false false l ∙ sym f)
        | inr ne ↦ get_or-set_other os x y false false ne ∙ (h (Out y) ∙ ap (λ z. z || has (Out y) q) (eq_other x y (λ e. ne (sym e))))
      ]

or_parts : (a b : Bool) → (a || b) ≡ false → (a ≡ false) × (b ≡ false)
or_parts true b h = absurd (let e : true ≡ false = h in cc)
or_parts false b h = (refl, h)

pub distinct_put : (q : List Cand) (c : Cand) → IsDistinct q → has c q ≡ false → IsDistinct (q ++ c ∷ [])
distinct_put [] c h f = (refl, tt)
distinct_put (d ∷ q) c h f =
    let p = or_parts (same d c) (has c q) f in
    let k : has d (q ++ c ∷ []) ≡ false = has_put d c q ∙ (ap (λ z. z || same c d) h.0 ∙ same_turn d c p.0) in
    (k, distinct_put q c h.1 p.1)

pub free_put : (m : List Bool) (k : ℕ) → k < length m → get_or m k false ≡ false → free_in (set m k true) + 1 ≡ free_in m
free_put m k l h =
    let e = sum_by-set free m k true false l in
    let one : free (get_or m k false) ≡ 1 = ap free h in
    omega arith

pub free_took : (m : List Bool) (k : ℕ) → get_or m k false ≡ true → free_in (set m k false) ≡ free_in m + 1
free_took m k h =
    let l = marked_within m k h in
    let e = sum_by-set free m k false false l in
    let one : free (get_or m k false) ≡ 0 = ap free h in
    omega arith

pub clear_length : (n : ℕ) → length (clear n) ≡ n
clear_length zero = refl
clear_length (suc n) = let e = clear_length n in let k = length-append (clear n) (false ∷ []) in omega arith

sum_put : (m : List Bool) → free_in (m ++ false ∷ []) ≡ free_in m + 1
sum_put [] = refl
sum_put (b ∷ m) = let e = sum_put m in simp sum_by-cons (omega arith)

pub clear_free : (n : ℕ) → free_in (clear n) ≡ n
clear_free zero = refl
clear_free (suc n) = let e = clear_free n in let k = sum_put (clear n) in omega arith

pub clear_marks : (n k : ℕ) → get_or (clear n) k false ≡ false
clear_marks zero k = refl
clear_marks (suc n) k = push (clear n) k (clear_marks n k)
  where
    push : (m : List Bool) (k : ℕ) → get_or m k false ≡ false → get_or (m ++ false ∷ []) k false ≡ false
    push [] zero h = refl
    push [] (suc k) h = refl
    push (b ∷ m) zero h = h
    push (b ∷ m) (suc k) h = push m k h

pub none_marked : (n m : ℕ) (c : Cand) → mark_of (clear n) (clear m) c ≡ has c []
none_marked n m (Tok x) = clear_marks n x
none_marked n m (Out x) = clear_marks m x

pub none_new : (ts os : List Bool) (q : List Cand) (n m : ℕ) → ts ≡ clear n → os ≡ clear m → q ≡ [] → (d : Cand) → mark_of ts os d ≡ has d q
none_new ts os q n m e f g d = ap (λ z. mark_of z os d) e ∙ (ap (λ z. mark_of (clear n) z d) f ∙ (none_marked n m d ∙ sym (ap (λ z. has d z) g)))

pub sound_new : (a : Inside) (n m : ℕ) → a.tokens.items ≡ clear n → a.acts.items ≡ clear m → a.queue.items ≡ [] → deque_len a.queue ≡ 0 → deque_capacity a.queue ≡ n + m → IsSound a
sound_new a n m e f g h k = record {
  marks = none_new a.tokens.items a.acts.items a.queue.items n m e f g;
  distinct = subst (λ q. IsDistinct q) (sym g) tt;
  room = (let i = ap free_in e ∙ clear_free n in let j = ap free_in f ∙ clear_free m in omega arith);
}

module _ (a b : Inside) (x : ℕ) where
  pub sound_put_token : IsSound a → has (Tok x) a.queue.items ≡ false → x < length a.tokens.items → b.queue.items ≡ a.queue.items ++ Tok x ∷ [] → deque_len b.queue ≡ deque_len a.queue + 1 →
      deque_capacity b.queue ≡ deque_capacity a.queue → b.tokens.items ≡ set a.tokens.items x true → b.acts.items ≡ a.acts.items → IsSound b
  sound_put_token s f l q n cap ts os = record {
    marks = λ d. ap (λ z. mark_of z b.acts.items d) ts ∙ (ap (λ z. mark_of (set a.tokens.items x true) z d) os ∙ (put_token a.tokens.items a.acts.items a.queue.items s.marks x l d ∙ sym (ap (λ z. has d z) q)));
    distinct = subst (λ z. IsDistinct z) (sym q) (distinct_put a.queue.items (Tok x) s.distinct f);
    room = (let i = ap free_in ts in let j = ap free_in os in let k = free_put a.tokens.items x l (s.marks (Tok x) ∙ f) in let r = s.room in omega arith);
  }

  pub sound_put_out : IsSound a → has (Out x) a.queue.items ≡ false → x < length a.acts.items → b.queue.items ≡ a.queue.items ++ Out x ∷ [] → deque_len b.queue ≡ deque_len a.queue + 1 →
      deque_capacity b.queue ≡ deque_capacity a.queue → b.tokens.items ≡ a.tokens.items → b.acts.items ≡ set a.acts.items x true → IsSound b
  sound_put_out s f l q n cap ts os = record {
    marks = λ d. ap (λ z. mark_of z b.acts.items d) ts ∙ (ap (λ z. mark_of a.tokens.items z d) os ∙ (put_out a.tokens.items a.acts.items a.queue.items s.marks x l d ∙ sym (ap (λ z. has d z) q)));
    distinct = subst (λ z. IsDistinct z) (sym q) (distinct_put a.queue.items (Out x) s.distinct f);
    room = (let i = ap free_in ts in let j = ap free_in os in let k = free_put a.acts.items x l (s.marks (Out x) ∙ f) in let r = s.room in omega arith);
  }

  pub sound_took_token : IsSound a → a.queue.items ≡ Tok x ∷ b.queue.items → deque_len b.queue + 1 ≡ deque_len a.queue → deque_capacity b.queue ≡ deque_capacity a.queue →
      b.tokens.items ≡ set a.tokens.items x false → b.acts.items ≡ a.acts.items → IsSound b
  sound_took_token s q n cap ts os =
      let old : (d : Cand) → mark_of a.tokens.items a.acts.items d ≡ has d (Tok x ∷ b.queue.items) = λ d. s.marks d ∙ ap (λ z. has d z) q in
      let dis : IsDistinct (Tok x ∷ b.queue.items) = subst (λ z. IsDistinct z) q s.distinct in
      record {
        marks = λ d. ap (λ z. mark_of z b.acts.items d) ts ∙ (ap (λ z. mark_of (set a.tokens.items x false) z d) os ∙ took_token a.tokens.items a.acts.items b.queue.items x old dis.0 d);
        distinct = dis.1;
        room = (let i = ap free_in ts in let j = ap free_in os in
            let k = free_took a.tokens.items x (old (Tok x) ∙ or_left (same (Tok x) (Tok x)) (has (Tok x) b.queue.items) (same_self (Tok x))) in let r = s.room in omega arith);
      }

  pub sound_took_out : IsSound a → a.queue.items ≡ Out x ∷ b.queue.items → deque_len b.queue + 1 ≡ deque_len a.queue → deque_capacity b.queue ≡ deque_capacity a.queue →
      b.tokens.items ≡ a.tokens.items → b.acts.items ≡ set a.acts.items x false → IsSound b
  sound_took_out s q n cap ts os =
      let old : (d : Cand) → mark_of a.tokens.items a.acts.items d ≡ has d (Out x ∷ b.queue.items) = λ d. s.marks d ∙ ap (λ z. has d z) q in
      let dis : IsDistinct (Out x ∷ b.queue.items) = subst (λ z. IsDistinct z) q s.distinct in
      record {
        marks = λ d. ap (λ z. mark_of z b.acts.items d) ts ∙ (ap (λ z. mark_of a.tokens.items z d) os ∙ took_out a.tokens.items a.acts.items b.queue.items x old dis.0 d);
        distinct = dis.1;
        room = (let i = ap free_in ts in let j = ap free_in os in
            let k = free_took a.acts.items x (old (Out x) ∙ or_left (same (Out x) (Out x)) (has (Out x) b.queue.items) (same_self (Out x))) in let r = s.room in omega arith);
      }

-- where there is no mark there is room for one more
pub room_token : (a : Inside) (x : ℕ) → IsSound a → has (Tok x) a.queue.items ≡ false → x < length a.tokens.items → deque_len a.queue < deque_capacity a.queue
room_token a x s f l = let k = free_put a.tokens.items x l (s.marks (Tok x) ∙ f) in let r = s.room in omega arith

pub room_out : (a : Inside) (x : ℕ) → IsSound a → has (Out x) a.queue.items ≡ false → x < length a.acts.items → deque_len a.queue < deque_capacity a.queue
room_out a x s f l = let k = free_put a.acts.items x l (s.marks (Out x) ∙ f) in let r = s.room in omega arith

pub room_for : (a : Inside) (c : Cand) → IsSound a → has c a.queue.items ≡ false → HasMark (record { waiting = a.queue.items; tokens = length a.tokens.items; acts = length a.acts.items; room = deque_capacity a.queue }) c → deque_len a.queue < deque_capacity a.queue
room_for a (Tok x) s f l = room_token a x s f l
room_for a (Out x) s f l = room_out a x s f l

pub token_in : (a : Inside) (s : AgendaShape) (c : Cand) (x : ℕ) → shape_of a ≡ s → HasMark s c → c ≡ Tok x → x < length a.tokens.items
token_in a s c x e h f = subst (λ d. HasMark (shape_of a) d) f (subst (λ z. HasMark z c) (sym e) h)

pub act_in : (a : Inside) (s : AgendaShape) (c : Cand) (x : ℕ) → shape_of a ≡ s → HasMark s c → c ≡ Out x → x < length a.acts.items
act_in a s c x e h f = subst (λ d. HasMark (shape_of a) d) f (subst (λ z. HasMark z c) (sym e) h)
