use Rattle.std.proofs.Common.{◌≡◌, ℕ, zero, suc, ◌<◌, ◌⊎◌, inl, inr, List, [], ◌∷◌, length, Contains, refl, sym, ap, ◌∙◌, subst, arith}
use Rattle.std.specs.Prelude.{slice_index_or, AllPairs}
use Rattle.std.specs.List.{AllZip}
use Rattle.std.proofs.lemmas.Option.{get_or_from_slice_get, slice_get_read}
use Rattle.cpt_schema.specs.declared.durations.Lasting.{Lasting}
use Rattle.cpt_schema.specs.declared.durations.Lasting.TheVariants.{Fixed, Value}
use Rattle.cpt_domain.specs.declared.domain.Domain.{Domain}
use Rattle.cpt_facts.specs.declared.problem.Fact.{Fact}
use Rattle.cpt_facts.specs.declared.problem.Problem.{Problem}
use Rattle.cpt_facts.specs.declared.problem.Valued.{Valued}
use Rattle.cpt_facts.specs.Fitting.{AreSingle, value_at, no_value}
use Rattle.cpt_instance.specs.declared.instances.Instance.{Instance}
use Rattle.cpt_instance.specs.Instances.{AreInstances, IsListBefore, IsInstanceBefore, HasDuration, objects_for, schema_at}
use Rattle.cpt_ground.specs.Reading.{IsActionOf}
use Rattle.cpt_ground.specs.Signed.{Signed, SignedAction}
use Rattle.cpt_ground.specs.Laws.{OneReading}

cons_cases : {X : Type 0} (y : X) (ys : List X) (x : X) (k : ℕ) → k < length (y ∷ ys) → slice_index_or (y ∷ ys) k x ≡ x → (x ≡ y) ⊎ Contains ys x
cons_cases y ys x zero lt e = inl (sym e)
cons_cases y ys x (suc k) lt e = inr (k, (let w : k < length ys = omega arith in w), e)

-- an element of a list is the first one or in the rest
in_cons : {X : Type 0} (y : X) (ys : List X) (x : X) → Contains (y ∷ ys) x → (x ≡ y) ⊎ Contains ys x
in_cons y ys x h = cons_cases y ys x h.0 h.1 h.2

first_in : {X : Type 0} (x : X) (xs : List X) → Contains (x ∷ xs) x
first_in x xs = (0, (let w : 0 < length (x ∷ xs) = omega arith in w), refl)

rest_in : {X : Type 0} (x : X) (xs : List X) (z : X) → Contains xs z → Contains (x ∷ xs) z
rest_in x xs z h = (suc h.0, (let w : h.0 < length xs = h.1 in let v : suc h.0 < length (x ∷ xs) = omega arith in v), h.2)

none_in : {X : Type 0} {A : Type 0} (x : X) → Contains [] x → A
none_in x h = let lt : h.0 < 0 = h.1 in absurd (omega arith)

before_rest : {X : Type 0} (R : X → X → Type 0) (y : X) (ys : List X) (x : X) → AllPairs R (y ∷ ys) → Contains ys x → R y x
before_rest R y ys x pairs h =
    let w : h.0 < length ys = h.1 in
    subst (R y) h.2 (pairs 0 (suc h.0) x (omega arith) (omega arith))

rest_pairs : {X : Type 0} (R : X → X → Type 0) (y : X) (ys : List X) → AllPairs R (y ∷ ys) → AllPairs R ys
rest_pairs R y ys pairs = λ i j d lt within. pairs (suc i) (suc j) d (omega arith) (omega arith)

-- an order in which nothing is before itself, and of no two each is before the other
pub record IsOrder (X : Type 0) (R : X → X → Type 0) : Type 0 where
  pub irreflexive : (x : X) → R x x → ⊥
  pub asymmetric : (x y : X) → R x y → R y x → ⊥

same_first : {X : Type 0} (R : X → X → Type 0) → IsOrder X R → (x : X) (xs : List X) (y : X) (ys : List X) → AllPairs R (x ∷ xs) → AllPairs R (y ∷ ys)
    → Contains (y ∷ ys) x → Contains (x ∷ xs) y → x ≡ y
same_first R order x xs y ys p q h k =
    elim (in_cons y ys x h) [
      | inl e ↦ e
      | inr later ↦ elim (in_cons x xs y k) [
        | inl e ↦ sym e
        | inr after ↦ absurd (order.asymmetric x y (before_rest R x xs y p after) (before_rest R y ys x q later))
      ]
    ]

in_rest : {X : Type 0} (R : X → X → Type 0) → IsOrder X R → (x : X) (xs : List X) (y : X) (ys : List X) → AllPairs R (x ∷ xs) → x ≡ y
    → ((z : X) → Contains (x ∷ xs) z → Contains (y ∷ ys) z) → (z : X) → Contains xs z → Contains ys z
in_rest R order x xs y ys p e h z w =
    elim (in_cons y ys z (h z (rest_in x xs z w))) [
      | inl same ↦ absurd (order.irreflexive x (subst (R x) (same ∙ sym e) (before_rest R x xs z p w)))
      | inr found ↦ found
    ]

-- two lists in order with the same elements are one
pub same_list : {X : Type 0} (R : X → X → Type 0) → IsOrder X R → (xs ys : List X) → AllPairs R xs → AllPairs R ys
    → ((x : X) → Contains xs x → Contains ys x) → ((x : X) → Contains ys x → Contains xs x) → xs ≡ ys
same_list R order [] [] p q h k = refl
same_list R order [] (y ∷ ys) p q h k = none_in y (k y (first_in y ys))
same_list R order (x ∷ xs) [] p q h k = none_in x (h x (first_in x xs))
same_list R order (x ∷ xs) (y ∷ ys) p q h k =
    let e : x ≡ y = same_first R order x xs y ys p q (h x (first_in x xs)) (k y (first_in y ys)) in
    let rest : xs ≡ ys = same_list R order xs ys (rest_pairs R x xs p) (rest_pairs R y ys q) (in_rest R order x xs y ys p e h) (in_rest R order y ys x xs q (sym e) k) in
    cc

pub list_irreflexive : (xs : List ℕ) → IsListBefore xs xs → ⊥
list_irreflexive [] h = h
list_irreflexive (x ∷ xs) h = elim h [ inl lt ↦ omega arith | inr w ↦ list_irreflexive xs w.1 ]

pub list_asymmetric : (xs ys : List ℕ) → IsListBefore xs ys → IsListBefore ys xs → ⊥
list_asymmetric [] [] h k = h
list_asymmetric [] (y ∷ ys) h k = k
list_asymmetric (x ∷ xs) [] h k = h
list_asymmetric (x ∷ xs) (y ∷ ys) h k =
    elim h [
      | inl lt ↦ elim k [ inl gt ↦ omega arith | inr w ↦ let e : y ≡ x = w.0 in omega arith ]
      | inr v ↦ elim k [ inl gt ↦ let e : x ≡ y = v.0 in omega arith | inr w ↦ list_asymmetric xs ys v.1 w.1 ]
    ]

instance_order : IsOrder Instance IsInstanceBefore
instance_order = record {
  irreflexive = λ i h. elim h [ inl lt ↦ omega arith | inr w ↦ list_irreflexive i.args w.1 ];
  asymmetric = λ i j h k. elim h [
    | inl lt ↦ elim k [ inl gt ↦ omega arith | inr w ↦ let e : j.schema ≡ i.schema = w.0 in omega arith ]
    | inr v ↦ elim k [ inl gt ↦ let e : i.schema ≡ j.schema = v.0 in omega arith | inr w ↦ list_asymmetric i.args j.args v.1 w.1 ]
  ];
}

same_instances : (d : Domain) (p : Problem) (xs ys : List Instance) → AreInstances d p xs → AreInstances d p ys → xs ≡ ys
same_instances d p xs ys a b =
    same_list IsInstanceBefore instance_order xs ys a.ordered b.ordered
    (λ i h. (b.exact i).1 ((a.exact i).0 h)) (λ i h. (a.exact i).1 ((b.exact i).0 h))

-- the value at its place
value_is : (p : Problem) (v : Valued) (h : Contains p.values v) → value_at p h.0 ≡ v
value_is p v h = get_or_from_slice_get p.values h.0 v no_value (slice_get_read p.values (length p.values) h.0 v refl h.1 (sym h.2))

order_cases : (i j : ℕ) → (i < j) ⊎ (i ≡ j) ⊎ (j < i)
order_cases i j = grind arith

one_value : (p : Problem) (v w : Valued) → AreSingle p → v.func ≡ w.func → v.args ≡ w.args → Contains p.values v → Contains p.values w → v.value ≡ w.value
one_value p v w single func args h k =
    let x : value_at p h.0 ≡ v = value_is p v h in
    let y : value_at p k.0 ≡ w = value_is p w k in
    let f : (value_at p h.0).func ≡ (value_at p k.0).func = ap (λ (u : Valued). u.func) x ∙ func ∙ sym (ap (λ (u : Valued). u.func) y) in
    let a : (value_at p h.0).args ≡ (value_at p k.0).args = ap (λ (u : Valued). u.args) x ∙ args ∙ sym (ap (λ (u : Valued). u.args) y) in
    elim (order_cases h.0 k.0) [
      | inl lt ↦ absurd (single h.0 k.0 lt k.1 f a)
      | inr rest ↦ elim rest [
        | inl e ↦ ap (λ (u : Valued). u.value) (sym x ∙ ap (value_at p) e ∙ y)
        | inr gt ↦ absurd (single k.0 h.0 gt h.1 (sym f) (sym a))
      ]
    ]

one_duration : (p : Problem) (args : List ℕ) (dur : Lasting) (m n : ℕ) → AreSingle p → HasDuration p args dur m → HasDuration p args dur n → m ≡ n
one_duration p args (Fixed k) m n single h g = sym h ∙ g
one_duration p args (Value func terms) m n single h g =
    one_value p (record { func = func; args = objects_for args terms; value = m }) (record { func = func; args = objects_for args terms; value = n }) single refl refl h g

six : {A B C D E F G : Type 0} (f : A → B → C → D → E → F → G) (a a' : A) (b b' : B) (c c' : C) (d d' : D) (e e' : E) (g g' : F)
    → a ≡ a' → b ≡ b' → c ≡ c' → d ≡ d' → e ≡ e' → g ≡ g' → f a b c d e g ≡ f a' b' c' d' e' g'
six f a a' b b' c c' d d' e e' g g' p q r s t u = cc

one_action : (d : Domain) (p : Problem) → AreSingle p → (i : Instance) (a b : SignedAction) → IsActionOf d p i a → IsActionOf d p i b → a ≡ b
one_action d p single i a b h k =
    let made : List ℕ → ℕ → List Fact → List Fact → List Fact → List Fact → SignedAction =
    λ n m x y u v. record { name = n; dur = m; present = x; absent = y; add = u; dele = v } in
    six made a.name b.name a.dur b.dur a.present b.present a.absent b.absent a.add b.add a.dele b.dele
    (h.name ∙ sym k.name) (one_duration p i.args (schema_at d i.schema).dur a.dur b.dur single h.dur k.dur)
    (h.present ∙ sym k.present) (h.absent ∙ sym k.absent) (h.add ∙ sym k.add) (h.dele ∙ sym k.dele)

-- where each element of a list determines what stands beside it, the lists beside it are one
pub same_zip : {A B : Type 0} (R : A → B → Type 0) → ((x : A) (y z : B) → R x y → R x z → y ≡ z) → (xs : List A) (ys zs : List B) → AllZip R xs ys → AllZip R xs zs → ys ≡ zs
same_zip R one [] [] [] h k = refl
same_zip R one [] [] (z ∷ zs) h k = absurd k
same_zip R one [] (y ∷ ys) zs h k = absurd h
same_zip R one (x ∷ xs) [] zs h k = absurd h
same_zip R one (x ∷ xs) (y ∷ ys) [] h k = absurd k
same_zip R one (x ∷ xs) (y ∷ ys) (z ∷ zs) h k =
    let e : y ≡ z = one x y z h.0 k.0 in
    let rest : ys ≡ zs = same_zip R one xs ys zs h.1 k.1 in
    cc

pub four : {A B C D G : Type 0} (f : A → B → C → D → G) (a a' : A) (b b' : B) (c c' : C) (d d' : D)
    → a ≡ a' → b ≡ b' → c ≡ c' → d ≡ d' → f a b c d ≡ f a' b' c' d'
four f a a' b b' c c' d d' p q r s = cc

pub one_reading : OneReading
one_reading d p s r fits h k =
    let same : h.instances ≡ k.instances = same_instances d p h.instances k.instances h.exact k.exact in
    let beside : AllZip (IsActionOf d p) k.instances s.actions = subst (λ xs. AllZip (IsActionOf d p) xs s.actions) same h.actions in
    let made : List SignedAction → List Fact → List Fact → List Fact → Signed = λ x y u v. record { actions = x; init = y; goal = u; absent = v } in
    four made s.actions r.actions s.init r.init s.goal r.goal s.absent r.absent
    (same_zip (IsActionOf d p) (one_action d p fits.single) k.instances s.actions r.actions beside k.actions)
    (h.init ∙ sym k.init) (h.goal ∙ sym k.goal) (h.absent ∙ sym k.absent)
