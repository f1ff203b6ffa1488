-- A reading that found something, taken apart.
use Rattle.std.proofs.Common.{◌≡◌, ℕ, Bool, true, false, cond, ◌⊎◌, inl, inr, List, [], ◌∷◌, Option, None, Some, option_map, refl}
use Rattle.std.specs.Option.{option_and_then}
use Rattle.std.specs.Str.{bytes_eq}
use Rattle.std.proofs.lemmas.Slice.Eq.{bytes_eq-Decides}
use Rattle.cpt_cert_read.specs.Reading.{◌>>=◌, nothing_in, only_in, two_in, three_in}

pub eq_bytes : (xs ys : List ℕ) → bytes_eq xs ys ≡ true → xs ≡ ys
eq_bytes xs ys h = (bytes_eq-Decides xs ys).0 h

pub same_bytes : (xs : List ℕ) → bytes_eq xs xs ≡ true
same_bytes xs = (bytes_eq-Decides xs xs).1 refl

abbrev pub there : {A : Type 0} → A → Option A
there x = Some x

pub some_is : {A : Type 0} (x y : A) → there x ≡ there y → x ≡ y
some_is x y e = cc

pub bind_some : {A B : Type 0} (o : Option A) (f : A → Option B) (y : B) → option_and_then f o ≡ Some y → (x : A) × (o ≡ Some x) × (f x ≡ Some y)
bind_some None f y e = absurd cc
bind_some (Some x) f y e = (x, refl, e)

pub map_some : {A B : Type 0} (f : A → B) (o : Option A) (y : B) → option_map f o ≡ Some y → (x : A) × (o ≡ Some x) × (y ≡ f x)
map_some f None y e = absurd cc
map_some f (Some x) y e = (x, refl, cc)

-- the first of two readings where the test holds, and otherwise the second
pub pick : {A : Type 0} (b : Bool) (p q : Option A) (y : A) → cond b p q ≡ Some y → ((b ≡ true) × (p ≡ Some y)) ⊎ ((b ≡ false) × (q ≡ Some y))
pick true p q y e = inl (refl, e)
pick false p q y e = inr (refl, e)

pub unless : {A : Type 0} (b : Bool) (q : Option A) (y : A) → cond b None q ≡ Some y → (b ≡ false) × (q ≡ Some y)
unless true q y e = absurd cc
unless false q y e = (refl, e)

pub nothing_some : {A : Type 0} (x : A) (ws : List (List ℕ)) (y : A) → nothing_in x ws ≡ Some y → (ws ≡ []) × (y ≡ x)
nothing_some x [] y e = (refl, cc)
nothing_some x (w ∷ ws) y e = absurd cc

-- one word that is read
pub alone_some : {X : Type 0} (f : List ℕ → Option X) (ws : List (List ℕ)) (y : X) → (only_in ws >>= λ w. f w) ≡ Some y → (a : List ℕ) × (ws ≡ a ∷ []) × (f a ≡ Some y)
alone_some f [] y e = absurd cc
alone_some f (a ∷ []) y e = (a, refl, e)
alone_some f (a ∷ b ∷ ws) y e = absurd cc

pair_some : {X Y : Type 0} (o : Option X) (q : Option Y) (r : X × Y) → (o >>= λ x. q >>= λ y. Some (x, y)) ≡ Some r → (o ≡ Some r.0) × (q ≡ Some r.1)
pair_some None q r e = absurd cc
pair_some (Some x) None r e = absurd cc
pair_some (Some x) (Some y) r e =
    let p : (x, y) ≡ r = some_is (x, y) r e in
    (cc, cc)

-- two words that are read
pub both_some : {X Y : Type 0} (f : List ℕ → Option X) (g : List ℕ → Option Y) (ws : List (List ℕ)) (r : X × Y) → (two_in ws >>= λ two. f two.0 >>= λ x. g two.1 >>= λ y. Some (x, y)) ≡ Some r → (a : List ℕ) × (b : List ℕ) × (ws ≡ a ∷ b ∷ []) × (f a ≡ Some r.0) × (g b ≡ Some r.1)
both_some f g [] r e = absurd cc
both_some f g (a ∷ []) r e = absurd cc
both_some f g (a ∷ b ∷ []) r e =
    let p = pair_some (f a) (g b) r e in
    (a, b, refl, p.0, p.1)
both_some f g (a ∷ b ∷ c ∷ ws) r e = absurd cc

triple_some : {X Y Z : Type 0} (o : Option X) (q : Option Y) (u : Option Z) (r : X × Y × Z) → (o >>= λ x. q >>= λ y. u >>= λ z. Some (x, y, z)) ≡ Some r → (o ≡ Some r.0) × (q ≡ Some r.1) × (u ≡ Some r.2)
triple_some None q u r e = absurd cc
triple_some (Some x) None u r e = absurd cc
triple_some (Some x) (Some y) None r e = absurd cc
triple_some (Some x) (Some y) (Some z) r e =
    let p : (x, y, z) ≡ r = some_is (x, y, z) r e in
    (cc, cc, cc)

-- three words that are read
pub each_some : {X Y Z : Type 0} (f : List ℕ → Option X) (g : List ℕ → Option Y) (h : List ℕ → Option Z) (ws : List (List ℕ)) (r : X × Y × Z) → (three_in ws >>= λ three. f three.0 >>= λ x. g three.1 >>= λ y. h three.2 >>= λ z. Some (x, y, z)) ≡ Some r → (a : List ℕ) × (b : List ℕ) × (c : List ℕ) × (ws ≡ a ∷ b ∷ c ∷ []) × (f a ≡ Some r.0) × (g b ≡ Some r.1) × (h c ≡ Some r.2)
each_some f g h [] r e = absurd cc
each_some f g h (a ∷ []) r e = absurd cc
each_some f g h (a ∷ b ∷ []) r e = absurd cc
each_some f g h (a ∷ b ∷ c ∷ []) r e =
    let p = triple_some (f a) (g b) (h c) r e in
    (a, b, c, refl, p.0, p.1, p.2)
each_some f g h (a ∷ b ∷ c ∷ d ∷ ws) r e = absurd cc
