use Rattle.std.proofs.Common.{◌≡◌, Bool, IsTrue, Option, None, Some, Result, Ok, Err, IfOk, IfSome, refl, sym, ap, ◌∙◌, subst}
use Rattle.std.specs.Prelude.{IsSome, OnOk}
use Rattle.cpt_answer.specs.declared.ending.Ending.{Ending}
use Rattle.cpt_answer.specs.declared.ending.Ending.TheVariants.{Because, Read, Memory}
use Rattle.cpt_answer.specs.Giving.{Gives, Then, ThenBy, ended}

-- what is given is also given as something weaker
pub gives_weaker : {X Y : Type 0} (steady : Bool) (view : X → Y) (r : Result X Ending) (P Q : Result Y Ending → Type 0) → ((y : Result Y Ending) → P y → Q y) → Gives steady view r P → Gives steady view r Q
gives_weaker steady view (Ok x) P Q f g = f (Ok (view x)) g
gives_weaker steady view (Err (Because cause)) P Q f g = f (Err (Because cause)) g
gives_weaker steady view (Err Read) P Q f g = λ always. f (Err Read) (g always)
gives_weaker steady view (Err Memory) P Q f g = tt

-- an ending is the same, whatever would have been read
pub gives_error : {X Y Z W : Type 0} (steady : Bool) (view : X → Y) (other : Z → W) (e : Ending) (P : Result Y Ending → Type 0) (Q : Result W Ending → Type 0) → (P (Err e) → Q (Err e))
    → Gives steady view (Err e) P → Gives steady other (Err e) Q
gives_error steady view other (Because cause) P Q f g = f g
gives_error steady view other Read P Q f g = λ always. f (g always)
gives_error steady view other Memory P Q f g = tt

-- a library that stays steady
pub gives_steadier : {X Y : Type 0} (s t : Bool) (view : X → Y) (r : Result X Ending) (P : Result Y Ending → Type 0) → (IsTrue s → IsTrue t) → Gives t view r P → Gives s view r P
gives_steadier s t view (Ok x) P f g = g
gives_steadier s t view (Err (Because cause)) P f g = g
gives_steadier s t view (Err Read) P f g = λ always. g (f always)
gives_steadier s t view (Err Memory) P f g = tt

-- what is known of every value read is given with it
pub gives_and : {X Y : Type 0} (steady : Bool) (view : X → Y) (r : Result X Ending) (P : Result Y Ending → Type 0) (S : Y → Type 0) → IfOk r (λ x. S (view x)) → Gives steady view r P
    → Gives steady view r (λ y. P y × IfOk y S)
gives_and steady view (Ok x) P S s g = (g, s)
gives_and steady view (Err (Because cause)) P S s g = (g, tt)
gives_and steady view (Err Read) P S s g = λ always. (g always, tt)
gives_and steady view (Err Memory) P S s g = tt

-- the second stage is reached
pub then_ok : {A Z W : Type 0} (steady : Bool) (view : Z → W) (x : Result A Ending) (a : A) (r : Result Z Ending) (Q : A → Result W Ending → Type 0) → x ≡ Ok a → Gives steady view r (Q a) → Gives steady view r (Then x Q)
then_ok steady view x a r Q e g = subst (λ y. Gives steady view r (Then y Q)) (sym e) g

pub then_by_ok : {A Z W : Type 0} (steady : Bool) (view : Z → W) (P : Result A Ending → Type 0) (a : A) (r : Result Z Ending) (Q : A → Result W Ending → Type 0) → P (Ok a) → Gives steady view r (Q a)
    → Gives steady view r (ThenBy P Q)
then_by_ok steady view P a r Q p g = gives_weaker steady view r (Q a) (ThenBy P Q) (λ y q. (Ok a, p, q)) g

-- the first stage ends
pub then_error : {A X Z W : Type 0} (steady : Bool) (view : X → A) (other : Z → W) (x : Result A Ending) (e : Ending) (Q : A → Result W Ending → Type 0) → Gives steady view (Err e) (λ read. x ≡ read)
    → Gives steady other (Err e) (Then x Q)
then_error steady view other x e Q g = gives_error steady view other e (λ read. x ≡ read) (Then x Q) (λ h. subst (λ y. Then y Q (Err e)) (sym h) refl) g

pub then_by_error : {A X Z W : Type 0} (steady : Bool) (view : X → A) (other : Z → W) (P : Result A Ending → Type 0) (e : Ending) (Q : A → Result W Ending → Type 0) → Gives steady view (Err e) P
    → Gives steady other (Err e) (ThenBy P Q)
then_by_error steady view other P e Q g = gives_error steady view other e P (ThenBy P Q) (λ p. (Err e, p, refl)) g

-- what is told is weaker
pub if_some_weaker : {X : Type 0} (o : Option X) (P Q : X → Type 0) → ((x : X) → P x → Q x) → IfSome o P → IfSome o Q
if_some_weaker None P Q f h = h
if_some_weaker (Some x) P Q f h = f x h

-- two facts about what is told, before a call and after it
pub if_both : {X : Type 0} (o p : Option X) (A B C : X → Type 0) → p ≡ o → ((x : X) → A x → B x → C x) → IfSome o A → IfSome p B → IfSome o C
if_both None p A B C same f a b = a
if_both (Some x) p A B C same f a b = f x a (subst (λ q. IfSome q B) same b)

-- a stage before a value has a value
pub then_value : {A B : Type 0} (x : Result A Ending) (Q : A → Result B Ending → Type 0) (b : B) → Then x Q (Ok b) → (a : A) × (x ≡ Ok a) × Q a (Ok b)
then_value (Ok a) Q b h = (a, refl, h)
then_value (Err e) Q b h = absurd (cc)

pub ended_ok : {A E : Type 0} (ending : E → Ending) (x : Result A E) (a : A) → ended ending x ≡ Ok a → x ≡ Ok a
ended_ok ending (Ok b) a h = let e : b ≡ a = cc in cc
ended_ok ending (Err e) a h = absurd (cc)

-- two stages come to one end where each does
pub then_once : {A B : Type 0} (x : Result A Ending) (P : A → Result B Ending → Type 0) → ((a : A) (r s : Result B Ending) → x ≡ Ok a → P a r → P a s → r ≡ s) → (r s : Result B Ending) → Then x P r → Then x P s → r ≡ s
then_once (Ok a) P once r s h k = once a r s refl h k
then_once (Err e) P once r s h k = h ∙ sym k

by_value : {A B : Type 0} (P : Result A Ending → Type 0) (Q : A → Result B Ending → Type 0) (r s : Result B Ending) → ((a : A) (r s : Result B Ending) → P (Ok a) → Q a r → Q a s → r ≡ s)
    → (x : Result A Ending) → P x → Then x Q r → Then x Q s → r ≡ s
by_value P Q r s second (Ok a) p h k = second a r s p h k
by_value P Q r s second (Err e) p h k = h ∙ sym k

pub then_by_once : {A B : Type 0} (P : Result A Ending → Type 0) (Q : A → Result B Ending → Type 0) → ((x y : Result A Ending) → P x → P y → x ≡ y)
    → ((a : A) (r s : Result B Ending) → P (Ok a) → Q a r → Q a s → r ≡ s) → (r s : Result B Ending) → ThenBy P Q r → ThenBy P Q s → r ≡ s
then_by_once P Q first second r s h k = by_value P Q r s second h.0 h.1 h.2 (subst (λ x. Then x Q s) (first k.0 h.0 k.1 h.1) k.2)

-- what is told before a call is told after it
pub told_before : {X : Type 0} (o q : Option X) → q ≡ o → IsSome o → IsSome q
told_before o q same told = subst IsSome (sym same) told

-- what holds in any case
pub on_ok : {T E : Type 0} (Z : Type 0) (r : Result T E) → Z → OnOk r Z
on_ok Z (Ok x) z = z
on_ok Z (Err e) z = tt
