use Rattle.std.proofs.Common.{◌≡◌, ◌≤◌, ◌⊎◌, inl, inr, ◌||◌, ℕ, Bool, true, false, List, [], ◌∷◌, codes, Option, None, Some, refl, sym, ap, ◌∙◌, subst, arith}
use Rattle.std.specs.Prelude.{option_and_then, if◌then◌else◌, nat_lt}
use Rattle.std.specs.Fmt.{decimal}
use Rattle.std.specs.Str.{bytes_eq}
use Rattle.std.proofs.lemmas.Bool.{ltb-false, ltb-true}
use Rattle.std.proofs.lemmas.Slice.Eq.{bytes_eq-Decides}
use Rattle.cpt_cert_form.specs.declared.forms.Version.{Version}
use Rattle.cpt_cert_form.specs.declared.forms.Version.TheVariants.{One, Two}
use Rattle.cpt_cert_read.specs.Reading.{number_in}
use Rattle.cpt_cert_read.proofs.Numerals.{number_again, number_some}
use Rattle.cpt_options.specs.declared.options.Options.{Options}
use Rattle.cpt_options.specs.Options.{Gives, max, nodes, nothing, number_within, once, one, options_behind, two, version_of, with_max, with_nodes, with_option, with_version}

-- the one or the other
pub pick : {A : Type 0} (t : Bool) (a b : Option A) (x : A) → if◌then◌else◌ {A = Option A} t a b ≡ Some x → ((t ≡ true) × (a ≡ Some x)) ⊎ (b ≡ Some x)
pick true a b x h = inl (refl, h)
pick false a b x h = inr h

pub taken : {A B : Type 0} (f : A → Option B) (o : Option A) (b : B) → option_and_then f o ≡ Some b → (a : A) × (o ≡ Some a) × (f a ≡ Some b)
taken f (Some a) b h = (a, refl, h)
taken f None b h = absurd (cc)

once_is : {A : Type 0} (o : Option A) (more given : Options) → once o more ≡ Some given → (o ≡ None) × (more ≡ given)
once_is None more given h = (refl, let e : Some more ≡ Some given = h in cc)
once_is (Some x) more given h = absurd (cc)

-- a number between these two is spelled so
pub record IsNumberWithin (least most : ℕ) (word : List ℕ) (n : ℕ) : Type 0 where
  pub spelled : word ≡ decimal n
  pub least_is : least ≤ n
  pub most_is : n ≤ most

bounded : (k n : ℕ) (s t : Bool) → if◌then◌else◌ {A = Option ℕ} (s || t) None (Some k) ≡ Some n → (s ≡ false) × (t ≡ false) × (k ≡ n)
bounded k n false false h = (refl, refl, cc)
bounded k n true t h = absurd (cc)
bounded k n false true h = absurd (cc)

pub number_within_is : (least most : ℕ) (word : List ℕ) (n : ℕ) → number_within least most word ≡ Some n → IsNumberWithin least most word n
number_within_is least most word n h =
    let k = taken (λ n. if◌then◌else◌ {A = Option ℕ} (nat_lt n least || nat_lt most n) None (Some n)) (number_in word) n h in
    let b = bounded k.0 n (nat_lt k.0 least) (nat_lt most k.0) k.2 in
    let spelled = number_some word k.0 k.1 in
    let low : least ≤ k.0 = ltb-false k.0 least b.0 in
    let high : k.0 ≤ most = ltb-false most k.0 b.1 in
    record { spelled = spelled.1 ∙ ap decimal b.2; least_is = omega (arith, low, b.2); most_is = omega (arith, high, b.2) }

not_less : (m n : ℕ) → n ≤ m → nat_lt m n ≡ false
not_less m n le = by_test (nat_lt m n) refl
  where
    by_test : (t : Bool) → nat_lt m n ≡ t → nat_lt m n ≡ false
    by_test true e = absurd (let lt = ltb-true m n e in omega (arith, lt, le))
    by_test false e = e

pub number_within_of : (least most n : ℕ) → most ≤ 4000000000 → least ≤ n → n ≤ most → number_within least most (decimal n) ≡ Some n
number_within_of least most n small low high = rw (number_again n (omega (arith, small, high)), not_less n least low, not_less most n high) refl

-- what a further option is
by_max : (given : Options) (w v : List ℕ) (g : Options) (more : List (List ℕ)) (all : Options) → w ≡ codes "--max" → option_and_then (λ n. once given.max (with_max given n)) (number_within 0 1000000 v) ≡ Some g
    → Gives all g more → Gives all given (w ∷ v ∷ more)
by_max given w v g more all e h rest =
    let k = taken (λ n. once given.max (with_max given n)) (number_within 0 1000000 v) g h in
    let n = number_within_is 0 1000000 v k.0 k.1 in
    let o = once_is given.max (with_max given k.0) g k.2 in
    let made : Gives all given (codes "--max" ∷ decimal k.0 ∷ more) = max given k.0 more o.0 n.most_is (subst (λ x. Gives all x more) (sym o.1) rest) in
    subst (λ x. Gives all given (x ∷ v ∷ more)) (sym e) (subst (λ x. Gives all given (codes "--max" ∷ x ∷ more)) (sym n.spelled) made)

by_nodes : (given : Options) (w v : List ℕ) (g : Options) (more : List (List ℕ)) (all : Options) → w ≡ codes "--nodes" → option_and_then (λ n. once given.nodes (with_nodes given n)) (number_within 1 4000000000 v) ≡ Some g
    → Gives all g more → Gives all given (w ∷ v ∷ more)
by_nodes given w v g more all e h rest =
    let k = taken (λ n. once given.nodes (with_nodes given n)) (number_within 1 4000000000 v) g h in
    let n = number_within_is 1 4000000000 v k.0 k.1 in
    let o = once_is given.nodes (with_nodes given k.0) g k.2 in
    let made : Gives all given (codes "--nodes" ∷ decimal k.0 ∷ more) = nodes given k.0 more o.0 n.least_is n.most_is (subst (λ x. Gives all x more) (sym o.1) rest) in
    subst (λ x. Gives all given (x ∷ v ∷ more)) (sym e) (subst (λ x. Gives all given (codes "--nodes" ∷ x ∷ more)) (sym n.spelled) made)

version_word : (v : List ℕ) (version : Version) → version_of v ≡ Some version → ((v ≡ codes "1") × (version ≡ One)) ⊎ ((v ≡ codes "2") × (version ≡ Two))
version_word v version h = elim (pick (bytes_eq v (codes "1")) (Some One) (if◌then◌else◌ {A = Option Version} (bytes_eq v (codes "2")) (Some Two) None) version h) [
  | inl k ↦ inl ((bytes_eq-Decides v (codes "1")).0 k.0, let e : Some One ≡ Some version = k.1 in cc)
  | inr k ↦ elim (pick (bytes_eq v (codes "2")) (Some Two) None version k) [
    | inl k ↦ inr ((bytes_eq-Decides v (codes "2")).0 k.0, let e : Some Two ≡ Some version = k.1 in cc)
    | inr k ↦ absurd (cc)
  ]
]

by_version : (given : Options) (w v : List ℕ) (g : Options) (more : List (List ℕ)) (all : Options) → w ≡ codes "--cert" → option_and_then (λ v. once given.version (with_version given v)) (version_of v) ≡ Some g → Gives all g more
    → Gives all given (w ∷ v ∷ more)
by_version given w v g more all e h rest =
    let k = taken (λ v. once given.version (with_version given v)) (version_of v) g h in
    let o = once_is given.version (with_version given k.0) g k.2 in
    let behind : Gives all (with_version given k.0) more = subst (λ x. Gives all x more) (sym o.1) rest in
    subst (λ x. Gives all given (x ∷ v ∷ more)) (sym e)
    (elim (version_word v k.0 k.1) [
      | inl is ↦ subst (λ x. Gives all given (codes "--cert" ∷ x ∷ more)) (sym is.0) (one given more o.0 (subst (λ (x : Version). Gives all (with_version given x) more) is.1 behind))
      | inr is ↦ subst (λ x. Gives all given (codes "--cert" ∷ x ∷ more)) (sym is.0) (two given more o.0 (subst (λ (x : Version). Gives all (with_version given x) more) is.1 behind))
    ])

by_option : (given : Options) (w v : List ℕ) (g : Options) (more : List (List ℕ)) (all : Options) → with_option given w v ≡ Some g → Gives all g more → Gives all given (w ∷ v ∷ more)
unfolding with_option
by_option given w v g more all h rest =
    let maxed = option_and_then (λ n. once given.max (with_max given n)) (number_within 0 1000000 v) in
    let limited = option_and_then (λ n. once given.nodes (with_nodes given n)) (number_within 1 4000000000 v) in
    let versioned = option_and_then (λ v. once given.version (with_version given v)) (version_of v) in
    let last = if◌then◌else◌ {A = Option Options} (bytes_eq w (codes "--cert")) versioned None in
    elim (pick (bytes_eq w (codes "--max")) maxed (if◌then◌else◌ {A = Option Options} (bytes_eq w (codes "--nodes")) limited last) g h) [
      | inl k ↦ by_max given w v g more all ((bytes_eq-Decides w (codes "--max")).0 k.0) k.1 rest
      | inr k ↦ elim (pick (bytes_eq w (codes "--nodes")) limited last g k) [
        | inl k ↦ by_nodes given w v g more all ((bytes_eq-Decides w (codes "--nodes")).0 k.0) k.1 rest
        | inr k ↦ elim (pick (bytes_eq w (codes "--cert")) versioned None g k) [
          | inl k ↦ by_version given w v g more all ((bytes_eq-Decides w (codes "--cert")).0 k.0) k.1 rest
          | inr k ↦ absurd (cc)
        ]
      ]
    ]

-- the options that are read are those that the words give
pub gives_of : (given : Options) (ws : List (List ℕ)) (all : Options) → options_behind given ws ≡ Some all → Gives all given ws
gives_of given [] all h = let e : given ≡ all = cc in subst (λ (x : Options). Gives all x []) (sym e) nothing
gives_of given (w ∷ []) all h = absurd (cc)
gives_of given (w ∷ v ∷ more) all h =
    let k = taken (λ g. options_behind g more) (with_option given w v) all h in
    by_option given w v k.0 more all k.1 (gives_of k.0 more all k.2)

-- and the other way round
further : (given g : Options) (w v : List ℕ) (more : List (List ℕ)) (all : Options) → with_option given w v ≡ Some g → options_behind g more ≡ Some all → options_behind given (w ∷ v ∷ more) ≡ Some all
further given g w v more all step rest = ap (option_and_then (λ g. options_behind g more)) step ∙ rest

max_option : (given : Options) (n : ℕ) → given.max ≡ None → n ≤ 1000000 → with_option given (codes "--max") (decimal n) ≡ Some (with_max given n)
unfolding with_option
max_option given n free high =
    ap (option_and_then (λ n. once given.max (with_max given n))) (number_within_of 0 1000000 n (omega arith) (omega arith) high) ∙ ap (λ (o : Option ℕ). once o (with_max given n)) free

nodes_option : (given : Options) (n : ℕ) → given.nodes ≡ None → 1 ≤ n → n ≤ 4000000000 → with_option given (codes "--nodes") (decimal n) ≡ Some (with_nodes given n)
unfolding with_option
nodes_option given n free low high =
    ap (option_and_then (λ n. once given.nodes (with_nodes given n))) (number_within_of 1 4000000000 n (omega arith) low high) ∙ ap (λ (o : Option ℕ). once o (with_nodes given n)) free

one_option : (given : Options) → given.version ≡ None → with_option given (codes "--cert") (codes "1") ≡ Some (with_version given One)
unfolding with_option
one_option given free = ap (λ (o : Option Version). once o (with_version given One)) free

two_option : (given : Options) → given.version ≡ None → with_option given (codes "--cert") (codes "2") ≡ Some (with_version given Two)
unfolding with_option
two_option given free = ap (λ (o : Option Version). once o (with_version given Two)) free

pub of_gives : (all given : Options) (ws : List (List ℕ)) → Gives all given ws → options_behind given ws ≡ Some all
of_gives all given ws nothing = refl
of_gives all given ws (max g n more free high rest) = further g (with_max g n) (codes "--max") (decimal n) more all (max_option g n free high) (of_gives all (with_max g n) more rest)
of_gives all given ws (nodes g n more free low high rest) = further g (with_nodes g n) (codes "--nodes") (decimal n) more all (nodes_option g n free low high) (of_gives all (with_nodes g n) more rest)
of_gives all given ws (one g more free rest) = further g (with_version g One) (codes "--cert") (codes "1") more all (one_option g free) (of_gives all (with_version g One) more rest)
of_gives all given ws (two g more free rest) = further g (with_version g Two) (codes "--cert") (codes "2") more all (two_option g free) (of_gives all (with_version g Two) more rest)
