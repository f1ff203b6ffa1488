use Rattle.std.proofs.Common.{◌≡◌, ◌⊎◌, inl, inr, ◌&&◌, ◌≤◌, ℕ, Bool, true, false, not, List, [], ◌∷◌, codes, Option, None, Some, refl, sym, ap, ◌∙◌, subst, arith}
use Rattle.std.specs.Prelude.{IfSome, option_map, option_and_then, if◌then◌else◌, unwrap_or}
use Rattle.std.specs.Fmt.{decimal}
use Rattle.std.specs.Str.{bytes_eq}
use Rattle.std.proofs.lemmas.Slice.Eq.{bytes_eq-Decides}
use Rattle.cpt_cert_form.specs.declared.forms.Version.{Version}
use Rattle.cpt_cert_form.specs.declared.forms.Version.TheVariants.{One, Two}
use Rattle.cpt_options.specs.declared.options.Budget.{Budget}
use Rattle.cpt_options.specs.declared.options.Options.{Options}
use Rattle.cpt_words.specs.declared.words.Command.{Command}
use Rattle.cpt_words.specs.declared.words.Verb.{Verb}
use Rattle.cpt_words.specs.declared.words.Verb.TheVariants as verbs
use Rattle.cpt_words.specs.Laws.{AsksBench, AsksChecking, AsksCounting, AsksExplaining, AsksExport, AsksJson, AsksJudging, AsksListing, AsksProving, AsksSolving, AsksTightening, AsksTrimming, AsksValidation, ReadsWords}
use Rattle.cpt_options.specs.Options.{Gives, IsBudget, budget_of, max, no_options, nodes, nothing, number_within, one, options_behind, two, with_max, with_nodes, with_version}
use Rattle.cpt_words.specs.Words.{Asked, IsWithin, asked_by, asked_in, asked_of, bench_in, benching, checking, counting, explaining, exporting, is_file_name, json_validation, judging, listing, proving, searched_in, solved_as, solving, three_names, tightening, trimming, two_names, validation, verb_in, verb_word}
use Rattle.cpt_options.proofs.Choosing.{gives_of, number_within_is, number_within_of, of_gives, taken}

-- the word is that of the command, or another one is looked for
chosen_by : (t : Bool) (same : Type 0) (v u : Verb) (rest : Option Verb) → (t ≡ true → same) → if◌then◌else◌ {A = Option Verb} t (Some v) rest ≡ Some u → ((v ≡ u) × same) ⊎ (rest ≡ Some u)
chosen_by true same v u rest is h = let e : v ≡ u = cc in inl (e, is refl)
chosen_by false same v u rest is h = inr h

chosen : (w : List ℕ) (v u : Verb) (rest : Option Verb) → if◌then◌else◌ {A = Option Verb} (bytes_eq w (verb_word v)) (Some v) rest ≡ Some u → (w ≡ verb_word u) ⊎ (rest ≡ Some u)
chosen w v u rest h = elim (chosen_by (bytes_eq w (verb_word v)) (w ≡ verb_word v) v u rest (bytes_eq-Decides w (verb_word v)).0 h) [
  | inl k ↦ inl (k.1 ∙ ap verb_word k.0)
  | inr k ↦ inr k
]

-- a first word is that of its command
or_later : (w : List ℕ) (u : Verb) (rest : Option Verb) → (rest ≡ Some u → w ≡ verb_word u) → (w ≡ verb_word u) ⊎ (rest ≡ Some u) → w ≡ verb_word u
or_later w u rest later h = elim h [ inl e ↦ e | inr k ↦ later k ]

word_is : (w : List ℕ) (u : Verb) → verb_in w ≡ Some u → w ≡ verb_word u
word_is w u h =
    or_later w u _ (λ h. or_later w u _ (λ h. or_later w u _ (λ h. or_later w u _ (λ h. or_later w u _ (λ h. or_later w u _ (λ h. or_later w u _ (λ h. or_later w u _ (λ h. or_later w u _ (λ h. or_later w u _ (λ h. or_later w u _ (λ h. or_later w u _ (λ h. or_later w u _ (λ h. absurd (cc)) (chosen w verbs.Bench u _ h)) (chosen w verbs.ValidateJson u _ h)) (chosen w verbs.Export u _ h)) (chosen w verbs.ExplainCert u _ h)) (chosen w verbs.Explain u _ h)) (chosen w verbs.Tighten u _ h)) (chosen w verbs.Trim u _ h)) (chosen w verbs.Prove u _ h)) (chosen w verbs.Solve u _ h)) (chosen w verbs.Check u _ h)) (chosen w verbs.Ground u _ h)) (chosen w verbs.Validate u _ h)) (chosen w verbs.ValidateTask u _ h)

-- names that are taken
abbrev Pair : Type 0
Pair = List ℕ × List ℕ

abbrev Triple : Type 0
Triple = List ℕ × List ℕ × List ℕ

abbrev given : Pair → Pair
given p = p

abbrev given_three : Triple → Triple
given_three p = p

pair_is : (a b c d : List ℕ) (t : Bool) → if◌then◌else◌ {A = Option (List ℕ × List ℕ)} t (Some (a, b)) None ≡ Some (c, d) → (t ≡ true) × (a ≡ c) × (b ≡ d)
pair_is a b c d true h =
    let e : given (a, b) ≡ given (c, d) = cc in
    (refl, ap (λ (p : Pair). p.0) e, ap (λ (p : Pair). p.1) e)
pair_is a b c d false h = absurd (cc)

triple_is : (a b c d e f : List ℕ) (t : Bool) → if◌then◌else◌ {A = Option (List ℕ × List ℕ × List ℕ)} t (Some (a, b, c)) None ≡ Some (d, e, f) → (t ≡ true) × (a ≡ d) × (b ≡ e) × (c ≡ f)
triple_is a b c d e f true h =
    let same : given_three (a, b, c) ≡ given_three (d, e, f) = cc in
    (refl, ap (λ (p : Triple). p.0) same, ap (λ (p : Triple). p.1) same, ap (λ (p : Triple). p.2) same)
triple_is a b c d e f false h = absurd (cc)

both : (s t : Bool) → (s && t) ≡ true → (s ≡ true) × (t ≡ true)
both true t h = (refl, h)
both false t h = absurd (cc)

pub record AreTwo (ws : List (List ℕ)) (a b : List ℕ) : Type 0 where
  pub words_are : ws ≡ a ∷ b ∷ []
  pub first : is_file_name a ≡ true
  pub second : is_file_name b ≡ true

two_are : (ws : List (List ℕ)) (a b : List ℕ) → two_names ws ≡ Some (a, b) → AreTwo ws a b
two_are (x ∷ y ∷ []) a b h =
    let k = pair_is x y a b (is_file_name x && is_file_name y) h in
    let named = both (is_file_name x) (is_file_name y) k.0 in
    record { words_are = cc (k.1, k.2); first = subst (λ n. is_file_name n ≡ true) k.1 named.0; second = subst (λ n. is_file_name n ≡ true) k.2 named.1 }
two_are [] a b h = absurd (cc)
two_are (x ∷ []) a b h = absurd (cc)
two_are (x ∷ y ∷ z ∷ ws) a b h = absurd (cc)

pub record AreThree (ws : List (List ℕ)) (a b c : List ℕ) : Type 0 where
  pub words_are : ws ≡ a ∷ b ∷ c ∷ []
  pub first : is_file_name a ≡ true
  pub second : is_file_name b ≡ true
  pub third : is_file_name c ≡ true

three_are : (ws : List (List ℕ)) (a b c : List ℕ) → three_names ws ≡ Some (a, b, c) → AreThree ws a b c
three_are (x ∷ y ∷ z ∷ []) a b c h =
    let k = triple_is x y z a b c (is_file_name x && (is_file_name y && is_file_name z)) h in
    let named = both (is_file_name x) (is_file_name y && is_file_name z) k.0 in
    let more = both (is_file_name y) (is_file_name z) named.1 in
    record {
      words_are = cc (k.1, k.2, k.3);
      first = subst (λ n. is_file_name n ≡ true) k.1 named.0;
      second = subst (λ n. is_file_name n ≡ true) k.2 more.0;
      third = subst (λ n. is_file_name n ≡ true) k.3 more.1;
    }
three_are [] a b c h = absurd (cc)
three_are (x ∷ []) a b c h = absurd (cc)
three_are (x ∷ y ∷ []) a b c h = absurd (cc)
three_are (x ∷ y ∷ z ∷ u ∷ ws) a b c h = absurd (cc)

pub two_taken : (a b : List ℕ) → is_file_name a ≡ true → is_file_name b ≡ true → two_names (a ∷ b ∷ []) ≡ Some (a, b)
two_taken a b h k = rw h (rw k refl)

pub three_taken : (a b c : List ℕ) → is_file_name a ≡ true → is_file_name b ≡ true → is_file_name c ≡ true → three_names (a ∷ b ∷ c ∷ []) ≡ Some (a, b, c)
three_taken a b c h k l = rw h (rw k (rw l refl))

-- names by their parts
pair_of : (x : Pair) (a b : List ℕ) → x.0 ≡ a → x.1 ≡ b → x ≡ given (a, b)
pair_of x a b e f =
    let first : List ℕ → Pair = λ y. (y, x.1) in
    let second : List ℕ → Pair = λ y. (a, y) in
    ap first e ∙ ap second f

triple_of : (x : Triple) (a b c : List ℕ) → x.0 ≡ a → x.1 ≡ b → x.2 ≡ c → x ≡ given_three (a, b, c)
triple_of x a b c e f g =
    let first : List ℕ → Triple = λ y. (y, x.1, x.2) in
    let second : List ℕ → Triple = λ y. (a, y, x.2) in
    let third : List ℕ → Triple = λ y. (a, b, y) in
    ap first e ∙ ap second f ∙ ap third g

-- the command that is asked for, without its names
abbrev pub verb_of : Asked → Verb
verb_of (validation t p) = verbs.ValidateTask
verb_of (judging d p n) = verbs.Validate
verb_of (listing d p) = verbs.Ground
verb_of (checking d p c) = verbs.Check
verb_of (solving d p budget) = verbs.Solve
verb_of (proving d p budget version) = verbs.Prove
verb_of (trimming d p c) = verbs.Trim
verb_of (tightening d p n) = verbs.Tighten
verb_of (explaining d p n) = verbs.Explain
verb_of (counting d p c) = verbs.ExplainCert
verb_of (exporting d p) = verbs.Export
verb_of (json_validation t p) = verbs.ValidateJson
verb_of (benching n) = verbs.Bench

-- the budget of a search that is asked for
abbrev budget_in : Asked → Budget
budget_in (validation t p) = budget_of no_options
budget_in (judging d p n) = budget_of no_options
budget_in (listing d p) = budget_of no_options
budget_in (checking d p c) = budget_of no_options
budget_in (solving d p budget) = budget
budget_in (proving d p budget version) = budget
budget_in (trimming d p c) = budget_of no_options
budget_in (tightening d p n) = budget_of no_options
budget_in (explaining d p n) = budget_of no_options
budget_in (counting d p c) = budget_of no_options
budget_in (exporting d p) = budget_of no_options
budget_in (json_validation t p) = budget_of no_options
budget_in (benching n) = budget_of no_options

some_same : {A : Type 0} (x y : A) → Some x ≡ Some y → x ≡ y
some_same x y h = cc

-- two names, and the options behind them
abbrev Searched : Type 0
Searched = List ℕ × List ℕ × Options

pub record AreSearched (ws : List (List ℕ)) (a b : List ℕ) (given : Options) : Type 0 where
  pub options : List (List ℕ)
  pub words_are : ws ≡ a ∷ b ∷ options
  pub first : is_file_name a ≡ true
  pub second : is_file_name b ≡ true
  pub gives : Gives given no_options options

named : (s t : Bool) (o : Option Searched) (n : Searched) → if◌then◌else◌ {A = Option Searched} (not (s && t)) None o ≡ Some n → (s ≡ true) × (t ≡ true) × (o ≡ Some n)
named true true o n h = (refl, refl, h)
named false t o n h = absurd (cc)
named true false o n h = absurd (cc)

searched_are : (ws : List (List ℕ)) (n : Searched) → searched_in ws ≡ Some n → AreSearched ws n.0 n.1 n.2
searched_are (a ∷ b ∷ ws) n h =
    let k = named (is_file_name a) (is_file_name b) (option_and_then (λ (given : Options). Some (a, b, given)) (options_behind no_options ws)) n h in
    let g = taken {A = Options} {B = Searched} (λ given. Some (a, b, given)) (options_behind no_options ws) n k.2 in
    let P : Searched → Type 0 = λ n. AreSearched (a ∷ b ∷ ws) n.0 n.1 n.2 in
    subst P (some_same {A = Searched} (a, b, g.0) n g.2) (record { options = ws; words_are = refl; first = k.0; second = k.1; gives = gives_of no_options ws g.0 g.1 })
searched_are [] n h = absurd (cc)
searched_are (a ∷ []) n h = absurd (cc)

searched_of : (a b : List ℕ) (options : List (List ℕ)) (given : Options) → is_file_name a ≡ true → is_file_name b ≡ true → Gives given no_options options → searched_in (a ∷ b ∷ options) ≡ Some (a, b, given)
searched_of a b options given h k gives = rw h (rw k (ap (option_and_then (λ (given : Options). Some (a, b, given))) (of_gives given no_options options gives)))

-- what is asked of `solve`
solved_is : (a b : List ℕ) (given : Options) (o : Option Version) (x : Asked) → solved_as a b given o ≡ Some x → (o ≡ None) × (solving a b (budget_of given) ≡ x)
solved_is a b given None x h = (refl, some_same (solving a b (budget_of given)) x h)
solved_is a b given (Some v) x h = absurd (cc)

abbrev solve_of : Searched → Option Asked
solve_of n = solved_as n.0 n.1 n.2 n.2.version

abbrev prove_of : Searched → Option Asked
prove_of n = Some (proving n.0 n.1 (budget_of n.2) (unwrap_or n.2.version Two))

solve_verb : (o : Option Searched) (a : Asked) → option_and_then solve_of o ≡ Some a → verbs.Solve ≡ verb_of a
solve_verb o a h =
    let n = taken {A = Searched} solve_of o a h in
    ap verb_of (solved_is n.0.0 n.0.1 n.0.2 n.0.2.version a n.2).1

prove_verb : (o : Option Searched) (a : Asked) → option_and_then prove_of o ≡ Some a → verbs.Prove ≡ verb_of a
prove_verb o a h =
    let n = taken {A = Searched} prove_of o a h in
    ap verb_of (some_same (proving n.0.0 n.0.1 (budget_of n.0.2) (unwrap_or n.0.2.version Two)) a n.2)

mapped : {A : Type 0} (f : A → Asked) (v : Verb) (o : Option A) (a : Asked) → ((x : A) → verb_of (f x) ≡ v) → option_map f o ≡ Some a → (x : A) × (o ≡ Some x) × (f x ≡ a) × (verb_of a ≡ v)
mapped f v (Some x) a of h = let e : f x ≡ a = cc in (x, refl, e, sym (ap verb_of e) ∙ of x)
mapped f v None a of h = absurd (cc)

-- what is asked of `bench`
pub record IsBench (ws : List (List ℕ)) (a : Asked) : Type 0 where
  pub size : ℕ
  pub words_are : ws ≡ decimal size ∷ []
  pub some : 1 ≤ size
  pub few : size ≤ 40
  pub is : benching size ≡ a

is_bench : (ws : List (List ℕ)) (a : Asked) → bench_in ws ≡ Some a → IsBench ws a
is_bench (w ∷ []) a h =
    let x = mapped benching verbs.Bench (number_within 1 40 w) a (λ x. refl) h in
    let n = number_within_is 1 40 w x.0 x.1 in
    record { size = x.0; words_are = ap (λ y. y ∷ []) n.spelled; some = n.least_is; few = n.most_is; is = x.2 }
is_bench [] a h = absurd (cc)
is_bench (v ∷ w ∷ ws) a h = absurd (cc)

bench_verb : (ws : List (List ℕ)) (a : Asked) → bench_in ws ≡ Some a → verbs.Bench ≡ verb_of a
bench_verb ws a h = ap verb_of (is_bench ws a h).is

bench_of : (n : ℕ) → 1 ≤ n → n ≤ 40 → bench_in (decimal n ∷ []) ≡ Some (benching n)
bench_of n some few = ap (option_map benching) (number_within_of 1 40 n (omega arith) some few)

asked_verb : (v : Verb) (ws : List (List ℕ)) (a : Asked) → asked_by v ws ≡ Some a → v ≡ verb_of a
asked_verb verbs.ValidateTask ws a h = sym (mapped (λ n. validation n.0 n.1) verbs.ValidateTask (two_names ws) a (λ x. refl) h).3
asked_verb verbs.Validate ws a h = sym (mapped (λ n. judging n.0 n.1 n.2) verbs.Validate (three_names ws) a (λ x. refl) h).3
asked_verb verbs.Ground ws a h = sym (mapped (λ n. listing n.0 n.1) verbs.Ground (two_names ws) a (λ x. refl) h).3
asked_verb verbs.Check ws a h = sym (mapped (λ n. checking n.0 n.1 n.2) verbs.Check (three_names ws) a (λ x. refl) h).3
asked_verb verbs.Solve ws a h = solve_verb (searched_in ws) a h
asked_verb verbs.Prove ws a h = prove_verb (searched_in ws) a h
asked_verb verbs.Trim ws a h = sym (mapped (λ n. trimming n.0 n.1 n.2) verbs.Trim (three_names ws) a (λ x. refl) h).3
asked_verb verbs.Tighten ws a h = sym (mapped (λ n. tightening n.0 n.1 n.2) verbs.Tighten (three_names ws) a (λ x. refl) h).3
asked_verb verbs.Explain ws a h = sym (mapped (λ n. explaining n.0 n.1 n.2) verbs.Explain (three_names ws) a (λ x. refl) h).3
asked_verb verbs.ExplainCert ws a h = sym (mapped (λ n. counting n.0 n.1 n.2) verbs.ExplainCert (three_names ws) a (λ x. refl) h).3
asked_verb verbs.Export ws a h = sym (mapped (λ n. exporting n.0 n.1) verbs.Export (two_names ws) a (λ x. refl) h).3
asked_verb verbs.ValidateJson ws a h = sym (mapped (λ n. json_validation n.0 n.1) verbs.ValidateJson (two_names ws) a (λ x. refl) h).3
asked_verb verbs.Bench ws a h = bench_verb ws a h

-- the first word is that of the command, and the others are its names
pub record IsCall (words : List (List ℕ)) (a : Asked) : Type 0 where
  pub rest : List (List ℕ)
  pub words_are : words ≡ verb_word (verb_of a) ∷ rest
  pub asks : asked_by (verb_of a) rest ≡ Some a

call_by : (w : List ℕ) (ws : List (List ℕ)) (a : Asked) (o : Option Verb) → verb_in w ≡ o → option_and_then (λ v. asked_by v ws) o ≡ Some a → IsCall (w ∷ ws) a
call_by w ws a (Some v) e h =
    let same = asked_verb v ws a h in
    record { rest = ws; words_are = ap (λ x. x ∷ ws) (word_is w v e ∙ ap verb_word same); asks = subst (λ u. asked_by u ws ≡ Some a) same h }
call_by w ws a None e h = absurd (cc)

is_call : (words : List (List ℕ)) (a : Asked) → asked_in words ≡ Some a → IsCall words a
is_call (w ∷ ws) a h = call_by w ws a (verb_in w) refl h
is_call [] a h = absurd (cc)

asks_validation : (words : List (List ℕ)) (t p : List ℕ) → asked_in words ≡ Some (validation t p) → AsksValidation words t p
asks_validation words t p h =
    let call = is_call words (validation t p) h in
    let x = mapped (λ n. validation n.0 n.1) verbs.ValidateTask (two_names call.rest) (validation t p) (λ x. refl) call.asks in
    let are = two_are call.rest t p (x.1 ∙ ap Some (pair_of x.0 t p (cc x.2) (cc x.2))) in
    record { words_are = call.words_are ∙ ap (λ ws. codes "validate-task" ∷ ws) are.words_are; task_named = are.first; plan_named = are.second }

asks_judging : (words : List (List ℕ)) (d p n : List ℕ) → asked_in words ≡ Some (judging d p n) → AsksJudging words d p n
asks_judging words d p n h =
    let call = is_call words (judging d p n) h in
    let x = mapped (λ n. judging n.0 n.1 n.2) verbs.Validate (three_names call.rest) (judging d p n) (λ x. refl) call.asks in
    let are = three_are call.rest d p n (x.1 ∙ ap Some (triple_of x.0 d p n (cc x.2) (cc x.2) (cc x.2))) in
    record { words_are = call.words_are ∙ ap (λ ws. codes "validate" ∷ ws) are.words_are; domain_named = are.first; problem_named = are.second; plan_named = are.third }

asks_listing : (words : List (List ℕ)) (d p : List ℕ) → asked_in words ≡ Some (listing d p) → AsksListing words d p
asks_listing words d p h =
    let call = is_call words (listing d p) h in
    let x = mapped (λ n. listing n.0 n.1) verbs.Ground (two_names call.rest) (listing d p) (λ x. refl) call.asks in
    let are = two_are call.rest d p (x.1 ∙ ap Some (pair_of x.0 d p (cc x.2) (cc x.2))) in
    record { words_are = call.words_are ∙ ap (λ ws. codes "ground" ∷ ws) are.words_are; domain_named = are.first; problem_named = are.second }

asks_checking : (words : List (List ℕ)) (d p c : List ℕ) → asked_in words ≡ Some (checking d p c) → AsksChecking words d p c
asks_checking words d p c h =
    let call = is_call words (checking d p c) h in
    let x = mapped (λ n. checking n.0 n.1 n.2) verbs.Check (three_names call.rest) (checking d p c) (λ x. refl) call.asks in
    let are = three_are call.rest d p c (x.1 ∙ ap Some (triple_of x.0 d p c (cc x.2) (cc x.2) (cc x.2))) in
    record { words_are = call.words_are ∙ ap (λ ws. codes "check" ∷ ws) are.words_are; domain_named = are.first; problem_named = are.second; cert_named = are.third }

asks_trimming : (words : List (List ℕ)) (d p c : List ℕ) → asked_in words ≡ Some (trimming d p c) → AsksTrimming words d p c
asks_trimming words d p c h =
    let call = is_call words (trimming d p c) h in
    let x = mapped (λ n. trimming n.0 n.1 n.2) verbs.Trim (three_names call.rest) (trimming d p c) (λ x. refl) call.asks in
    let are = three_are call.rest d p c (x.1 ∙ ap Some (triple_of x.0 d p c (cc x.2) (cc x.2) (cc x.2))) in
    record { words_are = call.words_are ∙ ap (λ ws. codes "trim" ∷ ws) are.words_are; domain_named = are.first; problem_named = are.second; cert_named = are.third }

asks_tightening : (words : List (List ℕ)) (d p n : List ℕ) → asked_in words ≡ Some (tightening d p n) → AsksTightening words d p n
asks_tightening words d p n h =
    let call = is_call words (tightening d p n) h in
    let x = mapped (λ n. tightening n.0 n.1 n.2) verbs.Tighten (three_names call.rest) (tightening d p n) (λ x. refl) call.asks in
    let are = three_are call.rest d p n (x.1 ∙ ap Some (triple_of x.0 d p n (cc x.2) (cc x.2) (cc x.2))) in
    record { words_are = call.words_are ∙ ap (λ ws. codes "tighten" ∷ ws) are.words_are; domain_named = are.first; problem_named = are.second; plan_named = are.third }

asks_explaining : (words : List (List ℕ)) (d p n : List ℕ) → asked_in words ≡ Some (explaining d p n) → AsksExplaining words d p n
asks_explaining words d p n h =
    let call = is_call words (explaining d p n) h in
    let x = mapped (λ n. explaining n.0 n.1 n.2) verbs.Explain (three_names call.rest) (explaining d p n) (λ x. refl) call.asks in
    let are = three_are call.rest d p n (x.1 ∙ ap Some (triple_of x.0 d p n (cc x.2) (cc x.2) (cc x.2))) in
    record { words_are = call.words_are ∙ ap (λ ws. codes "explain" ∷ ws) are.words_are; domain_named = are.first; problem_named = are.second; plan_named = are.third }

asks_counting : (words : List (List ℕ)) (d p c : List ℕ) → asked_in words ≡ Some (counting d p c) → AsksCounting words d p c
asks_counting words d p c h =
    let call = is_call words (counting d p c) h in
    let x = mapped (λ n. counting n.0 n.1 n.2) verbs.ExplainCert (three_names call.rest) (counting d p c) (λ x. refl) call.asks in
    let are = three_are call.rest d p c (x.1 ∙ ap Some (triple_of x.0 d p c (cc x.2) (cc x.2) (cc x.2))) in
    record { words_are = call.words_are ∙ ap (λ ws. codes "explain-cert" ∷ ws) are.words_are; domain_named = are.first; problem_named = are.second; cert_named = are.third }

asks_exporting : (words : List (List ℕ)) (d p : List ℕ) → asked_in words ≡ Some (exporting d p) → AsksExport words d p
asks_exporting words d p h =
    let call = is_call words (exporting d p) h in
    let x = mapped (λ n. exporting n.0 n.1) verbs.Export (two_names call.rest) (exporting d p) (λ x. refl) call.asks in
    let are = two_are call.rest d p (x.1 ∙ ap Some (pair_of x.0 d p (cc x.2) (cc x.2))) in
    record { words_are = call.words_are ∙ ap (λ ws. codes "export" ∷ ws) are.words_are; domain_named = are.first; problem_named = are.second }

asks_json_validation : (words : List (List ℕ)) (t p : List ℕ) → asked_in words ≡ Some (json_validation t p) → AsksJson words t p
asks_json_validation words t p h =
    let call = is_call words (json_validation t p) h in
    let x = mapped (λ n. json_validation n.0 n.1) verbs.ValidateJson (two_names call.rest) (json_validation t p) (λ x. refl) call.asks in
    let are = two_are call.rest t p (x.1 ∙ ap Some (pair_of x.0 t p (cc x.2) (cc x.2))) in
    record { words_are = call.words_are ∙ ap (λ ws. codes "validate-json" ∷ ws) are.words_are; task_named = are.first; plan_named = are.second }

abbrev size_of : Asked → ℕ
size_of (benching n) = n
size_of a = 0

asks_benching : (words : List (List ℕ)) (n : ℕ) → asked_in words ≡ Some (benching n) → AsksBench words n
asks_benching words n h =
    let call = is_call words (benching n) h in
    let k = is_bench call.rest (benching n) call.asks in
    let same : k.size ≡ n = ap size_of k.is in
    record { words_are = call.words_are ∙ ap (λ ws. codes "bench" ∷ ws) k.words_are ∙ ap (λ n. codes "bench" ∷ decimal n ∷ []) same; some = subst (λ n. 1 ≤ n) same k.some; few = subst (λ n. n ≤ 40) same k.few }

asks_solving : (words : List (List ℕ)) (d p : List ℕ) (budget : Budget) → asked_in words ≡ Some (solving d p budget) → AsksSolving words d p budget
asks_solving words d p budget h =
    let call = is_call words (solving d p budget) h in
    let n = taken {A = Searched} solve_of (searched_in call.rest) (solving d p budget) call.asks in
    let s = solved_is n.0.0 n.0.1 n.0.2 n.0.2.version (solving d p budget) n.2 in
    let are = searched_are call.rest n.0 n.1 in
    let first : n.0.0 ≡ d = cc s.1 in
    let second : n.0.1 ≡ p = cc s.1 in
    record {
      options = are.options;
      given = n.0.2;
      words_are = call.words_are ∙ ap (λ ws. codes "solve" ∷ ws) (are.words_are ∙ ap (λ x. x ∷ n.0.1 ∷ are.options) first ∙ ap (λ x. d ∷ x ∷ are.options) second);
      domain_named = subst (λ n. is_file_name n ≡ true) first are.first;
      problem_named = subst (λ n. is_file_name n ≡ true) second are.second;
      gives = are.gives;
      no_version = s.0;
      is = sym (ap budget_in s.1);
    }

asks_proving : (words : List (List ℕ)) (d p : List ℕ) (budget : Budget) (version : Version) → asked_in words ≡ Some (proving d p budget version) → AsksProving words d p budget version
asks_proving words d p budget version h =
    let call = is_call words (proving d p budget version) h in
    let n = taken {A = Searched} prove_of (searched_in call.rest) (proving d p budget version) call.asks in
    let s : proving n.0.0 n.0.1 (budget_of n.0.2) (unwrap_or n.0.2.version Two) ≡ proving d p budget version = some_same (proving n.0.0 n.0.1 (budget_of n.0.2) (unwrap_or n.0.2.version Two)) (proving d p budget version) n.2 in
    let are = searched_are call.rest n.0 n.1 in
    let first : n.0.0 ≡ d = cc s in
    let second : n.0.1 ≡ p = cc s in
    record {
      options = are.options;
      given = n.0.2;
      words_are = call.words_are ∙ ap (λ ws. codes "prove" ∷ ws) (are.words_are ∙ ap (λ x. x ∷ n.0.1 ∷ are.options) first ∙ ap (λ x. d ∷ x ∷ are.options) second);
      domain_named = subst (λ n. is_file_name n ≡ true) first are.first;
      problem_named = subst (λ n. is_file_name n ≡ true) second are.second;
      gives = are.gives;
      is = sym (ap budget_in s);
      version_is = cc s;
    }

solves : (words : List (List ℕ)) (d p : List ℕ) (budget : Budget) → AsksSolving words d p budget → asked_in words ≡ Some (solving d p budget)
solves words d p budget asks =
    let solved : solved_as d p asks.given asks.given.version ≡ Some (solving d p (budget_of asks.given)) = ap (solved_as d p asks.given) asks.no_version in
    ap asked_in asks.words_are ∙ ap (option_and_then solve_of) (searched_of d p asks.options asks.given asks.domain_named asks.problem_named asks.gives) ∙ solved ∙ ap (λ b. Some (solving d p b)) (sym asks.is)

proves : (words : List (List ℕ)) (d p : List ℕ) (budget : Budget) (version : Version) → AsksProving words d p budget version → asked_in words ≡ Some (proving d p budget version)
proves words d p budget version asks =
    ap asked_in asks.words_are ∙ ap (option_and_then prove_of) (searched_of d p asks.options asks.given asks.domain_named asks.problem_named asks.gives) ∙ ap (λ b. Some (proving d p b (unwrap_or asks.given.version Two))) (sym asks.is)
    ∙ ap (λ v. Some (proving d p budget v)) (sym asks.version_is)

pub reads_words : ReadsWords
reads_words = record {
  validation = λ words t p. (asks_validation words t p, λ asks. ap asked_in asks.words_are ∙ ap (option_map (λ n. validation n.0 n.1)) (two_taken t p asks.task_named asks.plan_named));
  judging = λ words d p n. (asks_judging words d p n, λ asks. ap asked_in asks.words_are ∙ ap (option_map (λ n. judging n.0 n.1 n.2)) (three_taken d p n asks.domain_named asks.problem_named asks.plan_named));
  listing = λ words d p. (asks_listing words d p, λ asks. ap asked_in asks.words_are ∙ ap (option_map (λ n. listing n.0 n.1)) (two_taken d p asks.domain_named asks.problem_named));
  checking = λ words d p c. (asks_checking words d p c, λ asks. ap asked_in asks.words_are ∙ ap (option_map (λ n. checking n.0 n.1 n.2)) (three_taken d p c asks.domain_named asks.problem_named asks.cert_named));
  solving = λ words d p budget. (asks_solving words d p budget, solves words d p budget);
  proving = λ words d p budget version. (asks_proving words d p budget version, proves words d p budget version);
  trimming = λ words d p c. (asks_trimming words d p c, λ asks. ap asked_in asks.words_are ∙ ap (option_map (λ n. trimming n.0 n.1 n.2)) (three_taken d p c asks.domain_named asks.problem_named asks.cert_named));
  tightening = λ words d p n. (asks_tightening words d p n, λ asks. ap asked_in asks.words_are ∙ ap (option_map (λ n. tightening n.0 n.1 n.2)) (three_taken d p n asks.domain_named asks.problem_named asks.plan_named));
  explaining = λ words d p n. (asks_explaining words d p n, λ asks. ap asked_in asks.words_are ∙ ap (option_map (λ n. explaining n.0 n.1 n.2)) (three_taken d p n asks.domain_named asks.problem_named asks.plan_named));
  counting = λ words d p c. (asks_counting words d p c, λ asks. ap asked_in asks.words_are ∙ ap (option_map (λ n. counting n.0 n.1 n.2)) (three_taken d p c asks.domain_named asks.problem_named asks.cert_named));
  exporting = λ words d p. (asks_exporting words d p, λ asks. ap asked_in asks.words_are ∙ ap (option_map (λ n. exporting n.0 n.1)) (two_taken d p asks.domain_named asks.problem_named));
  json_validation = λ words t p. (asks_json_validation words t p, λ asks. ap asked_in asks.words_are ∙ ap (option_map (λ n. json_validation n.0 n.1)) (two_taken t p asks.task_named asks.plan_named));
  benching = λ words n. (asks_benching words n, λ asks. ap asked_in asks.words_are ∙ bench_of n asks.some asks.few);
}

-- options that keep their limits
pub record AreLimited (given : Options) : Type 0 where
  pub max : IfSome given.max (λ n. n ≤ 1000000)
  pub nodes : IfSome given.nodes (λ n. (1 ≤ n) × (n ≤ 4000000000))

limited : (all given : Options) (ws : List (List ℕ)) → AreLimited given → Gives all given ws → AreLimited all
limited all given ws h nothing = h
limited all given ws h (max g n more free high rest) = limited all (with_max g n) more (record { max = high; nodes = h.nodes }) rest
limited all given ws h (nodes g n more free low high rest) = limited all (with_nodes g n) more (record { max = h.max; nodes = (low, high) }) rest
limited all given ws h (one g more free rest) = limited all (with_version g One) more (record { max = h.max; nodes = h.nodes }) rest
limited all given ws h (two g more free rest) = limited all (with_version g Two) more (record { max = h.max; nodes = h.nodes }) rest

most_is : (o : Option ℕ) → IfSome o (λ n. n ≤ 1000000) → unwrap_or o 1000 ≤ 1000000
most_is None h = omega arith
most_is (Some n) h = h

nodes_are : (o : Option ℕ) → IfSome o (λ n. (1 ≤ n) × (n ≤ 4000000000)) → (1 ≤ unwrap_or o 1000000) × (unwrap_or o 1000000 ≤ 4000000000)
nodes_are None h = (omega arith, omega arith)
nodes_are (Some n) h = h

is_budget : (given : Options) → AreLimited given → IsBudget (budget_of given)
is_budget given h = let n = nodes_are given.nodes h.nodes in record { max = most_is given.max h.max; some = n.0; few = n.1 }

-- the options of what is asked for keep their limits
pub is_within : (words : List (List ℕ)) (asked : Asked) → asked_in words ≡ Some asked → IsWithin asked
is_within words (validation t p) h = tt
is_within words (judging d p n) h = tt
is_within words (listing d p) h = tt
is_within words (checking d p c) h = tt
is_within words (benching n) h = let asks = asks_benching words n h in (asks.some, asks.few)
is_within words (json_validation t p) h = tt
is_within words (exporting d p) h = tt
is_within words (counting d p c) h = tt
is_within words (explaining d p n) h = tt
is_within words (tightening d p n) h = tt
is_within words (trimming d p c) h = tt
is_within words (solving d p budget) h =
    let asks = asks_solving words d p budget h in
    subst IsBudget (sym asks.is) (is_budget asks.given (limited asks.given no_options asks.options (record { max = tt; nodes = tt }) asks.gives))
is_within words (proving d p budget version) h =
    let asks = asks_proving words d p budget version h in
    subst IsBudget (sym asks.is) (is_budget asks.given (limited asks.given no_options asks.options (record { max = tt; nodes = tt }) asks.gives))

pub within_of : (o : Option Command) (words : List (List ℕ)) → option_map asked_of o ≡ asked_in words → IfSome o (λ command. IsWithin (asked_of command))
within_of None words e = tt
within_of (Some command) words e = is_within words (asked_of command) (sym e)
