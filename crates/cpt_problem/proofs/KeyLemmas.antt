use Rattle.std.proofs.Common.{◌≡◌, ℕ, ◌++◌, ◌∷◌, [], Bool, true, false, nat_eq, List, refl, sym, ap, ◌∙◌, arith}
use Rattle.std.specs.Prelude.{if◌then◌else◌, ◌==◌, ◌&&◌, ◌||◌, Vec}
use Rattle.std.specs.declared.alloc.Global.{Global}
use Rattle.std.specs.List.{list_any}
use Rattle.std.specs.Str.{bytes_eq}
use Rattle.std.proofs.lemmas.Bool.Decides.{nat_tests}
use Rattle.std.proofs.lemmas.Slice.Eq.{bytes_eq-Decides}
use Rattle.indexmap.specs.IndexSet.{insert_key}
use Rattle.cpt_schema.specs.declared.durations.Lasting.TheVariants.{Fixed, Value}
use Rattle.cpt_schema.specs.declared.schemas.Schema.{Schema}
use Rattle.cpt_schema.specs.declared.terms.Term.{Term}
use Rattle.cpt_facts.specs.declared.problem.Valued.{Valued}
use Rattle.cpt_problem.specs.Inits.{has_value, same_args}
use Rattle.cpt_problem.specs.Keys.{AreDurationFunctions, AreKeysOf}
use Rattle.cpt_problem.specs.Tables.{is_duration_function, names_function}

or_false : (a : Bool) → (a || false) ≡ a
or_false true = refl
or_false false = refl

or_true : (a : Bool) → (a || true) ≡ true
or_true true = refl
or_true false = refl

if_or : (b x : Bool) → (if b then true else x) ≡ (b || x)
if_or true x = refl
if_or false x = refl

or_again : (a b c : Bool) → (a || (b || c)) ≡ ((a || b) || c)
or_again true b c = refl
or_again false b c = refl

any_end : {A : Type 0} (p : A → Bool) (xs : List A) (x : A) → list_any p (xs ++ x ∷ []) ≡ (list_any p xs || p x)
any_end p [] x = or_false (p x)
any_end p (y ∷ xs) x = ap (λ b. p y || b) (any_end p xs x) ∙ or_again (p y) (list_any p xs) (p x)

-- what is found among keys with one more, where the same key may be there
any_inserted : {A : Type 0} (eq : A → A → Bool) (p : A → Bool) (xs : List A) (x : A) → (p x ≡ true → list_any p xs ≡ list_any (eq x) xs)
    → list_any p (insert_key eq xs x) ≡ (list_any p xs || p x)
any_inserted eq p xs x same = by (list_any (eq x) xs) refl
  where
    there : (b : Bool) → p x ≡ b → list_any (eq x) xs ≡ true → list_any p xs ≡ (list_any p xs || b)
    there true e f = let g = same e ∙ f in g ∙ sym (or_true (list_any p xs))
    there false e f = sym (or_false (list_any p xs))

    by : (b : Bool) → list_any (eq x) xs ≡ b → list_any p (if b then xs else xs ++ x ∷ []) ≡ (list_any p xs || p x)
    by true f = there (p x) refl f
    by false f = any_end p xs x

same_objects : (a b : List ℕ) → bytes_eq a b ≡ same_args b a
same_objects [] [] = refl
same_objects [] (y ∷ ys) = refl
same_objects (x ∷ xs) [] = refl
same_objects (x ∷ xs) (y ∷ ys) =
    let turned : nat_eq x y ≡ nat_eq y x = grind (arith, nat_tests) in
    ap (λ b. b && bytes_eq xs ys) turned ∙ ap (λ b. nat_eq y x && b) (same_objects xs ys)

value_end : (vs : List Valued) (v : Valued) (func : ℕ) (args : List ℕ) → has_value (vs ++ v ∷ []) func args ≡ (has_value vs func args || bytes_eq (func ∷ args) (v.func ∷ v.args))
value_end [] v func args = if_or ((v.func == func) && same_args v.args args) false ∙ or_false ((v.func == func) && same_args v.args args) ∙ sym (same_objects (func ∷ args) (v.func ∷ v.args))
value_end (u ∷ vs) v func args =
    let test = (u.func == func) && same_args u.args args in
    let last = bytes_eq (func ∷ args) (v.func ∷ v.args) in
    ap (λ b. if test then true else b) (value_end vs v func args)
    ∙ if_or test (has_value vs func args || last) ∙ or_again test (has_value vs func args) last
    ∙ ap (λ b. b || last) (sym (if_or test (has_value vs func args)))

-- keys of values with one more
pub keys_more : (vs : List Valued) (keys : List (Vec ℕ Global)) (v : Valued) (key : Vec ℕ Global) → AreKeysOf vs keys → key.items ≡ v.func ∷ v.args
    → AreKeysOf (vs ++ v ∷ []) (insert_key (λ (a b : Vec ℕ Global). bytes_eq a.items b.items) keys key)
keys_more vs keys v key h is func args =
    let test = λ (k : Vec ℕ Global). bytes_eq (func ∷ args) k.items in
    let eq = λ (a b : Vec ℕ Global). bytes_eq a.items b.items in
    let same : test key ≡ true → list_any test keys ≡ list_any (eq key) keys = λ t.
    let e : func ∷ args ≡ key.items = (bytes_eq-Decides (func ∷ args) key.items).0 t in ap (λ (word : List ℕ). list_any (λ (k : Vec ℕ Global). bytes_eq word k.items) keys) e in
    any_inserted eq test keys key same
    ∙ ap (λ b. b || test key) (h func args)
    ∙ ap (λ (word : List ℕ). has_value vs func args || bytes_eq (func ∷ args) word) is
    ∙ sym (value_end vs v func args)

-- functions with one more
pub functions_more : (functions : List ℕ) (x func : ℕ) → list_any (nat_eq func) (insert_key nat_eq functions x) ≡ (list_any (nat_eq func) functions || nat_eq func x)
functions_more functions x func =
    let same : nat_eq func x ≡ true → list_any (nat_eq func) functions ≡ list_any (nat_eq x) functions = λ t. let e : func ≡ x = grind (arith, nat_tests) in ap (λ (n : ℕ). list_any (nat_eq n) functions) e in
    any_inserted nat_eq (nat_eq func) functions x same

-- neither the values nor their keys changed
pub keys_kept : (vs more : List Valued) (keys keys' : List (Vec ℕ Global)) → AreKeysOf vs keys → more ≡ vs → keys' ≡ keys → AreKeysOf more keys'
keys_kept vs more keys keys' h e f func args =
    ap (list_any (λ (k : Vec ℕ Global). bytes_eq (func ∷ args) k.items)) f ∙ h func args ∙ ap (λ (ws : List Valued). has_value ws func args) (sym e)

-- a value came in with its key
pub keys_inserted : (vs more : List Valued) (keys keys' : List (Vec ℕ Global)) (v : Valued) (key : Vec ℕ Global) → AreKeysOf vs keys → key.items ≡ v.func ∷ v.args
    → more ≡ vs ++ v ∷ [] → keys' ≡ insert_key (λ (a b : Vec ℕ Global). bytes_eq a.items b.items) keys key → AreKeysOf more keys'
keys_inserted vs more keys keys' v key h is e f =
    keys_kept (vs ++ v ∷ []) more (insert_key (λ (a b : Vec ℕ Global). bytes_eq a.items b.items) keys key) keys' (keys_more vs keys v key h is) e f

-- no values have no keys
pub keys_none : (vs : List Valued) (keys : List (Vec ℕ Global)) → vs ≡ [] → keys ≡ [] → AreKeysOf vs keys
keys_none vs keys e f = keys_kept [] vs [] keys (λ func args. refl) e f

-- the functions of so many schemas, and of those that follow
abbrev pub AreSoFar : List Schema → List Schema → List ℕ → Type 0
AreSoFar schemas rest functions = (func : ℕ) → (list_any (nat_eq func) functions || is_duration_function rest func) ≡ is_duration_function schemas func

so_far_more : (schemas rest : List Schema) (s : Schema) (functions more : List ℕ) → AreSoFar schemas (s ∷ rest) functions
    → ((func : ℕ) → list_any (nat_eq func) more ≡ (list_any (nat_eq func) functions || names_function s.dur func)) → AreSoFar schemas rest more
so_far_more schemas rest s functions more h e func =
    ap (λ b. b || is_duration_function rest func) (e func)
    ∙ sym (or_again (list_any (nat_eq func) functions) (names_function s.dur func) (is_duration_function rest func))
    ∙ ap (λ b. list_any (nat_eq func) functions || b) (sym (if_or (names_function s.dur func) (is_duration_function rest func)))
    ∙ h func

-- a schema with a number for a duration names no function
pub so_far_fixed : (schemas rest : List Schema) (s : Schema) (n : ℕ) (functions : List ℕ) → s.dur ≡ Fixed n → AreSoFar schemas (s ∷ rest) functions → AreSoFar schemas rest functions
so_far_fixed schemas rest s n functions is h =
    so_far_more schemas rest s functions functions h (λ func. sym (ap (λ l. list_any (nat_eq func) functions || names_function l func) is ∙ or_false (list_any (nat_eq func) functions)))

-- a schema whose duration is a value names its function
pub so_far_value : (schemas rest : List Schema) (s : Schema) (x : ℕ) (terms : List Term) (functions more : List ℕ) → s.dur ≡ Value x terms → more ≡ insert_key nat_eq functions x
    → AreSoFar schemas (s ∷ rest) functions → AreSoFar schemas rest more
so_far_value schemas rest s x terms functions more is e h =
    so_far_more schemas rest s functions more h
    (λ func. ap (list_any (nat_eq func)) e ∙ functions_more functions x func
    ∙ ap (λ b. list_any (nat_eq func) functions || b) (let turned : nat_eq func x ≡ nat_eq x func = grind (arith, nat_tests) in turned)
    ∙ sym (ap (λ l. list_any (nat_eq func) functions || names_function l func) is))

-- behind the last schema the functions are those of all
pub so_far_all : (schemas rest : List Schema) (functions : List ℕ) → rest ≡ [] → AreSoFar schemas rest functions → AreDurationFunctions schemas functions
so_far_all schemas rest functions e h func =
    sym (or_false (list_any (nat_eq func) functions)) ∙ ap (λ (r : List Schema). list_any (nat_eq func) functions || is_duration_function r func) (sym e) ∙ h func

-- before the first schema there are no functions
pub so_far_none : (schemas : List Schema) (functions : List ℕ) → functions ≡ [] → AreSoFar schemas schemas functions
so_far_none schemas functions e func = ap (λ (fs : List ℕ). list_any (nat_eq func) fs || is_duration_function schemas func) e
