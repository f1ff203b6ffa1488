-- An array has no more items than its text has bytes.
use Rattle.std.proofs.Common.{◌≡◌, ℕ, zero, suc, ◌+◌, ◌≤◌, Bool, true, false, List, [], ◌∷◌, length, map, Option, None, Some, option_map, option_and_then, refl, sym, ap, ◌∙◌, subst, arith}
use Rattle.json.specs.Json as json
use Rattle.json.specs.Lex.{Lexeme, token, comma, colon, Class, quote, backslash, operator, space, other, class, Mode, between, in_word, in_string, in_escape, lex_byte, lex, Place, fresh, after_value, after_comma, after_key, begins_colon, if_allowed, may_begin, may_close, place_token, punctuate, tokens}
use Rattle.json.specs.Token.{Token}
use Rattle.serde_json.specs.Data.{Num, Data, number, array, object, Items, no_items, item, Members, no_members}
use Rattle.serde_json.specs.Read.{number_of, of_json, of_items, of_members, max_depth, read}
use Rattle.serde_json.specs.View.{items_of}
use Rattle.cpt_json_form.specs.declared.item.PlanItem.{PlanItem}
use Rattle.cpt_json_form.specs.Reading.{IsValueOf}
use Rattle.cpt_json_form.specs.Values.{item_value, plan_value}

-- how many items there are
abbrev count : json.Items → ℕ
count json.no_items = 0
count (json.item j js) = suc (count js)

abbrev data_count : Items → ℕ
data_count no_items = 0
data_count (item d ds) = suc (data_count ds)

-- ---- bytes and tokens

lexed : (m : Mode) (c : Class) (x n : ℕ) (xs : List ℕ) (k : Mode → List Lexeme) → ((next : Mode) → length (k next) ≤ n) → length (lex_byte m c x xs k) ≤ suc n
lexed between quote x n xs k h = omega (arith, h in_string)
lexed between backslash x n xs k h = omega (arith, h in_word)
lexed between operator x n xs k h = omega (arith, h between)
lexed between space x n xs k h = omega (arith, h between)
lexed between other x n xs k h = omega (arith, h in_word)
lexed in_word quote x n xs k h = omega (arith, h in_word)
lexed in_word backslash x n xs k h = omega (arith, h in_word)
lexed in_word operator x n xs k h = omega (arith, h between)
lexed in_word space x n xs k h = omega (arith, h between)
lexed in_word other x n xs k h = omega (arith, h in_word)
lexed in_string quote x n xs k h = omega (arith, h between)
lexed in_string backslash x n xs k h = omega (arith, h in_escape)
lexed in_string operator x n xs k h = omega (arith, h in_string)
lexed in_string space x n xs k h = omega (arith, h in_string)
lexed in_string other x n xs k h = omega (arith, h in_string)
lexed in_escape c x n xs k h = omega (arith, h in_string)

lexemes : (m : Mode) (xs : List ℕ) → length (lex m xs) ≤ length xs
unfolding lex
lexemes m [] = omega arith
lexemes m (x ∷ xs) = lexed m (class x) x (length xs) xs (λ next. lex next xs) (λ next. lexemes next xs)

allowed : (b : Bool) (t : Token) (n : ℕ) (k : Place → List Token) (next : Place) → ((p : Place) → length (k p) ≤ n) → length (if_allowed b t k next) ≤ suc n
allowed true t n k next h = omega (arith, h next)
allowed false t n k next h = omega arith

placed : (p : Place) (t : Token) (b : Bool) (n : ℕ) (k : Place → List Token) → ((q : Place) → length (k q) ≤ n) → length (place_token p t b k) ≤ suc n
placed p Token.begin_object b n k h = allowed (may_begin p) _ n k fresh h
placed p Token.end_object b n k h = allowed (may_close p) _ n k after_value h
placed p Token.begin_array b n k h = allowed (may_begin p) _ n k fresh h
placed p Token.end_array b n k h = allowed (may_close p) _ n k after_value h
placed p (Token.key s) b n k h = omega arith
placed p (Token.string s) true n k h = allowed (may_begin p) _ n k after_key h
placed p (Token.string s) false n k h = allowed (may_begin p) _ n k after_value h
placed p (Token.number s) b n k h = allowed (may_begin p) _ n k after_value h
placed p (Token.boolean c) b n k h = allowed (may_begin p) _ n k after_value h
placed p Token.null b n k h = allowed (may_begin p) _ n k after_value h
placed p Token.bad b n k h = omega arith

punctuated : (p : Place) (ls : List Lexeme) → length (punctuate p ls) ≤ suc (length ls)
unfolding punctuate
punctuated fresh [] = omega arith
punctuated after_value [] = omega arith
punctuated after_comma [] = omega arith
punctuated after_key [] = omega arith
punctuated fresh (token t ∷ ls) = placed fresh t (begins_colon ls) (suc (length ls)) (λ next. punctuate next ls) (λ q. punctuated q ls)
punctuated after_value (token t ∷ ls) = placed after_value t (begins_colon ls) (suc (length ls)) (λ next. punctuate next ls) (λ q. punctuated q ls)
punctuated after_comma (token t ∷ ls) = placed after_comma t (begins_colon ls) (suc (length ls)) (λ next. punctuate next ls) (λ q. punctuated q ls)
punctuated after_key (token t ∷ ls) = placed after_key t (begins_colon ls) (suc (length ls)) (λ next. punctuate next ls) (λ q. punctuated q ls)
punctuated fresh (comma ∷ ls) = omega arith
punctuated after_value (comma ∷ ls) = omega (arith, punctuated after_comma ls)
punctuated after_comma (comma ∷ ls) = omega arith
punctuated after_key (comma ∷ ls) = omega arith
punctuated fresh (colon ∷ ls) = omega arith
punctuated after_value (colon ∷ ls) = omega arith
punctuated after_comma (colon ∷ ls) = omega arith
punctuated after_key (colon ∷ ls) = omega (arith, punctuated fresh ls)

token_count : (text : List ℕ) → length (tokens text) ≤ suc (length text)
token_count text = omega (arith, punctuated fresh (lex between text), lexemes between text)

-- ---- tokens and items

abbrev Found : Type 0
Found = Option (json.Items × List Token)

same_some : {A : Type 0} (x y : A) → Some x ≡ Some y → x ≡ y
same_some x y e = cc

same_first : {A B : Type 0} (p q : A × B) → Some p ≡ Some q → p.0 ≡ q.0
same_first p q e = ap (λ r. r.0) (same_some p q e)

more_items : (n : ℕ) (j : json.Json) (o : Found) → ((js : json.Items) (r : List Token) → o ≡ Some (js, r) → count js ≤ n) → (js : json.Items) (r : List Token) → json.parse_map (json.item j) o ≡ Some (js, r) → count js ≤ suc n
more_items n j None h js r e = absurd cc
more_items n j (Some (ks, s)) h js r e = subst (λ x. count x ≤ suc n) (same_first (json.item j ks, s) (js, r) e) (omega (arith, h ks s refl))

first_item : (n : ℕ) (more : json.Parse json.Items) (o : Option (json.Json × List Token)) → ((ts : List Token) (js : json.Items) (r : List Token) → more ts ≡ Some (js, r) → count js ≤ n) → (js : json.Items) (r : List Token)
    → option_and_then (λ p. json.parse_map (json.item p.0) (more p.1)) o ≡ Some (js, r) → count js ≤ suc n
first_item n more None h js r e = absurd cc
first_item n more (Some (j, ts)) h js r e = more_items n j (more ts) (h ts) js r e

step_items : (n : ℕ) (value : json.Parse json.Json) (more : json.Parse json.Items) (ts : List Token) (end : Option (List Token)) → ((ts : List Token) (js : json.Items) (r : List Token) → more ts ≡ Some (js, r) → count js ≤ n) → (js : json.Items) (r : List Token)
    → json.items_step value more ts end ≡ Some (js, r) → count js ≤ suc n
step_items n value more ts (Some rest) h js r e =
    subst (λ x. count x ≤ suc n) (same_first (json.no_items, rest) (js, r) e) (omega arith)
step_items n value more ts None h js r e = first_item n more (value ts) h js r e

counted : (value : json.Parse json.Json) (n : ℕ) (ts : List Token) (js : json.Items) (r : List Token) → json.items value n ts ≡ Some (js, r) → count js ≤ n
unfolding json.items
counted value zero ts js r e = absurd cc
counted value (suc n) ts js r e = step_items n value (json.items value n) ts (json.after_end_array ts) (λ us ks s k. counted value n us ks s k) js r e

same_items : (js ks : json.Items) → json.array js ≡ json.array ks → js ≡ ks
same_items js ks e = cc

array_of : (n : ℕ) (o : Found) → ((js : json.Items) (r : List Token) → o ≡ Some (js, r) → count js ≤ n) → (js : json.Items) (r : List Token) → json.parse_map json.array o ≡ Some (json.array js, r) → count js ≤ n
array_of n None h js r e = absurd cc
array_of n (Some (ks, s)) h js r e = subst (λ x. count x ≤ n) (same_items ks js (same_first (json.array ks, s) (json.array js, r) e)) (h ks s refl)

no_array : (o : Option (json.Members × List Token)) (js : json.Items) (r : List Token) → json.parse_map json.object o ≡ Some (json.array js, r) → ⊥
no_array None js r e = cc
no_array (Some (ms, s)) js r e = let same : json.object ms ≡ json.array js = same_first (json.object ms, s) (json.array js, r) e in cc

abbrev of_array : ℕ → json.Parse json.Items
of_array depth ts = json.items (json.value depth) (length ts) ts

abbrev of_object : ℕ → json.Parse json.Members
of_object depth ts = json.members (json.value depth) (length ts) ts

same_value : (p : json.Json × List Token) (js : json.Items) (s : List Token) → Some p ≡ Some (json.array js, s) → p.0 ≡ json.array js
same_value p js s e = same_first p (json.array js, s) e

by_token : (depth : ℕ) (ts : List Token) (js : json.Items) (r : List Token) → json.value_with (of_array depth) (of_object depth) ts ≡ Some (json.array js, r) → suc (count js) ≤ length ts
by_token depth [] js r e = absurd cc
by_token depth (Token.begin_object ∷ ts) js r e = absurd (no_array (of_object depth ts) js r e)
by_token depth (Token.end_object ∷ ts) js r e = absurd cc
by_token depth (Token.begin_array ∷ ts) js r e = omega (arith, array_of (length ts) (of_array depth ts) (λ ks s k. counted (json.value depth) (length ts) ts ks s k) js r e)
by_token depth (Token.end_array ∷ ts) js r e = absurd cc
by_token depth (Token.key s ∷ ts) js r e = absurd cc
by_token depth (Token.string s ∷ ts) js r e = let not = same_value (json.string s, ts) js r e in absurd cc
by_token depth (Token.number s ∷ ts) js r e = let not = same_value (json.number s, ts) js r e in absurd cc
by_token depth (Token.boolean b ∷ ts) js r e = let not = same_value (json.boolean b, ts) js r e in absurd cc
by_token depth (Token.null ∷ ts) js r e = let not = same_value (json.null, ts) js r e in absurd cc
by_token depth (Token.bad ∷ ts) js r e = absurd cc

value_is : (depth : ℕ) (ts : List Token) → json.value (suc depth) ts ≡ json.value_with (of_array depth) (of_object depth) ts
unfolding json.value
value_is depth ts = refl

array_tokens : (depth : ℕ) (ts : List Token) (js : json.Items) (r : List Token) → json.value (suc depth) ts ≡ Some (json.array js, r) → suc (count js) ≤ length ts
array_tokens depth ts js r e = by_token depth ts js r (sym (value_is depth ts) ∙ e)

-- ---- items and data

joined : (js : json.Items) (o : Option Data) (p : Option Items) (ds : Items) → ((es : Items) → p ≡ Some es → count js ≡ data_count es) → option_and_then (λ d. option_map (item d) p) o ≡ Some ds → suc (count js) ≡ data_count ds
joined js None p ds h e = absurd cc
joined js (Some d) None ds h e = absurd cc
joined js (Some d) (Some es) ds h e = ap suc (h es refl) ∙ ap data_count (same_some (item d es) ds e)

same_count_of : (js : json.Items) (ds : Items) → of_items js ≡ Some ds → count js ≡ data_count ds
same_count_of json.no_items ds e = ap data_count (same_some no_items ds e)
same_count_of (json.item j js) ds e = joined js (of_json j) (of_items js) ds (λ es k. same_count_of js es k) e

read_parts : (o : Option (json.Json × List Token)) (d : Data) → option_and_then of_json (option_and_then (λ p. json.if_last p.0 p.1) o) ≡ Some d → (j : json.Json) × (o ≡ Some (j, [])) × (of_json j ≡ Some d)
read_parts None d e = absurd cc
read_parts (Some (j, [])) d e = (j, refl, e)
read_parts (Some (j, t ∷ ts)) d e = absurd cc

no_number : (o : Option Num) (ds : Items) → option_map number o ≡ Some (array ds) → ⊥
no_number None ds e = cc
no_number (Some n) ds e = cc

no_object : (o : Option Members) (ds : Items) → option_map object o ≡ Some (array ds) → ⊥
no_object None ds e = cc
no_object (Some ms) ds e = cc

array_items : (o : Option Items) (ds : Items) → option_map array o ≡ Some (array ds) → o ≡ Some ds
array_items None ds e = absurd cc
array_items (Some es) ds e = let same : es ≡ ds = cc in ap Some same

array_parts : (j : json.Json) (ds : Items) → of_json j ≡ Some (array ds) → (js : json.Items) × (j ≡ json.array js) × (of_items js ≡ Some ds)
array_parts json.null ds e = absurd cc
array_parts (json.boolean b) ds e = absurd cc
array_parts (json.number s) ds e = absurd (no_number (number_of s) ds e)
array_parts (json.string s) ds e = absurd cc
array_parts (json.array js) ds e = (js, refl, array_items (of_items js) ds e)
array_parts (json.object ms) ds e = absurd (no_object (of_members ms no_members) ds e)

array_count : (text : List ℕ) (ds : Items) → read text ≡ Some (array ds) → data_count ds ≤ length text
array_count text ds e =
    let p = read_parts (json.value max_depth (tokens text)) (array ds) e in
    let q = array_parts p.0 ds p.2 in
    let few = array_tokens 126 (tokens text) q.0 [] (p.1 ∙ ap (λ j. Some (j, [])) q.1) in
    omega (arith, few, token_count text, same_count_of q.0 ds q.2)

count_of_list : {A : Type 0} (value : A → Data) (xs : List A) → data_count (items_of (map value xs)) ≡ length xs
count_of_list value [] = refl
count_of_list value (x ∷ xs) = ap suc (count_of_list value xs)

-- a plan has no more items than its text has bytes
pub plan_short : (text : List ℕ) (items : List PlanItem) → IsValueOf text (plan_value items) → length items ≤ length text
plan_short text items h = omega (arith, array_count text (items_of (map item_value items)) h.reads, count_of_list item_value items)
