use Rattle.std.proofs.Common.{◌≡◌, ℕ, Bool, true, false, ◌==◌, List, [], ◌∷◌, ◌++◌, length, take, drop, All, refl, sym, ap, ◌∙◌}
use Rattle.std.specs.Prelude.{flat_map, ◌&&◌, if◌then◌else◌}
use Rattle.std.specs.List.{list_all}
use Rattle.std.proofs.lemmas.Bool.{and_parts, ne_eqb}
use Rattle.std.proofs.lemmas.List.{append_assoc, append_cancel_right}
use Rattle.std.proofs.lemmas.List.Elements.{All-head, All-tail}
use Rattle.std.proofs.Math.Seq.{take-append_seam, drop-append_seam}
use Rattle.cpt_line.specs.Names.{is_name, name_after, word_byte}
use Rattle.cpt_pddl.specs.Words.{is_word}
use Rattle.cpt_instance.specs.Instances.{group_of}
use Rattle.cpt_instance.specs.Named.{blank_at}
use Rattle.cpt_instance.proofs.WordNames.{word_of}
use Rattle.cpt_instance.proofs.Words.{IsWord, blank_spaced, blank_word}

-- names, a blank before each
abbrev pub spaced_names : List (List ℕ) → List ℕ
spaced_names names = flat_map (λ word. 32 ∷ word) names

-- words
abbrev pub AreWords : List (List ℕ) → Type 0
AreWords names = All (λ name. is_word name ≡ true) names

-- a byte of a word goes on a name
byte_case : (i : Bool) (b : ℕ) (rest : List ℕ) → word_byte b ≡ true → name_after i (b ∷ rest) ≡ name_after true rest
byte_case i b rest h =
    let not_close : (b == 41) ≡ false = ne_eqb b 41 (λ e. let s : word_byte 41 ≡ true = ap word_byte (sym e) ∙ h in cc) in
    let not_blank : (b == 32) ≡ false = ne_eqb b 32 (λ e. let s : word_byte 32 ≡ true = ap word_byte (sym e) ∙ h in cc) in
    ap (λ t. if◌then◌else◌ {A = Bool} t (i && (length rest == 0)) (if◌then◌else◌ {A = Bool} (b == 32) (i && name_after false rest) (word_byte b && name_after true rest))) not_close
    ∙ ap (λ t. if◌then◌else◌ {A = Bool} t (i && name_after false rest) (word_byte b && name_after true rest)) not_blank
    ∙ ap (λ t. t && name_after true rest) h

bytes_after : (bs rest : List ℕ) → list_all word_byte bs ≡ true → name_after true (bs ++ rest) ≡ name_after true rest
bytes_after [] rest h = refl
bytes_after (b ∷ bs) rest h =
    let parts = and_parts (word_byte b) (list_all word_byte bs) h in
    byte_case true b (bs ++ rest) parts.0 ∙ bytes_after bs rest parts.1

word_after : (i : Bool) (w rest : List ℕ) → is_word w ≡ true → name_after i (w ++ rest) ≡ name_after true rest
word_after i [] rest h = absurd (cc)
word_after i (b ∷ bs) rest h =
    let parts = and_parts (word_byte b) (list_all word_byte bs) h in
    byte_case i b (bs ++ rest) parts.0 ∙ bytes_after bs rest parts.1

spaced_after : (names : List (List ℕ)) → AreWords names → name_after true (spaced_names names ++ 41 ∷ []) ≡ true
spaced_after [] words = refl
spaced_after (n ∷ ns) words =
    let word : is_word n ≡ true = All-head (λ name. is_word name ≡ true) n ns words in
    ap (λ t. name_after false t) (append_assoc n (spaced_names ns) (41 ∷ []))
    ∙ word_after false n (spaced_names ns ++ 41 ∷ []) word
    ∙ spaced_after ns (All-tail (λ name. is_word name ≡ true) n ns words)

-- words in parentheses are a legal name
pub group_legal : (name : List ℕ) (names : List (List ℕ)) → is_word name ≡ true → AreWords names → is_name (group_of name names) ≡ true
group_legal name names word words = word_after false name (spaced_names names ++ 41 ∷ []) word ∙ spaced_after names words

-- what is between the parentheses
group_split : (name : List ℕ) (names : List (List ℕ)) → group_of name names ≡ 40 ∷ ((name ++ spaced_names names) ++ 41 ∷ [])
group_split name names = ap (λ w. 40 ∷ w) (sym (append_assoc name (spaced_names names) (41 ∷ [])))

-- a word and the names behind it
pub record SameWords (name other : List ℕ) (names others : List (List ℕ)) : Type 0 where
  pub first : name ≡ other
  pub rest : spaced_names names ≡ spaced_names others

same_words : (name other : List ℕ) (names others : List (List ℕ)) → IsWord name → IsWord other → name ++ spaced_names names ≡ other ++ spaced_names others → SameWords name other names others
same_words name other names others word word' e =
    let at_name : blank_at (name ++ spaced_names names) ≡ length name = blank_word name (spaced_names names) word (blank_spaced names) in
    let at_other : blank_at (other ++ spaced_names others) ≡ length other = blank_word other (spaced_names others) word' (blank_spaced others) in
    let front_name : take (blank_at (name ++ spaced_names names)) (name ++ spaced_names names) ≡ name = ap (λ n. take n (name ++ spaced_names names)) at_name ∙ take-append_seam name (spaced_names names) in
    let front_other : take (blank_at (other ++ spaced_names others)) (other ++ spaced_names others) ≡ other = ap (λ n. take n (other ++ spaced_names others)) at_other ∙ take-append_seam other (spaced_names others) in
    let back_name : drop (blank_at (name ++ spaced_names names)) (name ++ spaced_names names) ≡ spaced_names names = ap (λ n. drop n (name ++ spaced_names names)) at_name ∙ drop-append_seam name (spaced_names names) in
    let back_other : drop (blank_at (other ++ spaced_names others)) (other ++ spaced_names others) ≡ spaced_names others = ap (λ n. drop n (other ++ spaced_names others)) at_other ∙ drop-append_seam other (spaced_names others) in
    record {
      first = sym front_name ∙ ap (λ t. take (blank_at t) t) e ∙ front_other;
      rest = sym back_name ∙ ap (λ t. drop (blank_at t) t) e ∙ back_other;
    }

same_spaced : (names others : List (List ℕ)) → AreWords names → AreWords others → spaced_names names ≡ spaced_names others → names ≡ others
same_spaced [] [] words words' e = refl
same_spaced [] (o ∷ os) words words' e = absurd (cc)
same_spaced (n ∷ ns) [] words words' e = absurd (cc)
same_spaced (n ∷ ns) (o ∷ os) words words' e =
    let tails : n ++ spaced_names ns ≡ o ++ spaced_names os = cc in
    let w = same_words n o ns os (word_of n (All-head (λ name. is_word name ≡ true) n ns words)) (word_of o (All-head (λ name. is_word name ≡ true) o os words')) tails in
    let first : n ≡ o = w.first in
    let rest : ns ≡ os = same_spaced ns os (All-tail (λ name. is_word name ≡ true) n ns words) (All-tail (λ name. is_word name ≡ true) o os words') w.rest in
    cc

-- a group is known by its words
pub same_group : (name other : List ℕ) (names others : List (List ℕ)) → is_word name ≡ true → is_word other ≡ true → AreWords names → AreWords others → group_of name names ≡ group_of other others
    → (name ≡ other) × (names ≡ others)
same_group name other names others word word' words words' e =
    let whole : 40 ∷ ((name ++ spaced_names names) ++ 41 ∷ []) ≡ 40 ∷ ((other ++ spaced_names others) ++ 41 ∷ []) = sym (group_split name names) ∙ e ∙ group_split other others in
    let tails : (name ++ spaced_names names) ++ 41 ∷ [] ≡ (other ++ spaced_names others) ++ 41 ∷ [] = cc in
    let w = same_words name other names others (word_of name word) (word_of other word') (append_cancel_right (name ++ spaced_names names) (other ++ spaced_names others) (41 ∷ []) tails) in
    (w.first, same_spaced names others words words' w.rest)
