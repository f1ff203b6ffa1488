use Rattle.std.proofs.Common.{◌≡◌, ◌≢◌, ℕ, ◌+◌, ◌-◌, ◌<◌, ◌≤◌, List, [], ◌∷◌, ◌++◌, length, take, take_all, drop, All, Option, None, Some, sym, ap, ◌∙◌, subst, arith, length-drop}
use Rattle.std.specs.Prelude.{MatchOption, slice_index_or}
use Rattle.std.proofs.lemmas.List.{length-map, take-append-drop, append_assoc, append_cancel_right}
use Rattle.std.proofs.Math.ListN.{get_or-map}
use Rattle.std.proofs.Math.Seq.{take-append_seam, drop-append_seam}
use Rattle.cpt_schema.specs.declared.schemas.Schema.{Schema}
use Rattle.cpt_domain.specs.declared.domain.Domain.{Domain}
use Rattle.cpt_facts.specs.declared.problem.Problem.{Problem}
use Rattle.cpt_facts.specs.Fitting.{Fits}
use Rattle.cpt_pddl.specs.Names.{place_from}
use Rattle.cpt_instance.specs.Instances.{Instance, HasDuration, TestHolds, instance_name, names_of, no_schema, schema_at}
use Rattle.cpt_instance.specs.Named.{IsBehind, IsInside, IsNamed, blank_at, read_args, schema_names}
use Rattle.cpt_instance.proofs.Reading.{ReadsArgs, args_are_read, reads_args, spaced}
use Rattle.cpt_instance.proofs.Words.{IsWord, StandsAt, blank_spaced, blank_word, place_complete, place_found}
use Rattle.cpt_instance.proofs.WordNames.{HasWords}

pub behind_is_read : (d : Domain) (p : Problem) (k : ℕ) (text : List ℕ) (dur : ℕ) (args : List ℕ) → Fits d p → HasWords d p → IsBehind d p k text dur args
    → read_args d p (schema_at d k).kinds text ≡ Some args
behind_is_read d p k text dur args fits words b =
    ap (read_args d p (schema_at d k).kinds) b.text_is ∙ args_are_read d p (schema_at d k).kinds args fits.names words.objects b.instance.typed.args

-- where the objects cannot be read there is no instance
pub none_read : (d : Domain) (p : Problem) (k : ℕ) (schema : Schema) (text : List ℕ) → Fits d p → HasWords d p → schema ≡ schema_at d k
    → read_args d p schema.kinds text ≡ None → (dur : ℕ) (args : List ℕ) → IsBehind d p k text dur args → ⊥
none_read d p k schema text fits words e h dur args b =
    let none : read_args d p (schema_at d k).kinds text ≡ None = subst (λ (s : Schema). read_args d p s.kinds text ≡ None) e h in
    let some : read_args d p (schema_at d k).kinds text ≡ Some args = behind_is_read d p k text dur args fits words b in
    cc (none, some)

behind_cases : (d : Domain) (p : Problem) (k : ℕ) (text ns : List ℕ) (r : Option ℕ) → Fits d p → HasWords d p → k < length d.schemas
    → read_args d p (schema_at d k).kinds text ≡ Some ns
    → MatchOption r ((dur : ℕ) → All (TestHolds ns) (schema_at d k).tests → HasDuration p ns (schema_at d k).dur dur → ⊥) (λ dur. All (TestHolds ns) (schema_at d k).tests × HasDuration p ns (schema_at d k).dur dur)
    → MatchOption r ((dur : ℕ) (args : List ℕ) → IsBehind d p k text dur args → ⊥) (λ dur. (args : List ℕ) × IsBehind d p k text dur args)
behind_cases d p k text ns None fits words lt read h = λ dur args b.
    let some : read_args d p (schema_at d k).kinds text ≡ Some args = behind_is_read d p k text dur args fits words b in
    let same : args ≡ ns = cc (some, read) in
    h dur (subst (λ xs. All (TestHolds xs) (schema_at d k).tests) same b.instance.tests) (subst (λ xs. HasDuration p xs (schema_at d k).dur dur) same b.timed)
behind_cases d p k text ns (Some dur) fits words lt read h =
    let w : ReadsArgs d p (schema_at d k).kinds text ns = reads_args d p (schema_at d k).kinds text ns read in (
      ns,
      record {
        instance = record { typed = record { schema = lt; args = w.objects }; tests = h.0; timed = (dur, h.1) };
        text_is = w.text_is;
        timed = h.1;
      },
    )

-- the objects are read: the tests and the duration decide
pub behind_timed : (d : Domain) (p : Problem) (k : ℕ) (schema : Schema) (text ns : List ℕ) (r : Option ℕ) → Fits d p → HasWords d p → k < length d.schemas → schema ≡ schema_at d k
    → read_args d p schema.kinds text ≡ Some ns
    → MatchOption r ((dur : ℕ) → All (TestHolds ns) schema.tests → HasDuration p ns schema.dur dur → ⊥) (λ dur. All (TestHolds ns) schema.tests × HasDuration p ns schema.dur dur)
    → MatchOption r ((dur : ℕ) (args : List ℕ) → IsBehind d p k text dur args → ⊥) (λ dur. (args : List ℕ) × IsBehind d p k text dur args)
behind_timed d p k schema text ns r fits words lt e read h =
    behind_cases d p k text ns r fits words lt (subst (λ (s : Schema). read_args d p s.kinds text ≡ Some ns) e read)
    (subst (λ (s : Schema). MatchOption r ((dur : ℕ) → All (TestHolds ns) s.tests → HasDuration p ns s.dur dur → ⊥) (λ dur. All (TestHolds ns) s.tests × HasDuration p ns s.dur dur)) e h)

schema_name_at : (d : Domain) (k : ℕ) → slice_index_or (schema_names d) k [] ≡ (schema_at d k).name
schema_name_at d k = get_or-map (λ (s : Schema). s.name) d.schemas k no_schema

-- the text begins with the schema's name
pub record Head (d : Domain) (p : Problem) (text : List ℕ) (i : Instance) : Type 0 where
  pub front : take (blank_at text) text ≡ (schema_at d i.schema).name
  pub behind : drop (blank_at text) text ≡ spaced d p i.args
  pub placed : place_from (schema_names d) 0 (take (blank_at text) text) ≡ Some i.schema

pub head_of : (d : Domain) (p : Problem) (text : List ℕ) (dur : ℕ) (i : Instance) → HasWords d p → IsInside d p text dur i → Head d p text i
head_of d p text dur i words b =
    let known : i.schema < length (schema_names d) = subst (λ n. i.schema < n) (sym (length-map d.schemas (λ (s : Schema). s.name))) b.instance.typed.schema in
    let word : IsWord (schema_at d i.schema).name = subst IsWord (schema_name_at d i.schema) (words.schemas i.schema [] known) in
    let blank : blank_at ((schema_at d i.schema).name ++ spaced d p i.args) ≡ length (schema_at d i.schema).name = blank_word (schema_at d i.schema).name (spaced d p i.args) word (blank_spaced (names_of d p i.args)) in
    let front : take (blank_at text) text ≡ (schema_at d i.schema).name =
    ap (λ t. take (blank_at t) t) b.text_is ∙ ap (λ n. take n ((schema_at d i.schema).name ++ spaced d p i.args)) blank ∙ take-append_seam (schema_at d i.schema).name (spaced d p i.args) in
    record {
      front = front;
      behind = ap (λ t. drop (blank_at t) t) b.text_is ∙ ap (λ n. drop n ((schema_at d i.schema).name ++ spaced d p i.args)) blank ∙ drop-append_seam (schema_at d i.schema).name (spaced d p i.args);
      placed = ap (place_from (schema_names d) 0) (front ∙ sym (schema_name_at d i.schema)) ∙ place_complete (schema_names d) 0 i.schema words.different known ∙ ap Some (let z : 0 + i.schema ≡ i.schema = omega arith in z);
    }

-- where no schema has the name there is no instance
pub no_schema_named : (d : Domain) (p : Problem) (text : List ℕ) → HasWords d p → None ≡ place_from (schema_names d) 0 (take (blank_at text) text)
    → (dur : ℕ) (i : Instance) → IsInside d p text dur i → ⊥
no_schema_named d p text words h dur i b =
    let some : place_from (schema_names d) 0 (take (blank_at text) text) ≡ Some i.schema = (head_of d p text dur i words b).placed in
    cc (h, some)

pub known_schema : (d : Domain) (word : List ℕ) (k : ℕ) → Some k ≡ place_from (schema_names d) 0 word → k < length d.schemas
known_schema d word k h =
    let s : StandsAt (schema_names d) 0 word k = place_found (schema_names d) 0 word k (sym h) in
    let number : k ≡ 0 + s.place = s.number in
    let within : s.place < length (schema_names d) = s.within in
    omega (arith, length-map d.schemas (λ (x : Schema). x.name))

-- the schema is found: what is behind its name decides
pub inside_schema : (d : Domain) (p : Problem) (text : List ℕ) (k : ℕ) (r : Option ℕ) → HasWords d p → Some k ≡ place_from (schema_names d) 0 (take (blank_at text) text)
    → MatchOption r ((dur : ℕ) (args : List ℕ) → IsBehind d p k (drop (blank_at text) text) dur args → ⊥) (λ dur. (args : List ℕ) × IsBehind d p k (drop (blank_at text) text) dur args)
    → MatchOption r ((dur : ℕ) (i : Instance) → IsInside d p text dur i → ⊥) (λ dur. (i : Instance) × IsInside d p text dur i)
inside_schema d p text k None words found h = λ dur i b.
    let w : Head d p text i = head_of d p text dur i words b in
    let placed : place_from (schema_names d) 0 (take (blank_at text) text) ≡ Some i.schema = w.placed in
    let same : i.schema ≡ k = cc (placed, found) in
    let there : IsBehind d p i.schema (drop (blank_at text) text) dur i.args = record { instance = b.instance; text_is = w.behind; timed = b.timed } in
    h dur i.args (subst (λ n. IsBehind d p n (drop (blank_at text) text) dur i.args) same there)
inside_schema d p text k (Some dur) words found h =
    let s : StandsAt (schema_names d) 0 (take (blank_at text) text) k = place_found (schema_names d) 0 (take (blank_at text) text) k (sym found) in
    let at : k ≡ s.place = let w : k ≡ 0 + s.place = s.number in omega arith in
    let front : (schema_at d k).name ≡ take (blank_at text) text = sym (schema_name_at d k) ∙ ap (λ n. slice_index_or (schema_names d) n []) at ∙ s.same in (
      record { schema = k; args = h.0 },
      record {
        instance = h.1.instance;
        text_is = sym (take-append-drop (blank_at text) text) ∙ ap (λ w. w ++ drop (blank_at text) text) (sym front) ∙ ap (λ w. (schema_at d k).name ++ w) h.1.text_is;
        timed = h.1.timed;
      },
    )

pub name_split : (d : Domain) (p : Problem) (i : Instance) → instance_name d p i ≡ 40 ∷ (((schema_at d i.schema).name ++ spaced d p i.args) ++ (41 ∷ []))
name_split d p i = ap (λ w. 40 ∷ w) (sym (append_assoc (schema_at d i.schema).name (spaced d p i.args) (41 ∷ [])))

-- without parentheses it is no instance's name
pub not_inside : (d : Domain) (p : Problem) (name : List ℕ) → ((text : List ℕ) → name ≢ 40 ∷ (text ++ (41 ∷ []))) → (dur : ℕ) (i : Instance) → IsNamed d p name dur i → ⊥
not_inside d p name h dur i b = h ((schema_at d i.schema).name ++ spaced d p i.args) (b.name_is ∙ name_split d p i)

pub named_inside : (d : Domain) (p : Problem) (name text : List ℕ) (r : Option ℕ) → name ≡ 40 ∷ (text ++ (41 ∷ []))
    → MatchOption r ((dur : ℕ) (i : Instance) → IsInside d p text dur i → ⊥) (λ dur. (i : Instance) × IsInside d p text dur i)
    → MatchOption r ((dur : ℕ) (i : Instance) → IsNamed d p name dur i → ⊥) (λ dur. (i : Instance) × IsNamed d p name dur i)
named_inside d p name text None e h = λ dur i b.
    let whole : 40 ∷ (text ++ (41 ∷ [])) ≡ 40 ∷ (((schema_at d i.schema).name ++ spaced d p i.args) ++ (41 ∷ [])) = sym e ∙ b.name_is ∙ name_split d p i in
    let inner : text ++ (41 ∷ []) ≡ ((schema_at d i.schema).name ++ spaced d p i.args) ++ (41 ∷ []) = cc in
    h dur i (record { instance = b.instance; text_is = append_cancel_right text ((schema_at d i.schema).name ++ spaced d p i.args) (41 ∷ []) inner; timed = b.timed })
named_inside d p name text (Some dur) e h = (
  h.0,
  record {
    instance = h.1.instance;
    name_is = e ∙ ap (λ t. 40 ∷ (t ++ (41 ∷ []))) h.1.text_is ∙ sym (name_split d p h.0);
    timed = h.1.timed;
  },
)

-- what is behind a place is all of it
pub tail_whole : (xs : List ℕ) (n : ℕ) → take (length xs - n) (drop n xs) ≡ drop n xs
tail_whole xs n = let le : length (drop n xs) ≤ length xs - n = omega (arith, length-drop n xs) in take_all (length xs - n) (drop n xs) le
