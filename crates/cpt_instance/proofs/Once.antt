use Rattle.std.proofs.Common.{◌≡◌, ℕ, ◌<◌, inl, inr, List, [], ◌∷◌, ◌++◌, length, Option, None, Some, refl, sym, ap, ◌∙◌, subst}
use Rattle.std.specs.Prelude.{slice_index_or}
use Rattle.std.proofs.lemmas.Bool.{cases_order}
use Rattle.std.proofs.lemmas.List.{append_cancel_right, get_or_default}
use Rattle.cpt_schema.specs.declared.durations.Lasting.{Lasting}
use Rattle.cpt_schema.specs.declared.durations.Lasting.TheVariants.{Fixed, Value}
use Rattle.cpt_domain.specs.declared.domain.Domain.{Domain}
use Rattle.cpt_domain.specs.Sound.{IsSound}
use Rattle.cpt_facts.specs.declared.problem.Problem.{Problem}
use Rattle.cpt_facts.specs.declared.problem.Valued.{Valued}
use Rattle.cpt_facts.specs.Fitting.{AreSingle, Fits, no_value, value_at}
use Rattle.cpt_instance.specs.NameReading.{named_duration}
use Rattle.cpt_instance.specs.Instances.{HasDuration, Instance, instance_name, objects_for, schema_at}
use Rattle.cpt_instance.specs.Named.{IsBehind, IsInside, IsNamed, read_args}
use Rattle.cpt_instance.proofs.Answering.{Head, behind_is_read, head_of, name_split}
use Rattle.cpt_instance.proofs.NameReading.{AreNamed, named}
use Rattle.cpt_instance.proofs.Reading.{spaced}
use Rattle.cpt_instance.proofs.WordNames.{HasWords, words_of}

-- the text between the parentheses of an instance's name
abbrev inner : Domain → Problem → Instance → List ℕ
inner d p i = (schema_at d i.schema).name ++ spaced d p i.args

same_inner : (d : Domain) (p : Problem) (i j : Instance) → instance_name d p i ≡ instance_name d p j → inner d p i ≡ inner d p j
same_inner d p i j e =
    let whole : 40 ∷ (inner d p i ++ (41 ∷ [])) ≡ 40 ∷ (inner d p j ++ (41 ∷ [])) = sym (name_split d p i) ∙ e ∙ name_split d p j in
    let tails : inner d p i ++ (41 ∷ []) ≡ inner d p j ++ (41 ∷ []) = cc in
    append_cancel_right (inner d p i) (inner d p j) (41 ∷ []) tails

-- an instance is known by its name
pub name_once : (d : Domain) (p : Problem) (name : List ℕ) (m n : ℕ) (i j : Instance) → Fits d p → HasWords d p → IsNamed d p name m i → IsNamed d p name n j → i ≡ j
name_once d p name m n i j fits words a b =
    let text : inner d p i ≡ inner d p j = same_inner d p i j (sym a.name_is ∙ b.name_is) in
    let in_i : IsInside d p (inner d p j) m i = record { instance = a.instance; text_is = sym text; timed = a.timed } in
    let in_j : IsInside d p (inner d p j) n j = record { instance = b.instance; text_is = refl; timed = b.timed } in
    let head_i : Head d p (inner d p j) i = head_of d p (inner d p j) m i words in_i in
    let head_j : Head d p (inner d p j) j = head_of d p (inner d p j) n j words in_j in
    let placed_i = head_i.placed in
    let placed_j = head_j.placed in
    let schemas : i.schema ≡ j.schema = cc in
    let behind_i : IsBehind d p i.schema (spaced d p j.args) m i.args = record { instance = a.instance; text_is = sym head_j.behind ∙ head_i.behind; timed = a.timed } in
    let moved : IsBehind d p j.schema (spaced d p j.args) m i.args = subst (λ k. IsBehind d p k (spaced d p j.args) m i.args) schemas behind_i in
    let behind_j : IsBehind d p j.schema (spaced d p j.args) n j.args = record { instance = b.instance; text_is = refl; timed = b.timed } in
    let read_i : read_args d p (schema_at d j.schema).kinds (spaced d p j.args) ≡ Some i.args = behind_is_read d p j.schema (spaced d p j.args) m i.args fits words moved in
    let read_j : read_args d p (schema_at d j.schema).kinds (spaced d p j.args) ≡ Some j.args = behind_is_read d p j.schema (spaced d p j.args) n j.args fits words behind_j in
    let objects : i.args ≡ j.args = cc in
    let first : ℕ → Instance = λ k. record { schema = k; args = i.args } in
    let second : List ℕ → Instance = λ xs. record { schema = j.schema; args = xs } in
    ap first schemas ∙ ap second objects

-- a value at a place, with another default
placed : (p : Problem) (func : ℕ) (args : List ℕ) (n k : ℕ) → k < length p.values → (let x : Valued = record { func = func; args = args; value = n } in slice_index_or p.values k x ≡ x)
    → value_at p k ≡ record { func = func; args = args; value = n }
placed p func args n k lt is = get_or_default p.values k no_value (record { func = func; args = args; value = n }) lt ∙ is

value_once : (p : Problem) (func : ℕ) (args : List ℕ) (m n k l : ℕ) → AreSingle p → value_at p k ≡ record { func = func; args = args; value = m } → value_at p l ≡ record { func = func; args = args; value = n }
    → k < length p.values → l < length p.values → m ≡ n
value_once p func args m n k l single e f k_lt l_lt = elim (cases_order k l) [
  | inl same ↦ sym (ap (λ (v : Valued). v.value) e) ∙ ap (λ i. (value_at p i).value) same ∙ ap (λ (v : Valued). v.value) f
  | inr other ↦ elim other [
    | inl lt ↦ absurd (single k l lt l_lt (ap (λ (v : Valued). v.func) e ∙ sym (ap (λ (v : Valued). v.func) f)) (ap (λ (v : Valued). v.args) e ∙ sym (ap (λ (v : Valued). v.args) f)))
    | inr lt ↦ absurd (single l k lt k_lt (ap (λ (v : Valued). v.func) f ∙ sym (ap (λ (v : Valued). v.func) e)) (ap (λ (v : Valued). v.args) f ∙ sym (ap (λ (v : Valued). v.args) e)))
  ]
]

-- a schema has one duration at most at some objects
pub duration_once : (p : Problem) (args : List ℕ) (dur : Lasting) (m n : ℕ) → AreSingle p → HasDuration p args dur m → HasDuration p args dur n → m ≡ n
duration_once p args (Fixed k) m n single a b = sym a ∙ b
duration_once p args (Value func terms) m n single a b =
    value_once p func (objects_for args terms) m n a.0 b.0 single (placed p func (objects_for args terms) m a.0 a.1 a.2) (placed p func (objects_for args terms) n b.0 b.1 b.2) a.1 b.1

named_once : (d : Domain) (p : Problem) (name : List ℕ) (m n : ℕ) (i j : Instance) → Fits d p → HasWords d p → IsNamed d p name m i → IsNamed d p name n j → m ≡ n
named_once d p name m n i j fits words a b =
    let same : i ≡ j = name_once d p name m n i j fits words a b in
    let timed : HasDuration p j.args (schema_at d j.schema).dur m = subst (λ (k : Instance). HasDuration p k.args (schema_at d k.schema).dur m) same a.timed in
    duration_once p j.args (schema_at d j.schema).dur m n fits.single timed b.timed

one_answer : (d : Domain) (p : Problem) (name : List ℕ) (r s : Option ℕ) → Fits d p → HasWords d p → AreNamed d p name r → AreNamed d p name s → r ≡ s
one_answer d p name None None fits words h k = refl
one_answer d p name None (Some n) fits words h k = absurd (h n k.0 k.1)
one_answer d p name (Some m) None fits words h k = absurd (k m h.0 h.1)
one_answer d p name (Some m) (Some n) fits words h k = ap Some (named_once d p name m n h.0 k.0 fits words h.1 k.1)

-- what is found by the instances is what is read from the name
pub answer_is_read : (d : Domain) (p : Problem) (name : List ℕ) (r : Option ℕ) → IsSound d → Fits d p → AreNamed d p name r → r ≡ named_duration d p name
answer_is_read d p name r sound fits h = one_answer d p name r (named_duration d p name) fits (words_of d p sound fits) h (named d p name fits (words_of d p sound fits))

-- what is read from a name is found by the instances
pub read_is_named : (d : Domain) (p : Problem) (name : List ℕ) → IsSound d → Fits d p → AreNamed d p name (named_duration d p name)
read_is_named d p name sound fits = named d p name fits (words_of d p sound fits)
