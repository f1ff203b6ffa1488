use Rattle.std.proofs.Common.{◌≡◌, ◌≢◌, ℕ, ◌<◌, inl, inr, true, List, [], ◌∷◌, length, map, refl, sym, ap, ◌∙◌, subst, arith}
use Rattle.std.specs.Prelude.{slice_index_or, codes}
use Rattle.std.proofs.Math.ListN as ListN
use Rattle.std.proofs.lemmas.List.{get_or-map, length-map}
use Rattle.std.proofs.lemmas.List.Elements.{All-cons, All-head, All-map, All-tail, Contains-get_or}
use Rattle.cpt_line.specs.Names.{AreNames, is_name}
use Rattle.cpt_pddl.specs.Words.{is_word}
use Rattle.cpt_domain.specs.declared.domain.Domain.{Domain}
use Rattle.cpt_domain.specs.declared.domain.ObjectDecl.{ObjectDecl}
use Rattle.cpt_domain.specs.declared.domain.Predicate.{Predicate}
use Rattle.cpt_domain.specs.Sound.{IsSound}
use Rattle.cpt_facts.specs.declared.problem.Fact.{Fact}
use Rattle.cpt_facts.specs.declared.problem.Problem.{Problem}
use Rattle.cpt_facts.specs.Fitting.{AreObjects, FactFits, Fits, no_predicate, object_names, objects_of, predicate_at}
use Rattle.cpt_instance.specs.Instances.{names_of, no_object, object_at}
use Rattle.cpt_ground.specs.Compiled.{AreLiterals, IsFactBefore, IsLiteralBefore, Literal, is_used, literal_name, missing, there}
use Rattle.cpt_ground.specs.Reading.{IsReading}
use Rattle.cpt_ground.specs.declared.signed.Signed.{Signed}
use Rattle.cpt_ground.proofs.Unique.{list_irreflexive}
use Rattle.cpt_plain.proofs.Groups.{AreWords, group_legal, same_group}
use Rattle.cpt_plain.proofs.InRange.{fact_of, literal_fits}
use Rattle.cpt_plain.proofs.Zips.{one_place}

predicate_name : (d : Domain) (n : ℕ) → slice_index_or (map (λ (q : Predicate). q.name) d.predicates) n [] ≡ (predicate_at d n).name
predicate_name d n = ListN.get_or-map (λ (q : Predicate). q.name) d.predicates n no_predicate

object_name : (d : Domain) (p : Problem) (o : ℕ) → slice_index_or (object_names d p) o [] ≡ (object_at d p o).name
object_name d p o = ListN.get_or-map (λ (x : ObjectDecl). x.name) (objects_of d p) o no_object

predicate_in : (d : Domain) (n : ℕ) → n < length d.predicates → n < length (map (λ (q : Predicate). q.name) d.predicates)
predicate_in d n lt = subst (λ k. n < k) (sym (length-map d.predicates (λ (q : Predicate). q.name))) lt

object_in : (d : Domain) (p : Problem) (o : ℕ) → o < length (objects_of d p) → o < length (object_names d p)
object_in d p o lt = subst (λ k. o < k) (sym (length-map (objects_of d p) (λ (x : ObjectDecl). x.name))) lt

-- the names of predicates and of objects are words
predicate_word : (d : Domain) (n : ℕ) → IsSound d → n < length d.predicates → is_word (predicate_at d n).name ≡ true
predicate_word d n sound lt = subst (λ name. is_word name ≡ true) (predicate_name d n) (sound.words.predicates n [] (predicate_in d n lt))

pub objects_words : (d : Domain) (p : Problem) (args : List ℕ) → Fits d p → AreObjects d p args → AreWords (names_of d p args)
objects_words d p args fits known =
    All-map (λ name. is_word name ≡ true) (λ o. (object_at d p o).name) args
    (λ k x lt. subst (λ name. is_word name ≡ true) (object_name d p (slice_index_or args k x)) (fits.words (slice_index_or args k x) [] (object_in d p (slice_index_or args k x) (known k x lt))))

-- objects are known by their names
same_args : (d : Domain) (p : Problem) (xs ys : List ℕ) → Fits d p → AreObjects d p xs → AreObjects d p ys → names_of d p xs ≡ names_of d p ys → xs ≡ ys
same_args d p [] [] fits a b e = refl
same_args d p [] (y ∷ ys) fits a b e = absurd (cc)
same_args d p (x ∷ xs) [] fits a b e = absurd (cc)
same_args d p (x ∷ xs) (y ∷ ys) fits a b e =
    let name : (object_at d p x).name ≡ (object_at d p y).name = cc in
    let names : names_of d p xs ≡ names_of d p ys = cc in
    let known : ℕ → Type 0 = λ o. o < length (objects_of d p) in
    let x_in : x < length (object_names d p) = object_in d p x (All-head (λ o. o < length (objects_of d p)) x xs a) in
    let y_in : y < length (object_names d p) = object_in d p y (All-head (λ o. o < length (objects_of d p)) y ys b) in
    let first : x ≡ y = one_place (object_names d p) fits.names x y x_in y_in (object_name d p x ∙ name ∙ sym (object_name d p y)) in
    let rest : xs ≡ ys = same_args d p xs ys fits (All-tail (λ o. o < length (objects_of d p)) x xs a) (All-tail (λ o. o < length (objects_of d p)) y ys b) names in
    cc

-- a ground atom is known by the words of its name
same_fact : (d : Domain) (p : Problem) (f g : Fact) → IsSound d → Fits d p → FactFits d p f → FactFits d p g → (predicate_at d f.pred).name ≡ (predicate_at d g.pred).name → names_of d p f.args ≡ names_of d p g.args → f ≡ g
same_fact d p f g sound fits a b name names =
    let preds : f.pred ≡ g.pred = one_place (map (λ (q : Predicate). q.name) d.predicates) sound.names.predicates f.pred g.pred (predicate_in d f.pred a.pred) (predicate_in d g.pred b.pred)
    (predicate_name d f.pred ∙ name ∙ sym (predicate_name d g.pred)) in
    let args : f.args ≡ g.args = same_args d p f.args g.args fits a.args b.args names in
    let first : ℕ → Fact = λ n. record { pred = n; args = f.args } in
    let second : List ℕ → Fact = λ xs. record { pred = g.pred; args = xs } in
    ap first preds ∙ ap second args

not_word : is_word (codes "not") ≡ true
not_word = refl

complement_words : (d : Domain) (p : Problem) (f : Fact) → IsSound d → Fits d p → FactFits d p f → AreWords ((predicate_at d f.pred).name ∷ names_of d p f.args)
complement_words d p f sound fits a = All-cons (λ name. is_word name ≡ true) (predicate_at d f.pred).name (names_of d p f.args) (predicate_word d f.pred sound a.pred) (objects_words d p f.args fits a.args)

-- a predicate is not named as a complement begins
not_not : (d : Domain) (n : ℕ) → IsSound d → n < length d.predicates → (predicate_at d n).name ≢ codes "not"
not_not d n sound lt = subst (λ name. name ≢ codes "not") (predicate_name d n) (sound.words.no_not n [] (predicate_in d n lt))

-- the names of atoms are legal
atom_legal : (d : Domain) (p : Problem) (l : Literal) → IsSound d → Fits d p → FactFits d p (fact_of l) → is_name (literal_name d p l) ≡ true
atom_legal d p (there f) sound fits a = group_legal (predicate_at d f.pred).name (names_of d p f.args) (predicate_word d f.pred sound a.pred) (objects_words d p f.args fits a.args)
atom_legal d p (missing f) sound fits a = group_legal (codes "not") ((predicate_at d f.pred).name ∷ names_of d p f.args) not_word (complement_words d p f sound fits a)

-- an atom is known by its name
same_atom : (d : Domain) (p : Problem) (l m : Literal) → IsSound d → Fits d p → FactFits d p (fact_of l) → FactFits d p (fact_of m) → literal_name d p l ≡ literal_name d p m → l ≡ m
same_atom d p (there f) (there g) sound fits a b e =
    let w = same_group (predicate_at d f.pred).name (predicate_at d g.pred).name (names_of d p f.args) (names_of d p g.args) (predicate_word d f.pred sound a.pred) (predicate_word d g.pred sound b.pred)
    (objects_words d p f.args fits a.args) (objects_words d p g.args fits b.args) e in
    ap there (same_fact d p f g sound fits a b w.0 w.1)
same_atom d p (there f) (missing g) sound fits a b e =
    let w = same_group (predicate_at d f.pred).name (codes "not") (names_of d p f.args) ((predicate_at d g.pred).name ∷ names_of d p g.args) (predicate_word d f.pred sound a.pred) not_word
    (objects_words d p f.args fits a.args) (complement_words d p g sound fits b) e in
    absurd (not_not d f.pred sound a.pred w.0)
same_atom d p (missing f) (there g) sound fits a b e =
    let w = same_group (codes "not") (predicate_at d g.pred).name ((predicate_at d f.pred).name ∷ names_of d p f.args) (names_of d p g.args) not_word (predicate_word d g.pred sound b.pred)
    (complement_words d p f sound fits a) (objects_words d p g.args fits b.args) e in
    absurd (not_not d g.pred sound b.pred (sym w.0))
same_atom d p (missing f) (missing g) sound fits a b e =
    let w = same_group (codes "not") (codes "not") ((predicate_at d f.pred).name ∷ names_of d p f.args) ((predicate_at d g.pred).name ∷ names_of d p g.args) not_word not_word
    (complement_words d p f sound fits a) (complement_words d p g sound fits b) e in
    let words : (predicate_at d f.pred).name ∷ names_of d p f.args ≡ (predicate_at d g.pred).name ∷ names_of d p g.args = w.1 in
    let name : (predicate_at d f.pred).name ≡ (predicate_at d g.pred).name = cc in
    let names : names_of d p f.args ≡ names_of d p g.args = cc in
    ap missing (same_fact d p f g sound fits a b name names)

fact_irreflexive : (f : Fact) → IsFactBefore f f → ⊥
fact_irreflexive f h = elim h [ inl lt ↦ omega arith | inr w ↦ list_irreflexive f.args w.1 ]

pub atom_irreflexive : (l : Literal) → IsLiteralBefore l l → ⊥
atom_irreflexive (there f) h = fact_irreflexive f h
atom_irreflexive (missing f) h = fact_irreflexive f h

-- no literal
abbrev pub no_atom : Literal
no_atom = there (record { pred = 0; args = [] })

-- each literal of a list stands at one place
pub atoms_once : (s : Signed) (literals : List Literal) → AreLiterals s literals → (i j : ℕ) → i < j → j < length literals → slice_index_or literals i no_atom ≢ slice_index_or literals j no_atom
atoms_once s literals listed i j less lt e =
    atom_irreflexive (slice_index_or literals i no_atom) (subst (IsLiteralBefore (slice_index_or literals i no_atom)) (sym e) (listed.ordered i j no_atom less lt))

-- the names of the atoms of a ground task
pub atoms_named : (d : Domain) (p : Problem) (s : Signed) (literals : List Literal) → IsSound d → Fits d p → IsReading d p s → AreLiterals s literals → AreNames (map (literal_name d p) literals)
atoms_named d p s literals sound fits reads listed =
    let fit : (k : ℕ) (x : Literal) → k < length literals → FactFits d p (fact_of (slice_index_or literals k x)) = λ k x lt. literal_fits d p s (slice_index_or literals k x) sound fits reads (used k x lt) in
    let size : length (map (literal_name d p) literals) ≡ length literals = length-map literals (literal_name d p) in
    record {
      legal = All-map (λ name. is_name name ≡ true) (literal_name d p) literals (λ k x lt. atom_legal d p (slice_index_or literals k x) sound fits (fit k x lt));
      distinct = λ i j less lt e.
          let j_lt : j < length literals = omega arith in
          let i_lt : i < length literals = omega arith in
          atoms_once s literals listed i j less j_lt
          (same_atom d p (slice_index_or literals i no_atom) (slice_index_or literals j no_atom) sound fits (fit i no_atom i_lt) (fit j no_atom j_lt)
          (sym (get_or-map (literal_name d p) literals i no_atom [] i_lt) ∙ e ∙ get_or-map (literal_name d p) literals j no_atom [] j_lt));
    }
  where
    used : (k : ℕ) (x : Literal) → k < length literals → is_used s (slice_index_or literals k x) ≡ true
    used k x lt = (listed.exact (slice_index_or literals k x)).0 (Contains-get_or literals k x lt)
