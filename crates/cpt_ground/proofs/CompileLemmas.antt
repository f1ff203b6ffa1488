use Rattle.std.proofs.Common.{◌≡◌, ℕ, ◌+◌, ◌*◌, ◌<◌, ◌≤◌, ◌^◌, inr, Bool, true, false, ◌&&◌, not, Some, Result, Ok, Err, IsOk, List, [], ◌∷◌, ◌++◌, length, get_or, map, All, refl, sym, ap, ◌∙◌, subst, arith, append_assoc, length-append}
use Rattle.std.specs.Prelude.{flat_map, slice_get, codes}
use Rattle.std.specs.List.{AllZip}
use Rattle.std.proofs.lemmas.List.{length-map}
use Rattle.std.proofs.lemmas.List.Elements.{All-append, All-contains, Contains-get_or}
use Rattle.std.proofs.lemmas.Option.{get_or_from_slice_get, slice_get_within}
use Rattle.cpt_domain.specs.declared.domain.Domain.{Domain}
use Rattle.cpt_facts.specs.declared.problem.Fact.{Fact}
use Rattle.cpt_facts.specs.declared.problem.Problem.{Problem}
use Rattle.cpt_facts.specs.Fitting.{FactFits, predicate_at}
use Rattle.cpt_task.specs.declared.task.Action.{Action}
use Rattle.cpt_task.specs.declared.task.BuildError.{BuildError}
use Rattle.cpt_task.specs.declared.task.BuildError.TheVariants.{BadAtom, BadDuration}
use Rattle.cpt_task.specs.Building.{Builds, IsFault, made_of}
use Rattle.cpt_task.specs.Shape.{TaskShape, InBounds, HasAtomsBelow, IsDuration}
use Rattle.cpt_task.proofs.BuildingLemmas.{none_bad, all_at}
use Rattle.cpt_ground.specs.declared.literals.Literals.{Literals}
use Rattle.cpt_ground.specs.Atoms.{AreInOrder, facts_of}
use Rattle.cpt_ground.specs.Compilable.{ActionFits, IsCompilable, IsTaskOf}
use Rattle.cpt_ground.specs.Compiled.{Literal, there, missing, needs, adds, deletes, is_initial, is_goal, literal_name, AreNumbers, IsCompiledAction, IsCompiledBy}
use Rattle.cpt_instance.specs.Instances.{names_of}
use Rattle.cpt_ground.specs.Literals.{AreSorted, absent_atoms, is_chosen, literals_of, name_with, plain_atoms, plain_of}
use Rattle.cpt_ground.specs.Signed.{Signed, SignedAction, has}
use Rattle.cpt_ground.proofs.AtomLemmas.{contains-has}
use Rattle.cpt_ground.proofs.ListLemmas.{all-flat_map, flat_map-short, zip-all, zip-length}
use Rattle.cpt_ground.proofs.LiteralLemmas.{at-missing, both_of, listed, size_of}

-- tests that answer alike at each literal have the same numbers
pub numbers-alike : (literals : List Literal) (t u : Literal → Bool) (ns : List ℕ) → ((n : ℕ) (l : Literal) → slice_get literals n ≡ Some l → t l ≡ u l)
    → AreNumbers literals t ns → AreNumbers literals u ns
numbers-alike literals t u ns same h = record {
  ordered = h.ordered;
  exact = λ n. (λ c. let w = (h.exact n).0 c in (w.0, w.1, sym (same n w.0 w.1) ∙ w.2), λ w. (h.exact n).1 (w.0, w.1, same n w.0 w.1 ∙ w.2));
}

and_yes : (b : Bool) → (b && true) ≡ b
and_yes true = refl
and_yes false = refl

chosen-needs : (a : SignedAction) (l : Literal) → is_chosen a.present a.absent [] l ≡ needs a l
chosen-needs a (there f) = refl
chosen-needs a (missing f) = and_yes (has a.absent f)

chosen-adds : (a : SignedAction) (l : Literal) → is_chosen a.add a.dele a.add l ≡ adds a l
chosen-adds a (there f) = refl
chosen-adds a (missing f) = refl

chosen-deletes : (a : SignedAction) (l : Literal) → is_chosen a.dele a.add [] l ≡ deletes a l
chosen-deletes a (there f) = refl
chosen-deletes a (missing f) = and_yes (has a.add f)

chosen-goal : (s : Signed) (l : Literal) → is_chosen s.goal s.absent [] l ≡ is_goal s l
chosen-goal s (there f) = refl
chosen-goal s (missing f) = and_yes (has s.absent f)

-- a complement that has a number is that of an atom of the second list
has-complement : (A B : List Fact) (n : ℕ) (f : Fact) → slice_get (both_of A B) n ≡ Some (missing f) → has B f ≡ true
has-complement A B n f e =
    let w = at-missing A B n f e in
    contains-has B f (w.0, slice_get_within B w.0 f w.2, get_or_from_slice_get B w.0 f f w.2)

chosen-initial : (s : Signed) (A B : List Fact) (n : ℕ) (l : Literal) → slice_get (both_of A B) n ≡ Some l → is_chosen s.init B s.init l ≡ is_initial s l
chosen-initial s A B n (there f) e = refl
chosen-initial s A B n (missing f) e = ap (λ b. b && not (has s.init f)) (has-complement A B n f e)

-- the numbers of an action
pub action-numbers : (literals : List Literal) (a : SignedAction) (c : Action) → c.name ≡ a.name → c.dur ≡ a.dur → AreNumbers literals (is_chosen a.present a.absent []) c.pre
    → AreNumbers literals (is_chosen a.add a.dele a.add) c.add → AreNumbers literals (is_chosen a.dele a.add []) c.dele → IsCompiledAction literals a c
action-numbers literals a c name dur pre add dele = record {
  name = name;
  dur = dur;
  pre = numbers-alike literals (is_chosen a.present a.absent []) (needs a) c.pre (λ n l e. chosen-needs a l) pre;
  add = numbers-alike literals (is_chosen a.add a.dele a.add) (adds a) c.add (λ n l e. chosen-adds a l) add;
  dele = numbers-alike literals (is_chosen a.dele a.add []) (deletes a) c.dele (λ n l e. chosen-deletes a l) dele;
}

-- the names of two lists of atoms
plain-named : (d : Domain) (p : Problem) (f : Fact) → name_with d p (codes "(") f ≡ literal_name d p (there f)
plain-named d p f =
    append_assoc (codes "(" ++ (predicate_at d f.pred).name) (flat_map (λ word. 32 ∷ word) (names_of d p f.args)) (41 ∷ [])

complement-named : (d : Domain) (p : Problem) (f : Fact) → name_with d p (codes "(not ") f ≡ literal_name d p (missing f)
complement-named d p f = refl

pub joined-names : (d : Domain) (p : Problem) (A B : List Fact) → map (name_with d p (codes "(")) A ++ map (name_with d p (codes "(not ")) B ≡ map (literal_name d p) (both_of A B)
joined-names d p [] [] = refl
joined-names d p [] (f ∷ B) =
    let e : name_with d p (codes "(not ") f ≡ literal_name d p (missing f) = complement-named d p f in
    let rest : map (name_with d p (codes "(not ")) B ≡ map (literal_name d p) (map missing B) = joined-names d p [] B in
    λ i. e i ∷ rest i
joined-names d p (f ∷ A) B =
    let e : name_with d p (codes "(") f ≡ literal_name d p (there f) = plain-named d p f in
    let rest : map (name_with d p (codes "(")) A ++ map (name_with d p (codes "(not ")) B ≡ map (literal_name d p) (both_of A B) = joined-names d p A B in
    λ i. e i ∷ rest i

-- the atoms of a task are of the domain and the problem
plain-fits : (d : Domain) (p : Problem) (a : SignedAction) → ActionFits d p a → All (FactFits d p) (plain_of a)
plain-fits d p a h =
    All-append (FactFits d p) (a.present ++ a.add) a.dele (All-append (FactFits d p) a.present a.add h.present.fit h.add.fit) h.dele.fit

all_plain : (d : Domain) (p : Problem) (s : Signed) → IsCompilable d p s → All (FactFits d p) (plain_atoms s)
all_plain d p s h =
    All-append (FactFits d p) (s.init ++ s.goal) (flat_map plain_of s.actions) (All-append (FactFits d p) s.init s.goal h.init.fit h.goal.fit)
    (all-flat_map (FactFits d p) plain_of s.actions (λ k e lt. plain-fits d p (get_or s.actions k e) (h.actions k e lt)))

all_absent : (d : Domain) (p : Problem) (s : Signed) → IsCompilable d p s → All (FactFits d p) (absent_atoms s)
all_absent d p s h =
    All-append (FactFits d p) s.absent (flat_map (λ (a : SignedAction). a.absent) s.actions) h.absent.fit
    (all-flat_map (FactFits d p) (λ (a : SignedAction). a.absent) s.actions (λ k e lt. (h.actions k e lt).absent.fit))

in_sorted : (P : Fact → Type 0) (xs sorted : List Fact) → AreInOrder xs sorted → All P xs → All P sorted
in_sorted P xs sorted order all k e lt = All-contains P xs (get_or sorted k e) all ((order.exact (get_or sorted k e)).0 (Contains-get_or sorted k e lt))

pub sorted_plain : (d : Domain) (p : Problem) (s : Signed) (A : List Fact) → IsCompilable d p s → AreInOrder (plain_atoms s) A → All (FactFits d p) A
sorted_plain d p s A h order = in_sorted (FactFits d p) (plain_atoms s) A order (all_plain d p s h)

pub sorted_absent : (d : Domain) (p : Problem) (s : Signed) (B : List Fact) → IsCompilable d p s → AreInOrder (absent_atoms s) B → All (FactFits d p) B
sorted_absent d p s B h order = in_sorted (FactFits d p) (absent_atoms s) B order (all_absent d p s h)

-- and there are few of them
few_of_action : (d : Domain) (p : Problem) (a : SignedAction) → ActionFits d p a → length (plain_of a) ≤ 192
few_of_action d p a h =
    omega (arith, length-append (a.present ++ a.add) a.dele, length-append a.present a.add, h.present.few, h.add.few, h.dele.few)

pub few_atoms : (d : Domain) (p : Problem) (s : Signed) → IsCompilable d p s → length (plain_atoms s) + length (absent_atoms s) < 2 ^ 31
few_atoms d p s h =
    let plain : length (flat_map plain_of s.actions) ≤ 192 * length s.actions = flat_map-short plain_of 192 s.actions (λ k e lt. few_of_action d p (get_or s.actions k e) (h.actions k e lt)) in
    let absent : length (flat_map (λ (a : SignedAction). a.absent) s.actions) ≤ 64 * length s.actions = flat_map-short (λ (a : SignedAction). a.absent) 64 s.actions (λ k e lt. (h.actions k e lt).absent.few) in
    omega (
      arith,
      plain,
      absent,
      h.init.few,
      h.goal.few,
      h.absent.few,
      h.few_actions,
      length-append (s.init ++ s.goal) (flat_map plain_of s.actions),
      length-append s.init s.goal,
      length-append s.absent (flat_map (λ (a : SignedAction). a.absent) s.actions),
    )

-- a task in bounds has no fault, so it is built
no_fault : (t : TaskShape) (e : BuildError) → InBounds t → IsFault t e → ⊥
no_fault t (BadAtom k) fine h = none_bad t k fine.actions fine.init (inr fine.goal) h.here
no_fault t (BadDuration k) fine h = let bad = h.1.here in bad.2 (all_at (λ a. IsDuration a.dur) t.actions k bad.0 fine.durations bad.1)

pub is_built : (t : TaskShape) (r : Result TaskShape BuildError) → InBounds t → Builds t r → IsOk r
is_built t (Ok built) fine h = refl
is_built t (Err e) fine h = absurd (no_fault t e fine h)

pub built_is : (t built : TaskShape) (r : Result TaskShape BuildError) → Builds t r → r ≡ Ok built → built ≡ t
built_is t built (Ok other) h e = let same : other ≡ built = cc in sym same ∙ h.0
built_is t built (Err fault) h e = cc

-- numbers of literals are numbers of atoms
numbers-below : (literals : List Literal) (t : Literal → Bool) (ns : List ℕ) → AreNumbers literals t ns → All (λ n. n < length literals) ns
numbers-below literals t ns h k e lt =
    let w = (h.exact (get_or ns k e)).0 (Contains-get_or ns k e lt) in
    slice_get_within literals (get_or ns k e) w.0 w.1

action-below : (literals : List Literal) (a : SignedAction) (c : Action) → IsCompiledAction literals a c → HasAtomsBelow (length literals) c
action-below literals a c h = record { pre = numbers-below literals (needs a) c.pre h.pre; add = numbers-below literals (adds a) c.add h.add; dele = numbers-below literals (deletes a) c.dele h.dele }

literal-count : (l : Literals) → length (literals_of l) ≡ length l.plain.items + length l.complements.items
literal-count l =
    omega (
      arith,
      length-append (map there (facts_of l.plain.items)) (map missing (facts_of l.complements.items)),
      length-map (facts_of l.plain.items) there,
      length-map (facts_of l.complements.items) missing,
      size_of l.plain.items,
      size_of l.complements.items,
    )

-- the parts of the task
pub record AreParts (d : Domain) (p : Problem) (s : Signed) (l : Literals) (names : List (List ℕ)) (actions : List Action) (init goal : List ℕ) : Type 0 where
  pub names_are : names ≡ map (literal_name d p) (literals_of l)
  pub actions_are : AllZip (IsCompiledAction (literals_of l)) s.actions actions
  pub init_are : AreNumbers (literals_of l) (is_chosen s.init (facts_of l.complements.items) s.init) init
  pub goal_are : AreNumbers (literals_of l) (is_chosen s.goal s.absent []) goal

pub parts_in_bounds : (d : Domain) (p : Problem) (s : Signed) (l : Literals) (names : List (List ℕ)) (actions : List Action) (init goal : List ℕ)
    → IsCompilable d p s → AreSorted l → AreParts d p s l names actions init goal → InBounds (made_of names actions init goal)
parts_in_bounds d p s l names actions init goal fine sorted parts = record {
  few_atoms = omega (arith, size, literal-count l, sorted.few);
  few_actions = omega (arith, zip-length (IsCompiledAction (literals_of l)) s.actions actions parts.actions_are, fine.few_actions);
  actions = zip-all (IsCompiledAction (literals_of l)) (ActionFits d p) (HasAtomsBelow (length names)) (λ a c h fits. below c (action-below (literals_of l) a c h)) s.actions actions parts.actions_are fine.actions;
  durations = zip-all (IsCompiledAction (literals_of l)) (ActionFits d p) (λ c. IsDuration c.dur) (λ a c h fits. subst IsDuration (sym h.dur) fits.dur) s.actions actions parts.actions_are fine.actions;
  init = subst (λ n. All (λ q. q < n) init) (sym size) (numbers-below (literals_of l) (is_chosen s.init (facts_of l.complements.items) s.init) init parts.init_are);
  goal = subst (λ n. All (λ q. q < n) goal) (sym size) (numbers-below (literals_of l) (is_chosen s.goal s.absent []) goal parts.goal_are);
} where
  size : length names ≡ length (literals_of l)
  size = ap length parts.names_are ∙ length-map (literals_of l) (literal_name d p)

  below : (c : Action) → HasAtomsBelow (length (literals_of l)) c → HasAtomsBelow (length names) c
  below c h = subst (λ n. HasAtomsBelow n c) (sym size) h

-- the task of these parts is that of the reading
pub parts_are_task : (d : Domain) (p : Problem) (s : Signed) (l : Literals) (names : List (List ℕ)) (actions : List Action) (init goal : List ℕ)
    → AreInOrder (plain_atoms s) (facts_of l.plain.items) → AreInOrder (absent_atoms s) (facts_of l.complements.items) → AreParts d p s l names actions init goal
    → IsTaskOf d p s (made_of names actions init goal)
parts_are_task d p s l names actions init goal plain complements parts =
    let A = facts_of l.plain.items in
    let B = facts_of l.complements.items in
    let compiled : IsCompiledBy s (literals_of l) (made_of names actions init goal) = record {
      listed = listed s A B plain complements;
      actions = parts.actions_are;
      init = numbers-alike (literals_of l) (is_chosen s.init B s.init) (is_initial s) init (chosen-initial s A B) parts.init_are;
      goal = numbers-alike (literals_of l) (is_chosen s.goal s.absent []) (is_goal s) goal (λ n x e. chosen-goal s x) parts.goal_are;
    } in
    (literals_of l, compiled, parts.names_are)
