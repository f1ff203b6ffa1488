use Rattle.std.proofs.Common.{◌≡◌, ℕ, ◌+◌, ◌<◌, ◌≤◌, inl, inr, Bool, true, not, List, ◌++◌, length, map, Contains, sym, ap, ◌∙◌, subst, arith, length-append}
use Rattle.std.specs.Prelude.{slice_index_or}
use Rattle.std.proofs.Math.ListN as ListN
use Rattle.std.proofs.lemmas.Bool.{and_parts, cases_order}
use Rattle.std.proofs.lemmas.List.{length-map}
use Rattle.std.proofs.lemmas.List.Elements.{All-contains_itself, Contains-append_left, Contains-append_right}
use Rattle.std.proofs.lemmas.Option.{get_or_from_slice_get, slice_get_within}
use Rattle.cpt_task.specs.declared.task.Action.{Action}
use Rattle.cpt_task_text.specs.Plain.{HasShortLists, IsShortList}
use Rattle.cpt_domain.specs.declared.domain.Domain.{Domain}
use Rattle.cpt_facts.specs.declared.problem.Fact.{Fact}
use Rattle.cpt_facts.specs.declared.problem.Problem.{Problem}
use Rattle.cpt_ground.specs.Compiled.{AreLiterals, AreNumbers, IsCompiledAction, Literal, adds, deletes, missing, needs, there}
use Rattle.cpt_ground.specs.declared.signed.Signed.{Signed}
use Rattle.cpt_ground.specs.declared.signed.SignedAction.{SignedAction}
use Rattle.cpt_ground.specs.Signed.{has}
use Rattle.cpt_ground.proofs.Facts.{all_has}
use Rattle.cpt_plain.proofs.AtomNames.{atoms_once, no_atom}
use Rattle.cpt_plain.proofs.InRange.{ActionFits}
use Rattle.cpt_plain.proofs.Pigeons.{pigeons}

-- an atom that is in a list
has_contains : (xs : List Fact) (f : Fact) → has xs f ≡ true → Contains xs f
has_contains xs f h = all_has (Contains xs) xs f (All-contains_itself xs) h

map_contains : {A B : Type 0} (f : A → B) (xs : List A) (x : A) → Contains xs x → Contains (map f xs) (f x)
map_contains f xs x c = (c.0, subst (λ n. c.0 < n) (sym (length-map xs f)) c.1, ListN.get_or-map f xs c.0 x ∙ ap f c.2)

-- the literals of two lists of atoms
abbrev literals_of : List Fact → List Fact → List Literal
literals_of xs ys = map there xs ++ map missing ys

literals_size : (xs ys : List Fact) → length (literals_of xs ys) ≡ length xs + length ys
literals_size xs ys = length-append (map there xs) (map missing ys) ∙ ap (λ n. n + length (map missing ys)) (length-map xs there) ∙ ap (λ n. length xs + n) (length-map ys missing)

there_in : (xs ys : List Fact) (f : Fact) → has xs f ≡ true → Contains (literals_of xs ys) (there f)
there_in xs ys f h = Contains-append_left (map there xs) (map missing ys) (there f) (map_contains there xs f (has_contains xs f h))

missing_in : (xs ys : List Fact) (f : Fact) → has ys f ≡ true → Contains (literals_of xs ys) (missing f)
missing_in xs ys f h = Contains-append_right (map there xs) (map missing ys) (missing f) (map_contains missing ys f (has_contains ys f h))

-- the literals that an action needs, adds and deletes are among so many
needs_in : (a : SignedAction) (l : Literal) → needs a l ≡ true → Contains (literals_of a.present a.absent) l
needs_in a (there f) h = there_in a.present a.absent f h
needs_in a (missing f) h = missing_in a.present a.absent f h

adds_in : (a : SignedAction) (l : Literal) → adds a l ≡ true → Contains (literals_of a.add a.dele) l
adds_in a (there f) h = there_in a.add a.dele f h
adds_in a (missing f) h = missing_in a.add a.dele f (and_parts (has a.dele f) (not (has a.add f)) h).0

deletes_in : (a : SignedAction) (l : Literal) → deletes a l ≡ true → Contains (literals_of a.dele a.add) l
deletes_in a (there f) h = there_in a.dele a.add f h
deletes_in a (missing f) h = missing_in a.dele a.add f h

-- the numbers of literals among so many are no more
short_numbers : (s : Signed) (literals : List Literal) (test : Literal → Bool) (ns : List ℕ) (cs : List Literal) (most : ℕ) → AreLiterals s literals → AreNumbers literals test ns
    → ((l : Literal) → test l ≡ true → Contains cs l) → length cs ≤ most → IsShortList most ns
short_numbers s literals test ns cs most listed numbers among few =
    let within : (n : ℕ) → Contains ns n → n < length literals = λ n c. let w = (numbers.exact n).0 c in slice_get_within literals n w.0 w.1 in
    let one : (m n : ℕ) → Contains ns m → Contains ns n → slice_index_or literals m no_atom ≡ slice_index_or literals n no_atom → m ≡ n = λ m n a b e.
    elim (cases_order m n) [
      | inl same ↦ same
      | inr other ↦ elim other [
        | inl less ↦ absurd (atoms_once s literals listed m n less (within n b) e)
        | inr more ↦ absurd (atoms_once s literals listed n m more (within m a) (sym e))
      ]
    ] in
    let found : (n : ℕ) → Contains ns n → Contains cs (slice_index_or literals n no_atom) = λ n c.
    let w = (numbers.exact n).0 c in
    subst (Contains cs) (sym (get_or_from_slice_get literals n w.0 no_atom w.1)) (among w.0 w.2) in
    record { increasing = numbers.ordered; short = omega (arith, pigeons (λ n. slice_index_or literals n no_atom) ns cs numbers.ordered one found, few) }

pub short_lists : (d : Domain) (p : Problem) (s : Signed) (literals : List Literal) (a : SignedAction) (c : Action) → AreLiterals s literals → ActionFits d p a → IsCompiledAction literals a c → HasShortLists c
short_lists d p s literals a c listed fits h = record {
  pre = short_numbers s literals (needs a) c.pre (literals_of a.present a.absent) 64 listed h.pre (needs_in a) (omega (arith, literals_size a.present a.absent, fits.few_conditions));
  add = short_numbers s literals (adds a) c.add (literals_of a.add a.dele) 128 listed h.add (adds_in a) (omega (arith, literals_size a.add a.dele, fits.few_adds, fits.few_deletes));
  dele = short_numbers s literals (deletes a) c.dele (literals_of a.dele a.add) 128 listed h.dele (deletes_in a) (omega (arith, literals_size a.dele a.add, fits.few_adds, fits.few_deletes));
}
