use Rattle.std.proofs.Common.{◌≡◌, ℕ, ◌+◌, ◌<◌, ◌==◌, Bool, true, false, List, [], ◌∷◌, ◌++◌, length, take, drop, All, Option, None, Some, refl, sym, ap, ◌∙◌, subst, arith}
use Rattle.std.specs.Prelude.{slice_index_or, if◌then◌else◌, flat_map}
use Rattle.std.specs.List.{AllZip}
use Rattle.std.specs.Option.{option_map}
use Rattle.std.proofs.lemmas.Bool.{eqb-true}
use Rattle.std.proofs.lemmas.List.{length-map, take-append-drop}
use Rattle.std.proofs.Math.ListN.{get_or-map}
use Rattle.std.proofs.Math.Seq.{take-append_seam, drop-append_seam}
use Rattle.cpt_domain.specs.declared.domain.Domain.{Domain}
use Rattle.cpt_domain.specs.declared.domain.ObjectDecl.{ObjectDecl}
use Rattle.cpt_facts.specs.declared.problem.Problem.{Problem}
use Rattle.cpt_facts.specs.Fitting.{AreDifferent, object_names, objects_of}
use Rattle.cpt_pddl.specs.Names.{place_from}
use Rattle.cpt_instance.specs.Instances.{IsObjectOf, is_of, no_object, object_at, names_of}
use Rattle.cpt_instance.specs.Named.{blank_at, arg_named, read_arg, then_args, read_args}
use Rattle.cpt_instance.proofs.Words.{IsWord, blank_word, blank_spaced, StandsAt, place_found, place_complete}

-- the names of these objects, a blank before each
abbrev pub spaced : Domain → Problem → List ℕ → List ℕ
spaced d p ns = flat_map (λ word. 32 ∷ word) (names_of d p ns)

-- the name at a number is the object's
name_at : (d : Domain) (p : Problem) (o : ℕ) → slice_index_or (object_names d p) o [] ≡ (object_at d p o).name
name_at d p o = get_or-map (λ (x : ObjectDecl). x.name) (objects_of d p) o no_object

pub record ReadsArg (d : Domain) (p : Problem) (kind : ℕ) (text : List ℕ) (o : ℕ) (rest : List ℕ) : Type 0 where
  pub object : IsObjectOf d p kind o
  pub split : text ≡ 32 ∷ ((object_at d p o).name ++ rest)

-- an object and what follows it, where the test holds
abbrev pub kept : Bool → ℕ → List ℕ → Option (ℕ × List ℕ)
kept true o rest = Some (o, rest)
kept false o rest = None

abbrev pub object_of : Option (ℕ × List ℕ) → ℕ
object_of None = 0
object_of (Some x) = x.0

abbrev pub rest_of : Option (ℕ × List ℕ) → List ℕ
rest_of None = []
rest_of (Some x) = x.1

kind_case : (d : Domain) (p : Problem) (kind : ℕ) (text : List ℕ) (o n : ℕ) (rest : List ℕ) (b : Bool) → is_of d kind (object_at d p o) ≡ b
    → kept b o (drop (blank_at text) text) ≡ Some (n, rest) → place_from (object_names d p) 0 (take (blank_at text) text) ≡ Some o → ReadsArg d p kind (32 ∷ text) n rest
kind_case d p kind text o n rest true e h place =
    let number : o ≡ n = ap object_of h in
    let behind : drop (blank_at text) text ≡ rest = ap rest_of h in
    let s : StandsAt (object_names d p) 0 (take (blank_at text) text) o = place_found (object_names d p) 0 (take (blank_at text) text) o place in
    let at : o ≡ s.place = let w : o ≡ 0 + s.place = s.number in omega arith in
    let within : o < length (object_names d p) = subst (λ k. k < length (object_names d p)) (sym at) s.within in
    let known : o < length (objects_of d p) = subst (λ k. o < k) (length-map (objects_of d p) (λ (x : ObjectDecl). x.name)) within in
    let same : slice_index_or (object_names d p) o [] ≡ take (blank_at text) text = ap (λ k. slice_index_or (object_names d p) k []) at ∙ s.same in
    let name : (object_at d p o).name ≡ take (blank_at text) text = sym (name_at d p o) ∙ same in
    let whole : text ≡ (object_at d p o).name ++ drop (blank_at text) text = sym (take-append-drop (blank_at text) text) ∙ ap (λ w. w ++ drop (blank_at text) text) (sym name) in
    subst (λ k. ReadsArg d p kind (32 ∷ text) k rest) number
    (record {
      object = record { known = known; fits = e };
      split = ap (λ w. 32 ∷ w) (whole ∙ ap (λ w. (object_at d p o).name ++ w) behind);
    })
kind_case d p kind text o n rest false e h place = cc

kept_if : (b : Bool) (o : ℕ) (rest : List ℕ) → kept b o rest ≡ if◌then◌else◌ {A = Option (ℕ × List ℕ)} b (Some (o, rest)) None
kept_if true o rest = refl
kept_if false o rest = refl

place_step : (d : Domain) (p : Problem) (kind : ℕ) (text : List ℕ) (n : ℕ) (rest : List ℕ) (r : Option ℕ) → place_from (object_names d p) 0 (take (blank_at text) text) ≡ r
    → arg_named d p kind text r ≡ Some (n, rest) → ReadsArg d p kind (32 ∷ text) n rest
place_step d p kind text n rest None e h = cc
place_step d p kind text n rest (Some o) e h =
    kind_case d p kind text o n rest (is_of d kind (object_at d p o)) refl (kept_if (is_of d kind (object_at d p o)) o (drop (blank_at text) text) ∙ h) e

blank_step : (d : Domain) (p : Problem) (kind b : ℕ) (text : List ℕ) (n : ℕ) (rest : List ℕ) (t : Bool) → (b == 32) ≡ t
    → (if t then arg_named d p kind text (place_from (object_names d p) 0 (take (blank_at text) text)) else None) ≡ Some (n, rest) → ReadsArg d p kind (b ∷ text) n rest
blank_step d p kind b text n rest true e h =
    subst (λ x. ReadsArg d p kind (x ∷ text) n rest) (sym (eqb-true b 32 e))
    (place_step d p kind text n rest (place_from (object_names d p) 0 (take (blank_at text) text)) refl h)
blank_step d p kind b text n rest false e h = cc

reads_arg : (d : Domain) (p : Problem) (kind : ℕ) (text : List ℕ) (n : ℕ) (rest : List ℕ) → read_arg d p kind text ≡ Some (n, rest) → ReadsArg d p kind text n rest
reads_arg d p kind [] n rest h = cc
reads_arg d p kind (b ∷ text) n rest h = blank_step d p kind b text n rest (b == 32) refl h

-- the text is the names of these objects, which are of those types
pub record ReadsArgs (d : Domain) (p : Problem) (kinds text ns : List ℕ) : Type 0 where
  pub objects : AllZip (IsObjectOf d p) kinds ns
  pub text_is : text ≡ spaced d p ns

more_args : (d : Domain) (p : Problem) (kind : ℕ) (kinds text : List ℕ) (ns : List ℕ) (n : ℕ) (rest : List ℕ) (more : Option (List ℕ))
    → ReadsArg d p kind text n rest → ((ms : List ℕ) → more ≡ Some ms → ReadsArgs d p kinds rest ms)
    → option_map (λ ms. n ∷ ms) more ≡ Some ns → ReadsArgs d p (kind ∷ kinds) text ns
more_args d p kind kinds text ns n rest None first next h = cc
more_args d p kind kinds text ns n rest (Some ms) first next h =
    let e : n ∷ ms ≡ ns = cc in
    let w : ReadsArgs d p kinds rest ms = next ms refl in
    subst (ReadsArgs d p (kind ∷ kinds) text) e
    (record {
      objects = (first.object, w.objects);
      text_is = first.split ∙ ap (λ r. 32 ∷ ((object_at d p n).name ++ r)) w.text_is;
    })

arg_step : (d : Domain) (p : Problem) (kind : ℕ) (kinds text ns : List ℕ) (r : Option (ℕ × List ℕ)) → read_arg d p kind text ≡ r
    → ((rest ms : List ℕ) → read_args d p kinds rest ≡ Some ms → ReadsArgs d p kinds rest ms)
    → then_args r (read_args d p kinds) ≡ Some ns → ReadsArgs d p (kind ∷ kinds) text ns
arg_step d p kind kinds text ns None e next h = cc
arg_step d p kind kinds text ns (Some x) e next h =
    more_args d p kind kinds text ns x.0 x.1 (read_args d p kinds x.1) (reads_arg d p kind text x.0 x.1 e) (next x.1) h

pub reads_args : (d : Domain) (p : Problem) (kinds text ns : List ℕ) → read_args d p kinds text ≡ Some ns → ReadsArgs d p kinds text ns
reads_args d p [] [] ns h =
    let e : [] ≡ ns = cc in
    subst (ReadsArgs d p [] []) e (record { objects = tt; text_is = refl })
reads_args d p [] (b ∷ text) ns h = cc
reads_args d p (kind ∷ kinds) text ns h = arg_step d p kind kinds text ns (read_arg d p kind text) refl (reads_args d p kinds) h

-- an object of the type is read from its name
arg_is_read : (d : Domain) (p : Problem) (kind n : ℕ) (r : List ℕ) → AreDifferent (object_names d p) → All IsWord (object_names d p) → IsObjectOf d p kind n → blank_at r ≡ 0
    → read_arg d p kind (32 ∷ ((object_at d p n).name ++ r)) ≡ Some (n, r)
arg_is_read d p kind n r different words object e =
    let known : n < length (object_names d p) = subst (λ k. n < k) (sym (length-map (objects_of d p) (λ (x : ObjectDecl). x.name))) object.known in
    let w : List ℕ = (object_at d p n).name in
    let word : IsWord (object_at d p n).name = subst IsWord (name_at d p n) (words n [] known) in
    let blank : blank_at ((object_at d p n).name ++ r) ≡ length (object_at d p n).name = blank_word (object_at d p n).name r word e in
    let front : take (blank_at ((object_at d p n).name ++ r)) ((object_at d p n).name ++ r) ≡ (object_at d p n).name = ap (λ k. take k ((object_at d p n).name ++ r)) blank ∙ take-append_seam (object_at d p n).name r in
    let behind : drop (blank_at ((object_at d p n).name ++ r)) ((object_at d p n).name ++ r) ≡ r = ap (λ k. drop k ((object_at d p n).name ++ r)) blank ∙ drop-append_seam (object_at d p n).name r in
    let place : place_from (object_names d p) 0 (object_at d p n).name ≡ Some n =
    ap (place_from (object_names d p) 0) (sym (name_at d p n)) ∙ place_complete (object_names d p) 0 n different known ∙ ap Some (let z : 0 + n ≡ n = omega arith in z) in
    ap (λ x. arg_named d p kind ((object_at d p n).name ++ r) (place_from (object_names d p) 0 x)) front
    ∙ ap (arg_named d p kind ((object_at d p n).name ++ r)) place
    ∙ sym (kept_if (is_of d kind (object_at d p n)) n (drop (blank_at ((object_at d p n).name ++ r)) ((object_at d p n).name ++ r)))
    ∙ ap (λ b. kept b n (drop (blank_at ((object_at d p n).name ++ r)) ((object_at d p n).name ++ r))) object.fits
    ∙ ap (kept true n) behind

pub args_are_read : (d : Domain) (p : Problem) (kinds ns : List ℕ) → AreDifferent (object_names d p) → All IsWord (object_names d p) → AllZip (IsObjectOf d p) kinds ns
    → read_args d p kinds (spaced d p ns) ≡ Some ns
args_are_read d p [] [] different words h = refl
args_are_read d p [] (n ∷ ns) different words h = absurd h
args_are_read d p (kind ∷ kinds) [] different words h = absurd h
args_are_read d p (kind ∷ kinds) (n ∷ ns) different words h =
    ap (λ r. then_args r (read_args d p kinds)) (arg_is_read d p kind n (spaced d p ns) different words h.0 (blank_spaced (names_of d p ns)))
    ∙ ap (option_map (λ ms. n ∷ ms)) (args_are_read d p kinds ns different words h.1)
