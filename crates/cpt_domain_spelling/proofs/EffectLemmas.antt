use Rattle.std.proofs.Common.{◌≡◌, ℕ, suc, ◌<◌, ◌≤◌, ◌++◌, ◌∷◌, [], Bool, true, false, List, length, All, refl, ap, ◌∙◌, sym, arith}
use Rattle.std.specs.Prelude.{nat_le, Result, Ok, codes}
use Rattle.std.proofs.lemmas.Bool.{lt-leb}
use Rattle.std.proofs.lemmas.List.{append-nil, append_assoc, length-append}
use Rattle.std.proofs.lemmas.List.Elements.{All-head, All-tail}
use Rattle.cpt_sexp.specs.Printing.{Nest}
use Rattle.cpt_sexp.specs.Printing as nest
use Rattle.cpt_pddl.specs.declared.fault.Fault.{Fault}
use Rattle.cpt_pddl.specs.declared.words.Head.{Head}
use Rattle.cpt_pddl.specs.declared.words.Head.TheVariants.{And, Not, Equal, At, Over, Untaken, Numeric, Other}
use Rattle.cpt_pddl.specs.declared.typed.Typed.{Typed}
use Rattle.cpt_pddl.specs.Items.{Items}
use Rattle.cpt_pddl.specs.Reading.{group_at, nothing}
use Rattle.cpt_pddl.specs.Words.{head_of}
use Rattle.cpt_declared.specs.declared.declared.Declared.{Declared}
use Rattle.cpt_schema.specs.declared.effects.Effect.{Effect}
use Rattle.cpt_schema.specs.declared.effects.Tag.{Tag}
use Rattle.cpt_schema.specs.declared.effects.Tag.TheVariants.{End, Plain}
use Rattle.cpt_schema.specs.declared.schemas.Schema.{Schema}
use Rattle.cpt_schema.specs.declared.terms.Lit.{Lit}
use Rattle.cpt_schema.specs.Effects.{Effs, add_atom, added, delete_atom, delete_group, deleted, deletion, effect_by, effect_in, effects_in, tag_next, tagged_effect, timed_effect_by, timed_effect_in}
use Rattle.cpt_schema.specs.Schemas.{lits_of, no_effs}
use Rattle.cpt_domain_spelling.specs.Saying.{says}
use Rattle.cpt_domain_spelling.specs.Spellable.{HasSpelling, IsFreeAtom, IsSoundOver, IsTyped, is_free}
use Rattle.cpt_domain_spelling.specs.Names.{named}
use Rattle.cpt_domain_spelling.specs.Spelling.{atom_nest, atoms_then, effects_nest, parameters_of, signed_nest}
use Rattle.cpt_domain_spelling.proofs.ConditionLemmas.{head_and, head_not}
use Rattle.cpt_domain_spelling.proofs.ItemLemmas.{bound, end_there, group_there, word_there}
use Rattle.cpt_domain_spelling.proofs.TermLemmas.{AtomOf, atom_back}

head_at : head_of (codes "at") ≡ At
unfolding head_of
head_at = refl

abbrev effs : List Effect → List Effect → Effs
effs adds dels = record { adds = adds; dels = dels }

-- atoms as effects, all marked or not
abbrev pub marks : Bool → List Lit → List Effect
marks marked [] = []
marks marked (lit ∷ lits) = record { lit = lit; marked = marked } ∷ marks marked lits

pub lits_of_marks : (marked : Bool) (lits : List Lit) → lits_of (marks marked lits) ≡ lits
lits_of_marks marked [] = refl
lits_of_marks marked (lit ∷ lits) = ap (λ ls. lit ∷ ls) (lits_of_marks marked lits)

length_marks : (marked : Bool) (lits : List Lit) → length (marks marked lits) ≡ length lits
length_marks marked [] = refl
length_marks marked (lit ∷ lits) = ap (λ n. suc n) (length_marks marked lits)

-- the name of a predicate begins an atom that is added
added_by : (d : Declared) (params : Typed) (tag : Tag) (e : Effs) (atom at : ℕ) (bytes : List ℕ) (rest : Items) (all : Result Effs Fault) (h : Head) → is_free h ≡ true
    → effect_by d params tag e atom at bytes rest all h ≡ add_atom d params tag e atom at bytes rest
added_by d params tag e atom at bytes rest all And f = cc
added_by d params tag e atom at bytes rest all Not f = cc
added_by d params tag e atom at bytes rest all Equal f = refl
added_by d params tag e atom at bytes rest all At f = refl
added_by d params tag e atom at bytes rest all Over f = refl
added_by d params tag e atom at bytes rest all (Untaken which) f = cc
added_by d params tag e atom at bytes rest all Numeric f = cc
added_by d params tag e atom at bytes rest all Other f = refl

-- effects with this tag are taken, where all that are deleted come first; whether a deleted atom is marked
record Takes (tag : Tag) (mark : Bool) : Type 0 where
  adds : (adds dels : List Effect) (lit : Lit) → added tag (effs adds dels) lit ≡ Ok (effs (adds ++ record { lit = lit; marked = false } ∷ []) dels)
  dels : (dels : List Effect) (lit : Lit) → deleted tag (effs [] dels) lit ≡ Ok (effs [] (dels ++ record { lit = lit; marked = mark } ∷ []))

takes_end : (at : ℕ) → Takes (End at) true
takes_end at = record { adds = λ adds dels lit. refl; dels = λ dels lit. refl }

takes_plain : Takes Plain false
takes_plain = record { adds = λ adds dels lit. refl; dels = λ dels lit. refl }

module _ (d : Declared) (params : List ℕ) (tag : Tag) (mark : Bool) (takes : Takes tag mark) (h : HasSpelling d) (few : length params ≤ 16) where
  -- an atom that is added
  add_back : (adds dels : List Effect) (at : ℕ) (lit : Lit) (items : Items) → AtomOf d params lit → IsFreeAtom d lit → length adds < 64 → says items ≡ atom_nest d lit
      → effect_in d (parameters_of params) tag (effs adds dels) at items ≡ Ok (effs (adds ++ record { lit = lit; marked = false } ∷ []) dels)
  unfolding add_atom
  add_back adds dels at lit items a free room said =
      let w = word_there items (named d.predicates.names lit.pred) _ said in
      ap (effect_in d (parameters_of params) tag (effs adds dels) at) w.is
      ∙ added_by d (parameters_of params) tag (effs adds dels) at w.at (named d.predicates.names lit.pred) w.more _ (head_of (named d.predicates.names lit.pred)) free
      ∙ bound _ (atom_back d params (nat_le 64 (length adds)) at w.at lit w.more h few (lt-leb 64 (length adds) room) a w.said) (takes.adds adds dels lit)

  -- an atom that is deleted, before any that is added
  delete_back : (dels : List Effect) (at : ℕ) (lit : Lit) (items : Items) → AtomOf d params lit → length dels < 64 → says items ≡ signed_nest false (atom_nest d lit)
      → effect_in d (parameters_of params) tag (effs [] dels) at items ≡ Ok (effs [] (dels ++ record { lit = lit; marked = mark } ∷ []))
  unfolding deletion delete_atom
  delete_back dels at lit items a room said =
      let w = word_there items (codes "not") _ said in
      let g = group_there w.more _ _ w.said in
      let p = word_there g.inside (named d.predicates.names lit.pred) _ g.within in
      let last = end_there g.more g.said in
      ap (effect_in d (parameters_of params) tag (effs [] dels) at) w.is
      ∙ ap (effect_by d (parameters_of params) tag (effs [] dels) at w.at (codes "not") w.more (effects_in d (parameters_of params) tag (effs [] dels) w.more)) head_not
      ∙ bound _ (ap group_at g.is)
      (bound _ (ap (delete_group d (parameters_of params) tag (effs [] dels) g.at) p.is
      ∙ bound _ (atom_back d params (nat_le 64 (length dels)) g.at p.at lit p.more h few (lt-leb 64 (length dels) room) a p.said) (takes.dels dels lit))
      (bound _ (ap nothing last.is) refl))

  -- atoms that are added, to the end
  adds_back : (lits : List Lit) (all adds dels : List Effect) (items : Items) → All (AtomOf d params) lits → All (IsFreeAtom d) lits → all ≡ adds ++ marks false lits → length all ≤ 64
      → says items ≡ atoms_then true d lits nest.nothing → effects_in d (parameters_of params) tag (effs adds dels) items ≡ Ok (effs all dels)
  adds_back [] all adds dels items a free e room said =
      let last = end_there items said in
      ap (effects_in d (parameters_of params) tag (effs adds dels)) last.is ∙ ap (λ es. Ok (effs es dels)) (sym (append-nil adds) ∙ sym e)
  adds_back (lit ∷ lits) all adds dels items a free e room said =
      let g = group_there items _ _ said in
      let one : Effect = record { lit = lit; marked = false } in
      let total = ap length e in
      let long = length-append adds (one ∷ marks false lits) in
      ap (effects_in d (parameters_of params) tag (effs adds dels)) g.is
      ∙ bound _ (add_back adds dels g.at lit g.inside (All-head (AtomOf d params) lit lits a) (All-head (IsFreeAtom d) lit lits free) (omega (arith, total, long, room)) g.within)
      (adds_back lits all (adds ++ one ∷ []) dels g.more (All-tail (AtomOf d params) lit lits a) (All-tail (IsFreeAtom d) lit lits free) (e ∙ sym (append_assoc adds (one ∷ []) (marks false lits))) room g.said)

  -- atoms that are deleted, and then the rest
  deletes_back : (lits : List Lit) (all dels : List Effect) (items : Items) (rest : Nest) (r : Result Effs Fault) → All (AtomOf d params) lits → all ≡ dels ++ marks mark lits → length all ≤ 64
      → says items ≡ atoms_then false d lits rest → ((more : Items) → says more ≡ rest → effects_in d (parameters_of params) tag (effs [] all) more ≡ r)
      → effects_in d (parameters_of params) tag (effs [] dels) items ≡ r
  deletes_back [] all dels items rest r a e room said go =
      ap (λ es. effects_in d (parameters_of params) tag (effs [] es) items) (sym (append-nil dels) ∙ sym e) ∙ go items said
  deletes_back (lit ∷ lits) all dels items rest r a e room said go =
      let g = group_there items _ _ said in
      let one : Effect = record { lit = lit; marked = mark } in
      let total = ap length e in
      let long = length-append dels (one ∷ marks mark lits) in
      ap (effects_in d (parameters_of params) tag (effs [] dels)) g.is
      ∙ bound _ (delete_back dels g.at lit g.inside (All-head (AtomOf d params) lit lits a) (omega (arith, total, long, room)) g.within)
      (deletes_back lits all (dels ++ one ∷ []) g.more rest r (All-tail (AtomOf d params) lit lits a) (e ∙ sym (append_assoc dels (one ∷ []) (marks mark lits))) room g.said go)

-- what is in the group of the effects is read as they are
inside_back : (d : Declared) (s : Schema) (tag : Tag) (mark : Bool) (at : ℕ) (items : Items) → Takes tag mark → HasSpelling d → IsSoundOver d s → IsTyped d s → says items ≡ effects_nest d s
    → effect_in d (parameters_of s.kinds) tag no_effs at items ≡ Ok (effs (marks false s.add) (marks mark s.dele))
inside_back d s tag mark at items takes h sound typed said =
    let a = word_there items (codes "and") _ said in
    let few = sound.kinds.few in
    let adds = length_marks false s.add in
    let dels = length_marks mark s.dele in
    let few_adds = sound.few_adds in
    let few_dels = sound.few_deletes in
    ap (effect_in d (parameters_of s.kinds) tag no_effs at) a.is
    ∙ ap (effect_by d (parameters_of s.kinds) tag no_effs at a.at (codes "and") a.more (effects_in d (parameters_of s.kinds) tag no_effs a.more)) head_and
    ∙ deletes_back d s.kinds tag mark takes h few s.dele (marks mark s.dele) [] a.more _ _ (λ k x lt. record { sound = sound.dele k x lt; typed = typed.dele k x lt }) refl (omega (arith, dels, few_dels)) a.said
    (λ more e. adds_back d s.kinds tag mark takes h few s.add (marks false s.add) [] (marks mark s.dele) more (λ k x lt. record { sound = sound.add k x lt; typed = typed.add k x lt }) typed.free_add refl
    (omega (arith, adds, few_adds)) e)

-- the effects at the end of an action are read as they are
pub effects_back : (d : Declared) (s : Schema) (at : ℕ) (items : Items) → HasSpelling d → IsSoundOver d s → IsTyped d s
    → says items ≡ nest.name (codes "at") (nest.name (codes "end") (nest.list (effects_nest d s) nest.nothing))
    → timed_effect_in d (parameters_of s.kinds) no_effs at items ≡ Ok (effs (marks false s.add) (marks true s.dele))
unfolding tagged_effect
effects_back d s at items h sound typed said =
    let w = word_there items (codes "at") _ said in
    let v = word_there w.more (codes "end") _ w.said in
    let g = group_there v.more _ _ v.said in
    let last = end_there g.more g.said in
    ap (timed_effect_in d (parameters_of s.kinds) no_effs at) w.is
    ∙ ap (timed_effect_by d (parameters_of s.kinds) no_effs at w.at w.more _) head_at
    ∙ bound _ (ap (tag_next at) v.is)
    (bound _ (ap group_at g.is) (bound _ (inside_back d s (End at) true g.at g.inside (takes_end at) h sound typed g.within) (bound _ (ap nothing last.is) refl)))

-- the effects of an action without a duration are read as they are
pub plain_back : (d : Declared) (s : Schema) (at : ℕ) (items : Items) → HasSpelling d → IsSoundOver d s → IsTyped d s → says items ≡ effects_nest d s
    → effect_in d (parameters_of s.kinds) Plain no_effs at items ≡ Ok (effs (marks false s.add) (marks false s.dele))
plain_back d s at items h sound typed said = inside_back d s Plain false at items takes_plain h sound typed said

-- and their atoms are those that the action adds and deletes
pub effects_read : (d : Declared) (s : Schema) (at : ℕ) (items : Items) → HasSpelling d → IsSoundOver d s → IsTyped d s
    → says items ≡ nest.name (codes "at") (nest.name (codes "end") (nest.list (effects_nest d s) nest.nothing))
    → (e : Effs) × (timed_effect_in d (parameters_of s.kinds) no_effs at items ≡ Ok e) × (lits_of e.adds ≡ s.add) × (lits_of e.dels ≡ s.dele)
effects_read d s at items h sound typed said =
    (effs (marks false s.add) (marks true s.dele), effects_back d s at items h sound typed said, lits_of_marks false s.add, lits_of_marks true s.dele)
