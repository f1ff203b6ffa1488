use Rattle.std.proofs.Common.{◌≡◌, ℕ, suc, ◌<◌, ◌≤◌, ◌∷◌, [], Bool, true, false, List, length, All, refl, ap, sym, subst, arith}
use Rattle.std.specs.Prelude.{◌&&◌, is_some, nat_le, Ok, Err, Option, None, Some, codes}
use Rattle.std.proofs.lemmas.Bool.Decides.{nat_tests}
use Rattle.std.proofs.lemmas.List.Elements.{All-cons, All-head, All-nil, All-tail}
use Rattle.cpt_pddl.specs.declared.fault.Feature.TheVariants as features
use Rattle.cpt_pddl.specs.declared.fault.Fault.TheVariants as faults
use Rattle.cpt_pddl.specs.declared.typed.Sort.TheVariants.{Variables}
use Rattle.cpt_pddl.specs.declared.typed.Typed.{Typed}
use Rattle.cpt_pddl.specs.Items.{Items, end, word, group}
use Rattle.cpt_pddl.specs.Names.{place_in}
use Rattle.cpt_pddl.specs.Reading.{after_word, group_at, name_at, nothing}
use Rattle.cpt_pddl.specs.Typed.{no_names}
use Rattle.cpt_pddl.specs.Words.{is_name, number_in}
use Rattle.cpt_declared.specs.declared.declared.Declared.{Declared}
use Rattle.cpt_schema.specs.declared.durations.Lasting.{Lasting}
use Rattle.cpt_schema.specs.declared.durations.Lasting.TheVariants.{Fixed, Value}
use Rattle.cpt_schema.specs.declared.effects.Effect.{Effect}
use Rattle.cpt_schema.specs.declared.effects.Tag.TheVariants.{Plain}
use Rattle.cpt_schema.specs.declared.schemas.Schema.{Schema}
use Rattle.cpt_schema.specs.declared.terms.Lit.{Lit}
use Rattle.cpt_schema.specs.Conditions.{Conds}
use Rattle.cpt_schema.specs.Durations.{after_this, duration_after, duration_by, duration_in, duration_next, duration_value, fixed, fixed_by, function_term, is_asked, is_sum, valued}
use Rattle.cpt_schema.specs.Effects.{Effs}
use Rattle.cpt_schema.specs.Schemas.{assembled, body, condition_part, condition_word, effect_part, lasting_next, lits_of, no_conds, no_effs, parameters, parameters_by, part, schema_after, schema_in}
use Rattle.cpt_schema.specs.Terms.{applied}
use Rattle.cpt_domain.specs.SoundKinds.{AreTyped, IsSoundDeclared}
use Rattle.cpt_domain.specs.SoundSchemas.{IsLasting, IsLit, IsSoundSchema, IsTest}
use Rattle.cpt_domain.proofs.ConditionSoundness.{LitOf, SoundConds, TestOf, condition_sound, timed_condition_sound}
use Rattle.cpt_domain.proofs.EffectSoundness.{SoundEffs, SoundList, effect_sound, timed_effect_sound}
use Rattle.cpt_domain.proofs.TermSoundness.{applied_sound}
use Rattle.cpt_domain.proofs.Tools.{Holds, holds_any, holds_bind, holds_if}
use Rattle.cpt_domain.proofs.TypedSoundness.{typed_sound}

-- a duration of a schema with these parameters
abbrev LastingOf : Declared → Typed → Lasting → Type 0
LastingOf d params lasting = IsLasting (length params.names) (length d.constants.names) d.functions.kinds lasting

in_range : (n : ℕ) → (nat_le 1 n && nat_le n 100000) ≡ true → (1 ≤ n) × (n ≤ 100000)
in_range n h = grind (arith, nat_tests)

fixed_by_sound : (d : Declared) (params : Typed) (at : ℕ) (o : Option ℕ) → Holds (LastingOf d params) (fixed_by at o)
fixed_by_sound d params at None = tt
fixed_by_sound d params at (Some n) =
    holds_if (LastingOf d params) (nat_le 1 n && nat_le n 100000) (Ok (Fixed n)) (Err (faults.Duration at)) (λ h. in_range n h) (λ _. tt)

fixed_sound : (d : Declared) (params : Typed) (at : ℕ) (w : List ℕ) (rest : Items) → Holds (LastingOf d params) (fixed at w rest)
unfolding fixed
fixed_sound d params at w rest =
    holds_bind (LastingOf d params) (LastingOf d params) (fixed_by at (number_in w)) _ (fixed_by_sound d params at (number_in w))
    (λ lasting k. holds_bind (λ _. Unit {0}) (LastingOf d params) (nothing rest) (λ _. Ok lasting) (holds_any (nothing rest)) (λ _ _. k))

function_sound : (d : Declared) (params : Typed) (atom : ℕ) (items : Items) → length d.functions.kinds ≡ length d.functions.names
    → Holds (IsLit (length params.names) (length d.constants.names) d.functions.kinds) (function_term d params atom items)
function_sound d params atom (end close) e = tt
function_sound d params atom (word at w rest) e =
    holds_if (IsLit (length params.names) (length d.constants.names) d.functions.kinds) (is_name w) (applied d params d.functions atom at w rest) (Err (faults.Shape at))
    (λ _. applied_sound d params d.functions atom at w rest e) (λ _. tt)
function_sound d params atom (group at inside rest) e = tt

valued_sound : (d : Declared) (params : Typed) (atom : ℕ) (inside rest : Items) → length d.functions.kinds ≡ length d.functions.names → Holds (LastingOf d params) (valued d params atom inside rest)
unfolding valued
valued_sound d params atom inside rest e =
    holds_bind (IsLit (length params.names) (length d.constants.names) d.functions.kinds) (LastingOf d params) (function_term d params atom inside) _ (function_sound d params atom inside e)
    (λ term k. holds_bind (λ _. Unit {0}) (LastingOf d params) (nothing rest) (λ _. Ok (Value term.pred term.terms)) (holds_any (nothing rest)) (λ _ _. k))

value_sound : (d : Declared) (params : Typed) (from : ℕ) (items : Items) → length d.functions.kinds ≡ length d.functions.names → Holds (LastingOf d params) (duration_value d params from items)
value_sound d params from (end close) e = tt
value_sound d params from (word at w rest) e =
    holds_if (LastingOf d params) (is_asked w) (Err (faults.Feature features.Duration from)) (fixed at w rest) (λ _. tt) (λ _. fixed_sound d params at w rest)
value_sound d params from (group at inside rest) e =
    holds_if (LastingOf d params) (is_sum inside) (Err (faults.Feature features.Duration from)) (valued d params at inside rest) (λ _. tt) (λ _. valued_sound d params at inside rest e)

duration_by_sound : (d : Declared) (params : Typed) (from : ℕ) (o : Option Items) → length d.functions.kinds ≡ length d.functions.names → Holds (LastingOf d params) (duration_by d params from o)
duration_by_sound d params from None e = tt
duration_by_sound d params from (Some rest) e = value_sound d params from rest e

duration_after_sound : (d : Declared) (params : Typed) (from : ℕ) (o : Option Items) → length d.functions.kinds ≡ length d.functions.names → Holds (LastingOf d params) (duration_after d params from o)
duration_after_sound d params from None e = tt
duration_after_sound d params from (Some rest) e = duration_by_sound d params from (after_this (codes "?duration") rest) e

duration_sound : (d : Declared) (params : Typed) (items : Items) → length d.functions.kinds ≡ length d.functions.names → Holds (λ x. LastingOf d params x.0) (duration_next d params items)
unfolding duration_next duration_in
duration_sound d params items e =
    let P : Lasting × Items → Type 0 = λ x. LastingOf d params x.0 in
    holds_bind (λ _. Unit {0}) P (group_at items) _ (holds_any (group_at items))
    (λ found _. holds_bind (LastingOf d params) P (duration_after d params found.0 (after_this (codes "=") found.1)) (λ lasting. Ok (lasting, found.2))
    (duration_after_sound d params found.0 (after_this (codes "=") found.1) e) (λ lasting k. k))

lasting_sound : (durative : Bool) (d : Declared) (params : Typed) (items : Items) → length d.functions.kinds ≡ length d.functions.names → Holds (λ x. LastingOf d params x.0) (lasting_next durative d params items)
lasting_sound true d params items e =
    holds_bind (λ _. Unit {0}) (λ (x : Lasting × Items). LastingOf d params x.0) (after_word (codes ":duration") items) (λ rest. duration_next d params rest) (holds_any (after_word (codes ":duration") items))
    (λ rest _. duration_sound d params rest e)
lasting_sound false d params items e = (omega arith, omega arith)

no_names_typed : (count : ℕ) → AreTyped 16 count no_names
no_names_typed count = record { lengths = refl; below = All-nil (λ n. n < count); few = omega arith }

parameters_by_sound : (d : Declared) (o : Option (ℕ × Items)) → 0 < length d.types.names → Holds (AreTyped 16 (length d.types.names)) (parameters_by d o)
parameters_by_sound d None some = no_names_typed (length d.types.names)
parameters_by_sound d (Some found) some = typed_sound Variables d.types.names found.1 some

parameters_sound : (d : Declared) (items : Items) → 0 < length d.types.names → Holds (λ x. AreTyped 16 (length d.types.names) x.0) (parameters d items)
unfolding parameters
parameters_sound d items some =
    let P : Typed × Items → Type 0 = λ x. AreTyped 16 (length d.types.names) x.0 in
    holds_bind (λ _. Unit {0}) P (part (codes ":parameters") items) _ (holds_any (part (codes ":parameters") items))
    (λ found _. holds_bind (AreTyped 16 (length d.types.names)) P (parameters_by d found.0) (λ params. Ok (params, found.1)) (parameters_by_sound d found.0 some) (λ params k. k))

no_conds_sound : (d : Declared) (params : Typed) → SoundConds d params no_conds
no_conds_sound d params = record { pre = All-nil (LitOf d params); absent = All-nil (LitOf d params); tests = All-nil (TestOf d params); few = omega arith }

no_effs_sound : (d : Declared) (params : Typed) → SoundEffs d params no_effs
no_effs_sound d params =
    let none : SoundList d params [] = record { lits = All-nil (λ (e : Effect). LitOf d params e.lit); few = omega arith } in
    record { adds = none; dels = none }

condition_part_sound : (tagged : Bool) (d : Declared) (params : Typed) (o : Option (ℕ × Items)) → length d.predicates.kinds ≡ length d.predicates.names → Holds (SoundConds d params) (condition_part tagged d params o)
condition_part_sound true d params None e = no_conds_sound d params
condition_part_sound false d params None e = no_conds_sound d params
condition_part_sound true d params (Some found) e = timed_condition_sound d params no_conds found.0 found.1 e (no_conds_sound d params)
condition_part_sound false d params (Some found) e = condition_sound d params no_conds found.0 found.1 e (no_conds_sound d params)

effect_part_sound : (tagged : Bool) (d : Declared) (params : Typed) (o : Option (ℕ × Items)) → length d.predicates.kinds ≡ length d.predicates.names → Holds (SoundEffs d params) (effect_part tagged d params o)
effect_part_sound true d params None e = no_effs_sound d params
effect_part_sound false d params None e = no_effs_sound d params
effect_part_sound true d params (Some found) e = timed_effect_sound d params no_effs found.0 found.1 e (no_effs_sound d params)
effect_part_sound false d params (Some found) e = effect_sound d params Plain no_effs found.0 found.1 e (no_effs_sound d params)

body_sound : (tagged : Bool) (d : Declared) (params : Typed) (items : Items) → length d.predicates.kinds ≡ length d.predicates.names → Holds (λ x. SoundConds d params x.0 × SoundEffs d params x.1) (body tagged d params items)
unfolding body
body_sound tagged d params items e =
    let P : Conds × Effs → Type 0 = λ x. SoundConds d params x.0 × SoundEffs d params x.1 in
    holds_bind (λ _. Unit {0}) P (part (condition_word tagged) items) _ (holds_any (part (condition_word tagged) items))
    (λ condition _. holds_bind (SoundConds d params) P (condition_part tagged d params condition.0) _ (condition_part_sound tagged d params condition.0 e)
    (λ conds c. holds_bind (λ _. Unit {0}) P (part (codes ":effect") condition.1) _ (holds_any (part (codes ":effect") condition.1))
    (λ effect _. holds_bind (SoundEffs d params) P (effect_part tagged d params effect.0) _ (effect_part_sound tagged d params effect.0 e)
    (λ effs f. holds_bind (λ _. Unit {0}) P (nothing effect.1) (λ _. Ok (conds, effs)) (holds_any (nothing effect.1)) (λ _ _. (c, f))))))

lits_all : (P : Lit → Type 0) (es : List Effect) → All (λ (e : Effect). P e.lit) es → All P (lits_of es)
lits_all P [] h = All-nil P
lits_all P (e ∷ es) h = All-cons P e.lit (lits_of es) (All-head (λ (e : Effect). P e.lit) e es h) (lits_all P es (All-tail (λ (e : Effect). P e.lit) e es h))

length_lits : (es : List Effect) → length (lits_of es) ≡ length es
length_lits [] = refl
length_lits (e ∷ es) = ap suc (length_lits es)

-- what a schema of a domain is to be
abbrev pub SchemaOf : Declared → Schema → Type 0
SchemaOf d s = IsSoundSchema (length d.types.names) (length d.constants.names) d.predicates.kinds d.functions.kinds s

assembled_sound : (d : Declared) (name : List ℕ) (params : Typed) (lasting : Lasting) (conds : Conds) (effs : Effs)
    → AreTyped 16 (length d.types.names) params → LastingOf d params lasting → SoundConds d params conds → SoundEffs d params effs
    → SchemaOf d (assembled name params lasting conds effs)
assembled_sound d name params lasting conds effs p l c e =
    let n : length params.names ≡ length params.kinds = sym p.lengths in
    record {
      kinds = record { below = p.below; few = let few = p.few in omega (arith, n, few) };
      dur = subst (λ k. IsLasting k (length d.constants.names) d.functions.kinds lasting) n l;
      pre = subst (λ k. All (IsLit k (length d.constants.names) d.predicates.kinds) conds.pre) n c.pre;
      absent = subst (λ k. All (IsLit k (length d.constants.names) d.predicates.kinds) conds.absent) n c.absent;
      add = subst (λ k. All (IsLit k (length d.constants.names) d.predicates.kinds) (lits_of effs.adds)) n (lits_all (LitOf d params) effs.adds e.adds.lits);
      dele = subst (λ k. All (IsLit k (length d.constants.names) d.predicates.kinds) (lits_of effs.dels)) n (lits_all (LitOf d params) effs.dels e.dels.lits);
      tests = subst (λ k. All (IsTest k (length d.constants.names)) conds.tests) n c.tests;
      few_conditions = c.few;
      few_adds = let m = length_lits effs.adds in let few = e.adds.few in omega (arith, m, few);
      few_deletes = let m = length_lits effs.dels in let few = e.dels.few in omega (arith, m, few);
    }

after_sound : (durative : Bool) (d : Declared) (name : List ℕ) (items : Items) → IsSoundDeclared d → Holds (SchemaOf d) (schema_after durative d name items)
unfolding schema_after
after_sound durative d name items h =
    holds_bind (λ (x : Typed × Items). AreTyped 16 (length d.types.names) x.0) (SchemaOf d) (parameters d items) _ (parameters_sound d items h.types.some)
    (λ params p. holds_bind (λ (x : Lasting × Items). LastingOf d params.0 x.0) (SchemaOf d) (lasting_next durative d params.0 params.1) _ (lasting_sound durative d params.0 params.1 h.functions.lengths)
    (λ lasting l. holds_bind (λ (x : Conds × Effs). SoundConds d params.0 x.0 × SoundEffs d params.0 x.1) (SchemaOf d) (body durative d params.0 lasting.1)
    (λ parts. Ok (assembled name params.0 lasting.0 parts.0 parts.1)) (body_sound durative d params.0 lasting.1 h.predicates.lengths)
    (λ parts b. assembled_sound d name params.0 lasting.0 parts.0 parts.1 p l b.0 b.1)))

-- a schema that is read is sound
pub schema_sound : (durative : Bool) (d : Declared) (known : List (List ℕ)) (items : Items) → IsSoundDeclared d → Holds (SchemaOf d) (schema_in durative d known items)
unfolding schema_in
schema_sound durative d known items h =
    holds_bind (λ _. Unit {0}) (SchemaOf d) (name_at items) _ (holds_any (name_at items))
    (λ name _. holds_if (SchemaOf d) (is_some (place_in known name.1)) (Err (faults.Twice name.0)) (schema_after durative d name.1 name.2) (λ _. tt)
    (λ _. after_sound durative d name.1 name.2 h))
