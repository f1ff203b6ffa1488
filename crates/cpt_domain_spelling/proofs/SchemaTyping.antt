use Rattle.std.proofs.Common.{◌≡◌, ℕ, ◌∷◌, [], Bool, true, false, List, All}
use Rattle.std.specs.Prelude.{◌&&◌, is_some, nat_le, Result, Ok, Err, Option, None, Some, codes}
use Rattle.std.proofs.lemmas.List.Elements.{All-cons, All-head, All-nil, All-tail}
use Rattle.cpt_pddl.specs.declared.fault.Feature.TheVariants as features
use Rattle.cpt_pddl.specs.declared.fault.Fault.{Fault}
use Rattle.cpt_pddl.specs.declared.fault.Fault.TheVariants as faults
use Rattle.cpt_pddl.specs.declared.typed.Typed.{Typed}
use Rattle.cpt_pddl.specs.Items.{Items, end, word, group}
use Rattle.cpt_pddl.specs.Names.{place_in}
use Rattle.cpt_pddl.specs.Reading.{after_word, group_at, name_at, nothing}
use Rattle.cpt_pddl.specs.Words.{is_name, number_in}
use Rattle.cpt_declared.specs.declared.declared.Declared.{Declared}
use Rattle.cpt_schema.specs.declared.durations.Lasting.{Lasting}
use Rattle.cpt_schema.specs.declared.durations.Lasting.TheVariants.{Fixed, Value}
use Rattle.cpt_schema.specs.declared.effects.Effect.{Effect}
use Rattle.cpt_schema.specs.declared.effects.Tag.TheVariants.{Plain}
use Rattle.cpt_schema.specs.declared.schemas.Schema.{Schema}
use Rattle.cpt_schema.specs.declared.terms.Lit.{Lit}
use Rattle.cpt_schema.specs.Conditions.{Conds}
use Rattle.cpt_schema.specs.Durations.{after_this, duration_after, duration_by, duration_in, duration_next, duration_value, fixed, fixed_by, function_term, is_asked, is_sum, valued}
use Rattle.cpt_schema.specs.Effects.{Effs}
use Rattle.cpt_schema.specs.Schemas.{assembled, body, condition_part, condition_word, effect_part, lasting_next, lits_of, no_conds, no_effs, parameters, part, schema_after, schema_in}
use Rattle.cpt_schema.specs.Terms.{applied}
use Rattle.cpt_domain_spelling.specs.Spellable.{AreUnreserved, IsFreeAtom, IsTyped, IsTypedAtom, IsTypedLasting}
use Rattle.cpt_domain_spelling.proofs.ConditionTyping.{TypedConds, condition_typed, timed_condition_typed}
use Rattle.cpt_domain_spelling.proofs.EffectTyping.{EachLit, TypedEffs, effect_typed, timed_effect_typed}
use Rattle.cpt_domain_spelling.proofs.HoldsLemmas.{Holds, holds_after, holds_bind, holds_if, holds_ok}
use Rattle.cpt_domain_spelling.proofs.TermTyping.{AppliedOf, applied_typed}

module _ (d : Declared) (params : Typed) where
  fixed_by_typed : (at : ℕ) (o : Option ℕ) → Holds (IsTypedLasting d params.kinds) (fixed_by at o)
  fixed_by_typed at None = tt
  fixed_by_typed at (Some n) = holds_if (IsTypedLasting d params.kinds) (nat_le 1 n && nat_le n 100000) (Ok (Fixed n)) (Err (faults.Duration at)) (λ _. tt) (λ _. tt)

  fixed_typed : (at : ℕ) (w : List ℕ) (rest : Items) → Holds (IsTypedLasting d params.kinds) (fixed at w rest)
  unfolding fixed
  fixed_typed at w rest =
      holds_bind (IsTypedLasting d params.kinds) (IsTypedLasting d params.kinds) (fixed_by at (number_in w)) _ (fixed_by_typed at (number_in w))
      (λ lasting k. holds_after (IsTypedLasting d params.kinds) (nothing rest) (λ _. Ok lasting) (λ _. k))

  function_typed : (atom : ℕ) (items : Items) → Holds (λ (lit : Lit). IsTypedLasting d params.kinds (Value lit.pred lit.terms)) (function_term d params atom items)
  function_typed atom (end close) = tt
  function_typed atom (word at w rest) =
      let P : Lit → Type 0 = λ lit. IsTypedLasting d params.kinds (Value lit.pred lit.terms) in
      holds_if P (is_name w) (applied d params d.functions atom at w rest) (Err (faults.Shape at))
      (λ _. weaker w (applied d params d.functions atom at w rest) (applied_typed d params d.functions atom at w rest)) (λ _. tt) where
        weaker : (w : List ℕ) (r : Result Lit Fault) → Holds (AppliedOf d params.kinds d.functions w) r → Holds (λ (lit : Lit). IsTypedLasting d params.kinds (Value lit.pred lit.terms)) r
        weaker w (Ok lit) h = h.typed
        weaker w (Err f) h = tt
  function_typed atom (group at inside rest) = tt

  valued_typed : (atom : ℕ) (inside rest : Items) → Holds (IsTypedLasting d params.kinds) (valued d params atom inside rest)
  unfolding valued
  valued_typed atom inside rest =
      holds_bind (λ (lit : Lit). IsTypedLasting d params.kinds (Value lit.pred lit.terms)) (IsTypedLasting d params.kinds) (function_term d params atom inside) _ (function_typed atom inside)
      (λ term k. holds_after (IsTypedLasting d params.kinds) (nothing rest) (λ _. Ok (Value term.pred term.terms)) (λ _. k))

  value_typed : (from : ℕ) (items : Items) → Holds (IsTypedLasting d params.kinds) (duration_value d params from items)
  value_typed from (end close) = tt
  value_typed from (word at w rest) =
      holds_if (IsTypedLasting d params.kinds) (is_asked w) (Err (faults.Feature features.Duration from)) (fixed at w rest) (λ _. tt) (λ _. fixed_typed at w rest)
  value_typed from (group at inside rest) =
      holds_if (IsTypedLasting d params.kinds) (is_sum inside) (Err (faults.Feature features.Duration from)) (valued d params at inside rest) (λ _. tt) (λ _. valued_typed at inside rest)

  by_typed : (from : ℕ) (o : Option Items) → Holds (IsTypedLasting d params.kinds) (duration_by d params from o)
  by_typed from None = tt
  by_typed from (Some rest) = value_typed from rest

  after_typed : (from : ℕ) (o : Option Items) → Holds (IsTypedLasting d params.kinds) (duration_after d params from o)
  after_typed from None = tt
  after_typed from (Some rest) = by_typed from (after_this (codes "?duration") rest)

  next_typed : (items : Items) → Holds (λ (x : Lasting × Items). IsTypedLasting d params.kinds x.0) (duration_next d params items)
  unfolding duration_next duration_in
  next_typed items =
      let P : Lasting × Items → Type 0 = λ x. IsTypedLasting d params.kinds x.0 in
      holds_after P (group_at items) _
      (λ found. holds_bind (IsTypedLasting d params.kinds) P (duration_after d params found.0 (after_this (codes "=") found.1)) (λ lasting. Ok (lasting, found.2))
      (after_typed found.0 (after_this (codes "=") found.1)) (λ lasting k. k))

  lasting_typed : (durative : Bool) (items : Items) → Holds (λ (x : Lasting × Items). IsTypedLasting d params.kinds x.0) (lasting_next durative d params items)
  lasting_typed true items =
      holds_after (λ (x : Lasting × Items). IsTypedLasting d params.kinds x.0) (after_word (codes ":duration") items) (λ rest. duration_next d params rest) (λ rest. next_typed rest)
  lasting_typed false items = tt

  no_conds_typed : TypedConds d params.kinds no_conds
  no_conds_typed = record { pre = All-nil (IsTypedAtom d params.kinds); free = All-nil (IsFreeAtom d); absent = All-nil (IsTypedAtom d params.kinds) }

  no_effs_typed : TypedEffs d params.kinds no_effs
  no_effs_typed = record {
    adds = All-nil (λ (e : Effect). IsTypedAtom d params.kinds e.lit);
    free = All-nil (λ (e : Effect). IsFreeAtom d e.lit);
    dels = All-nil (λ (e : Effect). IsTypedAtom d params.kinds e.lit);
  }

  condition_part_typed : (tagged : Bool) (o : Option (ℕ × Items)) → AreUnreserved d.predicates.names → Holds (TypedConds d params.kinds) (condition_part tagged d params o)
  condition_part_typed true None u = no_conds_typed
  condition_part_typed false None u = no_conds_typed
  condition_part_typed true (Some found) u = timed_condition_typed d params u no_conds found.0 found.1 no_conds_typed
  condition_part_typed false (Some found) u = condition_typed d params u no_conds found.0 found.1 no_conds_typed

  effect_part_typed : (tagged : Bool) (o : Option (ℕ × Items)) → AreUnreserved d.predicates.names → Holds (TypedEffs d params.kinds) (effect_part tagged d params o)
  effect_part_typed true None u = no_effs_typed
  effect_part_typed false None u = no_effs_typed
  effect_part_typed true (Some found) u = timed_effect_typed d params u no_effs found.0 found.1 no_effs_typed
  effect_part_typed false (Some found) u = effect_typed d params u Plain no_effs found.0 found.1 no_effs_typed

  body_typed : (tagged : Bool) (items : Items) → AreUnreserved d.predicates.names → Holds (λ (x : Conds × Effs). TypedConds d params.kinds x.0 × TypedEffs d params.kinds x.1) (body tagged d params items)
  unfolding body
  body_typed tagged items u =
      let P : Conds × Effs → Type 0 = λ x. TypedConds d params.kinds x.0 × TypedEffs d params.kinds x.1 in
      holds_after P (part (condition_word tagged) items) _
      (λ condition. holds_bind (TypedConds d params.kinds) P (condition_part tagged d params condition.0) _ (condition_part_typed tagged condition.0 u)
      (λ conds c. holds_after P (part (codes ":effect") condition.1) _
      (λ effect. holds_bind (TypedEffs d params.kinds) P (effect_part tagged d params effect.0) _ (effect_part_typed tagged effect.0 u)
      (λ effs f. holds_after P (nothing effect.1) (λ _. Ok (conds, effs)) (λ _. (c, f))))))

each_lit : (P : Lit → Type 0) (es : List Effect) → EachLit P es → All P (lits_of es)
each_lit P [] h = All-nil P
each_lit P (e ∷ es) h = All-cons P e.lit (lits_of es) (All-head (λ (e : Effect). P e.lit) e es h) (each_lit P es (All-tail (λ (e : Effect). P e.lit) e es h))

-- an action that is read has this name, and terms of the types that are wanted
pub record SchemaRead (d : Declared) (s : Schema) : Type 0 where
  pub typed : IsTyped d s
  pub name : is_name s.name ≡ true

after_read : (durative : Bool) (d : Declared) (name : List ℕ) (items : Items) → AreUnreserved d.predicates.names → is_name name ≡ true → Holds (SchemaRead d) (schema_after durative d name items)
unfolding schema_after
after_read durative d name items u own =
    holds_after (SchemaRead d) (parameters d items) _
    (λ params. holds_bind (λ (x : Lasting × Items). IsTypedLasting d params.0.kinds x.0) (SchemaRead d) (lasting_next durative d params.0 params.1) _ (lasting_typed d params.0 durative params.1)
    (λ lasting l. holds_bind (λ (x : Conds × Effs). TypedConds d params.0.kinds x.0 × TypedEffs d params.0.kinds x.1) (SchemaRead d) (body durative d params.0 lasting.1)
    (λ parts. Ok (assembled name params.0 lasting.0 parts.0 parts.1)) (body_typed d params.0 durative lasting.1 u)
    (λ parts b. record {
      typed = record {
        dur = l;
        pre = b.0.pre;
        absent = b.0.absent;
        add = each_lit (IsTypedAtom d params.0.kinds) parts.1.adds b.1.adds;
        dele = each_lit (IsTypedAtom d params.0.kinds) parts.1.dels b.1.dels;
        free_pre = b.0.free;
        free_add = each_lit (IsFreeAtom d) parts.1.adds b.1.free;
      };
      name = own;
    })))

pub name_read : (items : Items) → Holds (λ (n : ℕ × List ℕ × Items). is_name n.1 ≡ true) (name_at items)
name_read (end close) = tt
name_read (word at w rest) = holds_if (λ (n : ℕ × List ℕ × Items). is_name n.1 ≡ true) (is_name w) (Ok (at, w, rest)) (Err (faults.Shape at)) (λ is. is) (λ _. tt)
name_read (group at inside rest) = tt

pub schema_read : (durative : Bool) (d : Declared) (known : List (List ℕ)) (items : Items) → AreUnreserved d.predicates.names → Holds (SchemaRead d) (schema_in durative d known items)
unfolding schema_in
schema_read durative d known items u =
    holds_bind (λ (n : ℕ × List ℕ × Items). is_name n.1 ≡ true) (SchemaRead d) (name_at items) _ (name_read items)
    (λ name own. holds_if (SchemaRead d) (is_some (place_in known name.1)) (Err (faults.Twice name.0)) (schema_after durative d name.1 name.2) (λ _. tt)
    (λ _. after_read durative d name.1 name.2 u own))

-- an action that is read has terms of the types that are wanted
pub schema_typed : (durative : Bool) (d : Declared) (known : List (List ℕ)) (items : Items) (s : Schema) → AreUnreserved d.predicates.names → schema_in durative d known items ≡ Ok s → IsTyped d s
schema_typed durative d known items s u e = (holds_ok (SchemaRead d) (schema_in durative d known items) s e (schema_read durative d known items u)).typed
