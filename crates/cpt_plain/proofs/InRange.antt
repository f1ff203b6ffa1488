use Rattle.std.proofs.Common.{◌≡◌, ℕ, ◌+◌, ◌<◌, ◌≤◌, inl, inr, Bool, true, ◌||◌, List, length, All, sym, ap, ◌∙◌, subst, arith, length-append}
use Rattle.std.specs.Prelude.{slice_index_or}
use Rattle.std.specs.List.{AllZip, list_any}
use Rattle.std.proofs.Math.ListN as ListN
use Rattle.std.proofs.lemmas.Bool.{or_cases}
use Rattle.std.proofs.lemmas.List.{length-map}
use Rattle.std.proofs.lemmas.List.Elements.{All-map, AllZip-get_or}
use Rattle.cpt_schema.specs.declared.terms.Lit.{Lit}
use Rattle.cpt_schema.specs.declared.terms.Term.{Term}
use Rattle.cpt_schema.specs.declared.terms.Term.TheVariants.{Param, Object}
use Rattle.cpt_domain.specs.declared.domain.Domain.{Domain}
use Rattle.cpt_domain.specs.declared.domain.Predicate.{Predicate}
use Rattle.cpt_domain.specs.Sound.{IsSound, function_kinds, predicate_kinds}
use Rattle.cpt_domain.specs.SoundSchemas.{IsLit, IsSoundSchema, IsTerm}
use Rattle.cpt_facts.specs.declared.problem.Fact.{Fact}
use Rattle.cpt_facts.specs.declared.problem.Problem.{Problem}
use Rattle.cpt_facts.specs.Fitting.{FactFits, Fits, no_predicate, objects_of}
use Rattle.cpt_instance.specs.declared.instances.Instance.{Instance}
use Rattle.cpt_instance.specs.Instances.{IsObjectOf, IsTyped, ground_atom, ground_atoms, no_schema, object_for, schema_at}
use Rattle.cpt_ground.specs.Compiled.{Literal, there, missing, is_used}
use Rattle.cpt_ground.specs.Reading.{IsActionOf, IsReading}
use Rattle.cpt_ground.specs.declared.signed.Signed.{Signed}
use Rattle.cpt_ground.specs.declared.signed.SignedAction.{SignedAction}
use Rattle.cpt_ground.specs.Signed.{has, signed_idle}
use Rattle.cpt_ground.proofs.Facts.{all_has, any_place}
use Rattle.cpt_plain.proofs.Zips.{zip_all}

-- the object that a term stands for is one of those that there are
term_known : (d : Domain) (p : Problem) (kinds args : List ℕ) (t : Term) → AllZip (IsObjectOf d p) kinds args → IsTerm (length kinds) (length d.constants) t → object_for args t < length (objects_of d p)
term_known d p kinds args (Param n) objects h = (AllZip-get_or (IsObjectOf d p) kinds args n 0 0 objects h).known
term_known d p kinds args (Object n) objects h = let lt : n < length d.constants = h in omega (arith, length-append d.constants p.objects)

-- an atom of an action at such objects is one of those that there are
lit_fits : (d : Domain) (p : Problem) (kinds args : List ℕ) (lit : Lit) → AllZip (IsObjectOf d p) kinds args → IsLit (length kinds) (length d.constants) (predicate_kinds d) lit → FactFits d p (ground_atom args lit)
lit_fits d p kinds args lit objects h =
    let kinds_of : Predicate → List ℕ = λ q. q.kinds in
    let size : length (predicate_kinds d) ≡ length d.predicates = length-map d.predicates (λ (q : Predicate). q.kinds) in
    let known : lit.pred < length (predicate_kinds d) = h.known in
    record {
      pred = subst (λ n. lit.pred < n) size known;
      arity = length-map lit.terms (object_for args) ∙ h.arity ∙ ap length (ListN.get_or-map (λ (q : Predicate). q.kinds) d.predicates lit.pred no_predicate);
      args = All-map (λ o. o < length (objects_of d p)) (object_for args) lit.terms (λ k x lt. term_known d p kinds args (slice_index_or lit.terms k x) objects (h.fit k x lt));
    }

lits_fit : (d : Domain) (p : Problem) (kinds args : List ℕ) (lits : List Lit) → AllZip (IsObjectOf d p) kinds args → All (IsLit (length kinds) (length d.constants) (predicate_kinds d)) lits → All (FactFits d p) (ground_atoms args lits)
lits_fit d p kinds args lits objects h = All-map (FactFits d p) (ground_atom args) lits (λ k x lt. lit_fits d p kinds args (slice_index_or lits k x) objects (h k x lt))

-- an action whose atoms are among those that there are, in short lists
pub record ActionFits (d : Domain) (p : Problem) (a : SignedAction) : Type 0 where
  pub present : All (FactFits d p) a.present
  pub absent : All (FactFits d p) a.absent
  pub add : All (FactFits d p) a.add
  pub dele : All (FactFits d p) a.dele
  pub few_conditions : length a.present + length a.absent ≤ 64
  pub few_adds : length a.add ≤ 64
  pub few_deletes : length a.dele ≤ 64

pub action_fits : (d : Domain) (p : Problem) (i : Instance) (a : SignedAction) → IsSound d → IsTyped d p i → IsActionOf d p i a → ActionFits d p a
action_fits d p i a sound typed h =
    let s : IsSoundSchema (length d.types) (length d.constants) (predicate_kinds d) (function_kinds d) (schema_at d i.schema) = sound.fit.actions i.schema no_schema typed.schema in
    let pre : length a.present ≡ length (schema_at d i.schema).pre = ap length h.present ∙ length-map (schema_at d i.schema).pre (ground_atom i.args) in
    let absent : length a.absent ≡ length (schema_at d i.schema).absent = ap length h.absent ∙ length-map (schema_at d i.schema).absent (ground_atom i.args) in
    let add : length a.add ≡ length (schema_at d i.schema).add = ap length h.add ∙ length-map (schema_at d i.schema).add (ground_atom i.args) in
    let dele : length a.dele ≡ length (schema_at d i.schema).dele = ap length h.dele ∙ length-map (schema_at d i.schema).dele (ground_atom i.args) in
    let conditions : length (schema_at d i.schema).pre + length (schema_at d i.schema).absent ≤ 64 = s.few_conditions in
    let adds : length (schema_at d i.schema).add ≤ 64 = s.few_adds in
    let deletes : length (schema_at d i.schema).dele ≤ 64 = s.few_deletes in
    record {
      present = subst (All (FactFits d p)) (sym h.present) (lits_fit d p (schema_at d i.schema).kinds i.args (schema_at d i.schema).pre typed.args s.pre);
      absent = subst (All (FactFits d p)) (sym h.absent) (lits_fit d p (schema_at d i.schema).kinds i.args (schema_at d i.schema).absent typed.args s.absent);
      add = subst (All (FactFits d p)) (sym h.add) (lits_fit d p (schema_at d i.schema).kinds i.args (schema_at d i.schema).add typed.args s.add);
      dele = subst (All (FactFits d p)) (sym h.dele) (lits_fit d p (schema_at d i.schema).kinds i.args (schema_at d i.schema).dele typed.args s.dele);
      few_conditions = omega arith;
      few_adds = omega arith;
      few_deletes = omega arith;
    }

pub actions_fit : (d : Domain) (p : Problem) (s : Signed) → IsSound d → IsReading d p s → All (ActionFits d p) s.actions
actions_fit d p s sound reads =
    zip_all (IsActionOf d p) (ActionFits d p) reads.instances s.actions reads.actions (λ i a c h. action_fits d p i a sound ((reads.exact.exact i).0 c).typed h)

-- the ground atom of a literal
abbrev pub fact_of : Literal → Fact
fact_of (there f) = f
fact_of (missing f) = f

-- a list in which an atom of the action is
in_action : (d : Domain) (p : Problem) (a : SignedAction) (f : Fact) → ActionFits d p a → ((has a.present f || has a.add f) || has a.dele f) ≡ true → FactFits d p f
in_action d p a f fits h = elim (or_cases (has a.present f || has a.add f) (has a.dele f) h) [
  | inl w ↦ elim (or_cases (has a.present f) (has a.add f) w) [ inl e ↦ all_has (FactFits d p) a.present f fits.present e | inr e ↦ all_has (FactFits d p) a.add f fits.add e ]
  | inr e ↦ all_has (FactFits d p) a.dele f fits.dele e
]

-- an atom that the task has is one of those that there are
pub literal_fits : (d : Domain) (p : Problem) (s : Signed) (l : Literal) → IsSound d → Fits d p → IsReading d p s → is_used s l ≡ true → FactFits d p (fact_of l)
literal_fits d p s (there f) sound fits reads h =
    let test : SignedAction → Bool = λ a. (has a.present f || has a.add f) || has a.dele f in
    elim (or_cases (has s.init f || has s.goal f) (list_any (λ (a : SignedAction). (has a.present f || has a.add f) || has a.dele f) s.actions) h) [
      | inl w ↦ elim (or_cases (has s.init f) (has s.goal f) w) [
        | inl e ↦ all_has (FactFits d p) s.init f (subst (All (FactFits d p)) (sym reads.init) fits.init) e
        | inr e ↦ all_has (FactFits d p) s.goal f (subst (All (FactFits d p)) (sym reads.goal) fits.goal) e
      ]
      | inr some ↦ let at = any_place (λ (a : SignedAction). (has a.present f || has a.add f) || has a.dele f) s.actions signed_idle some in
          in_action d p (slice_index_or s.actions at.0 signed_idle) f (actions_fit d p s sound reads at.0 signed_idle at.1) at.2
    ]
literal_fits d p s (missing f) sound fits reads h =
    elim (or_cases (has s.absent f) (list_any (λ (a : SignedAction). has a.absent f) s.actions) h) [
      | inl e ↦ all_has (FactFits d p) s.absent f (subst (All (FactFits d p)) (sym reads.absent) fits.absent) e
      | inr some ↦ let at = any_place (λ (a : SignedAction). has a.absent f) s.actions signed_idle some in
          all_has (FactFits d p) (slice_index_or s.actions at.0 signed_idle).absent f (actions_fit d p s sound reads at.0 signed_idle at.1).absent at.2
    ]
