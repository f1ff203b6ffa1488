use Rattle.std.proofs.Common.{◌≡◌, ℕ, ◌<◌, ◌≤◌, List, length, get_or, All, Contains, refl, sym, ap, ◌∙◌, subst, arith, length-append}
use Rattle.std.proofs.lemmas.List.{length-map}
use Rattle.std.proofs.lemmas.List.Elements.{All-contains, All-map, Contains-get_or}
use Rattle.std.proofs.Math.ListN.{get_or-map}
use Rattle.cpt_schema.specs.declared.durations.Lasting.{Lasting}
use Rattle.cpt_schema.specs.declared.durations.Lasting.TheVariants.{Fixed, Value}
use Rattle.cpt_schema.specs.declared.schemas.Schema.{Schema}
use Rattle.cpt_schema.specs.declared.terms.Lit.{Lit}
use Rattle.cpt_schema.specs.declared.terms.Term.{Term}
use Rattle.cpt_schema.specs.declared.terms.Term.TheVariants.{Param, Object}
use Rattle.cpt_domain.specs.declared.domain.Domain.{Domain}
use Rattle.cpt_domain.specs.declared.domain.Predicate.{Predicate}
use Rattle.cpt_domain.specs.Sound.{IsSound, predicate_kinds, function_kinds}
use Rattle.cpt_domain.specs.SoundSchemas.{IsLasting, IsLit, IsSoundSchema, IsTerm}
use Rattle.cpt_facts.specs.declared.problem.Fact.{Fact}
use Rattle.cpt_facts.specs.declared.problem.Problem.{Problem}
use Rattle.cpt_facts.specs.declared.problem.Valued.{Valued}
use Rattle.cpt_facts.specs.Fitting.{AreObjects, FactFits, Fits, Names, ValueFits, no_predicate, objects_of}
use Rattle.cpt_instance.specs.declared.instances.Instance.{Instance}
use Rattle.cpt_instance.specs.Instances.{HasDuration, IsInstance, IsObjectOf, ground_atom, ground_atoms, object_for, objects_for, schema_at}
use Rattle.cpt_task.specs.Shape.{TaskShape, IsDuration}
use Rattle.cpt_ground.specs.Compilable.{ActionFits, AreAtoms, IsCompilable, IsTaskOf}
use Rattle.cpt_ground.specs.Compiled.{IsGround}
use Rattle.cpt_ground.specs.Reading.{IsActionOf, IsReading}
use Rattle.cpt_ground.specs.Signed.{Signed, SignedAction}
use Rattle.cpt_ground.proofs.ListLemmas.{zip-all, zip-length, zip-second}

-- the objects of an instance are objects
args-known : (d : Domain) (p : Problem) (i : Instance) → IsInstance d p i → AreObjects d p i.args
args-known d p i h = zip-second (IsObjectOf d p) (λ o. o < length (objects_of d p)) (λ kind o fits. fits.known) (schema_at d i.schema).kinds i.args h.typed.args

-- and so is what a term stands for
term-known : (d : Domain) (p : Problem) (args : List ℕ) (params : ℕ) (t : Term) → params ≡ length args → AreObjects d p args → IsTerm params (length d.constants) t
    → object_for args t < length (objects_of d p)
term-known d p args params (Param k) size known h = known k 0 (let lt : k < params = h in omega arith)
term-known d p args params (Object o) size known h = let lt : o < length d.constants = h in omega (arith, length-append d.constants p.objects)

-- an atom of a schema is an atom of the domain and the problem
atom-fits : (d : Domain) (p : Problem) (args : List ℕ) (params : ℕ) (lit : Lit) → params ≡ length args → AreObjects d p args → IsLit params (length d.constants) (predicate_kinds d) lit
    → FactFits d p (ground_atom args lit)
atom-fits d p args params lit size known h = record {
  pred = (let lt : lit.pred < length (predicate_kinds d) = h.known in omega (arith, length-map d.predicates (λ (q : Predicate). q.kinds)));
  arity = length-map lit.terms (object_for args) ∙ h.arity ∙ ap length (get_or-map (λ (q : Predicate). q.kinds) d.predicates lit.pred no_predicate);
  args = All-map (λ o. o < length (objects_of d p)) (object_for args) lit.terms (λ k t lt. term-known d p args params (get_or lit.terms k t) size known (h.fit k t lt));
}

atoms-fit : (d : Domain) (p : Problem) (args : List ℕ) (params most : ℕ) (lits : List Lit) (facts : List Fact) → params ≡ length args → AreObjects d p args
    → All (IsLit params (length d.constants) (predicate_kinds d)) lits → length lits ≤ most → facts ≡ ground_atoms args lits → AreAtoms d p most facts
atoms-fit d p args params most lits facts size known all few e = subst (AreAtoms d p most) (sym e) (record {
  fit = All-map (FactFits d p) (ground_atom args) lits (λ k lit lt. atom-fits d p args params (get_or lits k lit) size known (all k lit lt));
  few = omega (arith, few, length-map lits (ground_atom args));
})

-- a duration is from 1 to 100,000
duration-fits : (d : Domain) (p : Problem) (args : List ℕ) (params : ℕ) (s : Schema) (lasting : Lasting) (n : ℕ) → Fits d p → Contains d.schemas s → s.dur ≡ lasting
    → IsLasting params (length d.constants) (function_kinds d) lasting → HasDuration p args lasting n → IsDuration n
duration-fits d p args params s (Fixed m) n fits has e h timed = let same : m ≡ n = timed in subst IsDuration same h
duration-fits d p args params s (Value func terms) n fits has e h timed =
    let v : Valued = record { func = func; args = objects_for args terms; value = n } in
    let fine : ValueFits d p v = All-contains (ValueFits d p) p.values v fits.values timed in
    let names : Names s.dur func = subst (λ l. Names l func) (sym e) refl in
    fine.duration (s, has, names)

-- an action of a reading fits
action-fits : (d : Domain) (p : Problem) → IsSound d → Fits d p → (i : Instance) (a : SignedAction) → IsActionOf d p i a → IsInstance d p i → ActionFits d p a
action-fits d p sound fits i a h inst =
    let s = schema_at d i.schema in
    let lt : i.schema < length d.schemas = inst.typed.schema in
    let fine : IsSoundSchema (length d.types) (length d.constants) (predicate_kinds d) (function_kinds d) s = sound.fit.actions i.schema _ lt in
    let known = args-known d p i inst in
    let size : length s.kinds ≡ length i.args = zip-length (IsObjectOf d p) s.kinds i.args inst.typed.args in
    record {
      dur = duration-fits d p i.args (length s.kinds) s s.dur a.dur fits (Contains-get_or d.schemas i.schema _ lt) refl fine.dur h.dur;
      present = atoms-fit d p i.args (length s.kinds) 64 s.pre a.present size known fine.pre (omega (arith, fine.few_conditions)) h.present;
      absent = atoms-fit d p i.args (length s.kinds) 64 s.absent a.absent size known fine.absent (omega (arith, fine.few_conditions)) h.absent;
      add = atoms-fit d p i.args (length s.kinds) 64 s.add a.add size known fine.add fine.few_adds h.add;
      dele = atoms-fit d p i.args (length s.kinds) 64 s.dele a.dele size known fine.dele fine.few_deletes h.dele;
    }

given-fit : (d : Domain) (p : Problem) (xs ys : List Fact) → All (FactFits d p) ys → length ys < 16777216 → xs ≡ ys → AreAtoms d p 16777215 xs
given-fit d p xs ys all few e = subst (AreAtoms d p 16777215) (sym e) (record { fit = all; few = omega (arith, few) })

-- a reading of a sound domain and a problem that fits it, with at most 1,000,000 actions
pub reading_fits : (d : Domain) (p : Problem) (s : Signed) → IsSound d → Fits d p → IsReading d p s → length s.actions ≤ 1000000 → IsCompilable d p s
reading_fits d p s sound fits reads few = record {
  init = given-fit d p s.init p.init fits.init fits.few_init reads.init;
  goal = given-fit d p s.goal p.goal fits.goal fits.few_goal reads.goal;
  absent = given-fit d p s.absent p.absent fits.absent fits.few_absent reads.absent;
  actions = zip-all (IsActionOf d p) (IsInstance d p) (ActionFits d p) (action-fits d p sound fits) reads.instances s.actions reads.actions
      (λ k i lt. (reads.exact.exact (get_or reads.instances k i)).0 (Contains-get_or reads.instances k i lt));
  few_actions = few;
}

-- the task of a reading is the ground task
pub task_is_ground : (d : Domain) (p : Problem) (s : Signed) (t : TaskShape) → IsReading d p s → IsTaskOf d p s t → IsGround d p t
task_is_ground d p s t reads h = record { reading = s; reads = reads; literals = h.0; compiled = h.1; atoms = h.2 }
