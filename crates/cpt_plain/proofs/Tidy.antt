use Rattle.std.proofs.Common.{◌≡◌, ℕ, ◌<◌, inl, inr, true, List, [], length, map, All, refl, sym, ◌∙◌, subst, arith}
use Rattle.std.specs.Prelude.{slice_index_or}
use Rattle.std.specs.List.{AllZip}
use Rattle.std.proofs.lemmas.List.{get_or-map, length-map}
use Rattle.std.proofs.lemmas.List.Elements.{All-contains, All-map, Contains-get_or}
use Rattle.std.proofs.Math.ListN as ListN
use Rattle.cpt_line.specs.Names.{AreNames, is_name}
use Rattle.cpt_pddl.specs.Words.{is_word}
use Rattle.cpt_task.specs.declared.task.Action.{Action}
use Rattle.cpt_task.specs.Shape.{TaskShape, InBounds}
use Rattle.cpt_task_text.specs.Plain.{HasShortLists, names_of}
use Rattle.cpt_schema.specs.declared.schemas.Schema.{Schema}
use Rattle.cpt_domain.specs.declared.domain.Domain.{Domain}
use Rattle.cpt_domain.specs.Sound.{IsSound}
use Rattle.cpt_facts.specs.declared.problem.Problem.{Problem}
use Rattle.cpt_facts.specs.Fitting.{AreObjects, Fits, objects_of}
use Rattle.cpt_instance.specs.declared.instances.Instance.{Instance}
use Rattle.cpt_instance.specs.Instances.{AreInstances, IsInstance, IsInstanceBefore, IsObjectOf, instance_name, no_schema, schema_at}
use Rattle.cpt_instance.specs.Instances as instances
use Rattle.cpt_instance.specs.Named.{IsNamed}
use Rattle.cpt_instance.proofs.Once.{name_once}
use Rattle.cpt_instance.proofs.WordNames.{words_of}
use Rattle.cpt_ground.specs.Compiled.{IsCompiledAction, IsGround, Literal}
use Rattle.cpt_ground.specs.Reading.{IsActionOf, IsReading}
use Rattle.cpt_ground.specs.declared.signed.Signed.{Signed}
use Rattle.cpt_ground.specs.declared.signed.SignedAction.{SignedAction}
use Rattle.cpt_ground.proofs.Unique.{list_irreflexive}
use Rattle.cpt_plain.specs.Laws.{KeptTasksArePlain}
use Rattle.cpt_plain.proofs.AtomNames.{atoms_named, objects_words}
use Rattle.cpt_plain.proofs.Groups.{group_legal}
use Rattle.cpt_plain.proofs.KeptPlain.{IsTidy, kept_plain}
use Rattle.cpt_plain.proofs.InRange.{ActionFits, actions_fit}
use Rattle.cpt_plain.proofs.Lists.{short_lists}
use Rattle.cpt_plain.proofs.Zips.{zip_all, zip_names}

schema_name : (d : Domain) (k : ℕ) → slice_index_or (map (λ (s : Schema). s.name) d.schemas) k [] ≡ (schema_at d k).name
schema_name d k = ListN.get_or-map (λ (s : Schema). s.name) d.schemas k no_schema

schema_word : (d : Domain) (k : ℕ) → IsSound d → k < length d.schemas → is_word (schema_at d k).name ≡ true
schema_word d k sound lt =
    subst (λ name. is_word name ≡ true) (schema_name d k) (sound.words.actions k [] (subst (λ n. k < n) (sym (length-map d.schemas (λ (s : Schema). s.name))) lt))

objects_known : (d : Domain) (p : Problem) (kinds args : List ℕ) → AllZip (IsObjectOf d p) kinds args → AreObjects d p args
objects_known d p kinds args h = zip_all (IsObjectOf d p) (λ o. o < length (objects_of d p)) kinds args h (λ kind o c k. k.known)

-- the names of instances are legal
instance_legal : (d : Domain) (p : Problem) (i : Instance) → IsSound d → Fits d p → IsInstance d p i → is_name (instance_name d p i) ≡ true
instance_legal d p i sound fits h =
    group_legal (schema_at d i.schema).name (instances.names_of d p i.args) (schema_word d i.schema sound h.typed.schema)
    (objects_words d p i.args fits (objects_known d p (schema_at d i.schema).kinds i.args h.typed.args))

instance_irreflexive : (i : Instance) → IsInstanceBefore i i → ⊥
instance_irreflexive i h = elim h [ inl lt ↦ omega arith | inr w ↦ list_irreflexive i.args w.1 ]

-- no instance
abbrev no_instance : Instance
no_instance = record { schema = 0; args = [] }

-- and different
instances_named : (d : Domain) (p : Problem) (xs : List Instance) → IsSound d → Fits d p → AreInstances d p xs → AreNames (map (instance_name d p) xs)
instances_named d p xs sound fits are =
    let is : (k : ℕ) (x : Instance) → k < length xs → IsInstance d p (slice_index_or xs k x) = λ k x lt. (are.exact (slice_index_or xs k x)).0 (Contains-get_or xs k x lt) in
    let size : length (map (instance_name d p) xs) ≡ length xs = length-map xs (instance_name d p) in
    record {
      legal = All-map (λ name. is_name name ≡ true) (instance_name d p) xs (λ k x lt. instance_legal d p (slice_index_or xs k x) sound fits (is k x lt));
      distinct = λ i j less lt e.
          let j_lt : j < length xs = omega arith in
          let i_lt : i < length xs = omega arith in
          let a = is i no_instance i_lt in
          let b = is j no_instance j_lt in
          let same : instance_name d p (slice_index_or xs i no_instance) ≡ instance_name d p (slice_index_or xs j no_instance) =
          sym (get_or-map (instance_name d p) xs i no_instance [] i_lt) ∙ e ∙ get_or-map (instance_name d p) xs j no_instance [] j_lt in
          let first : IsNamed d p (instance_name d p (slice_index_or xs j no_instance)) a.timed.0 (slice_index_or xs i no_instance) = record { instance = a; name_is = sym same; timed = a.timed.1 } in
          let second : IsNamed d p (instance_name d p (slice_index_or xs j no_instance)) b.timed.0 (slice_index_or xs j no_instance) = record { instance = b; name_is = refl; timed = b.timed.1 } in
          let one : slice_index_or xs i no_instance ≡ slice_index_or xs j no_instance =
          name_once d p (instance_name d p (slice_index_or xs j no_instance)) a.timed.0 b.timed.0 (slice_index_or xs i no_instance) (slice_index_or xs j no_instance) fits (words_of d p sound fits) first second in
          instance_irreflexive (slice_index_or xs i no_instance) (subst (IsInstanceBefore (slice_index_or xs i no_instance)) (sym one) (are.ordered i j no_instance less j_lt));
    }

-- the names of the actions of a ground task are those of the instances
names_are : (d : Domain) (p : Problem) (literals : List Literal) (s : Signed) (actions : List Action) (reads : IsReading d p s) → AllZip (IsCompiledAction literals) s.actions actions
    → names_of actions ≡ map (instance_name d p) reads.instances
names_are d p literals s actions reads h =
    zip_names (IsCompiledAction literals) (λ (a : SignedAction). a.name) (λ (c : Action). c.name) s.actions actions h (λ a c k. k.name)
    ∙ zip_names (IsActionOf d p) (instance_name d p) (λ (a : SignedAction). a.name) reads.instances s.actions reads.actions (λ i a k. k.name)

-- the ground task of a sound domain and a problem that fits it is tidy
pub ground_tidy : (d : Domain) (p : Problem) (t : TaskShape) → IsSound d → Fits d p → InBounds t → IsGround d p t → IsTidy t
ground_tidy d p t sound fits bounds g =
    let fit : All (ActionFits d p) g.reading.actions = actions_fit d p g.reading sound g.reads in
    record {
      atoms = subst AreNames (sym g.atoms) (atoms_named d p g.reading g.literals sound fits g.reads g.compiled.listed);
      actions = subst AreNames (sym (names_are d p g.literals g.reading t.actions g.reads g.compiled.actions)) (instances_named d p g.reads.instances sound fits g.reads.exact);
      lists = zip_all (IsCompiledAction g.literals) HasShortLists g.reading.actions t.actions g.compiled.actions
          (λ a c at h. short_lists d p g.reading g.literals a c g.compiled.listed (All-contains (ActionFits d p) g.reading.actions a fit at) h);
      init = g.compiled.init.ordered;
      goal = g.compiled.goal.ordered;
      bounds = bounds;
    }

-- so its kept part is plain
pub kept_tasks_are_plain : KeptTasksArePlain
kept_tasks_are_plain d p t kept sound fits bounds ground prunes =
    kept_plain t kept.task kept.atoms kept.actions (ground_tidy d p t sound fits bounds ground) prunes.0 prunes.1 prunes.2
