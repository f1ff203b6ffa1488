use Rattle.std.proofs.Common.{◌≡◌, ℕ, Bool, true, false, List, refl, ap, ◌∙◌, sym}
use Rattle.std.specs.Prelude.{is_some, Ok, None, Some, codes}
use Rattle.cpt_sexp.specs.Printing.{Nest}
use Rattle.cpt_sexp.specs.Printing as nest
use Rattle.cpt_pddl.specs.Items.{Items}
use Rattle.cpt_pddl.specs.Names.{place_in}
use Rattle.cpt_pddl.specs.Reading.{group_at, name_at, nothing}
use Rattle.cpt_pddl.specs.Words.{is_name}
use Rattle.cpt_declared.specs.declared.declared.Declared.{Declared}
use Rattle.cpt_schema.specs.declared.durations.Lasting.{Lasting}
use Rattle.cpt_schema.specs.declared.durations.Lasting.TheVariants.{Fixed}
use Rattle.cpt_schema.specs.declared.schemas.Schema.{Schema}
use Rattle.cpt_schema.specs.declared.terms.Lit.{Lit}
use Rattle.cpt_schema.specs.Conditions.{Conds}
use Rattle.cpt_schema.specs.Durations.{duration_next}
use Rattle.cpt_schema.specs.Effects.{Effs}
use Rattle.cpt_schema.specs.Schemas.{assembled, body, lasting_next, lits_of, parameters, part, schema_after, schema_in}
use Rattle.cpt_domain_spelling.specs.Saying.{says}
use Rattle.cpt_domain_spelling.specs.Spellable.{HasSpelling, IsSoundOver, IsTyped}
use Rattle.cpt_domain_spelling.specs.Spelling.{action_nest, condition_nest, plain_action_nest, plain_nest, parameters_of, timing_nest, variables_nest}
use Rattle.cpt_domain_spelling.proofs.ConditionLemmas.{conditions_back, timed_back}
use Rattle.cpt_domain_spelling.proofs.DurationLemmas.{duration_back}
use Rattle.cpt_domain_spelling.proofs.EffectLemmas.{effects_back, lits_of_marks, marks, plain_back}
use Rattle.cpt_domain_spelling.proofs.ItemLemmas.{bound, end_there, group_there, unless, when, word_there}
use Rattle.cpt_domain_spelling.proofs.NameLemmas.{same_bytes}
use Rattle.cpt_domain_spelling.proofs.SignatureLemmas.{variables_back}

-- a keyword with its group is found
record FindsPart (wanted : List ℕ) (items : Items) (inner rest : Nest) : Type 0 where
  at : ℕ
  inside : Items
  more : Items
  is : part wanted items ≡ Ok (Some (at, inside), more)
  within : says inside ≡ inner
  said : says more ≡ rest

part_there : (wanted : List ℕ) (items : Items) (inner rest : Nest) → says items ≡ nest.name wanted (nest.list inner rest) → FindsPart wanted items inner rest
part_there wanted items inner rest said =
    let w = word_there items wanted _ said in
    let g = group_there w.more _ _ w.said in
    record { at = g.at; inside = g.inside; more = g.more; is = ap (part wanted) w.is ∙ when _ _ (same_bytes wanted) ∙ bound _ (ap group_at g.is) refl; within = g.within; said = g.said }

abbrev conds : Schema → Conds
conds s = record { pre = s.pre; absent = s.absent; tests = s.tests }

abbrev effs : Schema → Effs
effs s = record { adds = marks false s.add; dels = marks true s.dele }

body_back : (d : Declared) (s : Schema) (items : Items) → HasSpelling d → IsSoundOver d s → IsTyped d s → says items ≡ condition_nest d s → body true d (parameters_of s.kinds) items ≡ Ok (conds s, effs s)
unfolding body
body_back d s items h sound typed said =
    let p = part_there (codes ":condition") items _ _ said in
    let q = part_there (codes ":effect") p.more _ _ p.said in
    let last = end_there q.more q.said in
    bound _ p.is (bound _ (timed_back d s p.at p.inside h sound typed p.within)
    (bound _ q.is (bound _ (effects_back d s q.at q.inside h sound typed q.within) (bound _ (ap nothing last.is) refl))))

-- what is in the groups of an action without a duration
plain_body_back : (d : Declared) (s : Schema) (items : Items) → HasSpelling d → IsSoundOver d s → IsTyped d s → says items ≡ plain_nest d s
    → body false d (parameters_of s.kinds) items ≡ Ok (conds s, record { adds = marks false s.add; dels = marks false s.dele })
unfolding body
plain_body_back d s items h sound typed said =
    let p = part_there (codes ":precondition") items _ _ said in
    let q = part_there (codes ":effect") p.more _ _ p.said in
    let last = end_there q.more q.said in
    bound _ p.is (bound _ (conditions_back d s p.at p.inside h sound typed p.within)
    (bound _ q.is (bound _ (plain_back d s q.at q.inside h sound typed q.within) (bound _ (ap nothing last.is) refl))))

-- a schema of its parts
whole : (s : Schema) (mark : Bool) (lasting : Lasting) → s.dur ≡ lasting → assembled s.name (parameters_of s.kinds) lasting (conds s) (record { adds = marks false s.add; dels = marks mark s.dele }) ≡ s
whole s mark lasting e =
    let make : Lasting → List Lit → List Lit → Schema =
    λ dur adds dels. record { name = s.name; kinds = s.kinds; dur = dur; pre = s.pre; add = adds; dele = dels; tests = s.tests; absent = s.absent } in
    ap (λ dur. make dur (lits_of (marks false s.add)) (lits_of (marks mark s.dele))) (sym e)
    ∙ ap (λ adds. make s.dur adds (lits_of (marks mark s.dele))) (lits_of_marks false s.add) ∙ ap (λ dels. make s.dur s.add dels) (lits_of_marks mark s.dele)

after_back : (d : Declared) (s : Schema) (items : Items) → HasSpelling d → IsSoundOver d s → IsTyped d s
    → says items ≡ nest.name (codes ":parameters") (nest.list (variables_nest d.types.names s.kinds) (timing_nest d s)) → schema_after true d s.name items ≡ Ok s
unfolding schema_after parameters duration_next
after_back d s items h sound typed said =
    let p = part_there (codes ":parameters") items _ _ said in
    let w = word_there p.more (codes ":duration") _ p.said in
    let g = group_there w.more _ _ w.said in
    bound _ (bound _ p.is (bound _ (variables_back d.types.names s.kinds p.inside h.types sound.kinds p.within) refl))
    (bound _ (ap (lasting_next true d (parameters_of s.kinds)) w.is
    ∙ bound _ (ap group_at g.is) (bound _ (duration_back d s.kinds g.at s.dur g.inside h sound.kinds.few sound.dur typed.dur g.within) refl))
    (bound _ (body_back d s g.more h sound typed g.said) (ap (λ x. Ok x) (whole s true s.dur refl))))

-- an action is read as it is, where its name is new
pub schema_back : (d : Declared) (s : Schema) (known : List (List ℕ)) (items : Items) → HasSpelling d → IsSoundOver d s → IsTyped d s → is_name s.name ≡ true → place_in known s.name ≡ None
    → says items ≡ action_nest d s → schema_in true d known items ≡ Ok s
unfolding schema_in
schema_back d s known items h sound typed own new said =
    let w = word_there items s.name _ said in
    bound _ (ap name_at w.is ∙ when _ _ own) (unless _ _ (ap is_some new) ∙ after_back d s w.more h sound typed w.said)

-- an action without a duration is read as it is, where its name is new
pub plain_schema_back : (d : Declared) (s : Schema) (known : List (List ℕ)) (items : Items) → HasSpelling d → IsSoundOver d s → IsTyped d s → s.dur ≡ Fixed 1 → is_name s.name ≡ true
    → place_in known s.name ≡ None → says items ≡ plain_action_nest d s → schema_in false d known items ≡ Ok s
unfolding schema_in schema_after parameters
plain_schema_back d s known items h sound typed e own new said =
    let w = word_there items s.name _ said in
    let p = part_there (codes ":parameters") w.more _ _ w.said in
    bound _ (ap name_at w.is ∙ when _ _ own)
    (unless _ _ (ap is_some new)
    ∙ bound _ (bound _ p.is (bound _ (variables_back d.types.names s.kinds p.inside h.types sound.kinds p.within) refl))
    (bound _ (plain_body_back d s p.more h sound typed p.said) (ap (λ x. Ok x) (whole s false (Fixed 1) e))))
