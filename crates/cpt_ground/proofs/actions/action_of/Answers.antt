use Rattle.std.proofs.Common.{◌≡◌, ◌∙◌, ap, subst, sym}
use Rattle.std.specs.Prelude.{IsSome}
use Rattle.cpt_schema.specs.declared.schemas.Schema.{Schema}
use Rattle.cpt_instance.specs.Durations.{duration_in}
use Rattle.cpt_instance.specs.Instances.{ground_atoms, group_of, names_of, schema_at}
use Rattle.cpt_ground.proofs.ReadingLemmas.{has_duration, is_timed}
use Rattle.cpt_ground.proofs.actions.action_of.Goals as goal

pub unwrap-requires : goal.unwrap-requires
unwrap-requires c =
    let found : c.in_ok-duration_in.field-0 ≡ duration_in c.args.values.now c.args.instance.now.args (schema_at c.args.domain.now c.args.instance.now.schema).dur =
    c.in_ok-duration_in.ensures
    ∙ ap (λ xs. duration_in c.args.values.now xs c.schema_of-schema.result.now.dur) c.as_slice-args.ensures
    ∙ ap (λ (s : Schema). duration_in c.args.values.now c.args.instance.now.args s.dur) c.schema_of-schema.ensures in
    subst IsSome (sym found) (is_timed c.args.domain.now c.args.problem.now c.args.values.now c.args.instance.now c.requires.mapped c.requires.instance)

pub returns : goal.returns
returns c =
    let found : c.in_ok-duration_in.field-0 ≡ duration_in c.args.values.now c.args.instance.now.args (schema_at c.args.domain.now c.args.instance.now.schema).dur =
    c.in_ok-duration_in.ensures
    ∙ ap (λ xs. duration_in c.args.values.now xs c.schema_of-schema.result.now.dur) c.as_slice-args.ensures
    ∙ ap (λ (s : Schema). duration_in c.args.values.now c.args.instance.now.args s.dur) c.schema_of-schema.ensures in
    record {
      name = c.in_ok-group_name.ensures
          ∙ ap (λ xs. group_of xs (names_of c.args.domain.now c.args.problem.now c.as_slice-args.result.now)) (c.as_slice.ensures ∙ ap (λ (s : Schema). s.name) c.schema_of-schema.ensures)
          ∙ ap (λ xs. group_of (schema_at c.args.domain.now c.args.instance.now.schema).name (names_of c.args.domain.now c.args.problem.now xs)) c.as_slice-args.ensures;
      dur = has_duration c.args.domain.now c.args.problem.now c.args.values.now c.args.instance.now c.unwrap.result c.requires.mapped (sym found ∙ c.unwrap.ensures);
      present = c.in_ok-ground_atoms.ensures
          ∙ ap (λ xs. ground_atoms xs c.as_slice-2.result.now) c.as_slice-args.ensures
          ∙ ap (ground_atoms c.args.instance.now.args) (c.as_slice-2.ensures ∙ ap (λ (s : Schema). s.pre) c.schema_of-schema.ensures);
      absent = c.in_ok-ground_atoms-2.ensures
          ∙ ap (λ xs. ground_atoms xs c.as_slice-3.result.now) c.as_slice-args.ensures
          ∙ ap (ground_atoms c.args.instance.now.args) (c.as_slice-3.ensures ∙ ap (λ (s : Schema). s.absent) c.schema_of-schema.ensures);
      add = c.in_ok-ground_atoms-3.ensures
          ∙ ap (λ xs. ground_atoms xs c.as_slice-4.result.now) c.as_slice-args.ensures
          ∙ ap (ground_atoms c.args.instance.now.args) (c.as_slice-4.ensures ∙ ap (λ (s : Schema). s.add) c.schema_of-schema.ensures);
      dele = c.in_ok-ground_atoms-4.ensures
          ∙ ap (λ xs. ground_atoms xs c.as_slice-5.result.now) c.as_slice-args.ensures
          ∙ ap (ground_atoms c.args.instance.now.args) (c.as_slice-5.ensures ∙ ap (λ (s : Schema). s.dele) c.schema_of-schema.ensures);
    }
