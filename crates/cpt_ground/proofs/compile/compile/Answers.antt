use Rattle.std.proofs.Common.{List, subst, sym, arith}
use Rattle.std.specs.List.{AllZip}
use Rattle.cpt_task.specs.Building.{made_of}
use Rattle.cpt_ground.specs.Atoms.{facts_of}
use Rattle.cpt_ground.specs.Compilable.{IsTaskOf}
use Rattle.cpt_ground.specs.Compiled.{IsCompiledAction}
use Rattle.cpt_ground.specs.Literals.{literals_of}
use Rattle.cpt_ground.specs.Signed.{SignedAction}
use Rattle.cpt_ground.proofs.CompileLemmas.{AreParts, built_is, few_atoms, is_built, parts_are_task, parts_in_bounds, sorted_absent, sorted_plain}
use Rattle.cpt_ground.proofs.ListLemmas.{zip-length}
use Rattle.cpt_ground.proofs.compile.compile.Goals as goal

pub of-requires : goal.of-requires
of-requires c = few_atoms c.args.domain.now c.args.problem.now c.args.signed.now c.requires

pub literal_names-requires-clause-plain : goal.literal_names-requires-clause-plain
literal_names-requires-clause-plain c =
    sorted_plain c.args.domain.now c.args.problem.now c.args.signed.now (facts_of c.in_ok-literals.literals.plain.items) c.requires c.in_ok-literals.ensures.plain

pub literal_names-requires-clause-complements : goal.literal_names-requires-clause-complements
literal_names-requires-clause-complements c =
    sorted_absent c.args.domain.now c.args.problem.now c.args.signed.now (facts_of c.in_ok-literals.literals.complements.items) c.requires c.in_ok-literals.ensures.complements

pub build-requires-clause-few_actions : goal.build-requires-clause-few_actions
build-requires-clause-few_actions c =
    let l = c.in_ok-literals.literals in
    let R = IsCompiledAction (literals_of l) in
    let acts = c.in_ok-actions.actions.items in
    let zip : AllZip R c.args.signed.now.actions acts = subst (λ (xs : List SignedAction). AllZip R xs acts) c.as_slice.ensures c.in_ok-actions.ensures in
    omega (arith, zip-length R c.args.signed.now.actions acts zip, c.requires.few_actions)

pub unwrap-requires : goal.unwrap-requires
unwrap-requires c =
    let d = c.args.domain.now in
    let p = c.args.problem.now in
    let s = c.args.signed.now in
    let l = c.in_ok-literals.literals in
    let R = IsCompiledAction (literals_of l) in
    let names = c.in_ok-names.names.items in
    let acts = c.in_ok-actions.actions.items in
    let init = c.in_ok-init.init in
    let last = c.in_ok-goal.goal in
    let parts : AreParts d p s l names acts init last = record {
      names_are = c.in_ok-names.ensures;
      actions_are = subst (λ (xs : List SignedAction). AllZip R xs acts) c.as_slice.ensures c.in_ok-actions.ensures;
      init_are = rw c.as_slice-2.ensures at c.in_ok-init.ensures;
      goal_are = rw (c.as_slice-3.ensures, c.as_slice-4.ensures) at c.in_ok-goal.ensures;
    } in
    is_built (made_of names acts init last) c.build.result (parts_in_bounds d p s l names acts init last c.requires c.in_ok-literals.ensures.sorted parts) c.build.ensures

pub returns : goal.returns
returns c =
    let d = c.args.domain.now in
    let p = c.args.problem.now in
    let s = c.args.signed.now in
    let l = c.in_ok-literals.literals in
    let R = IsCompiledAction (literals_of l) in
    let names = c.in_ok-names.names.items in
    let acts = c.in_ok-actions.actions.items in
    let init = c.in_ok-init.init in
    let last = c.in_ok-goal.goal in
    let parts : AreParts d p s l names acts init last = record {
      names_are = c.in_ok-names.ensures;
      actions_are = subst (λ (xs : List SignedAction). AllZip R xs acts) c.as_slice.ensures c.in_ok-actions.ensures;
      init_are = rw c.as_slice-2.ensures at c.in_ok-init.ensures;
      goal_are = rw (c.as_slice-3.ensures, c.as_slice-4.ensures) at c.in_ok-goal.ensures;
    } in
    subst (IsTaskOf d p s) (sym (built_is (made_of names acts init last) c.unwrap.result c.build.result c.build.ensures c.unwrap.ensures))
    (parts_are_task d p s l names acts init last c.in_ok-literals.ensures.plain c.in_ok-literals.ensures.complements parts)
