use Rattle.std.proofs.Common.{◌≡◌, ℕ, false, List, [], ◌∷◌, ◌++◌, sym, ap, subst, ◌∙◌, arith}
use Rattle.std.proofs.lemmas.List.{map_push}
use Rattle.std.proofs.lemmas.Result.{err_from_is_err_and}
use Rattle.cpt_task.specs.declared.task.Action.{Action}
use Rattle.cpt_line.specs.Lines.{split}
use Rattle.cpt_task_text.specs.Plain.{names_of}
use Rattle.cpt_task_text.specs.Reading.{actions_at, is_among}
use Rattle.cpt_task_text.proofs.Sets.{Knows, knows_more, was_new, was_known}
use Rattle.cpt_task_text.proofs.Steps.{action_goes_on, head_fails, action_repeats, action_fails, action_done}
use Rattle.cpt_task_text.proofs.actions.actions_of.Goals as goal

pub returns-in_err-head-clause-exact : goal.returns-in_err-head-clause-exact
returns-in_err-head-clause-exact c =
    let p = err_from_is_err_and c.from_residual.result c.from_residual.ensures.1 in
    rw (p.1, p.2) (head_fails c.in_err-head.field-0.0 c.args.more c.loop.counter c.loop.line c.args.count c.loop.actions.items (split c.loop.rest.now) _ c.loop-test.true c.in_err-head.ensures c.loop.invariant.read)

pub returns-then-not-branch-clause-exact : goal.returns-then-not-branch-clause-exact
returns-then-not-branch-clause-exact c =
    let head = c.in_ok-head.head in
    action_repeats c.args.more c.loop.counter c.loop.line c.args.count c.loop.actions.items (split c.loop.rest.now) (head.0.now, head.1) (split c.in_ok-head.lists.now) _ c.loop-test.true c.in_ok-head.ensures
    (was_known c.loop.seen head.0 (names_of c.loop.actions.items) c.in_ok-insert.field-0 c.loop.invariant.seen c.in_ok-insert.ensures.added c.if-not-branch.true) c.loop.invariant.read

pub returns-in_err-action-clause-exact : goal.returns-in_err-action-clause-exact
returns-in_err-action-clause-exact c =
    let head = c.in_ok-head.head in
    let new : is_among (names_of c.loop.actions.items) head.0.now ≡ false = was_new c.loop.seen head.0 (names_of c.loop.actions.items) c.in_ok-insert.field-0 c.loop.invariant.seen c.in_ok-insert.ensures.added c.if-not-branch.false in
    let p = err_from_is_err_and c.from_residual-in_err-action.result c.from_residual-in_err-action.ensures.1 in
    rw (p.1, p.2) (action_fails c.in_err-action.field-0.0 c.args.more c.loop.counter c.loop.line c.args.count c.loop.actions.items (split c.loop.rest.now) (head.0.now, head.1) (split c.in_ok-head.lists.now) _ c.loop-test.true c.in_ok-head.ensures new c.in_err-action.ensures.exact c.loop.invariant.read)

pub loop-preserved : goal.loop-preserved
loop-preserved c =
    let head = c.in_ok-head.head in
    let action = c.in_ok-action.action in
    let new : is_among (names_of c.loop.actions.items) head.0.now ≡ false = was_new c.loop.seen head.0 (names_of c.loop.actions.items) c.in_ok-insert.field-0 c.loop.invariant.seen c.in_ok-insert.ensures.added c.if-not-branch.false in
    let named : names_of c.push.new.self.items ≡ names_of c.loop.actions.items ++ head.0.now ∷ [] =
    ap names_of c.in_ok-push.ensures.items ∙ map_push (λ (a : Action). a.name) c.loop.actions.items action ∙ ap (λ (name : List ℕ). names_of c.loop.actions.items ++ name ∷ []) c.in_ok-action.ensures.name in
    record {
      read = rw c.in_ok-push.ensures.items (action_goes_on c.args.more c.loop.counter c.loop.line c.args.count c.loop.actions.items (split c.loop.rest.now) (head.0.now, head.1) (split c.in_ok-head.lists.now) action (split c.in_ok-action.after.now) (actions_at c.args.more c.args.number c.args.count [] (split c.args.text.now)) c.loop-test.true c.in_ok-head.ensures new c.in_ok-action.ensures.exact c.loop.invariant.read);
      seen = subst (Knows c.insert.new.self) (sym named) (knows_more c.loop.seen c.insert.new.self head.0 (names_of c.loop.actions.items) c.loop.invariant.seen c.in_ok-insert.ensures.keys);
      line = omega arith;
      many = omega (arith, c.in_ok-push.ensures.len, c.loop.invariant.many);
    }

pub returns-clause-exact : goal.returns-clause-exact
returns-clause-exact c = action_done c.args.more c.loop.counter c.loop.line c.args.count c.loop.actions.items (split c.loop.rest.now) _ c.loop-test.false c.loop.invariant.read
