use Rattle.std.proofs.Common.{[], length, sym, ◌∙◌}
use Rattle.std.proofs.lemmas.Result.{err_from_is_err_and}
use Rattle.cpt_task_text.specs.Reading.{ids_in}
use Rattle.cpt_task_text.proofs.Parts.{not_empty, is_nil}
use Rattle.cpt_task_text.proofs.Steps.{id_goes_on, id_fails, id_done}
use Rattle.cpt_task_text.proofs.lists.numbers_of.Goals as goal

pub returns-in_err-id : goal.returns-in_err-id
returns-in_err-id c =
    let p = err_from_is_err_and c.from_residual.result c.from_residual.ensures.1 in
    rw (p.1, p.2) (id_fails c.in_err-id.field-0.0 c.args.number c.args.count c.loop-rest.least c.loop-rest.ids.items c.loop-rest.rest.now _ (not_empty c.loop-rest.rest.now (sym c.is_empty.ensures ∙ c.loop-rest-test.true)) c.in_err-id.ensures.exact c.loop-rest.invariant)

pub loop-rest-preserved : goal.loop-rest-preserved
loop-rest-preserved c =
    rw c.in_ok-push.ensures.items (id_goes_on c.args.number c.args.count c.loop-rest.least c.loop-rest.ids.items c.loop-rest.rest.now c.in_ok-id.id c.in_ok-id.after.now (ids_in (length c.args.bytes.now) c.args.number c.args.count 0 [] c.args.bytes.now) (not_empty c.loop-rest.rest.now (sym c.is_empty.ensures ∙ c.loop-rest-test.true)) c.in_ok-id.ensures.exact c.in_ok-id.ensures.shorter c.loop-rest.invariant)

pub returns : goal.returns
returns c = id_done c.args.number c.args.count c.loop-rest.least c.loop-rest.ids.items c.loop-rest.rest.now _ (is_nil c.loop-rest.rest.now (sym c.is_empty.ensures ∙ c.loop-rest-test.false)) c.loop-rest.invariant
