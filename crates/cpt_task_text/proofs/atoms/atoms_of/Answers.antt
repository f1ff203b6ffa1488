use Rattle.std.proofs.Common.{◌≡◌, ℕ, List, [], ◌∷◌, ◌++◌, sym, ap, subst, ◌∙◌, false, arith}
use Rattle.std.proofs.lemmas.Result.{err_from_is_err_and}
use Rattle.cpt_line.specs.Lines.{split}
use Rattle.cpt_task_text.specs.Reading.{atoms_at, is_among}
use Rattle.cpt_task_text.proofs.Sets.{Knows, knows_more, was_new, was_known}
use Rattle.cpt_task_text.proofs.Steps.{atom_goes_on, atom_fails, atom_repeats, atom_done}
use Rattle.cpt_task_text.proofs.atoms.atoms_of.Goals as goal

pub returns-in_err-name-clause-exact : goal.returns-in_err-name-clause-exact
returns-in_err-name-clause-exact c =
    let p = err_from_is_err_and c.from_residual.result c.from_residual.ensures.1 in
    rw (p.1, p.2) (atom_fails c.in_err-name.field-0.0 c.args.count c.loop.counter c.loop.line c.loop.atoms.items (split c.loop.rest.now) _ c.loop-test.true c.in_err-name.ensures c.loop.invariant.read)

pub returns-then-not-branch-clause-exact : goal.returns-then-not-branch-clause-exact
returns-then-not-branch-clause-exact c =
    atom_repeats c.args.count c.loop.counter c.loop.line c.loop.atoms.items (split c.loop.rest.now) c.in_ok-name.name.now (split c.in_ok-name.after.now) _ c.loop-test.true c.in_ok-name.ensures
    (was_known c.loop.seen c.in_ok-name.name c.loop.atoms.items c.in_ok-insert.field-0 c.loop.invariant.seen c.in_ok-insert.ensures.added c.if-not-branch.true) c.loop.invariant.read

pub loop-preserved : goal.loop-preserved
loop-preserved c =
    let name = c.in_ok-name.name.now in
    let e : c.push.new.self.items ≡ c.loop.atoms.items ++ name ∷ [] = c.in_ok-push.ensures.items ∙ ap (λ (x : List ℕ). c.loop.atoms.items ++ x ∷ []) (c.from_vec.ensures ∙ c.in_ok-from_slice.ensures.items) in
    let new : is_among c.loop.atoms.items name ≡ false = was_new c.loop.seen c.in_ok-name.name c.loop.atoms.items c.in_ok-insert.field-0 c.loop.invariant.seen c.in_ok-insert.ensures.added c.if-not-branch.false in
    record {
      read = rw e (atom_goes_on c.args.count c.loop.counter c.loop.line c.loop.atoms.items (split c.loop.rest.now) name (split c.in_ok-name.after.now) (atoms_at c.args.count c.args.number [] (split c.args.text.now)) c.loop-test.true c.in_ok-name.ensures new c.loop.invariant.read);
      seen = subst (Knows c.insert.new.self) (sym e) (knows_more c.loop.seen c.insert.new.self c.in_ok-name.name c.loop.atoms.items c.loop.invariant.seen c.in_ok-insert.ensures.keys);
      line = omega arith;
      many = omega (arith, c.in_ok-push.ensures.len, c.loop.invariant.many);
    }

pub returns-clause-exact : goal.returns-clause-exact
returns-clause-exact c = atom_done c.args.count c.loop.counter c.loop.line c.loop.atoms.items (split c.loop.rest.now) _ c.loop-test.false c.loop.invariant.read
