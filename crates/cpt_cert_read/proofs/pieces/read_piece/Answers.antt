use Rattle.std.proofs.Common.{◌-◌, length, take, drop, None, Some, Ok, subst, arith, length-drop}
use Rattle.std.proofs.lemmas.List.{length-take}
use Rattle.cpt_cert_form.specs.declared.forms.CertLine.{CertLine}
use Rattle.cpt_cert_read.specs.Lines.{Feeds}
use Rattle.cpt_cert_read.specs.Texts.{AreFinished}
use Rattle.cpt_cert_read.proofs.Feeding.{fed_none, fed_line, fed_rest}
use Rattle.cpt_cert_read.proofs.pieces.read_piece.Goals as goal

pub returns-in_default : goal.returns-in_default
returns-in_default c = λ text h.
    let before = c.loop-taken.lines in
    let after = c.feed.new.self in
    let rest = drop c.loop-taken.at c.args.piece.now in
    let f : Feeds before after rest (Ok (c.in_ok-taken.taken, None)) =
    subst (λ z. Feeds before after rest (Ok (c.in_ok-taken.taken, z))) c.in_default.is (fed_rest before after c.args.piece.now c.loop-taken.at (Ok (c.in_ok-taken.taken, c.in_ok-taken.line)) c.in_ok-taken.ensures.exact) in
    fed_none text c.loop-taken.read.items before after c.args.piece.now c.loop-taken.at c.in_ok-taken.taken (c.loop-taken.invariant.finished text h) f

pub loop-taken-preserved : goal.loop-taken-preserved
loop-taken-preserved c =
    let before = c.loop-taken.lines in
    let after = c.feed.new.self in
    let rest = drop c.loop-taken.at c.args.piece.now in
    let f : Feeds before after rest (Ok (c.in_ok-taken.taken, Some c.in-Some.line)) =
    subst (λ z. Feeds before after rest (Ok (c.in_ok-taken.taken, z))) c.in-Some.is (fed_rest before after c.args.piece.now c.loop-taken.at (Ok (c.in_ok-taken.taken, c.in_ok-taken.line)) c.in_ok-taken.ensures.exact) in
    let within = c.in_ok-taken.ensures.within in
    let size = length-take (length c.args.piece.now - c.loop-taken.at) rest in
    let at = c.loop-taken.invariant.within in
    let left = length-drop c.loop-taken.at c.args.piece.now in
    record {
      within = omega (arith, within, size, at, left);
      finished = λ text h. rw c.in_ok-push.ensures.items (fed_line text c.loop-taken.read.items before after c.args.piece.now c.loop-taken.at c.in_ok-taken.taken c.in-Some.line (c.loop-taken.invariant.finished text h) f);
    }
