use Rattle.std.proofs.Common.{◌≡◌, ◌+◌, ◌-◌, List, ◌∷◌, [], ◌++◌, length, take, drop, Ok, None, Some, subst, arith, length-append, length-drop}
use Rattle.std.proofs.lemmas.List.{length-take}
use Rattle.cpt_cert_form.specs.declared.forms.CertLine.{CertLine}
use Rattle.cpt_cert_read.specs.Lines.{Feeds}
use Rattle.cpt_check.specs.Progress.{IsPast, IsFoundIn, Leads}
use Rattle.cpt_check.proofs.Taking.{past_few, past_tokens, stage_next, fed_none, fed_line, fed_fault, fed_is_line}
use Rattle.cpt_cert_read.proofs.Feeding.{fed_rest}
use Rattle.cpt_check.proofs.pieces.take_piece.Goals as goal

pub returns-in_default : goal.returns-in_default
returns-in_default c = λ bytes h.
    let f : Feeds c.loop-past.lines c.feed.new.self (drop c.loop-past.at c.args.piece.now) (Ok (c.in_ok-taken.taken, None)) =
    subst (λ z. Feeds c.loop-past.lines c.feed.new.self (drop c.loop-past.at c.args.piece.now) (Ok (c.in_ok-taken.taken, z))) c.in_default.is (fed_rest c.loop-past.lines c.feed.new.self c.args.piece.now c.loop-past.at (Ok (c.in_ok-taken.taken, c.in_ok-taken.line)) c.in_ok-taken.ensures.exact) in
    fed_none c.args.task.now bytes c.loop-past.past c.loop-past.lines c.feed.new.self c.args.piece.now c.loop-past.at c.in_ok-taken.taken (c.loop-past.invariant.read bytes h) f

pub judge_line-requires-clause-stage : goal.judge_line-requires-clause-stage
judge_line-requires-clause-stage c =
    let r = c.requires.read in
    stage_next c.args.task.now (r.0 ++ take c.loop-past.at c.args.piece.now) c.loop-past.past c.loop-past.lines (c.loop-past.invariant.read r.0 r.1)

pub judge_line-requires-clause-line : goal.judge_line-requires-clause-line
judge_line-requires-clause-line c =
    let r = c.requires.read in
    let f : Feeds c.loop-past.lines c.feed.new.self (drop c.loop-past.at c.args.piece.now) (Ok (c.in_ok-taken.taken, Some c.in-Some.line)) =
    subst (λ z. Feeds c.loop-past.lines c.feed.new.self (drop c.loop-past.at c.args.piece.now) (Ok (c.in_ok-taken.taken, z))) c.in-Some.is (fed_rest c.loop-past.lines c.feed.new.self c.args.piece.now c.loop-past.at (Ok (c.in_ok-taken.taken, c.in_ok-taken.line)) c.in_ok-taken.ensures.exact) in
    fed_is_line c.args.task.now (r.0 ++ take c.loop-past.at c.args.piece.now) c.loop-past.past c.loop-past.lines c.feed.new.self (drop c.loop-past.at c.args.piece.now) c.in_ok-taken.taken c.in-Some.line (c.loop-past.invariant.read r.0 r.1) f

pub judge_line-requires-clause-tokens : goal.judge_line-requires-clause-tokens
judge_line-requires-clause-tokens c =
    let r = c.requires.read in
    let size = r.2 in
    let at = c.loop-past.invariant.within in
    let whole = length-append r.0 (take c.loop-past.at c.args.piece.now) in
    let front = length-take c.loop-past.at c.args.piece.now in
    past_tokens c.args.task.now (r.0 ++ take c.loop-past.at c.args.piece.now) c.loop-past.past c.loop-past.lines (c.loop-past.invariant.read r.0 r.1) (omega (arith, size, whole, front, at))

pub judge_line-requires-clause-few : goal.judge_line-requires-clause-few
judge_line-requires-clause-few c =
    let r = c.requires.read in
    let few = past_few c.args.task.now (r.0 ++ take c.loop-past.at c.args.piece.now) c.loop-past.past c.loop-past.lines (c.loop-past.invariant.read r.0 r.1) in
    let size = r.2 in
    let at = c.loop-past.invariant.within in
    let whole : length (r.0 ++ take c.loop-past.at c.args.piece.now) ≡ length r.0 + length (take c.loop-past.at c.args.piece.now) = length-append r.0 (take c.loop-past.at c.args.piece.now) in
    let front = length-take c.loop-past.at c.args.piece.now in
    omega (arith, few, size, whole, front, at)

pub returns-in-Fault : goal.returns-in-Fault
returns-in-Fault c = λ bytes h.
    let f : Feeds c.loop-past.lines c.feed.new.self (drop c.loop-past.at c.args.piece.now) (Ok (c.in_ok-taken.taken, Some c.in-Some.line)) =
    subst (λ z. Feeds c.loop-past.lines c.feed.new.self (drop c.loop-past.at c.args.piece.now) (Ok (c.in_ok-taken.taken, z))) c.in-Some.is (fed_rest c.loop-past.lines c.feed.new.self c.args.piece.now c.loop-past.at (Ok (c.in_ok-taken.taken, c.in_ok-taken.line)) c.in_ok-taken.ensures.exact) in
    let leads : (read : List CertLine) → IsPast c.args.task.now read c.loop-past.past → IsFoundIn c.args.task.now read c.in-Some.line c.in-Fault.fault = λ read k. subst (Leads c.args.task.now read c.in-Some.line) c.in-Fault.is (c.in_ok-next.ensures read k) in
    fed_fault c.args.task.now bytes c.loop-past.past c.loop-past.lines c.feed.new.self c.args.piece.now c.loop-past.at c.in_ok-taken.taken c.in-Some.line c.in-Fault.fault (c.loop-past.invariant.read bytes h) f leads

pub loop-past-preserved-in-On : goal.loop-past-preserved-in-On
loop-past-preserved-in-On c =
    let f : Feeds c.loop-past.lines c.feed.new.self (drop c.loop-past.at c.args.piece.now) (Ok (c.in_ok-taken.taken, Some c.in-Some.line)) =
    subst (λ z. Feeds c.loop-past.lines c.feed.new.self (drop c.loop-past.at c.args.piece.now) (Ok (c.in_ok-taken.taken, z))) c.in-Some.is (fed_rest c.loop-past.lines c.feed.new.self c.args.piece.now c.loop-past.at (Ok (c.in_ok-taken.taken, c.in_ok-taken.line)) c.in_ok-taken.ensures.exact) in
    let leads : (read : List CertLine) → IsPast c.args.task.now read c.loop-past.past → IsPast c.args.task.now (read ++ c.in-Some.line ∷ []) c.in-On.next = λ read k. subst (Leads c.args.task.now read c.in-Some.line) c.in-On.is (c.in_ok-next.ensures read k) in
    let within = c.in_ok-taken.ensures.within in
    let size = length-take (length c.args.piece.now - c.loop-past.at) (drop c.loop-past.at c.args.piece.now) in
    let at = c.loop-past.invariant.within in
    let left = length-drop c.loop-past.at c.args.piece.now in
    record {
      within = omega (arith, within, size, at, left);
      read = λ bytes h. fed_line c.args.task.now bytes c.loop-past.past c.loop-past.lines c.feed.new.self c.args.piece.now c.loop-past.at c.in_ok-taken.taken c.in-Some.line c.in-On.next (c.loop-past.invariant.read bytes h) f leads;
    }

pub loop-past-preserved-in-On-2 : goal.loop-past-preserved-in-On-2
loop-past-preserved-in-On-2 c =
    let f : Feeds c.loop-past.lines c.feed.new.self (drop c.loop-past.at c.args.piece.now) (Ok (c.in_ok-taken.taken, Some c.in-Some.line)) =
    subst (λ z. Feeds c.loop-past.lines c.feed.new.self (drop c.loop-past.at c.args.piece.now) (Ok (c.in_ok-taken.taken, z))) c.in-Some.is (fed_rest c.loop-past.lines c.feed.new.self c.args.piece.now c.loop-past.at (Ok (c.in_ok-taken.taken, c.in_ok-taken.line)) c.in_ok-taken.ensures.exact) in
    let leads : (read : List CertLine) → IsPast c.args.task.now read c.loop-past.past → IsPast c.args.task.now (read ++ c.in-Some.line ∷ []) c.in-On.next = λ read k. subst (Leads c.args.task.now read c.in-Some.line) c.in-On.is (c.in_ok-next.ensures read k) in
    let within = c.in_ok-taken.ensures.within in
    let size = length-take (length c.args.piece.now - c.loop-past.at) (drop c.loop-past.at c.args.piece.now) in
    let at = c.loop-past.invariant.within in
    let left = length-drop c.loop-past.at c.args.piece.now in
    record {
      within = omega (arith, within, size, at, left);
      read = λ bytes h. fed_line c.args.task.now bytes c.loop-past.past c.loop-past.lines c.feed.new.self c.args.piece.now c.loop-past.at c.in_ok-taken.taken c.in-Some.line c.in-On.next (c.loop-past.invariant.read bytes h) f leads;
    }

pub loop-past-preserved : goal.loop-past-preserved
loop-past-preserved c =
    let f : Feeds c.loop-past.lines c.feed.new.self (drop c.loop-past.at c.args.piece.now) (Ok (c.in_ok-taken.taken, Some c.in-Some.line)) =
    subst (λ z. Feeds c.loop-past.lines c.feed.new.self (drop c.loop-past.at c.args.piece.now) (Ok (c.in_ok-taken.taken, z))) c.in-Some.is (fed_rest c.loop-past.lines c.feed.new.self c.args.piece.now c.loop-past.at (Ok (c.in_ok-taken.taken, c.in_ok-taken.line)) c.in_ok-taken.ensures.exact) in
    let leads : (read : List CertLine) → IsPast c.args.task.now read c.loop-past.past → IsPast c.args.task.now (read ++ c.in-Some.line ∷ []) c.in-On.next = λ read k. subst (Leads c.args.task.now read c.in-Some.line) c.in-On.is (c.in_ok-next.ensures read k) in
    let within = c.in_ok-taken.ensures.within in
    let size = length-take (length c.args.piece.now - c.loop-past.at) (drop c.loop-past.at c.args.piece.now) in
    let at = c.loop-past.invariant.within in
    let left = length-drop c.loop-past.at c.args.piece.now in
    record {
      within = omega (arith, within, size, at, left);
      read = λ bytes h. fed_line c.args.task.now bytes c.loop-past.past c.loop-past.lines c.feed.new.self c.args.piece.now c.loop-past.at c.in_ok-taken.taken c.in-Some.line c.in-On.next (c.loop-past.invariant.read bytes h) f leads;
    }
