use Rattle.std.proofs.Common.{◌+◌, [], refl, sym, arith, append-nil, inl}
use Rattle.cpt_cert_accept.specs.declared.faults.Why.TheVariants as whys
use Rattle.cpt_cert_accept.proofs.TextLines.{whole_text}
use Rattle.cpt_cert_accept.proofs.Truth.{certificates_hold}
use Rattle.cpt_check.proofs.Concluding.{version_at_end, read_faultless}
use Rattle.cpt_check.proofs.ending.conclude.Goals as goal

pub returns-in-Some-clause-rules : goal.returns-in-Some-clause-rules
returns-in-Some-clause-rules c = λ most text h le small.
    let k = c.in-Some.ensures c.args.task.now text h in
    record { size = le; named = c.in-Some.version; version_is = refl; accepts = whole_text c.args.task.now text k.0 c.in-Some.version c.in-Some.claim [] k.2.0 c.actions-actions.ensures.bounds (omega (arith, le, small)) k.1 k.2.1 }

pub returns-in-Some-clause-holds : goal.returns-in-Some-clause-holds
returns-in-Some-clause-holds c = λ text h short.
    let k = c.in-Some.ensures c.args.task.now text h in
    let a = whole_text c.args.task.now text k.0 c.in-Some.version c.in-Some.claim [] k.2.0 c.actions-actions.ensures.bounds short k.1 k.2.1 in
    (c.in-Some.version, refl, (a.0, a.1, certificates_hold c.args.task.now text c.in-Some.version c.in-Some.claim a.0 c.actions-actions.ensures.bounds (record { goal = c.actions-actions.ensures.sets.goal; pre = c.actions-actions.ensures.sets.pre }) a.1))

pub returns-in-None-clause-rules : goal.returns-in-None-clause-rules
returns-in-None-clause-rules c = λ most text h le small.
    record { version_is = version_at_end c.args.task.now text c.args.past.now c.args.lines.now c.version_of.result h c.version_of.ensures; first = c.in-None.ensures c.args.task.now text h; known = inl le }

pub returns-in-None-clause-leaves : goal.returns-in-None-clause-leaves
returns-in-None-clause-leaves c = λ text h. (text, record { rest = []; parts = sym (append-nil text); left_is = refl }, λ bytes ls front stands. absurd (read_faultless c.args.task.now text c.args.past.now c.args.lines.now bytes ls (c.args.past.now.count + 1) whys.Grammar h front stands))
