use Rattle.cpt_cert_form.specs.declared.forms.Version.TheVariants.{One}
use Rattle.cpt_trim.proofs.Less.{accepted_is, named_version, rejected_of, trimmed_of}
use Rattle.cpt_trim.proofs.trimming.trim_text.Goals as goal

pub needless-requires-clause-accepted : goal.needless-requires-clause-accepted
needless-requires-clause-accepted c = accepted_is c.args.task.now 16777216 c.args.text.now c.in_ok-judged.judged c.in-Accepted.claim c.in-Accepted.is (c.in_ok-judged.ensures.rules 16777216 c.requires.size)

pub returns-in-Rejected : goal.returns-in-Rejected
returns-in-Rejected c = rejected_of c.args.task.now c.args.text.now c.in_ok-judged.judged c.in-Rejected.line c.in-Rejected.why c.in-Rejected.is (c.in_ok-judged.ensures.rules 16777216 c.requires.size)

pub returns-in_ok-dropped-in-Accepted : goal.returns-in_ok-dropped-in-Accepted
returns-in_ok-dropped-in-Accepted c = (
  trimmed_of c.args.task.now c.args.text.now c.in_ok-judged.judged c.in-Accepted.claim c.unwrap_or-version.result c.in_ok-dropped-in-Accepted.dropped c.in-Accepted.is (c.in_ok-judged.ensures.rules 16777216 c.requires.size)
      (λ named e. named_version c.in_ok-judged.judged.version One c.unwrap_or-version.result named c.unwrap_or-version.ensures e) c.in_ok-dropped-in-Accepted.ensures.less,
  c.in_ok-dropped-in-Accepted.ensures.left,
)
