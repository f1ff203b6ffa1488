use Rattle.std.proofs.Common.{length}
use Rattle.cpt_check_text.proofs.Judging.{rules_later}
use Rattle.cpt_check_text.proofs.text.check_text.Goals as goal

pub returns-in-Ok : goal.returns-in-Ok
returns-in-Ok c = record {
  rules = λ most le. rules_later c.args.task.now (length c.args.text.now) most c.args.text.now c.in-Ok.judged.version c.in-Ok.judged.ruling le (c.in-Ok.ensures.rules c.args.text.now c.in_ok-lib.ensures.left);
  holds = c.in-Ok.ensures.holds c.args.text.now c.in_ok-lib.ensures.left;
}
