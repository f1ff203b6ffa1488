use Rattle.std.proofs.Common.{ℕ, List, length, ◌≤◌, ◌≡◌, IfOk, subst, arith}
use Rattle.cpt_cert_form.specs.declared.forms.Version.TheVariants.{Two}
use Rattle.cpt_cert_form.specs.Text.{cert_text}
use Rattle.cpt_cert_print.specs.Whole.{parts_of}
use Rattle.cpt_check.specs.Judging.{RulesOf}
use Rattle.cpt_check_files.specs.Rulings.{cert_limit}
use Rattle.cpt_io.specs.SinkInMemory.{mem_written}
use Rattle.cpt_search.specs.Answers.{outcome_of}
use Rattle.cpt_bench.proofs.Certifying.{put_whole, text_judged, within_size}
use Rattle.cpt_bench.proofs.judging.judged_proof.Goals as goal

pub returns-in-Ok-print_cert-clause-answer : goal.returns-in-Ok-print_cert-clause-answer
returns-in-Ok-print_cert-clause-answer c = λ steady.
    let text : List ℕ = cert_text Two c.args.task.now (parts_of c.found_cert-cert.result) in
    let low = c.if-size-gt-CERTIFICATE_LIMIT.false in
    let size : length text ≤ cert_limit = within_size (length text) c.cert_len-size.result c.cert_len-size.ensures (omega (arith, low)) in
    let whole : c.written.result.now ≡ text = put_whole (mem_written c.in-Ok.text) (mem_written c.print_cert.new.out) text c.written.result.now c.in-Ok.ensures.written c.in-Ok-print_cert.ensures.ok c.written.ensures in
    let Ruled : List ℕ → Type 0 = λ z. IfOk c.judged_text.result (λ j. RulesOf c.args.task.now cert_limit z j.version j.ruling) in
    text_judged c.args.task.now c.args.tables.now c.args.budget (outcome_of c.args.found.now) c.requires.found.provable.searchable.bounds text c.found_cert-cert.ensures.proof c.judged_text.result steady size (subst Ruled whole c.judged_text.ensures.rules) c.judged_text.ensures.memory
