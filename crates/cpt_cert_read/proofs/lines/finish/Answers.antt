use Rattle.std.proofs.Common.{rules, ◌≡◌, take, length, List, ℕ, ap, ◌∙◌}
use Rattle.cpt_cert_read.proofs.Keeping.{kept_before}
use Rattle.cpt_cert_read.proofs.lines.finish.Goals as goal

pub returns-in-Err-clause-err : goal.returns-in-Err-clause-err
returns-in-Err-clause-err c =
    let old = c.args.pending.now.items in
    let before : c.len-before.result ≡ length old = search rules in
    let held = c.in_ok-keep.ensures.ok in
    c.truncate.ensures.items ∙ ap (λ n. take n c.keep.new.pending.items) before ∙ ap (λ (x : List ℕ). take (length old) x) held ∙ kept_before old c.args.body.now c.requires
