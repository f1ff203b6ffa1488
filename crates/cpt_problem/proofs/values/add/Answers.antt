use Rattle.std.proofs.Common.{◌≡◌, ◌∙◌, ◌∷◌, [], ap, length, arith}
use Rattle.std.specs.Prelude.{take}
use Rattle.std.proofs.Math.Seq.{take-append_seam}
use Rattle.cpt_problem.proofs.KeyLemmas.{keys_inserted, keys_kept}
use Rattle.cpt_problem.proofs.values.add.Goals.{in-Ok, in-Err}
use Rattle.cpt_problem.proofs.values.add.Goals as goal

pub returns-clause-keys : goal.returns-clause-keys
returns-clause-keys c =
    let values = c.args.items.now.items in
    let long : c.len-count.result ≡ length values = omega (arith, c.len-count.ensures, c.args.items.now.ok) in
    let back : take c.len-count.result c.push.new.self.items ≡ values =
    ap (λ n. take n c.push.new.self.items) long ∙ ap (take (length values)) c.in_ok-push.ensures.items ∙ take-append_seam values (c.args.value ∷ []) in
    elim c.match-insert.branch [
      | in-Ok w ↦
          keys_inserted values c.match-insert.items.items c.args.known.now.keys c.insert.new.self.keys c.args.value c.args.key
          c.requires.keys c.requires.key (ap (λ v. v.items) w.items-is ∙ c.in_ok-push.ensures.items) w.in-Ok.ensures.keys
      | in-Err w ↦ keys_kept values c.match-insert.items.items c.args.known.now.keys c.insert.new.self.keys c.requires.keys (ap (λ v. v.items) w.items-is ∙ w.truncate.ensures.items ∙ back) w.in-Err.ensures.err
    ]
