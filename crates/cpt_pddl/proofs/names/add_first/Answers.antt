use Rattle.std.proofs.Common.{◌≡◌, ◌∙◌, ◌∷◌, [], ap, length, arith}
use Rattle.std.specs.Prelude.{take}
use Rattle.std.proofs.Math.Seq.{take-append_seam}
use Rattle.cpt_pddl.proofs.NameLemmas.{firsts_inserted, firsts_kept}
use Rattle.cpt_pddl.proofs.names.add_first.Goals.{in-Ok, in-Err}
use Rattle.cpt_pddl.proofs.names.add_first.Goals as goal

pub returns-clause-firsts : goal.returns-clause-firsts
returns-clause-firsts c =
    let names = c.args.items.now.items in
    let long : c.len-place.result ≡ length names = omega (arith, c.len-place.ensures, c.args.items.now.ok) in
    let back : take c.len-place.result c.push.new.self.items ≡ names = ap (λ n. take n c.push.new.self.items) long ∙ ap (take (length names)) c.in_ok-push.ensures.items ∙ take-append_seam names (c.args.name ∷ []) in
    elim c.match-insert.branch [
      | in-Ok w ↦
          firsts_inserted names c.match-insert.items.items c.args.index.now c.insert.new.self.entries c.args.name c.args.key c.len-place.result
          c.requires.firsts c.requires.key c.requires.new long (ap (λ v. v.items) w.items-is ∙ c.in_ok-push.ensures.items) w.in-Ok.ensures.entries
      | in-Err w ↦ firsts_kept names c.match-insert.items.items c.args.index.now.entries c.insert.new.self.entries c.requires.firsts (ap (λ v. v.items) w.items-is ∙ w.truncate.ensures.items ∙ back) w.in-Err.ensures.err
    ]
