use Rattle.std.proofs.Common.{◌≡◌, ◌++◌, ◌∷◌, [], ap, ◌∙◌, arith, add-one, length}
use Rattle.cpt_sexp.specs.Bytes.{plain}
use Rattle.cpt_sexp.proofs.Context.{read_open, passed, length-opened}
use Rattle.cpt_sexp.proofs.Refusing.{begins_clear}
use Rattle.cpt_sexp.proofs.reading.Reading.open_group.Goals as goal

pub refusal-requires-clause-stands : goal.refusal-requires-clause-stands
refusal-requires-clause-stands c =
    let over = passed c.args.text.now c.args.at 40 c.requires.read.plainly c.requires.opens (omega arith) (omega arith) in
    let clear = begins_clear (plain c.args.text.now) c.requires.read.around c.requires.read.trees c.args.at c.requires.read.begins in
    let deep = clear.deep in
    let noted = ap length c.requires.read.opened_are ∙ length-opened c.requires.read.around in
    (over.plain_is, omega (arith, deep, noted))

pub returns-clause-ok : goal.returns-clause-ok
returns-clause-ok c =
    let over = passed c.args.text.now c.args.at 40 c.requires.read.plainly c.requires.opens (omega arith) (omega arith) in
    let next : c.len-item.result ≡ length c.args.self.now.items.items = omega arith in
    rw add-one (
      read_open c.args.text.now c.args.self.now.items.items c.push.new.self.items c.args.self.now.opened.items c.push-2.new.self.items c.args.at c.requires.read over.plain_is (omega arith) over.plainly over.in_text
          c.in_ok-push.ensures.items (c.in_ok-push-2.ensures.items ∙ ap (λ n. c.args.self.now.opened.items ++ record { from = c.args.at; item = n } ∷ []) next),
      omega arith,
    )
