use Rattle.std.proofs.Common.{◌≡◌, refl, ◌∙◌, arith, add-one, length}
use Rattle.cpt_sexp.specs.declared.item.SexpError.TheVariants.{Unopened}
use Rattle.cpt_sexp.specs.Bytes.{plain}
use Rattle.cpt_sexp.specs.Faults.{depth_at}
use Rattle.cpt_sexp.proofs.Context.{read_close, passed}
use Rattle.cpt_sexp.proofs.Refusing.{open_at, refuse_alone}
use Rattle.cpt_sexp.proofs.reading.Reading.close_group.Goals as goal

pub returns-in_default-clause-err : goal.returns-in_default-clause-err
returns-in_default-clause-err c =
    let over = passed c.args.text.now c.args.at 41 c.requires.read.plainly c.requires.closes (omega arith) (omega arith) in
    let nothing = c.in_default.ensures.cases in
    let noted : length c.args.self.now.opened.items ≡ 0 = omega (arith, nothing.0) in
    let top : depth_at (plain c.args.text.now) c.args.at ≡ 0 = open_at c.args.text.now c.args.self.now.items.items c.args.self.now.opened.items c.args.at c.requires.read ∙ noted in
    refuse_alone c.args.text.now c.args.self.now.items.items c.args.self.now.opened.items c.args.at (Unopened c.args.at) c.requires.read (over.plain_is, top) refl noted

pub index_mut-requires : goal.index_mut-requires
index_mut-requires c =
    let over = passed c.args.text.now c.args.at 41 c.requires.read.plainly c.requires.closes (omega arith) (omega arith) in
    let closed = read_close c.args.text.now c.args.self.now.items.items c.args.self.now.opened.items c.pop.new.self.items c.in-Some.group c.args.at c.requires.read over.plain_is c.in-Some.ensures.items over.plainly over.in_text in
    let noted = closed.noted in
    omega arith

pub returns-clause-ok : goal.returns-clause-ok
returns-clause-ok c =
    let over = passed c.args.text.now c.args.at 41 c.requires.read.plainly c.requires.closes (omega arith) (omega arith) in
    let closed = read_close c.args.text.now c.args.self.now.items.items c.args.self.now.opened.items c.pop.new.self.items c.in-Some.group c.args.at c.requires.read over.plain_is c.in-Some.ensures.items over.plainly over.in_text in
    let next : c.len-next.result ≡ length c.args.self.now.items.items = omega arith in
    rw (add-one, next) (closed.read, omega arith)
