use Rattle.std.proofs.Common.{◌+◌, suc, ap, sym, ◌∙◌, arith, add-one, get_or}
use Rattle.cpt_sexp.specs.Bytes.{is_blank, plain}
use Rattle.cpt_sexp.proofs.Comments.{over_byte, over_mark}
use Rattle.cpt_sexp.proofs.Context.{read_gap, blank_no_mark}
use Rattle.cpt_sexp.proofs.Spelling.{gap_more, gap_none, gap_join}
use Rattle.cpt_sexp.proofs.reading.Reading.step.Goals as goal

pub returns-then-is_blank-clause-ok : goal.returns-then-is_blank-clause-ok
returns-then-is_blank-clause-ok c =
    let text = c.args.text.now in
    let at = c.args.at in
    let blank = sym c.is_blank.ensures ∙ c.if-is_blank.true in
    let over = over_byte text at c.requires.more (blank_no_mark (get_or text at 0) blank) c.requires.read.plainly in
    let gap = gap_more (plain text) at at (gap_none (plain text) at) (ap is_blank over.0 ∙ blank) in
    rw add-one (
      read_gap text c.args.self.now.items.items c.args.self.now.opened.items at (suc at) c.requires.read gap over.1 c.requires.more,
      omega arith,
    )

pub comment_end-requires-clause-commented : goal.comment_end-requires-clause-commented
comment_end-requires-clause-commented c =
    rw add-one (over_mark c.args.text.now c.args.at c.requires.more c.if-b-eq59.true c.requires.read.plainly).1

pub returns-then-b-eq59-clause-ok : goal.returns-then-b-eq59-clause-ok
returns-then-b-eq59-clause-ok c =
    let text = c.args.text.now in
    let at = c.args.at in
    let over = over_mark text at c.requires.more c.if-b-eq59.true c.requires.read.plainly in
    let first = gap_more (plain text) at at (gap_none (plain text) at) (ap is_blank over.0) in
    let rest = c.comment_end.ensures.blank in
    let forth = rest.ordered in
    let whole = gap_join (plain text) at (at + 1) c.comment_end.result (rw add-one first) rest in (
      read_gap text c.args.self.now.items.items c.args.self.now.opened.items at c.comment_end.result c.requires.read whole c.comment_end.ensures.ended c.comment_end.ensures.within,
      omega (arith, forth),
    )
