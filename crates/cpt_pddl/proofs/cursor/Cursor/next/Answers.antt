use Rattle.std.proofs.Common.{◌∙◌, sym, ap, refl, Some, None}
use Rattle.cpt_pddl.proofs.CursorLemmas.{left_past, left_item, left_word, left_group}
use Rattle.cpt_pddl.proofs.cursor.Cursor.next.Goals as goal

pub returns-then-self : goal.returns-then-self
returns-then-self c = left_past c.args.self c.if-self.true

pub returns-in-None : goal.returns-in-None
returns-in-None c = left_item c.args.self None c.if-self.false (sym c.in-None.is ∙ c.item_in.ensures.item)

pub returns-in-Some-Word : goal.returns-in-Some-Word
returns-in-Some-Word c =
    left_word c.args.self c.moved.result c.in-Some-Word.from c.in-Some-Word.to c.bytes_between.result.now c.if-self.false (sym (ap Some c.in-Some-Word.field-0-is) ∙ sym c.in-Some-Word.is ∙ c.item_in.ensures.item)
    c.bytes_between.ensures c.moved.ensures

pub returns-in-Some-Group : goal.returns-in-Some-Group
returns-in-Some-Group c =
    left_group c.args.self _ c.moved-in-Some-Group.result c.in-Some-Group.from c.in-Some-Group.to c.in-Some-Group.next c.saturating_sub.result c.min.result c.max.result c.if-self.false (sym (ap Some c.in-Some-Group.field-0-is) ∙ sym c.in-Some-Group.is ∙ c.item_in.ensures.item)
    c.saturating_sub.ensures c.min.ensures c.max.ensures refl c.moved-in-Some-Group.ensures
