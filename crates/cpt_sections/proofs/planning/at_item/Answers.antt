use Rattle.std.proofs.Common.{◌∙◌, sym}
use Rattle.cpt_sections.proofs.PlanLines.{rest_may_end, stray_item, not_in_turn, item_moves}
use Rattle.cpt_sections.proofs.planning.at_item.Goals as goal
use Rattle.cpt_sections.proofs.planning.at_item.Goals.{in_default-via-in-Item+else-is_in_turn, in_default-via-in_default}

pub returns-in_ok-items-in-Item : goal.returns-in_ok-items-in-Item
returns-in_ok-items-in-Item c =
    item_moves c.args.task.now c.args.line_number c.args.items (record { act = c.in-Item.act; start = c.in-Item.start }) c.in_ok-items-in-Item.items c.args.line.now c.at_items.result c.in-Item.is c.requires.section
    (sym c.is_in_turn.ensures ∙ c.if-is_in_turn.true) c.in_ok-items-in-Item.ensures c.at_items.ensures

pub returns-in_default : goal.returns-in_default
returns-in_default c v =
    let some = c.requires.section.some in
    elim c.in_default.branch [
      | in_default-via-in-Item+else-is_in_turn w ↦
          stray_item c.args.task.now v c.args.items c.args.line_number c.args.line.now some (
          not_in_turn c.args.items c.args.line.now w.in-Item.start w.in-Item.act w.in-Item.is (sym w.if-is_in_turn.false ∙ w.is_in_turn.ensures)
          )
      | in_default-via-in_default w ↦
          stray_item c.args.task.now v c.args.items c.args.line_number c.args.line.now some (λ start act e. absurd (w.in_default.not-Item start act e))
    ]

pub at_items-requires : goal.at_items-requires
at_items-requires c =
    rest_may_end c.args.task.now c.args.line_number c.args.items (record { act = c.in-Item.act; start = c.in-Item.start }) c.in_ok-items-in-Item.items c.requires.section c.in_ok-items-in-Item.ensures
