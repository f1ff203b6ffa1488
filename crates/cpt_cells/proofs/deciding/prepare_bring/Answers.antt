use Rattle.std.proofs.Common.{rules, ◌≡◌, ◌∙◌, ℕ, List, length, ap, sym, subst}
use Rattle.cpt_sheet.specs.declared.data.Interval.{Interval}
use Rattle.cpt_sheet.specs.declared.data.Kind.TheVariants.{Act}
use Rattle.cpt_sheet.specs.declared.data.Sheet.{Sheet}
use Rattle.cpt_layout.specs.Places.{Frame}
use Rattle.cpt_layout.specs.Sheets.{number_of}
use Rattle.cpt_block.specs.Blocks.{block}
use Rattle.cpt_cells.specs.Decided.{brought_cells}
use Rattle.cpt_cells.specs.Shapes.{HasRoomFor}
use Rattle.cpt_cells.proofs.deciding.prepare_bring.Goals as goal

pub returns-clause-ready : goal.returns-clause-ready
returns-clause-ready c =
    let t = c.args.task.now in
    let a : ℕ = c.args.a in
    let f : Frame = c.args.cells.now.frame in
    let s : Sheet = c.args.cells.now.sheet in
    let items : List ℕ = c.in_ok-numbers.numbers.items in
    let e : items ≡ brought_cells t f s a =
    c.in_ok-numbers.ensures
    ∙ (ap (λ (n : ℕ). block t f s (Act a) n c.out_at-span.result.hi) c.number_of_span.ensures
    ∙ ap (λ (i : Interval). block t f s (Act a) (number_of i.lo) i.hi) c.out_at-span.ensures) in
    let k : c.len.result ≡ length items = search rules in
    record {
      listed = e ∙ (ap (λ (g : Frame). brought_cells t g s a) (sym c.room_for.ensures.frame) ∙ ap (λ (u : Sheet). brought_cells t c.room_for.new.self.frame u a) (sym c.room_for.ensures.sheet));
      room = subst (λ (n : ℕ). HasRoomFor c.room_for.new.self (Act a) n) k c.in_ok-room_for.ensures.token;
    }
