use Rattle.std.proofs.Common.{arith, ◌≡◌, length, ap}
use Rattle.cpt_sheet.specs.declared.data.Sheet.{Sheet}
use Rattle.cpt_cells.proofs.Chains.{keeps_then}
use Rattle.cpt_cells.proofs.Bringing.{placed}
use Rattle.cpt_cells.proofs.deciding.order_new.Goals as goal

pub decide_before-requires : goal.decide_before-requires
decide_before-requires g c = placed c.args.cells.now.sheet 0 c.args.n (omega arith) (omega arith) (λ e. omega arith) (λ e f. omega arith)

pub decide_before-requires-2 : goal.decide_before-requires-2
decide_before-requires-2 g c =
    let e : length c.decide_before.new.self.sheet.tokens ≡ length c.args.cells.now.sheet.tokens = ap (λ (s : Sheet). length s.tokens) c.decide_before.ensures.sheet in
    placed c.decide_before.new.self.sheet c.args.n 1 (omega arith) (omega arith) (λ q. omega arith) (λ q f. omega arith)

pub decide_before-requires-3 : goal.decide_before-requires-3
decide_before-requires-3 g c =
    let e : length c.decide_before.new.self.sheet.tokens ≡ length c.args.cells.now.sheet.tokens = ap (λ (s : Sheet). length s.tokens) c.decide_before.ensures.sheet in
    let f : length c.decide_before-2.new.self.sheet.tokens ≡ length c.decide_before.new.self.sheet.tokens = ap (λ (s : Sheet). length s.tokens) c.decide_before-2.ensures.sheet in
    placed c.decide_before-2.new.self.sheet c.args.n c.args.x (omega arith) (omega arith) (λ q. omega arith) (λ q r. omega arith)

pub returns-clause-marks : goal.returns-clause-marks
returns-clause-marks g c =
    keeps_then c.args.cells.now.marks c.decide_before.new.self.marks c.decide_before-3.new.self.marks c.decide_before.ensures.marks
    (keeps_then c.decide_before.new.self.marks c.decide_before-2.new.self.marks c.decide_before-3.new.self.marks c.decide_before-2.ensures.marks c.decide_before-3.ensures.marks)
