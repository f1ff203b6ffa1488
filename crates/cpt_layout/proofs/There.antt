-- places of what stands in a sheet
use Rattle.std.proofs.Common.{ℕ, arith}
use Rattle.cpt_sheet.specs.declared.data.Cand.{Cand}
use Rattle.cpt_sheet.specs.declared.data.Cand.TheVariants.{Tok, Out}
use Rattle.cpt_sheet.specs.Formed.{IsPlaced}
use Rattle.cpt_layout.specs.Places.{Place, order, Frame, IsThere}
use Rattle.cpt_layout.specs.Sheets.{sheet_from}
use Rattle.cpt_layout.specs.Puts.{lo_of, hi_of, IsSpanOf}
use Rattle.cpt_layout.proofs.Views.{tokens_are, outs_are}

pub lo_there : (s : Frame) (v : Place → ℕ) (c : Cand) → IsSpanOf (sheet_from s v) c → IsThere s (lo_of c)
lo_there s v (Tok x) h = (let e = tokens_are s v in omega arith)
lo_there s v (Out a) h = (let e = outs_are s v in omega arith)

pub hi_there : (s : Frame) (v : Place → ℕ) (c : Cand) → IsSpanOf (sheet_from s v) c → IsThere s (hi_of c)
hi_there s v (Tok x) h = (let e = tokens_are s v in omega arith)
hi_there s v (Out a) h = (let e = outs_are s v in omega arith)

pub order_there : (s : Frame) (v : Place → ℕ) (x y : ℕ) → IsPlaced (sheet_from s v) x y → IsThere s (order x y)
order_there s v x y h = (let e = tokens_are s v in let a = h.first in let b = h.second in (omega arith, omega arith, h.different))
