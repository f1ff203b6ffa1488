-- deaths of a sheet by one subject
use Rattle.std.specs.Prelude.{◌<◌, ⊤, length}
use Rattle.cpt_sheet.specs.declared.data.Cand.{Cand}
use Rattle.cpt_sheet.specs.declared.data.Cand.TheVariants.{Tok, Out}
use Rattle.cpt_sheet.specs.declared.data.Sheet.{Sheet}
use Rattle.cpt_sheet.specs.Live.{IsDeadToken, IsLiveToken}
use Rattle.cpt_sheet.specs.View.{token_at}

-- a token that is there and has no moment, or a list without a candidate
abbrev pub IsDeadAt : Sheet → Cand → Type 0
IsDeadAt s (Tok x) = (x < length s.tokens) × IsDeadToken (token_at s x)
IsDeadAt s (Out a) = ⊥

-- an outside action, or a token with a moment and without an empty list, if it is there
abbrev pub IsLiveAt : Sheet → Cand → Type 0
IsLiveAt s (Tok x) = x < length s.tokens → IsLiveToken (token_at s x)
IsLiveAt s (Out a) = ⊤
