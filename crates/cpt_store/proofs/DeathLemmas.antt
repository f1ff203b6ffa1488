-- a step kills a live sheet only where it lands
use Rattle.std.proofs.Common.{◌<◌, ◌≤◌, ◌⊎◌, ℕ, All, length, set, inl, inr, sym, subst, ◌∙◌, arith}
use Rattle.std.proofs.lemmas.List.{get_or-set_same, length-set, set_past}
use Rattle.std.proofs.lemmas.List.Elements.{All-set}
use Rattle.std.proofs.lemmas.Option.{unwrap_or-slice_get}
use Rattle.cpt_sheet.specs.declared.data.Cand.{Cand}
use Rattle.cpt_sheet.specs.declared.data.Cand.TheVariants.{Tok, Out}
use Rattle.cpt_sheet.specs.declared.data.Change.{Change}
use Rattle.cpt_sheet.specs.declared.data.Change.TheVariants.{Raise, Lower, Take, Post}
use Rattle.cpt_sheet.specs.declared.data.Sheet.{Sheet}
use Rattle.cpt_sheet.specs.declared.data.Token.{Token}
use Rattle.cpt_sheet.specs.Edits.{changed, with_token}
use Rattle.cpt_sheet.specs.Live.{IsDead, IsLive, IsLiveToken}
use Rattle.cpt_sheet.specs.View.{no_token, token_at}
use Rattle.cpt_steps.specs.Landing.{subject_of}
use Rattle.cpt_cells.proofs.Deaths.{dead_at}
use Rattle.cpt_store.specs.Deaths.{IsDeadAt, IsLiveAt}

pub dead_by : (s : Sheet) (c : Cand) → IsDeadAt s c → IsDead s
dead_by s (Tok x) d = dead_at s x d.0 d.1
dead_by s (Out a) d = absurd d

there_or_past : (x n : ℕ) → (x < n) ⊎ (n ≤ x)
there_or_past x n = grind arith

-- another token of a live sheet
live_with : (s : Sheet) (x : ℕ) (z : Token) → IsLive s → IsLiveAt (with_token s x z) (Tok x) → IsLive (with_token s x z)
live_with s x z live at = elim (there_or_past x (length s.tokens)) [
  | inl l ↦ All-set IsLiveToken s.tokens x z (let h : IsLiveToken (token_at (with_token s x z) x) = at (let e = length-set s.tokens x z in omega arith) in subst IsLiveToken (unwrap_or-slice_get (set s.tokens x z) x no_token ∙ get_or-set_same s.tokens x z no_token l) h) live
  | inr g ↦ subst (λ ts. All IsLiveToken ts) (sym (set_past s.tokens x z g)) live
]

pub live_after : (s : Sheet) (c : Change) → IsLive s → IsLiveAt (changed s c) (subject_of c) → IsLive (changed s c)
live_after s (Raise (Tok x) v) live at = live_with s x _ live at
live_after s (Raise (Out a) v) live at = live
live_after s (Lower (Tok x) v) live at = live_with s x _ live at
live_after s (Lower (Out a) v) live at = live
live_after s (Take x p d) live at = live_with s x _ live at
live_after s (Post x y) live at = live
