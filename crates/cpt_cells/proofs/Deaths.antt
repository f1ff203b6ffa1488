-- whether a sheet is dead, token by token
use Rattle.std.proofs.Common.{◌≡◌, ◌≢◌, ℕ, suc, ◌<◌, ◌==◌, Bool, List, [], ◌∷◌, length, get_or, slice_get, unwrap_or, MatchBool, refl, sym, subst, arith, inr}
use Rattle.std.proofs.lemmas.List.Elements.{All-from_get_or, Contains-get_or}
use Rattle.std.proofs.lemmas.Option.{unwrap_or-slice_get}
use Rattle.cpt_sheet.specs.declared.data.Cand.{Cand}
use Rattle.cpt_sheet.specs.declared.data.Need.{Need}
use Rattle.cpt_sheet.specs.declared.data.Sheet.{Sheet}
use Rattle.cpt_sheet.specs.declared.data.Token.{Token}
use Rattle.cpt_sheet.specs.Live.{IsDead, IsDeadToken, IsLive, IsLiveToken, IsOpen}
use Rattle.cpt_sheet.specs.View.{no_need, no_token, token_at}
use Rattle.cpt_layout.proofs.Drops.{not_eq}

pub match_empty : (cs : List Cand) → MatchBool (length cs == 0) (cs ≡ []) (cs ≢ [])
match_empty [] = refl
match_empty (c ∷ cs) = subst (λ (b : Bool). MatchBool b (c ∷ cs ≡ []) (c ∷ cs ≢ [])) (sym (not_eq (suc (length cs)) 0 (λ e. absurd (omega arith)))) (λ e. cc)

pub empty_at : (z : Token) (j : ℕ) → j < length z.lists → (unwrap_or (slice_get z.lists j) no_need).cands ≡ [] → IsDeadToken z
empty_at z j l e =
    let n : Need = get_or z.lists j no_need in
    let k : n.cands ≡ [] = subst (λ (m : Need). m.cands ≡ []) (unwrap_or-slice_get z.lists j no_need) e in
    inr (n, Contains-get_or z.lists j no_need l, k)

pub live_token : (z : Token) → IsOpen z.span → ((j : ℕ) → j < length z.lists → (unwrap_or (slice_get z.lists j) no_need).cands ≢ []) → IsLiveToken z
live_token z o h = (o, All-from_get_or (λ (n : Need). n.cands ≢ []) z.lists no_need (λ i l. subst (λ (m : Need). m.cands ≢ []) (unwrap_or-slice_get z.lists i no_need) (h i l)))

pub dead_at : (s : Sheet) (x : ℕ) → x < length s.tokens → IsDeadToken (token_at s x) → IsDead s
dead_at s x l d =
    let z : Token = get_or s.tokens x no_token in
    let k : IsDeadToken z = subst (λ (u : Token). IsDeadToken u) (unwrap_or-slice_get s.tokens x no_token) d in
    (z, Contains-get_or s.tokens x no_token l, k)

pub live_all : (s : Sheet) → ((x : ℕ) → x < length s.tokens → IsLiveToken (token_at s x)) → IsLive s
live_all s h = All-from_get_or (λ (u : Token). IsLiveToken u) s.tokens no_token (λ i l. subst (λ (u : Token). IsLiveToken u) (unwrap_or-slice_get s.tokens i no_token) (h i l))
