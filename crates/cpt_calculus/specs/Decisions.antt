use Rattle.std.specs.Prelude.{◌≡◌, ℕ, zero, suc, ◌&&◌, true, List, [], ◌∷◌, ◌++◌, length, map, if◌then◌else◌}
use Rattle.cpt_task.specs.Shape.{TaskShape}
use Rattle.cpt_task.specs.Timeline.{is_in}
use Rattle.cpt_tables.specs.Admissible.{nth_action}
use Rattle.cpt_sheet.specs.declared.data.Cand.{Cand}
use Rattle.cpt_sheet.specs.declared.data.Cand.TheVariants.{Tok, Out}
use Rattle.cpt_sheet.specs.declared.data.Kind.TheVariants.{Act}
use Rattle.cpt_sheet.specs.declared.data.Need.{Need}
use Rattle.cpt_sheet.specs.declared.data.Token.{Token}
use Rattle.cpt_sheet.specs.declared.data.Sheet.{Sheet}
use Rattle.cpt_sheet.specs.declared.data.Decision.{Decision}
use Rattle.cpt_sheet.specs.declared.data.Decision.TheVariants.{Join, Bring, Before}
use Rattle.cpt_sheet.specs.Roles.{adds_of}
use Rattle.cpt_sheet.specs.View.{span_of, kind_of, has, cands}
use Rattle.cpt_sheet.specs.Live.{is_open}
use Rattle.cpt_sheet.specs.Formed.{IsPlaced}
use Rattle.cpt_sheet.specs.Edits.{posted, with_list, with_posted}

-- the candidate stands in the named list, or the two are different tokens and not the end before the start
abbrev pub Fits : Sheet → Decision → Type 0
Fits s (Join x p y) = has (Tok y) (cands s x p) ≡ true
Fits s (Bring x p a) = has (Out a) (cands s x p) ≡ true
Fits s (Before x y) = IsPlaced s x y

-- of the first n tokens those that add the atom, ascending
abbrev pub token_adders : TaskShape → Sheet → ℕ → ℕ → List Cand
token_adders t s p zero = []
token_adders t s p (suc n) = if is_in p (adds_of t (kind_of s (Tok n))) then token_adders t s p n ++ Tok n ∷ [] else token_adders t s p n

-- of the first n actions the live outside ones that add the atom, ascending
abbrev pub out_adders : TaskShape → Sheet → ℕ → ℕ → List Cand
out_adders t s p zero = []
out_adders t s p (suc n) = if is_open (span_of s (Out n)) && is_in p (nth_action t n).add then out_adders t s p n ++ Out n ∷ [] else out_adders t s p n

-- each token and each live outside action that adds the atom
abbrev pub adders : TaskShape → Sheet → ℕ → List Cand
adders t s p = token_adders t s p (length s.tokens) ++ out_adders t s p (length t.actions)

-- an atom with all that add it
abbrev pub need_for : TaskShape → Sheet → ℕ → Need
need_for t s p = record { atom = p; cands = adders t s p }

-- the token of an outside action: with its interval, and for each precondition all that add it
abbrev pub brought : TaskShape → Sheet → ℕ → Token
brought t s a = record { kind = Act a; span = span_of s (Out a); lists = map (need_for t s) (nth_action t a).pre }

-- the list with a token behind its tokens
abbrev pub behind_tokens : ℕ → List Cand → List Cand
behind_tokens n [] = Tok n ∷ []
behind_tokens n (Tok y ∷ cs) = Tok y ∷ behind_tokens n cs
behind_tokens n (Out a ∷ cs) = Tok n ∷ Out a ∷ cs

-- where the outside action stands in the list, the token is added beside it
abbrev pub beside : ℕ → ℕ → List Cand → List Cand
beside a n cs = if has (Out a) cs then behind_tokens n cs else cs

-- the token n of the action a is added beside Out a in the list
abbrev pub offer : ℕ → ℕ → Need → Need
offer a n m = record m { cands = beside a n m.cands }

-- the token n of the action a is added beside Out a in each list of the token
abbrev pub offered : ℕ → ℕ → Token → Token
offered a n z = record z { lists = map (offer a n) z.lists }

-- the token n of the action a is added beside Out a in each list
abbrev pub with_offers : Sheet → ℕ → ℕ → Sheet
with_offers s a n = record s { tokens = map (offered a n) s.tokens }

-- the token is the only candidate of the named list
abbrev pub joined : Sheet → ℕ → ℕ → ℕ → Sheet
joined s x p y = with_list s x p (λ cs. Tok y ∷ [])

-- a token more, which comes after the start, before the end and before x
abbrev pub with_new : Sheet → Token → ℕ → Sheet
with_new s z x =
    let n = length s.tokens in
    record s { tokens = s.tokens ++ z ∷ []; orders = posted n x (posted n 1 (posted 0 n s.orders)) }

-- the sheet after a decision
abbrev pub applied : TaskShape → Sheet → Decision → Sheet
applied t s (Join x p y) = joined s x p y
applied t s (Bring x p a) = let n = length s.tokens in with_new (joined (with_offers s a n) x p n) (brought t s a) x
applied t s (Before x y) = with_posted s x y
