use Rattle.std.specs.Prelude.{◌≡◌, ℕ, zero, suc, ◌+◌, ◌*◌, ◌<◌, Bool, false, List, [], ◌∷◌, ◌++◌, length, map, slice_get, slice_index_or, unwrap_or, if◌then◌else◌}
use Rattle.cpt_task.specs.Shape.{TaskShape}
use Rattle.cpt_task.specs.Timeline.{is_in}
use Rattle.cpt_tables.specs.Admissible.{nth_action}
use Rattle.cpt_sheet.specs.declared.data.Cand.{Cand}
use Rattle.cpt_sheet.specs.declared.data.Cand.TheVariants.{Tok, Out}
use Rattle.cpt_sheet.specs.declared.data.Decision.TheVariants.{Bring}
use Rattle.cpt_sheet.specs.declared.data.Interval.{Interval}
use Rattle.cpt_sheet.specs.declared.data.Kind.{Kind}
use Rattle.cpt_sheet.specs.declared.data.Kind.TheVariants.{Start, End, Act}
use Rattle.cpt_sheet.specs.declared.data.Token.{Token}
use Rattle.cpt_sheet.specs.declared.data.Sheet.{Sheet}
use Rattle.cpt_sheet.specs.Edits.{with_posted}
use Rattle.cpt_sheet.specs.Live.{is_open}
use Rattle.cpt_sheet.specs.Roles.{adds_of, needs_of}
use Rattle.cpt_sheet.specs.View.{has, kind_of, no_need, span_of, token_at}
use Rattle.cpt_calculus.specs.Decisions.{applied, joined, need_for, offered}
use Rattle.cpt_layout.specs.Places.{Frame, adders_at, extended, needs_by, table}
use Rattle.cpt_layout.specs.Numbers.{cells_in}
use Rattle.cpt_layout.specs.Sheets.{seen, span_from}

-- 1 where it is so, else 0
abbrev pub bit : Bool → ℕ
bit b = if b then 1 else 0

-- f 0, f 1 and so on one after the other, n of them
abbrev pub flat : (ℕ → List ℕ) → ℕ → List ℕ
flat f zero = []
flat f (suc n) = flat f n ++ f n

-- the list of a token at a place among its preconditions
abbrev pub list_in : Sheet → ℕ → ℕ → List Cand
list_in s x j = (unwrap_or (slice_get (token_at s x).lists j) no_need).cands

-- whether a token more of this kind joins the list: beside the outside action that it comes from
abbrev pub is_beside : Kind → List Cand → Bool
is_beside Start cs = false
is_beside End cs = false
is_beside (Act a) cs = has (Out a) cs

-- whether the new token is a candidate in each list of an older token
abbrev pub older_row : Sheet → Kind → ℕ → List ℕ
older_row s k x = table (λ j. bit (is_beside k (list_in s x j))) 0 (length (token_at s x).lists)

-- a need of the new token for p behind n others: two free cells, which older tokens add p, and which of the outside
-- actions that add it are live
abbrev pub own_row : TaskShape → Sheet → ℕ → List ℕ → ℕ → List ℕ
own_row t s n adders p = 0 ∷ (0 ∷ (table (λ y. bit (is_in p (adds_of t (kind_of s (Tok y))))) 0 n ++ map (λ a. bit (is_open (span_of s (Out a)))) adders))

-- the j-th precondition of a kind
abbrev pub nth_need : Frame → Kind → ℕ → ℕ
nth_need f k j = slice_index_or (needs_by f k) j 0

-- the cells of the j-th candidate list of a token that is added
abbrev pub own_row_at : TaskShape → Frame → Sheet → Kind → ℕ → List ℕ
own_row_at t f s k j = own_row t s (length f.kinds) (adders_at f (nth_need f k j)) (nth_need f k j)

-- the orders with the older tokens, none of which stands, the lists of the older tokens, and its own lists
abbrev pub behind_span : TaskShape → Frame → Sheet → Kind → List ℕ
behind_span t f s k = table (λ i. 0) 0 (2 * length f.kinds) ++ (flat (older_row s k) (length f.kinds) ++ flat (own_row_at t f s k) (length (needs_by f k)))

-- the cells of a token more
abbrev pub block : TaskShape → Frame → Sheet → Kind → ℕ → ℕ → List ℕ
block t f s k lo hi = lo ∷ (hi ∷ behind_span t f s k)

-- of the first n actions those that add the atom
abbrev pub action_adders : TaskShape → ℕ → ℕ → List ℕ
action_adders t p zero = []
action_adders t p (suc n) = if is_in p (nth_action t n).add then action_adders t p n ++ n ∷ [] else action_adders t p n

-- the frame has the lists of the task
pub record IsFrameOf (t : TaskShape) (f : Frame) : Type 0 where
  pub count : length f.pre ≡ length t.actions
  pub needs : (k : Kind) → needs_by f k ≡ needs_of t k
  pub adders : (p : ℕ) → adders_at f p ≡ action_adders t p (length t.actions)

-- a token of an older sheet once the new one is there
abbrev pub beside_new : Kind → ℕ → Token → Token
beside_new Start n z = z
beside_new End n z = z
beside_new (Act a) n z = offered a n z

-- the interval that two numbers are
abbrev pub interval : ℕ → ℕ → Interval
interval lo hi = record { lo = span_from lo; hi = hi }

-- a token of this kind and interval, with all that add its preconditions
abbrev pub new_token : TaskShape → Sheet → Kind → ℕ → ℕ → Token
new_token t s k lo hi = record { kind = k; span = interval lo hi; lists = map (need_for t s) (needs_of t k) }

-- the sheet with a token more, which no order is posted of yet
abbrev pub grown : TaskShape → Sheet → Kind → ℕ → ℕ → Sheet
grown t s k lo hi = record s { tokens = map (beside_new k (length s.tokens)) s.tokens ++ new_token t s k lo hi ∷ [] }

-- behind the cells of a sheet, the block of a token more makes of it the sheet with this token, and there is a cell for
-- each place
abbrev pub Growing : Type 0
Growing = (t : TaskShape) (f : Frame) (cells : List ℕ) (k : Kind) (lo hi : ℕ) → IsFrameOf t f → length cells ≡ cells_in f →
    (seen (extended f (k ∷ [])) (cells ++ block t f (seen f cells) k lo hi) ≡ grown t (seen f cells) k lo hi)
    × (length (block t f (seen f cells) k lo hi) + cells_in f ≡ cells_in (extended f (k ∷ [])))

-- a decision that brings a token is made in parts: the token more, the named list that it alone is left in, and its three
-- orders
abbrev pub BringsByParts : Type 0
BringsByParts = (t : TaskShape) (s : Sheet) (x p a lo hi : ℕ) → x < length s.tokens → interval lo hi ≡ span_of s (Out a) →
    let n = length s.tokens in
    applied t s (Bring x p a) ≡ with_posted (with_posted (with_posted (joined (grown t s (Act a) lo hi) x p n) 0 n) n 1) n x
