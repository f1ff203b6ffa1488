use Rattle.std.specs.Prelude.{ℕ, Bool, false, ◌==◌, ◌&&◌, ◌||◌, nat_lt, List, [], slice_get, unwrap_or}
use Rattle.std.specs.List.{list_any, find}
use Rattle.std.specs.Option.{option_map_or}
use Rattle.cpt_task.specs.declared.span.Span.{Span}
use Rattle.cpt_task.specs.declared.span.Span.TheVariants.{Never}
use Rattle.cpt_sheet.specs.declared.data.Cand.{Cand}
use Rattle.cpt_sheet.specs.declared.data.Cand.TheVariants.{Tok, Out}
use Rattle.cpt_sheet.specs.declared.data.Kind.{Kind}
use Rattle.cpt_sheet.specs.declared.data.Kind.TheVariants.{Start, Act}
use Rattle.cpt_sheet.specs.declared.data.Interval.{Interval}
use Rattle.cpt_sheet.specs.declared.data.Need.{Need}
use Rattle.cpt_sheet.specs.declared.data.Token.{Token}
use Rattle.cpt_sheet.specs.declared.data.Sheet.{Sheet}

-- what is read past an end: an interval without a moment, and a token without preconditions
abbrev pub no_span : Interval
no_span = record { lo = Never; hi = 0 }

-- a precondition in the place of one that is not there
abbrev pub no_need : Need
no_need = record { atom = 0; cands = [] }

-- a token in the place of one that is not there
abbrev pub no_token : Token
no_token = record { kind = Start; span = no_span; lists = [] }

-- the token of a number
abbrev pub token_at : Sheet → ℕ → Token
token_at s x = unwrap_or (slice_get s.tokens x) no_token

-- the interval of a token or of an outside action
abbrev pub span_of : Sheet → Cand → Interval
span_of s (Tok x) = (token_at s x).span
span_of s (Out a) = unwrap_or (slice_get s.outs a) no_span

-- the first moment at which it may begin
abbrev pub lo : Sheet → Cand → Span
lo s c = (span_of s c).lo

-- the last moment at which it may begin
abbrev pub hi : Sheet → Cand → ℕ
hi s c = (span_of s c).hi

-- what a token or an outside action stands for
abbrev pub kind_of : Sheet → Cand → Kind
kind_of s (Tok x) = (token_at s x).kind
kind_of s (Out a) = Act a

-- the two are one token, or one outside action
abbrev pub same : Cand → Cand → Bool
same (Tok x) (Tok y) = x == y
same (Out x) (Out y) = x == y
same (Tok x) (Out y) = false
same (Out x) (Tok y) = false

-- the candidate stands in the list
abbrev pub has : Cand → List Cand → Bool
has c ds = list_any (λ d. same d c) ds

-- the list for an atom among preconditions, and the empty list where it is none of them
abbrev pub list_for : ℕ → List Need → List Cand
list_for p ns = option_map_or (λ n. n.cands) (find (λ n. n.atom == p) ns) []

-- the atom is among the preconditions
abbrev pub has_atom : ℕ → List Need → Bool
has_atom p ns = list_any (λ n. n.atom == p) ns

-- the atom is a precondition of the token
abbrev pub has_need : Sheet → ℕ → ℕ → Bool
has_need s x p = has_atom p (token_at s x).lists

-- the candidate list of a token and an atom
abbrev pub cands : Sheet → ℕ → ℕ → List Cand
cands s x p = list_for p (token_at s x).lists

-- the order is among these
abbrev pub has_order : ℕ → ℕ → List (ℕ × ℕ) → Bool
has_order x y os = list_any (λ o. (o.0 == x) && (o.1 == y)) os

-- the order stands: the first token ends before the second begins
abbrev pub before : Sheet → ℕ → ℕ → Bool
before s x y = has_order x y s.orders

-- one order comes before another in the list of orders
abbrev pub pair_lt : ℕ → ℕ → ℕ → ℕ → Bool
pair_lt x y u v = nat_lt x u || ((x == u) && nat_lt y v)
