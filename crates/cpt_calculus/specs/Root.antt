use Rattle.std.specs.Prelude.{ℕ, zero, suc, ◌-◌, nat_le, List, [], ◌∷◌, ◌++◌, length, map, if◌then◌else◌}
use Rattle.cpt_task.specs.declared.span.Span.{Span}
use Rattle.cpt_task.specs.declared.span.Span.TheVariants.{At, Never}
use Rattle.cpt_task.specs.Shape.{TaskShape}
use Rattle.cpt_tables.specs.declared.tables.Tables.{Tables}
use Rattle.cpt_tables.specs.Shapes.{set_span_of}
use Rattle.cpt_tables.specs.Admissible.{nth_action}
use Rattle.cpt_sheet.specs.declared.data.Kind.TheVariants.{Start, End, Act}
use Rattle.cpt_sheet.specs.declared.data.Interval.{Interval}
use Rattle.cpt_sheet.specs.declared.data.Token.{Token}
use Rattle.cpt_sheet.specs.declared.data.Sheet.{Sheet}
use Rattle.cpt_sheet.specs.View.{no_span}
use Rattle.cpt_sheet.specs.Gaps.{gap}
use Rattle.cpt_calculus.specs.Decisions.{need_for}

-- from the first moment to where the distance to the bound is left, and from Never to 0 where it is not
abbrev pub window : Span → Span → ℕ → Interval
window first (At n) b = if nat_le n b then record { lo = first; hi = b - n } else no_span
window first Never b = no_span

-- the outside occurrences of an action: they begin once what they need can hold, and early enough for the goal
abbrev pub out_at_root : TaskShape → Tables → ℕ → ℕ → Interval
out_at_root t tables b a = window (set_span_of tables.pairs (nth_action t a).pre) (gap t tables (Act a) End) b

-- the outside intervals of the first n actions
abbrev pub outs_at_root : TaskShape → Tables → ℕ → ℕ → List Interval
outs_at_root t tables b zero = []
outs_at_root t tables b (suc n) = outs_at_root t tables b n ++ out_at_root t tables b n ∷ []

-- the start, at 0
abbrev pub start_token : Token
start_token = record { kind = Start; span = record { lo = At 0; hi = 0 }; lists = [] }

-- the end, from where the goal can hold to the bound
abbrev pub end_token : TaskShape → Tables → ℕ → Token
end_token t tables b = record { kind = End; span = record { lo = set_span_of tables.pairs t.goal; hi = b }; lists = [] }

-- the start, the end without its lists, and the outside intervals
abbrev pub bare_root : TaskShape → Tables → ℕ → Sheet
bare_root t tables b = record {
  bound = b;
  tokens = start_token ∷ end_token t tables b ∷ [];
  outs = outs_at_root t tables b (length t.actions);
  orders = (0, 1) ∷ [];
}

-- The root sheet of a bound. The list of the end for an atom has all that add it: the start where the atom is
-- initial, and each live outside action that adds it.
abbrev pub root_of : TaskShape → Tables → ℕ → Sheet
root_of t tables b =
    let s = bare_root t tables b in
    record s { tokens = start_token ∷ (record (end_token t tables b) { lists = map (need_for t s) t.goal }) ∷ [] }
