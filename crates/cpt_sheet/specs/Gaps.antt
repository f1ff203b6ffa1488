use Rattle.std.specs.Prelude.{◌≡◌, ℕ, ◌-◌, ◌⊎◌, nat_lt, length, if◌then◌else◌, Bool, false, List}
use Rattle.cpt_task.specs.declared.span.Span.{Span}
use Rattle.cpt_task.specs.declared.span.Span.TheVariants.{At, Never}
use Rattle.cpt_task.specs.Shape.{TaskShape}
use Rattle.cpt_tables.specs.declared.tables.Tables.{Tables}
use Rattle.cpt_tables.specs.Spans.{◌≤ˢ◌, ◌+ˢ◌}
use Rattle.cpt_tables.specs.Shapes.{FitsPairs, FitsDists, set_span_of, most_dist}
use Rattle.cpt_tables.specs.Admissible.{nth_action}
use Rattle.cpt_sheet.specs.declared.data.Cand.{Cand}
use Rattle.cpt_sheet.specs.declared.data.Cand.TheVariants.{Tok, Out}
use Rattle.cpt_sheet.specs.declared.data.Kind.{Kind}
use Rattle.cpt_sheet.specs.declared.data.Kind.TheVariants.{Start, End, Act}
use Rattle.cpt_sheet.specs.declared.data.Sheet.{Sheet}
use Rattle.cpt_sheet.specs.Roles.{needs_of, Deletes, Clash}
use Rattle.cpt_sheet.specs.View.{lo, hi, kind_of, before, same}

-- the tables have the task's sizes and finite values below 10^15
pub record FitsTask (t : TaskShape) (tables : Tables) : Type 0 where
  pub pairs : FitsPairs t tables.pairs
  pub dists : FitsDists t tables.dists

-- how long after the beginning of the first these atoms may all hold, where the first comes before: Never after the
-- end and after an action that is not there
abbrev pub reach : TaskShape → Tables → Kind → List ℕ → Span
reach t b Start ps = set_span_of b.pairs ps
reach t b End ps = Never
reach t b (Act a) ps = if nat_lt a (length t.actions) then At (nth_action t a).dur +ˢ most_dist b.dists a ps else Never

-- how long after the beginning of the first the second may begin, where the first comes before it: Never where the
-- first is the end or the second is the start
abbrev pub gap : TaskShape → Tables → Kind → Kind → Span
gap t b k Start = Never
gap t b k End = reach t b k (needs_of t End)
gap t b k (Act c) = reach t b k (needs_of t (Act c))

-- how far the gap lies below a moment, and 0 where the gap is larger
abbrev pub back : ℕ → Span → ℕ
back moment (At n) = moment - n
back moment Never = 0

-- the first moment at which the second may begin, where the first comes before it
abbrev pub arrival : TaskShape → Tables → Sheet → Cand → Cand → Span
arrival t b s c d = lo s c +ˢ gap t b (kind_of s c) (kind_of s d)

-- the last moment at which the first may begin, where it comes before the second
abbrev pub deadline : TaskShape → Tables → Sheet → Cand → Cand → Span
deadline t b s c d = At (back (hi s d) (gap t b (kind_of s c) (kind_of s d)))

-- both are tokens, and the order stands between them
abbrev pub ordered : Sheet → Cand → Cand → Bool
ordered s (Tok x) (Tok y) = before s x y
ordered s (Tok x) (Out a) = false
ordered s (Out a) d = false

-- the first can precede the second: its arrival is not too late, and the other order does not stand
pub record CanPrecede (t : TaskShape) (b : Tables) (s : Sheet) (c d : Cand) : Type 0 where
  pub in_time : arrival t b s c d ≤ˢ At (hi s d)
  pub free : ordered s d c ≡ false

-- the two interfere, and neither can precede the other
pub record IsStuck (t : TaskShape) (b : Tables) (s : Sheet) (c d : Cand) : Type 0 where
  pub clash : Clash t (kind_of s c) (kind_of s d)
  pub not_first : ¬ (CanPrecede t b s c d)
  pub not_last : ¬ (CanPrecede t b s d c)

-- the first, which is to add p, deletes q, and the second, which is to add q, deletes p
pub record DeleteEachOther (t : TaskShape) (s : Sheet) (p q : ℕ) (c d : Cand) : Type 0 where
  pub first : Deletes t (kind_of s c) q
  pub second : Deletes t (kind_of s d) p

-- the two cannot be those that add p and q
abbrev pub Exclude : TaskShape → Tables → Sheet → ℕ → ℕ → Cand → Cand → Type 0
Exclude t b s p q c d = IsStuck t b s c d ⊎ DeleteEachOther t s p q c d

-- d, as the one that adds q, is impossible beside c, as the one that adds p
pub record IsImpossibleBeside (t : TaskShape) (b : Tables) (s : Sheet) (p q : ℕ) (c d : Cand) : Type 0 where
  pub other : same d c ≡ false
  pub exclude : Exclude t b s p q c d
