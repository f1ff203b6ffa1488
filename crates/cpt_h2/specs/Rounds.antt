use Rattle.std.specs.Prelude.{◌≡◌, ℕ, ◌+◌, ◌<◌, ◌⊎◌, false, cond, List, length}
use Rattle.cpt_task.specs.declared.span.Span.{Span}
use Rattle.cpt_task.specs.declared.task.Action.{Action}
use Rattle.cpt_tables.specs.Spans.{◌≤ˢ◌}
use Rattle.cpt_tables.specs.Shapes.{PairShape, pair_at}
use Rattle.cpt_tables.specs.Weights.{value_at, weight}
use Rattle.cpt_h2.specs.Board.{IsUnder, MarksShape, BoardShape, IsQuiet, IsGood, Drops}
use Rattle.cpt_h2.specs.Rules.{Rule, needs_of, limit_of, Concerns, IsMet, IsUpTo, IsRuleAt}

-- no value is above the limit that the rule had in table h, unless what the limit is made of has changed
abbrev pub IsSettled : PairShape → BoardShape → Rule → Type 0
IsSettled h b r = IsQuiet b.marks (needs_of r) → (p q : ℕ) → Concerns r p q → pair_at b.pairs p q ≤ˢ limit_of h r

-- the table meets each rule of which R holds
abbrev pub MeetsEach : (Rule → Type 0) → PairShape → Type 0
MeetsEach R g = (r : Rule) → R r → IsMet g r

-- each rule of which R holds has been looked at by a limit at most that of table h, unless what it is made of had no
-- mark before
abbrev pub Settles : (Rule → Type 0) → MarksShape → PairShape → BoardShape → Type 0
Settles R looked h b = (r : Rule) → R r → IsQuiet looked (needs_of r) ⊎ IsSettled h b r

-- each rule of which R holds has been looked at by a limit at most that of the old table, unless what it is made of had
-- no mark before
pub record Works (R : Rule → Type 0) (looked : MarksShape) (old new : BoardShape) : Type 0 where
  pub drops : Drops (MeetsEach R) old new
  pub settled : Settles R looked old.pairs new

-- the rule has been looked at: no value is above the limit that it had
pub record Looks (r : Rule) (old new : BoardShape) : Type 0 where
  pub drops : Drops (λ g. IsMet g r) old new
  pub met : (p q : ℕ) → Concerns r p q → pair_at new.pairs p q ≤ˢ limit_of old.pairs r

-- the rule has been looked at: no value is above v, which is no less than its limit
pub record LooksUpTo (r : Rule) (v : Span) (old new : BoardShape) : Type 0 where
  pub drops : Drops (λ g. IsMet g r) old new
  pub met : (p q : ℕ) → Concerns r p q → pair_at new.pairs p q ≤ˢ v

-- the new values are at most the old ones, and still at least each table of which G holds
pub record Sinks (G : PairShape → Type 0) (old new : BoardShape) : Type 0 where
  pub size : new.pairs.atoms ≡ old.pairs.atoms
  pub good : IsGood new
  pub under : (k : ℕ) → value_at new.pairs.values k ≤ˢ value_at old.pairs.values k
  pub above : (g : PairShape) → G g → IsUnder g.values old.pairs.values → IsUnder g.values new.pairs.values

-- the rules of each action over n atoms
abbrev pub IsRule : List Action → ℕ → Rule → Type 0
IsRule actions n = IsUpTo (IsRuleAt actions n) (length actions)

-- the table meets each rule
abbrev pub MeetsAll : List Action → ℕ → PairShape → Type 0
MeetsAll actions n g = (r : Rule) → IsRule actions n r → IsMet g r

-- each rule is settled
abbrev pub AllSettled : List Action → BoardShape → Type 0
AllSettled actions b = (r : Rule) → IsRule actions b.pairs.atoms r → IsSettled b.pairs b r

-- a round: what it keeps, and that a round in which nothing has moved is the last
pub record EndsRound (actions : List Action) (old new : BoardShape) : Type 0 where
  pub sinks : Sinks (MeetsAll actions old.pairs.atoms) old new
  pub settled : AllSettled actions new
  pub last : new.moved ≡ false → MeetsAll actions old.pairs.atoms new.pairs
  pub less : weight new.pairs.values + cond new.moved 1 0 < weight old.pairs.values + 1

-- all rules are met at last
pub record Relaxes (actions : List Action) (old new : BoardShape) : Type 0 where
  pub sinks : Sinks (MeetsAll actions old.pairs.atoms) old new
  pub met : MeetsAll actions old.pairs.atoms new.pairs
