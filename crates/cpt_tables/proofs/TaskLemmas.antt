-- the actions of a task by their numbers
use Rattle.std.proofs.Common.{ℕ, ◌<◌, length, All, Contains, sym, subst}
use Rattle.std.proofs.lemmas.List.Elements.{Contains-get_or}
use Rattle.cpt_task.specs.Shape.{TaskShape, InBounds, HasAtomsBelow}
use Rattle.cpt_task.specs.Timeline.{idle}
use Rattle.cpt_tables.specs.Shapes.{PairShape, FitsPairs}
use Rattle.cpt_tables.specs.Admissible.{nth_action}
use Rattle.cpt_tables.specs.Serving.{IsServed}

pub nth_served : (t : TaskShape) (h : PairShape) (a : ℕ) → InBounds t → FitsPairs t h → a < length t.actions → IsServed h (nth_action t a)
nth_served t h a b f la = record {
  atoms = subst (λ n. HasAtomsBelow n (nth_action t a)) (sym f.size) (b.actions a idle la);
  duration = b.durations a idle la;
}

pub nth_contained : (t : TaskShape) (a : ℕ) → a < length t.actions → Contains t.actions (nth_action t a)
nth_contained t a la = Contains-get_or t.actions a idle la

pub init_below : (t : TaskShape) (h : PairShape) → InBounds t → FitsPairs t h → All (λ p. p < h.atoms) t.init
init_below t h b f = subst (λ n. All (λ p. p < n) t.init) (sym f.size) b.init
