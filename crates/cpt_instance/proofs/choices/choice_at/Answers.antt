use Rattle.std.proofs.Common.{◌≡◌, ◌∙◌, ◌++◌, List, ℕ, [], ◌∷◌, length, arith, subst, sym, get_or, rules, drop, ◌+◌, ◌/◌, ◌%◌}
use Rattle.cpt_instance.specs.Choices.{choice_at}
use Rattle.cpt_instance.proofs.ChoiceLemmas.{IsThere, is_there}
use Rattle.cpt_instance.proofs.choices.choice_at.Goals as goal

pub bounds-objects-left : goal.bounds-objects-left
bounds-objects-left c =
    let there : IsThere c.args.choices.now c.loop-objects.objects-index c.as_slice-objects.result.now c.loop-objects.ways c.loop-objects.left c.loop-objects.args.items =
    is_there c.args.choices.now c.loop-objects.objects-index c.as_slice-objects.result.now c.objects-item.result c.loop-objects.ways c.loop-objects.left c.loop-objects.args.items
    (omega arith) (c.as_slice-objects.ensures ∙ c.objects-item.is) c.loop-objects.invariant.total c.loop-objects.invariant.within in
    there.bound

pub loop-objects-preserved : goal.loop-objects-preserved
loop-objects-preserved c =
    let there : IsThere c.args.choices.now c.loop-objects.objects-index c.as_slice-objects.result.now c.loop-objects.ways c.loop-objects.left c.loop-objects.args.items =
    is_there c.args.choices.now c.loop-objects.objects-index c.as_slice-objects.result.now c.objects-item.result c.loop-objects.ways c.loop-objects.left c.loop-objects.args.items
    (omega arith) (c.as_slice-objects.ensures ∙ c.objects-item.is) c.loop-objects.invariant.total c.loop-objects.invariant.within in
    let pushed : c.push.new.self.items ≡ c.loop-objects.args.items ++ get_or c.as_slice-objects.result.now (c.loop-objects.left / (c.loop-objects.ways / length c.as_slice-objects.result.now)) 0 ∷ [] =
    search rules in
    record {
      told =
          subst (λ (xs : List ℕ). xs ++ choice_at (drop (c.loop-objects.objects-index + 1) c.args.choices.now) (c.loop-objects.left % (c.loop-objects.ways / length c.as_slice-objects.result.now)) ≡ choice_at c.args.choices.now c.args.place)
          (sym pushed) (there.told ∙ c.loop-objects.invariant.told);
      total = there.behind;
      within = there.within;
    }
