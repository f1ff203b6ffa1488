use Rattle.std.proofs.Common.{◌≡◌, ℕ, ◌<◌, List, [], ◌∷◌, length, Contains, refl, sym, ◌∙◌, subst, arith}
use Rattle.cpt_reach.specs.Marking.{AllBelow, Settles, row_at, IsSettled}
use Rattle.cpt_reach.specs.Reached.{action_at}
use Rattle.cpt_reach.proofs.MarkLemmas.{popped_below, row_is, row_below, all_settled, closed_at_end}
use Rattle.cpt_reach.proofs.marking.spread.Goals as goal

pub visit_users-requires-clause-actions : goal.visit_users-requires-clause-actions
visit_users-requires-clause-actions c =
    let t = c.args.task.now in
    let rows = c.args.users.now in
    let p = c.in-Some.p in
    let popped = popped_below (length c.loop-p.marks) c.loop-p.agenda.items c.pop.new.self.items p c.in-Some.ensures.items c.loop-p.invariant.below in
    let within : p < length rows = omega (arith, popped.1, c.loop-p.auto.marks, c.requires.size, c.requires.users.size) in
    let e : c.as_slice.result.now ≡ row_at rows p = row_is rows p c.index-users-p.result c.as_slice.result.now within c.index-users-p.is c.as_slice.ensures in
    subst (λ (xs : List ℕ). AllBelow (length t.actions) xs) (sym e) (row_below t rows p c.requires.users)

pub loop-p-preserved : goal.loop-p-preserved
loop-p-preserved c =
    let t = c.args.task.now in
    let rows = c.args.users.now in
    let p = c.in-Some.p in
    let m = c.loop-p.marks in
    let g = c.loop-p.agenda.items in
    let g' = c.pop.new.self.items in
    let m'' = c.visit_users.new.marks in
    let g'' = c.visit_users.new.agenda.items in
    let popped = popped_below (length m) g g' p c.in-Some.ensures.items c.loop-p.invariant.below in
    let within : p < length rows = omega (arith, popped.1, c.loop-p.auto.marks, c.requires.size, c.requires.users.size) in
    let e : c.as_slice.result.now ≡ row_at rows p = row_is rows p c.index-users-p.result c.as_slice.result.now within c.index-users-p.is c.as_slice.ensures in
    let visited : Settles t (Contains (row_at rows p)) m g' m'' g'' = subst (λ (xs : List ℕ). Settles t (Contains xs) m g' m'' g'') e c.in_ok-visit_users.ensures in
    record {
      below = subst (λ n. AllBelow n g'') (sym visited.grows.size) (visited.grows.below popped.0);
      sound = visited.sound c.loop-p.invariant.sound;
      settled = all_settled t rows m g g' p m'' g'' c.requires.users c.in-Some.ensures.items c.loop-p.invariant.settled visited;
      kept = λ q h. visited.grows.kept q (c.loop-p.invariant.kept q h);
    }

empty_list : (xs : List ℕ) → length xs ≡ 0 → xs ≡ []
empty_list [] e = refl
empty_list (x ∷ xs) e = absurd (omega arith)

pub returns : goal.returns
returns c =
    let t = c.args.task.now in
    let m = c.loop-p.marks in
    let none : c.loop-p.agenda.items ≡ [] = empty_list c.loop-p.agenda.items (sym c.loop-p.agenda.ok.0 ∙ c.in_default.ensures.cases.0) in
    record {
      size = c.loop-p.auto.marks;
      kept = c.loop-p.invariant.kept;
      sound = c.loop-p.invariant.sound;
      closed = closed_at_end t m (λ a lt. subst (λ (g : List ℕ). IsSettled m g (action_at t a)) none (c.loop-p.invariant.settled a lt));
    }
