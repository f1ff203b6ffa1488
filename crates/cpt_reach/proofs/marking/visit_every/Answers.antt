use Rattle.std.proofs.Common.{◌≡◌, ℕ, ◌+◌, ◌<◌, ◌⊎◌, length, ap, arith}
use Rattle.cpt_reach.proofs.MarkLemmas.{settles_more, settles_fewer}
use Rattle.cpt_reach.proofs.marking.visit_every.Goals as goal

below_or_here : (i b : ℕ) → b < i + 1 → (b < i) ⊎ (b ≡ i)
below_or_here i b h = grind arith

pub loop-a-preserved : goal.loop-a-preserved
loop-a-preserved c =
    settles_more c.args.task.now (λ b. b < c.loop-a.a) (λ b. b ≡ c.loop-a.a) (λ b. b < c.loop-a.a + 1) c.args.marks.now c.args.agenda.now.items c.loop-a.marks c.loop-a.agenda.items c.visit.new.marks c.visit.new.agenda.items
    (below_or_here c.loop-a.a) c.loop-a.invariant c.in_ok-visit.ensures

pub returns : goal.returns
returns c =
    settles_fewer c.args.task.now (λ b. b < c.loop-a.a) (λ b. b < length c.args.task.now.actions) c.args.marks.now c.args.agenda.now.items c.loop-a.marks c.loop-a.agenda.items
    (λ b lt. omega (arith, c.loop-a-test.false, ap length c.actions-a-end.ensures.value, lt)) c.loop-a.invariant
