use Rattle.cpt_tighten.proofs.Ending.{trail_more}
use Rattle.cpt_tighten.proofs.chain.chain_to.Goals as goal

pub loop-i-preserved : goal.loop-i-preserved
loop-i-preserved c = record {
  within = c.in-Some.ensures.1;
  trail = trail_more c.args.links.now c.args.last c.loop-i.place c.in-Some.i c.loop-i.chain.items c.push-in-Some.new.self.items c.in_ok-push-2.ensures.items c.in-Some.ensures.0 c.loop-i.invariant.trail;
}
