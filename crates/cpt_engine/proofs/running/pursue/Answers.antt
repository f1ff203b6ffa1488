use Rattle.std.proofs.Common.{arith}
use Rattle.cpt_engine.proofs.RunLemmas.{led_trans, grown_led, grown_trans, marks_trans, off}
use Rattle.cpt_engine.proofs.running.pursue.Goals as goal

pub loop-step-preserved : goal.loop-step-preserved
loop-step-preserved g c =
    let h = rw c.in-Ok-Alive.field-0-is at c.in-Ok-Alive.ensures.advanced in
    record {
      task = c.in-Ok-Alive.ensures.task;
      running = h.running;
      live = h.live;
      spent = c.in-Ok-Alive.ensures.spent;
      led = led_trans _ _ _ _ _ _ _ _ _ c.loop-step.invariant.led c.in-Ok-Alive.ensures.led;
      marks = marks_trans _ _ _ c.loop-step.invariant.marks c.in-Ok-Alive.ensures.marks;
      less = omega (arith, h.less, c.loop-step.invariant.less);
    }

pub returns-in-Ok-Dead-clause-led : goal.returns-in-Ok-Dead-clause-led
returns-in-Ok-Dead-clause-led g c = led_trans _ _ _ _ _ _ _ _ _ c.loop-step.invariant.led c.in-Ok-Dead.ensures.led

pub returns-in-Ok-Dead-clause-grown : goal.returns-in-Ok-Dead-clause-grown
returns-in-Ok-Dead-clause-grown g c = grown_trans _ _ _ (grown_led _ _ _ _ _ _ _ c.loop-step.invariant.led) c.in-Ok-Dead.ensures.grown

pub returns-in-Ok-Dead-clause-marks : goal.returns-in-Ok-Dead-clause-marks
returns-in-Ok-Dead-clause-marks g c = marks_trans _ _ _ c.loop-step.invariant.marks c.in-Ok-Dead.ensures.marks

pub returns-in-Err-clause-grown : goal.returns-in-Err-clause-grown
returns-in-Err-clause-grown g c = grown_trans _ _ _ (grown_led _ _ _ _ _ _ _ c.loop-step.invariant.led) c.in-Err.ensures.grown

pub returns-in-Err-clause-marks : goal.returns-in-Err-clause-marks
returns-in-Err-clause-marks g c = marks_trans _ _ _ c.loop-step.invariant.marks c.in-Err.ensures.marks

pub returns-clause-turned : goal.returns-clause-turned
returns-clause-turned g c = off _ _ _ _ _ _ _ c.loop-step.invariant.running c.loop-step.invariant.live c.in_default.ensures c.loop-step.invariant.less

pub propose-requires-clause-lent : goal.propose-requires-clause-lent
propose-requires-clause-lent g c = record { task = c.loop-step.invariant.task; fits = c.loop-step.invariant.running.fits; formed = c.loop-step.invariant.running.formed }
