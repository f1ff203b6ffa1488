use Rattle.cpt_engine.proofs.RunLemmas.{led_trans, grown_led, grown_trans, marks_trans, running_next, closed_idle}
use Rattle.cpt_engine.proofs.running.run.Goals as goal

pub pursue-requires-clause-running : goal.pursue-requires-clause-running
pursue-requires-clause-running g c = running_next _ _ _ _ _ _ _ c.loop-subject.invariant.running c.in-Some.ensures

pub loop-subject-preserved : goal.loop-subject-preserved
loop-subject-preserved g c =
    let h = rw c.in-Ok-Alive.field-0-is at c.in-Ok-Alive.ensures.turned in
    record {
      task = c.in-Ok-Alive.ensures.task;
      running = h.running;
      live = h.live;
      spent = c.in-Ok-Alive.ensures.spent;
      led = led_trans _ _ _ _ _ _ _ _ _ c.loop-subject.invariant.led c.in-Ok-Alive.ensures.led;
      marks = marks_trans _ _ _ c.loop-subject.invariant.marks c.in-Ok-Alive.ensures.marks;
    }

pub returns-in-Ok-Dead-clause-led : goal.returns-in-Ok-Dead-clause-led
returns-in-Ok-Dead-clause-led g c = led_trans _ _ _ _ _ _ _ _ _ c.loop-subject.invariant.led c.in-Ok-Dead.ensures.led

pub returns-in-Ok-Dead-clause-grown : goal.returns-in-Ok-Dead-clause-grown
returns-in-Ok-Dead-clause-grown g c = grown_trans _ _ _ (grown_led _ _ _ _ _ _ _ c.loop-subject.invariant.led) c.in-Ok-Dead.ensures.grown

pub returns-in-Ok-Dead-clause-marks : goal.returns-in-Ok-Dead-clause-marks
returns-in-Ok-Dead-clause-marks g c = marks_trans _ _ _ c.loop-subject.invariant.marks c.in-Ok-Dead.ensures.marks

pub returns-in-Err-clause-grown : goal.returns-in-Err-clause-grown
returns-in-Err-clause-grown g c = grown_trans _ _ _ (grown_led _ _ _ _ _ _ _ c.loop-subject.invariant.led) c.in-Err.ensures.grown

pub returns-in-Err-clause-marks : goal.returns-in-Err-clause-marks
returns-in-Err-clause-marks g c = marks_trans _ _ _ c.loop-subject.invariant.marks c.in-Err.ensures.marks

pub returns-clause-settled : goal.returns-clause-settled
returns-clause-settled g c = (c.loop-subject.invariant.live, closed_idle _ _ _ _ _ c.in_default.ensures.idle c.loop-subject.invariant.running)
