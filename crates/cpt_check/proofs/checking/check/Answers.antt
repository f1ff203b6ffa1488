use Rattle.std.proofs.Common.{◌≡◌, ◌<◌, ◌≤◌, [], ◌++◌, length, take, Some, Result, Ok, Err, subst, sym, ap, refl, ◌∙◌, arith, length-append}
use Rattle.std.proofs.lemmas.List.{length-take, length-take-le}
use Rattle.cpt_check.specs.declared.past.Found.TheVariants as founds
use Rattle.cpt_check.specs.Judging.{LeavesOf, RulingHolds}
use Rattle.cpt_check.specs.Progress.{IsRead, TakesFront}
use Rattle.cpt_check.proofs.Taking.{past_few, read_start}
use Rattle.cpt_check.proofs.Following.{follows_none, follows_more, follows_all, all_came, fault_ruling, fault_leaves, err_rules, err_leaves, never_failed}
use Rattle.cpt_check.proofs.checking.check.Goals as goal

the_error : {A B : Type 0} {e d : B} → let r : Result A B = Err e in r ≡ Err d → e ≡ d
the_error h = cc

pub loop-past-init : goal.loop-past-init
loop-past-init g c = record {
  same = refl;
  faults = refl;
  steady = λ h. h;
  size = refl;
  read = ([], read_start c.args.task.now c.start-past.result c.in_ok-lines.lines (c.start-past.ensures c.args.task.now) c.in_ok-lines.ensures, omega arith, follows_none (g.L.Library.left c.args.lib.now));
}

pub conclude-requires : goal.conclude-requires
conclude-requires g c =
    let r = c.loop-past.invariant.read in
    let few = past_few c.args.task.now r.0 c.loop-past.past c.loop-past.lines r.1 in
    let size = r.2 in
    let most = c.requires.most in omega (arith, few, size, most)

pub returns-then-count-eq0-clause-rules : goal.returns-then-count-eq0-clause-rules
returns-then-count-eq0-clause-rules g c = λ text e.
    let r = c.loop-past.invariant.read in
    let room : 0 < length c.pull.new.piece = omega arith in
    let a = follows_all (g.L.Library.left c.args.lib.now) text r.0 c.pull.new.piece c.in_ok-count.count (g.L.Library.left c.loop-past.lib) (g.L.Library.left c.pull.new.self) e c.if-count-eq0.true room r.3 c.in_ok-count.ensures.bytes in
    let size = r.2 in
    let same : length text ≡ length r.0 = ap length a.0 in
    c.conclude.ensures.rules c.args.most text (subst (λ z. IsRead c.args.task.now z c.loop-past.past c.loop-past.lines) (sym a.0) r.1) (omega (arith, same, size)) c.requires.most

pub returns-then-count-eq0-clause-leaves : goal.returns-then-count-eq0-clause-leaves
returns-then-count-eq0-clause-leaves g c = λ text e.
    let r = c.loop-past.invariant.read in
    let room : 0 < length c.pull.new.piece = omega arith in
    let a = follows_all (g.L.Library.left c.args.lib.now) text r.0 c.pull.new.piece c.in_ok-count.count (g.L.Library.left c.loop-past.lib) (g.L.Library.left c.pull.new.self) e c.if-count-eq0.true room r.3 c.in_ok-count.ensures.bytes in
    subst (λ z. LeavesOf c.args.task.now text z c.conclude.result.ruling) (sym a.1) (c.conclude.ensures.leaves text (subst (λ z. IsRead c.args.task.now z c.loop-past.past c.loop-past.lines) (sym a.0) r.1))

pub returns-then-count-eq0-clause-holds : goal.returns-then-count-eq0-clause-holds
returns-then-count-eq0-clause-holds g c = λ text e.
    let r = c.loop-past.invariant.read in
    let room : 0 < length c.pull.new.piece = omega arith in
    let a = follows_all (g.L.Library.left c.args.lib.now) text r.0 c.pull.new.piece c.in_ok-count.count (g.L.Library.left c.loop-past.lib) (g.L.Library.left c.pull.new.self) e c.if-count-eq0.true room r.3 c.in_ok-count.ensures.bytes in
    let size = r.2 in
    let most = c.requires.most in
    let same : length text ≡ length r.0 = ap length a.0 in
    c.conclude.ensures.holds text (subst (λ z. IsRead c.args.task.now z c.loop-past.past c.loop-past.lines) (sym a.0) r.1) (omega (arith, same, size, most))

pub returns-in-Ok-Fault-clause-rules : goal.returns-in-Ok-Fault-clause-rules
returns-in-Ok-Fault-clause-rules g c = λ text e.
    let r = c.loop-past.invariant.read in
    let told = g.L.Library.left c.args.lib.now in
    let left = g.L.Library.left c.pull.new.self in
    let front = take c.in_ok-count.count c.pull.new.piece in
    let f : TakesFront c.args.task.now r.0 front c.loop-past.room c.take_front.new.lines (Ok (founds.Fault c.in-Ok-Fault.fault)) = subst (λ z. TakesFront c.args.task.now r.0 front c.loop-past.room c.take_front.new.lines (Ok z)) c.in-Ok-Fault.field-0-is (c.in-Ok-Fault.ensures r.0 r.1) in
    let h = follows_more told r.0 c.pull.new.piece c.in_ok-count.count (g.L.Library.left c.loop-past.lib) left r.3 c.in_ok-count.ensures.bytes in
    fault_ruling c.args.task.now told left text r.0 front c.loop-past.room c.args.most c.take_front.new.lines c.in-Ok-Fault.fault c.rejected.result c.rejected.ensures.version c.rejected.ensures.ruling e h r.2 f

pub returns-in-Ok-Fault-clause-leaves : goal.returns-in-Ok-Fault-clause-leaves
returns-in-Ok-Fault-clause-leaves g c = λ text e.
    let r = c.loop-past.invariant.read in
    let told = g.L.Library.left c.args.lib.now in
    let left = g.L.Library.left c.pull.new.self in
    let front = take c.in_ok-count.count c.pull.new.piece in
    let f : TakesFront c.args.task.now r.0 front c.loop-past.room c.take_front.new.lines (Ok (founds.Fault c.in-Ok-Fault.fault)) = subst (λ z. TakesFront c.args.task.now r.0 front c.loop-past.room c.take_front.new.lines (Ok z)) c.in-Ok-Fault.field-0-is (c.in-Ok-Fault.ensures r.0 r.1) in
    let h = follows_more told r.0 c.pull.new.piece c.in_ok-count.count (g.L.Library.left c.loop-past.lib) left r.3 c.in_ok-count.ensures.bytes in
    let size = length-take c.in_ok-count.count c.pull.new.piece in
    let all : length c.pull.new.piece ≡ 4096 = omega arith in
    let few : length front ≤ 65536 = omega (arith, size, all) in
    subst (LeavesOf c.args.task.now text left) (sym c.rejected.ensures.ruling) (fault_leaves c.args.task.now told left text r.0 front c.loop-past.room c.take_front.new.lines c.in-Ok-Fault.fault e h few f)

pub returns-in-Err-clause-rules : goal.returns-in-Err-clause-rules
returns-in-Err-clause-rules g c = λ text e.
    let r = c.loop-past.invariant.read in
    let told = g.L.Library.left c.args.lib.now in
    let left = g.L.Library.left c.pull.new.self in
    let front = take c.in_ok-count.count c.pull.new.piece in
    let f : TakesFront c.args.task.now r.0 front c.loop-past.room c.take_front.new.lines (Err c.in-Err.e) = c.in-Err.ensures r.0 r.1 in
    let h = follows_more told r.0 c.pull.new.piece c.in_ok-count.count (g.L.Library.left c.loop-past.lib) left r.3 c.in_ok-count.ensures.bytes in
    err_rules c.args.task.now told left text r.0 front c.loop-past.room c.args.most c.take_front.new.lines c.in-Err.e e h r.2 f

pub returns-in-Err-clause-leaves : goal.returns-in-Err-clause-leaves
returns-in-Err-clause-leaves g c = λ text e.
    let r = c.loop-past.invariant.read in
    let told = g.L.Library.left c.args.lib.now in
    let left = g.L.Library.left c.pull.new.self in
    let front = take c.in_ok-count.count c.pull.new.piece in
    let f : TakesFront c.args.task.now r.0 front c.loop-past.room c.take_front.new.lines (Err c.in-Err.e) = c.in-Err.ensures r.0 r.1 in
    let h = follows_more told r.0 c.pull.new.piece c.in_ok-count.count (g.L.Library.left c.loop-past.lib) left r.3 c.in_ok-count.ensures.bytes in
    let size = length-take c.in_ok-count.count c.pull.new.piece in
    let all : length c.pull.new.piece ≡ 4096 = omega arith in
    err_leaves c.args.task.now told left text r.0 front c.loop-past.room c.args.most c.take_front.new.lines c.in-Err.e e h r.2 (omega (arith, size, all)) f

pub returns-then-count-eq0-clause-untold : goal.returns-then-count-eq0-clause-untold
returns-then-count-eq0-clause-untold g c = λ e.
    let r = c.loop-past.invariant.read in
    let size = r.2 in
    let most = c.requires.most in
    (r.0, (c.conclude.ensures.rules c.args.most r.0 r.1 (omega (arith, size)) most, c.conclude.ensures.holds r.0 r.1 (omega (arith, size, most))))

pub returns-in-Ok-Fault-clause-untold : goal.returns-in-Ok-Fault-clause-untold
returns-in-Ok-Fault-clause-untold g c = λ e.
    let r = c.loop-past.invariant.read in
    let front = take c.in_ok-count.count c.pull.new.piece in
    let text = r.0 ++ front in
    let f : TakesFront c.args.task.now r.0 front c.loop-past.room c.take_front.new.lines (Ok (founds.Fault c.in-Ok-Fault.fault)) = subst (λ z. TakesFront c.args.task.now r.0 front c.loop-past.room c.take_front.new.lines (Ok z)) c.in-Ok-Fault.field-0-is (c.in-Ok-Fault.ensures r.0 r.1) in
    (text, (fault_ruling c.args.task.now (Some text) (Some []) text r.0 front c.loop-past.room c.args.most c.take_front.new.lines c.in-Ok-Fault.fault c.rejected.result c.rejected.ensures.version c.rejected.ensures.ruling refl (all_came text) r.2 f, subst (RulingHolds c.args.task.now text c.rejected.result.version) (sym c.rejected.ensures.ruling) tt))

pub returns-in-Err-clause-untold : goal.returns-in-Err-clause-untold
returns-in-Err-clause-untold g c = λ e.
    let r = c.loop-past.invariant.read in
    let front = take c.in_ok-count.count c.pull.new.piece in
    let text = r.0 ++ front in
    let f : TakesFront c.args.task.now r.0 front c.loop-past.room c.take_front.new.lines (Err c.in-Err.e) = c.in-Err.ensures r.0 r.1 in
    (text, (err_rules c.args.task.now (Some text) (Some []) text r.0 front c.loop-past.room c.args.most c.take_front.new.lines c.in-Err.e refl (all_came text) r.2 f, tt))

pub returns-in-Err-clause-failed : goal.returns-in-Err-clause-failed
returns-in-Err-clause-failed g c = λ failed.
    let r = c.loop-past.invariant.read in absurd (never_failed c.args.task.now r.0 (take c.in_ok-count.count c.pull.new.piece) c.loop-past.room c.take_front.new.lines c.in-Err.e (c.in-Err.ensures r.0 r.1) (the_error failed))

pub returns-in-Err-clause-never : goal.returns-in-Err-clause-never
returns-in-Err-clause-never g c = λ steady failed.
    let r = c.loop-past.invariant.read in never_failed c.args.task.now r.0 (take c.in_ok-count.count c.pull.new.piece) c.loop-past.room c.take_front.new.lines c.in-Err.e (c.in-Err.ensures r.0 r.1) (the_error failed)

pub overflow_sub-room : goal.overflow_sub-room
overflow_sub-room g c =
    let r = c.loop-past.invariant.read in
    let front = take c.in_ok-count.count c.pull.new.piece in
    let f : TakesFront c.args.task.now r.0 front c.loop-past.room c.take_front.new.lines (Ok (founds.On c.in-Ok-On.next)) = subst (λ z. TakesFront c.args.task.now r.0 front c.loop-past.room c.take_front.new.lines (Ok z)) c.in-Ok-On.field-0-is (c.in-Ok-On.ensures r.0 r.1) in
    let le = f.0 in
    let size = length-take-le c.in_ok-count.count c.pull.new.piece c.in_ok-count.ensures.bound in
    omega (arith, le, size)

pub loop-past-smaller : goal.loop-past-smaller
loop-past-smaller g c =
    let r = c.loop-past.invariant.read in
    let front = take c.in_ok-count.count c.pull.new.piece in
    let f : TakesFront c.args.task.now r.0 front c.loop-past.room c.take_front.new.lines (Ok (founds.On c.in-Ok-On.next)) = subst (λ z. TakesFront c.args.task.now r.0 front c.loop-past.room c.take_front.new.lines (Ok z)) c.in-Ok-On.field-0-is (c.in-Ok-On.ensures r.0 r.1) in
    let le = f.0 in
    let size = length-take-le c.in_ok-count.count c.pull.new.piece c.in_ok-count.ensures.bound in
    let some = c.if-count-eq0.false in
    omega (arith, le, size, some)

pub loop-past-preserved : goal.loop-past-preserved
loop-past-preserved g c =
    let i = c.loop-past.invariant in
    let r = i.read in
    let told = g.L.Library.left c.args.lib.now in
    let left = g.L.Library.left c.pull.new.self in
    let front = take c.in_ok-count.count c.pull.new.piece in
    let f : TakesFront c.args.task.now r.0 front c.loop-past.room c.take_front.new.lines (Ok (founds.On c.in-Ok-On.next)) = subst (λ z. TakesFront c.args.task.now r.0 front c.loop-past.room c.take_front.new.lines (Ok z)) c.in-Ok-On.field-0-is (c.in-Ok-On.ensures r.0 r.1) in
    let le = f.0 in
    let sum = r.2 in
    let size = length-take-le c.in_ok-count.count c.pull.new.piece c.in_ok-count.ensures.bound in
    let whole = length-append r.0 front in
    record {
      same = c.in_ok-count.ensures.same ∙ i.same;
      faults = c.in_ok-count.ensures.cause.kept ∙ i.faults;
      steady = λ h. c.in_ok-count.ensures.steady (i.steady h);
      size = omega arith;
      read = (r.0 ++ front, f.1, omega (arith, le, sum, size, whole), follows_more told r.0 c.pull.new.piece c.in_ok-count.count (g.L.Library.left c.loop-past.lib) left r.3 c.in_ok-count.ensures.bytes);
    }
