use Rattle.std.proofs.Common.{◌≡◌, ℕ, ◌⊎◌, ◌+◌, ◌-◌, ◌≤◌, ltb, inl, inr, Bool, true, false, IsTrue, refl, sym, arith}
use Rattle.std.proofs.lemmas.Bool.Decides.{nat_tests}
use Rattle.cpt_task.specs.Timeline.{occurrence_at, action_of, is_in, end_of}
use Rattle.cpt_task.specs.Register.{atoms_in, is_before}
use Rattle.std.specs.List.{count_by}
use Rattle.cpt_task.proofs.Ranks.{count_parted}
use Rattle.cpt_task.proofs.Counting.{alone}
use Rattle.cpt_task.proofs.register.has_company.Goals as goal

own_cases : (b : Bool) {P : Type 0} (own : ℕ) → own ≡ mir.Val.bool_byte b → (IsTrue b → P) → (own ≡ 0) ⊎ ((own ≡ 1) × P)
own_cases true own e h = inr (e, h refl)
own_cases false own e h = inl e

few_more : (own r d : ℕ) → ltb own r ≡ false → r ≡ d → d ≤ own
few_more own r d few e = grind (arith, nat_tests)

pub returns : goal.returns
returns c =
    let o = occurrence_at c.args.plan.now c.args.i in
    let e = end_of c.args.task.now o in
    let first = rw (c.deref.ensures.value, c.end_at.ensures.end) at c.rank-begun.ensures in
    let second = rw (c.deref-2.ensures.value) at c.rank-ended.ensures in
    let begun : c.rank-begun.result ≡ count_by (is_before c.args.atom e) c.args.register.now.starts.items = sym (count_parted (is_before c.args.atom e) c.args.register.now.starts.items c.rank-begun.result first.within first.parted) in
    let ended : c.rank-ended.result ≡ count_by (is_before c.args.atom (o.start + 1)) c.args.register.now.ends.items = sym (count_parted (is_before c.args.atom (o.start + 1)) c.args.register.now.ends.items c.rank-ended.result second.within second.parted) in
    let found = rw (c.atoms_of.ensures, c.action_at.ensures.action) at c.is_found.ensures in
    let mine : (c.from-own.result ≡ 0) ⊎ ((c.from-own.result ≡ 1) × (is_in c.args.atom (atoms_in c.args.role (action_of c.args.task.now o)) ≡ true)) = own_cases c.is_found.result c.from-own.result c.from-own.ensures found in
    λ few. alone c.args.task.now c.args.plan.now c.args.role c.args.i c.args.atom c.rank-begun.result c.rank-ended.result c.from-own.result c.args.register.now.starts.items c.args.register.now.ends.items c.requires.within c.requires.register.starts c.requires.register.ends begun ended mine (few_more c.from-own.result c.saturating_sub.result (c.rank-begun.result - c.rank-ended.result) few c.saturating_sub.ensures)
