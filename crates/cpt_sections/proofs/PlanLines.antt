-- what the lines of a plan lead to
use Rattle.std.proofs.Common.{◌≡◌, ℕ, zero, suc, ◌+◌, ◌-◌, ◌<◌, ◌≤◌, ◌^◌, true, false, cond, List, [], ◌∷◌, ◌++◌, length, All, Option, Some, None, Vec, inl, inr, refl, sym, ap, ◌∙◌, subst, arith, append_assoc, append-nil, length-append}
use Rattle.std.specs.Prelude.{IfSome, Result, Ok, Err, IfOk}
use Rattle.std.specs.Global.{Global}
use Rattle.std.proofs.lemmas.Bool.{ne_eqb}
use Rattle.std.proofs.lemmas.List.Elements.{All-head, All-tail, All-nil, All-push}
use Rattle.cpt_task.specs.declared.memory.Memory.{Memory}
use Rattle.cpt_task.specs.declared.plan.Occ.{Occ}
use Rattle.cpt_task.specs.Shape.{TaskShape}
use Rattle.cpt_task.specs.Timeline.{IsOccurrence, IsPlan, makespan}
use Rattle.cpt_cert_form.specs.declared.forms.Version.{Version}
use Rattle.cpt_cert_form.specs.declared.forms.CertLine.{CertLine}
use Rattle.cpt_cert_form.specs.declared.forms.CertLine.TheVariants as lines
use Rattle.cpt_cert_form.specs.Forms.{IsWritten, capped_line}
use Rattle.cpt_cert_accept.specs.declared.faults.Why.TheVariants as whys
use Rattle.cpt_cert_accept.specs.Accepting.{IsPlanOf, is_no_sooner}
use Rattle.cpt_cert_accept.specs.Reading.{Outcome, After, behind, take_plan, take_items, JudgesPlan}
use Rattle.cpt_cert_accept.specs.Reading.Outcome.{went, faulted}
use Rattle.cpt_sections.specs.declared.section.Trees.TheVariants as trees
use Rattle.cpt_sections.specs.declared.section.Aim.TheVariants as aims
use Rattle.cpt_sections.specs.declared.section.Items.{Items}
use Rattle.cpt_sections.specs.declared.section.Section.{Section}
use Rattle.cpt_sections.specs.declared.section.Section.TheVariants as sections
use Rattle.cpt_sections.specs.declared.section.Next.{Next}
use Rattle.cpt_sections.specs.declared.section.Next.TheVariants as nexts
use Rattle.cpt_cert_accept.specs.Texts.{bring_in}
use Rattle.cpt_sections.specs.Sections.{Left, IsSection, HasFew, AreItems, IsLine, Moves, JudgesItems, BehindPlan}
use Rattle.cpt_sections.specs.Plans.{CanStand, KeepsAlso, after_plan, IsPlanIn, EndsPlan, MayEnd, IsFirstItems, TakesItem}
use Rattle.cpt_sections.specs.Proceeding.{Proceeds}

-- a line that is read as the head of a plan has a number of 32 bits
pub few_items : (k : ℕ) → IsLine (lines.Plan k) → k < 2 ^ 32
few_items k (bytes, inr h) = absurd (cc (h.0))
few_items k (bytes, inl (line, h, e)) = go line h.written e
  where
    go : (line : CertLine) → IsWritten line → lines.Plan k ≡ capped_line line → k < 2 ^ 32
    go (lines.Plan j) w e = let same : k ≡ j = cc in omega (arith, same, w)
    go lines.Strange w e = absurd w
    go _ w e = absurd (cc)

none_taken : (k : ℕ) (o : Occ) (n : ℕ) (ls : List CertLine) → k ≡ 0 → went [] ls n ≡ take_items k o n ls
none_taken k o n ls none = sym (ap (λ c. take_items c o n ls) none)

after_suc : (m : ℕ) → after_plan (suc m) ≡ sections.Pairs (aims.Trees (trees.Closed m))
after_suc m =
    let less : suc m - 1 ≡ m = omega arith in
    ap (λ b. cond b sections.End (sections.Pairs (aims.Trees (trees.Closed (suc m - 1))))) (ne_eqb (suc m) 0 (λ e. omega (arith, e)))
    ∙ ap (λ k. sections.Pairs (aims.Trees (trees.Closed k))) less

-- the last occurrence that is read
abbrev pub last_of : Items → Occ
last_of i = record { act = i.act; start = i.start }

pub not_in_turn : (i : Items) (line : CertLine) (s a : ℕ) → line ≡ lines.Item s a → false ≡ is_no_sooner (last_of i) (record { act = a; start = s }) →
    (start act : ℕ) → line ≡ lines.Item start act → is_no_sooner (last_of i) (record { act = act; start = start }) ≡ false
not_in_turn i line s a is h start act also =
    let p : start ≡ s = cc in
    let q : act ≡ a = cc in
    ap (λ z. is_no_sooner (last_of i) (record { act = act; start = z })) p ∙ ap (λ z. is_no_sooner (last_of i) (record { act = z; start = s })) q ∙ sym h

module _ (t : TaskShape) where
  -- each occurrence of a valid plan is one of the task, and starts by the makespan
  among : (xs : List Occ) (o : Occ) (os : List Occ) → IsPlan t (xs ++ o ∷ os) → IsOccurrence t o
  among [] o os h = All-head (IsOccurrence t) o os h
  among (x ∷ xs) o os h = among xs o os (All-tail (IsOccurrence t) x (xs ++ o ∷ os) h)

  by_makespan : (xs : List Occ) (o : Occ) (os : List Occ) → o.start ≤ makespan t (xs ++ o ∷ os)
  by_makespan [] o os = omega arith
  by_makespan (x ∷ xs) o os = let h = by_makespan xs o os in omega (arith, h)

  pub all_stand : (m : ℕ) (xs : List Occ) (o : Occ) (os : List Occ) → IsPlanOf t m (xs ++ o ∷ os) → CanStand t m o
  all_stand m xs o os h = (among xs o os h.valid.of_task, (let by = by_makespan xs o os in omega (arith, by, h.makespan)))

  judges_more : (m head : ℕ) (o : Occ) (old new : Option (Vec Occ Global)) → KeepsAlso t m o old new →
      (x y : Outcome (List Occ)) → After (JudgesItems t m head new) x y → After (JudgesItems t m head old) (behind (λ os. o ∷ os) x) y
  judges_more m head o old new keeps (faulted line why) y h = h
  judges_more m head o None None keeps (went os r n) y h = h
  judges_more m head o None (Some q) keeps (went os r n) y h = absurd keeps
  judges_more m head o (Some p) None keeps (went os r n) y h = inr ((λ plan. keeps (all_stand m p.items o os plan)), h)
  judges_more m head o (Some p) (Some q) keeps (went os r n) y h =
      subst (λ z. JudgesPlan t m head z n r y) (ap (λ z. z ++ os) keeps.1 ∙ append_assoc p.items (o ∷ []) os) h

  -- what is kept behind the line of an occurrence is kept
  stays_listed : (m k : ℕ) (o : Occ) (old new : Option (Vec Occ Global)) → KeepsAlso t m o old new →
      IfSome old (λ p. (length p.items + suc k < 2 ^ 32) × All (CanStand t m) p.items) → IfSome new (λ p. (length p.items + k < 2 ^ 32) × All (CanStand t m) p.items)
  stays_listed m k o old None keeps h = tt
  stays_listed m k o None (Some q) keeps h = absurd keeps
  stays_listed m k o (Some p) (Some q) keeps h = (
    (let e : length q.items ≡ length p.items + 1 = ap length keeps.1 ∙ length-append p.items (o ∷ []) in let few = h.0 in omega (arith, e, few)),
    subst (All (CanStand t m)) (sym keeps.1) (All-push (CanStand t m) p.items o h.1 keeps.0),
  )

  suc_of : (n : ℕ) → 1 ≤ n → n ≡ suc (n - 1)
  suc_of n h = omega arith

  pub rest_may_end : (n : ℕ) (i : Items) (o : Occ) (j : Items) → AreItems t n i → TakesItem t i o j → MayEnd t j
  rest_may_end n i o j h takes = subst (MayEnd t) (sym takes.rest) (record {
    makespan = h.makespan;
    few = (let few = h.few in omega (arith, few));
    listed = stays_listed i.makespan (i.left - 1) o i.plan j.plan takes.plan (
        subst (λ k. IfSome i.plan (λ p. (length p.items + k < 2 ^ 32) × All (CanStand t i.makespan) p.items)) (suc_of i.left h.some) h.listed
        );
  })

  pub first_may_end : (m head k : ℕ) (i : Items) → m ≤ 1000000 → k < 2 ^ 32 → IsFirstItems m head k i → MayEnd t i
  first_may_end m head k i short few (plan, none, e) = subst (MayEnd t) (sym e) (record {
    makespan = short;
    few = few;
    listed = (
      (let e : length plan.items ≡ 0 = ap length none in omega (arith, e, few)),
      subst (All (CanStand t m)) (sym none) (All-nil (CanStand t m)),
    );
  })

  -- the plan is judged behind its last line
  good_plan : (m head n : ℕ) (ls : List CertLine) (plan : Option (Vec Occ Global)) → IsPlanIn t m plan → (os : List Occ) × JudgesItems t m head plan [] n ls (went os ls n)
  good_plan m head n ls None good = absurd good
  good_plan m head n ls (Some p) good = (p.items ++ [], inl (subst (IsPlanOf t m) (sym (append-nil p.items)) good, refl))

  bad_plan : (m head n : ℕ) (ls : List CertLine) (plan : Option (Vec Occ Global)) → (IsPlanIn t m plan → ⊥) → JudgesItems t m head plan [] n ls (faulted head whys.Plan)
  bad_plan m head n ls None bad = refl
  bad_plan m head n ls (Some p) bad = inr ((λ plan. bad (subst (IsPlanOf t m) (append-nil p.items) plan)), refl)

  module _ (v : Version) where
    -- no head of a plan, and no line of a plan
    pub stray_plan : (m n : ℕ) (line : CertLine) → ((k : ℕ) → line ≡ lines.Plan k → ⊥) → Moves t v (sections.Plan m) n line (nexts.Fault n whys.Grammar)
    stray_plan m n line h = (omega arith, λ ls. (faulted n whys.Grammar, (faulted n whys.Grammar, sym (strange line ls h), refl), refl))
      where
        strange : (line : CertLine) (ls : List CertLine) → ((k : ℕ) → line ≡ lines.Plan k → ⊥) → take_plan n (line ∷ ls) ≡ faulted n whys.Grammar
        strange (lines.Plan k) ls h = absurd (h k refl)
        strange _ ls h = refl

    pub stray_item : (i : Items) (n : ℕ) (line : CertLine) → 1 ≤ i.left → ((start act : ℕ) → line ≡ lines.Item start act → is_no_sooner (last_of i) (record { act = act; start = start }) ≡ false) →
        Moves t v (sections.Items i) n line (nexts.Fault n whys.Grammar)
    stray_item i n line some h =
        (omega arith, λ ls. (faulted n whys.Grammar, (faulted n whys.Grammar, strange line ls h ∙ sym (ap (λ c. take_items c (last_of i) n (line ∷ ls)) (suc_of i.left some)), refl), refl))
      where
        strange : (line : CertLine) (ls : List CertLine) → ((start act : ℕ) → line ≡ lines.Item start act → is_no_sooner (last_of i) (record { act = act; start = start }) ≡ false) →
            faulted n whys.Grammar ≡ take_items (suc (i.left - 1)) (last_of i) n (line ∷ ls)
        strange (lines.Item start act) ls h =
            let o : Occ = record { act = act; start = start } in
            sym (ap (λ b. cond b (behind (λ os. o ∷ os) (take_items (i.left - 1) o (n + 1) ls)) (faulted n whys.Grammar)) (h start act refl))
        strange _ ls h = refl

    -- what comes from where lines are left comes of the line before
    pub comes_moves : (s old : Section) (n : ℕ) (line : CertLine) (next : Next) →
        ((ls : List CertLine) (x : Outcome (Unit {0})) → Left t v s (n + 1) ls x → Left t v old n (line ∷ ls) x) → Proceeds t v (Left t v s) (n + 1) next → Moves t v old n line next
    comes_moves s old n line (nexts.On new) f h = (h.0, λ k few. h.1 (k + bring_in line), λ ls x left. f ls x (h.2 ls x left))
    comes_moves s old n line (nexts.Fault at why) f h = ((let below = h.0 in omega (arith, below)), λ ls. f ls (faulted at why) (h.1 ls))

    -- the head of a plan
    pub head_reads : (m n k : ℕ) (i : Items) → IsFirstItems m n k i → (ls : List CertLine) (x : Outcome (Unit {0})) →
        Left t v (sections.Items i) (n + 1) ls x → Left t v (sections.Plan m) n (lines.Plan k ∷ ls) x
    head_reads m n k i (plan, none, e) ls x left = go (subst (λ z. Left t v (sections.Items z) (n + 1) ls x) e left)
      where
        judges : (x y : Outcome (List Occ)) → After (JudgesItems t m n (Some plan)) x y → After (JudgesPlan t m n) x y
        judges (went os r line) y h = subst (λ z. JudgesPlan t m n (z ++ os) line r y) none h
        judges (faulted line why) y h = h

        go : Left t v (sections.Items (record { makespan = m; head = n; left = k; start = 0; act = 0; plan = Some plan })) (n + 1) ls x → Left t v (sections.Plan m) n (lines.Plan k ∷ ls) x
        go (y, (z, e, judged), after) = (y, (z, e, judges z y judged), after)

    -- a line of a plan
    pub item_reads : (n : ℕ) (i : Items) (o : Occ) (j : Items) → 1 ≤ i.left → is_no_sooner (last_of i) o ≡ true → TakesItem t i o j → (ls : List CertLine) (x : Outcome (Unit {0})) →
        Left t v (sections.Items j) (n + 1) ls x → Left t v (sections.Items i) n (lines.Item o.start o.act ∷ ls) x
    item_reads n i o j some turn takes ls x left = go (subst (λ z. Left t v (sections.Items z) (n + 1) ls x) takes.rest left)
      where
        taken : (k : ℕ) → i.left ≡ suc k → (z : Outcome (List Occ)) → z ≡ take_items k o (n + 1) ls → behind (λ os. o ∷ os) z ≡ take_items i.left (last_of i) n (lines.Item o.start o.act ∷ ls)
        taken k e z h =
            ap (behind (λ os. o ∷ os)) h
            ∙ sym (ap (λ b. cond b (behind (λ os. o ∷ os) (take_items k o (n + 1) ls)) (faulted n whys.Grammar)) turn)
            ∙ sym (ap (λ c. take_items c (last_of i) n (lines.Item o.start o.act ∷ ls)) e)

        go : Left t v (sections.Items (record { makespan = i.makespan; head = i.head; left = i.left - 1; start = o.start; act = o.act; plan = j.plan })) (n + 1) ls x → Left t v (sections.Items i) n (lines.Item o.start o.act ∷ ls) x
        go (y, (z, e, judged), after) =
            (y, (behind (λ os. o ∷ os) z, taken (i.left - 1) (suc_of i.left some) z e, judges_more i.makespan i.head o i.plan j.plan takes.plan z y judged), after)

    -- with no line of a plan left it is judged
    left_after : (m n : ℕ) (ls : List CertLine) (x : Outcome (Unit {0})) → Left t v (after_plan m) n ls x → BehindPlan t v m n ls x
    left_after zero n ls x h = h
    left_after (suc m) n ls x h = subst (λ s. Left t v s n ls x) (after_suc m) h

    is_after : (m n : ℕ) → m ≤ 1000000 → IsSection t n (after_plan m)
    is_after zero n h = tt
    is_after (suc m) n h = subst (IsSection t n) (sym (after_suc m)) (omega (arith, h))

    few_after : (m k : ℕ) → HasFew k (after_plan m)
    few_after zero k = tt
    few_after (suc m) k = subst (HasFew k) (sym (after_suc m)) tt

    judged_items : (i : Items) (n : ℕ) → i.left ≡ 0 → IsPlanIn t i.makespan i.plan → (ls : List CertLine) (x : Outcome (Unit {0})) → BehindPlan t v i.makespan n ls x → Left t v (sections.Items i) n ls x
    judged_items i n none good ls x h =
        let k = good_plan i.makespan i.head n ls i.plan good in
        (went k.0 ls n, (went [] ls n, none_taken i.left _ n ls none, k.1), h)

    bad_items : (i : Items) (n : ℕ) → i.left ≡ 0 → (IsPlanIn t i.makespan i.plan → ⊥) → (ls : List CertLine) → Left t v (sections.Items i) n ls (faulted i.head whys.Plan)
    bad_items i n none bad ls =
        (faulted i.head whys.Plan, (went [] ls n, none_taken i.left _ n ls none, bad_plan i.makespan i.head n ls i.plan bad), refl)

    pub plan_comes : (i : Items) (n : ℕ) (next : Next) → i.left ≡ 0 → MayEnd t i → EndsPlan t i.makespan i.head i.plan next → i.head < n → Proceeds t v (Left t v (sections.Items i)) n next
    plan_comes i n (nexts.On new) none h ends below = (
      subst (IsSection t n) (sym ends.1) (is_after i.makespan n h.makespan),
      λ k. subst (HasFew k) (sym ends.1) (few_after i.makespan k),
      λ ls x left. judged_items i n none ends.0 ls x (left_after i.makespan n ls x (subst (λ z. Left t v z n ls x) ends.1 left)),
    )
    plan_comes i n (nexts.Fault at why) none h ends below = (
      (let same = ends.1 in omega (arith, same, below)),
      λ ls. subst (λ z. Left t v (sections.Items i) n ls z) (sym (ap (λ k. faulted k why) ends.1 ∙ ap (faulted i.head) ends.2)) (bad_items i n none ends.0 ls),
    )

  -- what the functions answer
  pub items_come : (i : Items) (r : Result Next Memory) → i.left ≡ 0 → MayEnd t i → IfOk r (EndsPlan t i.makespan i.head i.plan) →
      IfOk r (λ next. (v : Version) (n : ℕ) → i.head < n → Proceeds t v (Left t v (sections.Items i)) n next)
  items_come i (Err e) none h ends = tt
  items_come i (Ok next) none h ends = λ v n below. plan_comes v i n next none h ends below

  pub head_moves : (m n k : ℕ) (i : Items) (line : CertLine) (r : Result Next Memory) → line ≡ lines.Plan k → IsFirstItems m n k i →
      IfOk r (λ next. (v : Version) (n : ℕ) → i.head < n → Proceeds t v (Left t v (sections.Items i)) n next) → IfOk r (λ next. (v : Version) → Moves t v (sections.Plan m) n line next)
  head_moves m n k i line (Err e) is first comes = tt
  head_moves m n k i line (Ok next) is first comes = λ v.
      let head : i.head ≡ n = ap (λ (z : Items). z.head) first.2 in
      comes_moves v (sections.Items i) (sections.Plan m) n line next
      (λ ls x left. subst (λ z. Left t v (sections.Plan m) n (z ∷ ls) x) (sym is) (head_reads v m n k i first ls x left))
      (comes v (n + 1) (omega (arith, head)))

  pub item_moves : (n : ℕ) (i : Items) (o : Occ) (j : Items) (line : CertLine) (r : Result Next Memory) → line ≡ lines.Item o.start o.act → AreItems t n i → is_no_sooner (last_of i) o ≡ true → TakesItem t i o j →
      IfOk r (λ next. (v : Version) (n : ℕ) → j.head < n → Proceeds t v (Left t v (sections.Items j)) n next) → IfOk r (λ next. (v : Version) → Moves t v (sections.Items i) n line next)
  item_moves n i o j line (Err e) is formed turn takes comes = tt
  item_moves n i o j line (Ok next) is formed turn takes comes = λ v.
      let head : j.head ≡ i.head = ap (λ (z : Items). z.head) takes.rest in
      let below = formed.head in
      comes_moves v (sections.Items j) (sections.Items i) n line next
      (λ ls x left. subst (λ z. Left t v (sections.Items i) n (z ∷ ls) x) (sym is) (item_reads v n i o j formed.some turn takes ls x left))
      (comes v (n + 1) (omega (arith, head, below)))
