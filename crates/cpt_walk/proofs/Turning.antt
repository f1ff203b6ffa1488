-- what a line of a tree leads to
use Rattle.std.proofs.Common.{◌≡◌, ◌≢◌, ℕ, ◌+◌, ◌<◌, ◌≤◌, ◌||◌, true, false, Bool, List, [], ◌∷◌, ◌++◌, length, get_or, drop, map, All, Contains, inl, inr, refl, sym, ap, ◌∙◌, subst, arith, length-drop}
use Rattle.std.proofs.lemmas.List.Elements.{All-head, All-tail, All-nil, All-cons, All-push, All-contains, Contains-push, Contains-get_or}
use Rattle.std.proofs.lemmas.List.{drop_all}
use Rattle.std.specs.Prelude.{Result, Ok, Err, IfOk}
use Rattle.cpt_task.specs.declared.memory.Memory.{Memory}
use Rattle.cpt_task.specs.Shape.{TaskShape}
use Rattle.cpt_tables.specs.declared.tables.Tables.{Tables}
use Rattle.cpt_sheet.specs.declared.data.Cand.{Cand}
use Rattle.cpt_sheet.specs.declared.data.Sheet.{Sheet}
use Rattle.cpt_sheet.specs.declared.data.Step.{Step}
use Rattle.cpt_sheet.specs.declared.data.Decision.{Decision}
use Rattle.cpt_sheet.specs.declared.data.Flaw.{Flaw}
use Rattle.cpt_sheet.specs.declared.data.Flaw.TheVariants.{Threat, OpenNeed, Clash}
use Rattle.cpt_sheet.specs.declared.data.NodeLine.{NodeLine}
use Rattle.cpt_sheet.specs.declared.data.NodeLine.TheVariants.{Child, Narrow, Close, Branch, OpenNode}
use Rattle.cpt_sheet.specs.View.{cands}
use Rattle.cpt_sheet.specs.Formed.{IsFormed}
use Rattle.cpt_task.specs.declared.span.Span.{Span}
use Rattle.cpt_task.specs.declared.span.Span.TheVariants.{At, Never}
use Rattle.cpt_tables.specs.Spans.{◌≤ˢ◌, ◌<ˢ◌}
use Rattle.cpt_sheet.specs.declared.data.Need.{Need}
use Rattle.cpt_sheet.specs.Live.{IsDead, IsLive, IsLiveToken}
use Rattle.cpt_calculus.specs.Rules.{IsLegal, narrowed, change_of}
use Rattle.cpt_calculus.specs.Decisions.{Fits, applied}
use Rattle.cpt_calculus.specs.Flaws.{IsFlaw, children, choice}
use Rattle.cpt_soundness.proofs.FitLemmas.{children_fit}
use Rattle.cpt_cert_form.specs.declared.forms.CertLine.{CertLine}
use Rattle.cpt_cert_form.specs.declared.forms.CertLine.TheVariants as lines
use Rattle.cpt_cert_accept.specs.declared.faults.Why.TheVariants as whys
use Rattle.cpt_cert_accept.specs.Trees.{Part, bring_of}
use Rattle.cpt_cert_accept.specs.Trees.Part.{node, worked, branches}
use Rattle.cpt_cert_accept.specs.Reading.{behind}
use Rattle.cpt_cert_accept.specs.Reading.Outcome.{faulted}
use Rattle.cpt_cert_accept.specs.Descent.{begins_left, begins_child}
use Rattle.cpt_cert_accept.proofs.Brings.{count_narrowed, count_applied}
use Rattle.cpt_walk.specs.declared.walk.Frame.{Frame}
use Rattle.cpt_walk.specs.declared.walk.Place.{Place}
use Rattle.cpt_walk.specs.declared.walk.Place.TheVariants.{Node, Worked, Behind}
use Rattle.cpt_walk.specs.declared.walk.Past.{Past}
use Rattle.cpt_walk.specs.declared.walk.Walk.{Walk}
use Rattle.cpt_walk.specs.declared.walk.Turn.{Turn}
use Rattle.cpt_walk.specs.declared.walk.Turn.TheVariants.{On, Fault}
use Rattle.cpt_walk.specs.Walks.{ReadsParts, still, part_of, stacked, parts_left, IsFrame, IsFewIn, IsFewAt, AreFew, Turns, GoesDown, at_work, at_node, at_end}
use Rattle.cpt_walk.proofs.Moves.{legal_moves, branch_moves, close_moves, open_moves, node_works, child_moves, last_child_moves, illegal_fails, alive_fails, flawless_fails, strange_fails, other_fails, childless_fails}

pub stack_push : (fs : List Frame) (f : Frame) (ps : List Part) → stacked (fs ++ f ∷ []) ps ≡ part_of f ∷ stacked fs ps
stack_push [] f ps = refl
stack_push (g ∷ fs) f ps = swap (part_of g ∷ ps) (stack_push fs f (part_of g ∷ ps))
  where
    swap : (qs : List Part) → stacked (fs ++ f ∷ []) qs ≡ part_of f ∷ stacked fs qs → stacked (fs ++ f ∷ []) qs ≡ part_of f ∷ stacked fs qs
    swap qs e = e

or_false : (b : Bool) → b ≡ (b || false)
or_false true = refl
or_false false = refl

or_true : (b : Bool) → true ≡ (b || true)
or_true true = refl
or_true false = refl

pub any_rest : (mo : Bool) (line : NodeLine) (ls : List CertLine) → begins_left mo (lines.Node line ∷ []) ≡ false → begins_left mo (lines.Node line ∷ ls) ≡ false
any_rest mo (Child d) ls h = refl
any_rest mo (Narrow rule) ls h = refl
any_rest mo Close ls h = refl
any_rest mo (Branch flaw) ls h = refl
any_rest mo OpenNode ls h = h

left_is_open : (mo : Bool) (line : NodeLine) → begins_left mo (lines.Node line ∷ []) ≡ true → (line ≡ OpenNode) × (mo ≡ true)
left_is_open mo (Child d) h = absurd (cc)
left_is_open mo (Narrow rule) h = absurd (cc)
left_is_open mo Close h = absurd (cc)
left_is_open mo (Branch flaw) h = absurd (cc)
left_is_open mo OpenNode h = (refl, h)

live_not_dead : (s : Sheet) → IsLive s → IsDead s → ⊥
live_not_dead s live (z, there, inl shut) = absurd (open_not_shut z.span.lo z.span.hi (All-contains IsLiveToken s.tokens z live there).0 shut)
  where
    open_not_shut : (lo : Span) (hi : ℕ) → lo ≤ˢ At hi → At hi <ˢ lo → ⊥
    open_not_shut (At m) hi a b = omega (arith, a, b)
    open_not_shut Never hi a b = a
live_not_dead s live (z, there, inr (n, among, e)) = All-contains (λ (m : Need). m.cands ≢ []) z.lists n (All-contains IsLiveToken s.tokens z live there).1 among e

more_frames : (j k : ℕ) → j ≤ k → (fs : List Frame) → All (IsFewIn j) fs → All (IsFewIn k) fs
more_frames j k le fs h i d lt = let few = h i d lt in omega (arith, few, le)

more_place : (j k : ℕ) → j ≤ k → (p : Place) → IsFewAt j p → IsFewAt k p
more_place j k le (Node s) h = omega (arith, h, le)
more_place j k le (Worked s) h = omega (arith, h, le)
more_place j k le Behind h = tt

-- where more tokens may be there
pub more_few : (j k : ℕ) (w : Walk) → j ≤ k → AreFew j w → AreFew k w
more_few j k w le h = record { frames = more_frames j k le w.past.frames.items h.frames; place = more_place j k le w.place h.place }

-- what holds of all branches holds of the last one and of those before it
pub but_last : (P : Frame → Type 0) (fs gs : List Frame) (f : Frame) → fs ≡ gs ++ f ∷ [] → All P fs → All P gs × P f
but_last P fs gs f e h = let k = subst (All P) e h in (All-append_left gs (f ∷ []) k, All-contains P (gs ++ f ∷ []) f k (Contains-push gs f))
  where
    All-append_left : (xs ys : List Frame) → All P (xs ++ ys) → All P xs
    All-append_left [] ys h = All-nil P
    All-append_left (x ∷ xs) ys h = All-cons P x xs (All-head P x (xs ++ ys) h) (All-append_left xs ys (All-tail P x (xs ++ ys) h))

module _ (t : TaskShape) (b : Tables) where
  pub legal_turn : (p : Past) (s u : Sheet) (rule : Step) → All (IsFrame t) p.frames.items → IsLegal t b s rule → u ≡ narrowed s rule → IsFormed t u → Turns t b (at_work p s) (Narrow rule) (On (at_work p u))
  legal_turn p s u rule frames legal e formed = record {
    walk = record { frames = frames; place = formed };
    may_open = refl;
    done = omega arith;
    left = or_false p.left;
    few = λ k h. record {
      frames = more_frames k (k + 0) (omega arith) p.frames.items h.frames;
      place = (let same : length u.tokens ≡ length s.tokens = ap (λ (z : Sheet). length z.tokens) e ∙ count_narrowed s (change_of s rule) in let few : length s.tokens ≤ k + 2 = h.place in omega (arith, same, few));
    };
    reads = λ n ls x h. legal_moves t b p.may_open s rule (stacked p.frames.items []) n ls x legal (subst (λ z. ReadsParts t b p.may_open (worked z ∷ stacked p.frames.items []) (n + 1) ls x) e h);
  }

  pub illegal_turn : (p : Past) (s : Sheet) (rule : Step) → (IsLegal t b s rule → ⊥) → Turns t b (at_work p s) (Narrow rule) (Fault whys.Step)
  illegal_turn p s rule h n ls = illegal_fails t b p.may_open s rule (stacked p.frames.items []) n ls h

  -- one node more is closed or branched
  abbrev pub counted : Past → Past
  counted p = record p { done = p.done + 1 }

  pub closed_turn : (p : Past) (s : Sheet) → All (IsFrame t) p.frames.items → IsDead s → Turns t b (at_work p s) Close (On (at_end (counted p)))
  closed_turn p s frames dead = record {
    walk = record { frames = frames; place = tt };
    may_open = refl;
    done = refl;
    left = or_false p.left;
    few = λ k h. record { frames = more_frames k (k + 0) (omega arith) p.frames.items h.frames; place = tt };
    reads = λ n ls x h. close_moves t b p.may_open s (stacked p.frames.items []) n ls x dead h;
  }

  pub alive_turn : (p : Past) (s : Sheet) → (IsDead s → ⊥) → Turns t b (at_work p s) Close (Fault whys.Close)
  alive_turn p s h n ls = alive_fails t b p.may_open s (stacked p.frames.items []) n ls h

  -- a flaw has children
  some_children : (s : Sheet) (flaw : Flaw) → IsFlaw t s flaw → children s flaw ≢ []
  some_children s (Threat x q d) h e = cc
  some_children s (Clash x y) h e = cc
  some_children s (OpenNeed x q) h e = go (cands s x q) h.0 e
    where
      go : (cs : List Cand) → cs ≢ [] → map (choice x q) cs ≢ []
      go [] some k = some refl
      go (c ∷ cs) some k = cc

  -- a branch of which no child has been met
  abbrev pub first_frame : Sheet → Flaw → Frame
  first_frame s flaw = record { sheet = s; children = children s flaw; met = 0 }

  pub branch_turn : (p q : Past) (s : Sheet) (flaw : Flaw) → IsFormed t s → All (IsFrame t) p.frames.items → IsLive s → IsFlaw t s flaw → q.may_open ≡ p.may_open → q.done ≡ p.done + 1 → q.left ≡ p.left → q.frames.items ≡ p.frames.items ++ first_frame s flaw ∷ [] →
      Turns t b (at_work p s) (Branch flaw) (On (at_end q))
  branch_turn p q s flaw formed frames live stands may done left e = record {
    walk = record {
      frames = subst (All (IsFrame t)) (sym e) (
          All-push (IsFrame t) p.frames.items (first_frame s flaw) frames (record { formed = formed; some = some_children s flaw stands; fit = all_fit (children s flaw) (children_fit t s flaw formed stands) })
          );
      place = tt;
    };
    may_open = may;
    done = done;
    left = left ∙ or_false p.left;
    few = λ k h. record {
      frames = subst (All (IsFewIn (k + 0))) (sym e) (
          All-push (IsFewIn (k + 0)) p.frames.items (first_frame s flaw) (more_frames k (k + 0) (omega arith) p.frames.items h.frames) (let few : length s.tokens ≤ k + 2 = h.place in omega (arith, few))
          );
      place = tt;
    };
    reads = λ n ls x h. branch_moves t b p.may_open s flaw (stacked p.frames.items []) n ls x live stands (
        subst (λ z. ReadsParts t b p.may_open z (n + 1) ls x) (ap (λ z. stacked z []) e ∙ stack_push p.frames.items (first_frame s flaw) []) h
        );
  }
    where
      all_fit : (ds : List Decision) → ((d : Decision) → Contains ds d → Fits s d) → All (Fits s) ds
      all_fit ds h k d l = h (get_or ds k d) (Contains-get_or ds k d l)

  pub flawless_turn : (p : Past) (s : Sheet) (flaw : Flaw) → (IsLive s → IsFlaw t s flaw → ⊥) → Turns t b (at_work p s) (Branch flaw) (Fault whys.Branch)
  flawless_turn p s flaw h n ls = flawless_fails t b p.may_open s flaw (stacked p.frames.items []) n ls h

  pub stray_child_turn : (p : Past) (s : Sheet) (d : Decision) → Turns t b (at_work p s) (Child d) (Fault whys.Grammar)
  stray_child_turn p s d n ls = strange_fails t b p.may_open s (stacked p.frames.items []) n (lines.Node (Child d) ∷ ls) refl

  pub stray_open_turn : (p : Past) (s : Sheet) → Turns t b (at_work p s) OpenNode (Fault whys.Grammar)
  stray_open_turn p s n ls = strange_fails t b p.may_open s (stacked p.frames.items []) n (lines.Node OpenNode ∷ ls) refl

  -- before a node it is as behind its steps, where the line does not leave it open
  pub node_turn : (p : Past) (s : Sheet) (line : NodeLine) (r : Turn) → ((ls : List CertLine) → begins_left p.may_open (lines.Node line ∷ ls) ≡ false) → Turns t b (at_work p s) line r → Turns t b (at_node p s) line r
  node_turn p s line (On v) e h = record {
    walk = h.walk;
    may_open = h.may_open;
    done = h.done;
    left = h.left;
    few = λ k g. h.few k (record { frames = g.frames; place = g.place });
    reads = λ n ls x k. node_works t b p.may_open s (stacked p.frames.items []) n (lines.Node line ∷ ls) (behind (λ f. line ∷ f) x) (e ls) (h.reads n ls x k);
  }
  node_turn p s line (Fault why) e h = λ n ls. node_works t b p.may_open s (stacked p.frames.items []) n (lines.Node line ∷ ls) (faulted n why) (e ls) (h n ls)

  -- some node is open now
  abbrev pub opened : Past → Past
  opened p = record p { left = true }

  pub open_turn : (p : Past) (s : Sheet) → p.may_open ≡ true → All (IsFrame t) p.frames.items → Turns t b (at_node p s) OpenNode (On (at_end (opened p)))
  open_turn p s may frames = record {
    walk = record { frames = frames; place = tt };
    may_open = refl;
    done = omega arith;
    left = or_true p.left;
    few = λ k h. record { frames = more_frames k (k + 0) (omega arith) p.frames.items h.frames; place = tt };
    reads = λ n ls x h. open_moves t b p.may_open s (stacked p.frames.items []) n ls x may h;
  }

  -- children, where the last branch is this one
  abbrev IsLast : Past → List Frame → Frame → Type 0
  IsLast p fs f = p.frames.items ≡ fs ++ f ∷ []

  unstack : (p : Past) (fs : List Frame) (f : Frame) (ds : List Decision) → IsLast p fs f → still f ≡ ds → parts_left (at_end p) ≡ branches f.sheet ds ∷ stacked fs []
  unstack p fs f ds e k = ap (λ z. stacked z []) e ∙ stack_push fs f [] ∙ ap (λ z. branches f.sheet z ∷ stacked fs []) k

  pub last_frame : (p : Past) (fs : List Frame) (f : Frame) → IsLast p fs f → All (IsFrame t) p.frames.items → All (IsFrame t) fs × IsFrame t f
  last_frame p fs f e h = but_last (IsFrame t) p.frames.items fs f e h

  pub other_turn : (p : Past) (fs : List Frame) (f : Frame) (d e : Decision) (ds : List Decision) → IsLast p fs f → still f ≡ d ∷ ds → e ≢ d → Turns t b (at_end p) (Child e) (Fault whys.Child)
  other_turn p fs f d e ds is k ne n ls =
      subst (λ z. ReadsParts t b p.may_open z n (lines.Node (Child e) ∷ ls) (faulted n whys.Child)) (sym (unstack p fs f (d ∷ ds) is k)) (other_fails t b p.may_open f.sheet d e ds (stacked fs []) n ls ne)

  pub childless_turn : (p : Past) (fs : List Frame) (f : Frame) (d : Decision) (ds : List Decision) (line : NodeLine) → IsLast p fs f → still f ≡ d ∷ ds → ((e : Decision) → line ≢ Child e) → Turns t b (at_end p) line (Fault whys.Grammar)
  childless_turn p fs f d ds line is k ne n ls =
      subst (λ z. ReadsParts t b p.may_open z n (lines.Node line ∷ ls) (faulted n whys.Grammar)) (sym (unstack p fs f (d ∷ ds) is k)) (childless_fails t b p.may_open f.sheet d ds (stacked fs []) n (lines.Node line ∷ ls) (go line ne))
    where
      go : (l : NodeLine) → ((e : Decision) → l ≢ Child e) → begins_child (lines.Node l ∷ ls) ≡ false
      go (Child e) h = absurd (h e refl)
      go (Narrow rule) h = refl
      go Close h = refl
      go (Branch flaw) h = refl
      go OpenNode h = refl

  -- the sheet after a decision has a token more where it brings one
  child_few : (n : ℕ) (f : Frame) (u : Sheet) (d : Decision) → u ≡ applied t f.sheet d → IsFewIn n f → length u.tokens ≤ n + bring_of (Child d) + 2
  child_few n f u d e few = let same : length u.tokens ≡ length f.sheet.tokens + bring_of (Child d) = ap (λ (z : Sheet). length z.tokens) e ∙ count_applied t f.sheet d in omega (arith, same, few)

  pub more_turn : (p q : Past) (fs : List Frame) (f : Frame) (d : Decision) (u : Sheet) → IsLast p fs f → All (IsFrame t) p.frames.items → still f ≡ d ∷ drop (f.met + 1) f.children → drop (f.met + 1) f.children ≢ [] →
      u ≡ applied t f.sheet d → IsFormed t u → q.may_open ≡ p.may_open → q.done ≡ p.done → q.left ≡ p.left →
      q.frames.items ≡ fs ++ record { sheet = f.sheet; children = f.children; met = f.met + 1 } ∷ [] → Turns t b (at_end p) (Child d) (On (at_node q u))
  more_turn p q fs f d u is frames k some e formed may done left back =
      let g : Frame = record { sheet = f.sheet; children = f.children; met = f.met + 1 } in
      let ds = drop (f.met + 1) f.children in
      let both = last_frame p fs f is frames in
      let fit : All (Fits f.sheet) (d ∷ ds) = subst (All (Fits f.sheet)) k both.1.fit in
      record {
        walk = record {
          frames = subst (All (IsFrame t)) (sym back) (All-push (IsFrame t) fs g both.0 (record { formed = both.1.formed; some = some; fit = All-tail (Fits f.sheet) d ds fit }));
          place = formed;
        };
        may_open = may;
        done = done ∙ omega arith;
        left = left ∙ or_false p.left;
        few = λ n h. (
            let few = but_last (IsFewIn n) p.frames.items fs f is h.frames in
            record {
              frames = subst (All (IsFewIn (n + bring_of (Child d)))) (sym back) (
                  All-push (IsFewIn (n + bring_of (Child d))) fs g (more_frames n (n + bring_of (Child d)) (omega arith) fs few.0) (let below = few.1 in omega (arith, below))
                  );
              place = child_few n f u d e few.1;
            }
            );
        reads = λ n ls x h. subst (λ z. ReadsParts t b p.may_open z n (lines.Node (Child d) ∷ ls) (behind (λ w. Child d ∷ w) x)) (sym (unstack p fs f (d ∷ ds) is k)) (
            child_moves t b p.may_open f.sheet d ds (stacked fs []) n ls x (
            subst (λ z. ReadsParts t b p.may_open (node z ∷ branches f.sheet ds ∷ stacked fs []) (n + 1) ls x) e
            (subst (λ z. ReadsParts t b p.may_open (node u ∷ z) (n + 1) ls x) (ap (λ z. stacked z []) back ∙ stack_push fs g []) h)
            )
            );
      }

  pub last_turn : (p q : Past) (fs : List Frame) (f : Frame) (d : Decision) (u : Sheet) → IsLast p fs f → All (IsFrame t) p.frames.items → still f ≡ d ∷ [] →
      u ≡ applied t f.sheet d → IsFormed t u → q.may_open ≡ p.may_open → q.done ≡ p.done → q.left ≡ p.left → q.frames.items ≡ fs → Turns t b (at_end p) (Child d) (On (at_node q u))
  last_turn p q fs f d u is frames k e formed may done left back =
      let both = last_frame p fs f is frames in
      record {
        walk = record { frames = subst (All (IsFrame t)) (sym back) both.0; place = formed };
        may_open = may;
        done = done ∙ omega arith;
        left = left ∙ or_false p.left;
        few = λ n h. (
            let few = but_last (IsFewIn n) p.frames.items fs f is h.frames in
            record { frames = subst (All (IsFewIn (n + bring_of (Child d)))) (sym back) (more_frames n (n + bring_of (Child d)) (omega arith) fs few.0); place = child_few n f u d e few.1 }
            );
        reads = λ n ls x h. subst (λ z. ReadsParts t b p.may_open z n (lines.Node (Child d) ∷ ls) (behind (λ w. Child d ∷ w) x)) (sym (unstack p fs f (d ∷ []) is k)) (
            last_child_moves t b p.may_open f.sheet d (stacked fs []) n ls x (
            subst (λ z. ReadsParts t b p.may_open (node z ∷ stacked fs []) (n + 1) ls x) e (subst (λ z. ReadsParts t b p.may_open (node u ∷ stacked z []) (n + 1) ls x) back h)
            )
            );
      }

  -- the next child of a branch fits
  pub next_fits : (f : Frame) (d : Decision) (ds : List Decision) → IsFrame t f → still f ≡ d ∷ ds → Fits f.sheet d
  next_fits f d ds h k = All-head (Fits f.sheet) d ds (subst (All (Fits f.sheet)) k h.fit)

  -- a line behind a node that is no child
  pub stray_turn : (p : Past) (line : NodeLine) → All (IsFrame t) p.frames.items → p.frames.items ≢ [] → ((e : Decision) → line ≢ Child e) → Turns t b (at_end p) line (Fault whys.Grammar)
  stray_turn p line frames some ne = go (last_of p.frames.items some)
    where
      last_of : (fs : List Frame) → fs ≢ [] → (gs : List Frame) × (f : Frame) × (fs ≡ gs ++ f ∷ [])
      last_of [] h = absurd (h refl)
      last_of (f ∷ []) h = ([], f, refl)
      last_of (f ∷ g ∷ fs) h = more (last_of (g ∷ fs) (λ e. cc))
        where
          more : ((gs : List Frame) × (z : Frame) × (g ∷ fs ≡ gs ++ z ∷ [])) → (gs : List Frame) × (z : Frame) × (f ∷ g ∷ fs ≡ gs ++ z ∷ [])
          more r = (f ∷ r.0, r.1, ap (λ z. f ∷ z) r.2)

      go : ((gs : List Frame) × (f : Frame) × (p.frames.items ≡ gs ++ f ∷ [])) → Turns t b (at_end p) line (Fault whys.Grammar)
      go (gs, f, e) = split (still f) refl
        where
          split : (ds : List Decision) → still f ≡ ds → Turns t b (at_end p) line (Fault whys.Grammar)
          split [] k = absurd ((last_frame p gs f e frames).1.some k)
          split (d ∷ ds) k = childless_turn p gs f d ds line e k ne

  -- a list that is all but its last item, which is taken
  pub down_more : (p q : Past) (f : Frame) (d : Decision) (u : Sheet) → All (IsFrame t) p.frames.items → IsFrame t f → still f ≡ d ∷ drop (f.met + 1) f.children → f.met + 1 < length f.children →
      u ≡ applied t f.sheet d → IsFormed t u → q.may_open ≡ p.may_open → q.done ≡ p.done → q.left ≡ p.left →
      q.frames.items ≡ p.frames.items ++ record { sheet = f.sheet; children = f.children; met = f.met + 1 } ∷ [] → GoesDown t b p f d (at_node q u)
  down_more p q f d u frames frame k lt e formed may done left back r may_r done_r left_r is =
      more_turn r q p.frames.items f d u is (subst (All (IsFrame t)) (sym is) (All-push (IsFrame t) p.frames.items f frames frame)) k
      (λ z. let m : length (drop (f.met + 1) f.children) ≡ 0 = ap length z in let l = length-drop (f.met + 1) f.children in omega (arith, m, l, lt))
      e formed (may ∙ sym may_r) (done ∙ sym done_r) (left ∙ sym left_r) back

  pub down_last : (p : Past) (f : Frame) (d : Decision) (u : Sheet) → All (IsFrame t) p.frames.items → IsFrame t f → still f ≡ d ∷ drop (f.met + 1) f.children → length f.children ≤ f.met + 1 →
      u ≡ applied t f.sheet d → IsFormed t u → GoesDown t b p f d (at_node p u)
  down_last p f d u frames frame k le e formed r may_r done_r left_r is =
      last_turn r p p.frames.items f d u is (subst (All (IsFrame t)) (sym is) (All-push (IsFrame t) p.frames.items f frames frame)) (k ∙ ap (λ z. d ∷ z) (drop_all (f.met + 1) f.children le))
      e formed (sym may_r) (sym done_r) (sym left_r) refl

  pub alive : (p : Past) (s : Sheet) → IsLive s → Turns t b (at_work p s) Close (Fault whys.Close)
  alive p s live = alive_turn p s (live_not_dead s live)

  pub opens : (p : Past) (s : Sheet) (line : NodeLine) → All (IsFrame t) p.frames.items → begins_left p.may_open (lines.Node line ∷ []) ≡ true → Turns t b (at_node p s) line (On (at_end (opened p)))
  opens p s line frames e = let k = left_is_open p.may_open line e in subst (λ z. Turns t b (at_node p s) z (On (at_end (opened p)))) (sym k.0) (open_turn p s k.1 frames)

  pub node_turns : (p : Past) (s : Sheet) (line : NodeLine) (r : Result Turn Memory) → begins_left p.may_open (lines.Node line ∷ []) ≡ false → IfOk r (Turns t b (at_work p s) line) → IfOk r (Turns t b (at_node p s) line)
  node_turns p s line (Ok r) e h = node_turn p s line r (λ ls. any_rest p.may_open line ls e) h
  node_turns p s line (Err r) e h = tt
