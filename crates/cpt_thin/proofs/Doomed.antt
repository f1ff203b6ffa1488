-- parts of trees that cannot be read from some lines
use Rattle.std.proofs.Common.{◌≡◌, ℕ, zero, suc, ◌+◌, ◌<◌, ◌≤◌, Bool, true, false, List, [], ◌∷◌, ◌++◌, length, drop, get_or, refl, sym, ap, ◌∙◌, subst, arith, append_assoc, All}
use Rattle.std.specs.Prelude.{if◌then◌else◌, MatchBool, IfOk, Result, Ok, Err, ⊤}
use Rattle.std.proofs.lemmas.List.Elements.{All-nil}
use Rattle.cpt_task.specs.Shape.{TaskShape}
use Rattle.cpt_tables.specs.declared.tables.Tables.{Tables}
use Rattle.cpt_sheet.specs.declared.data.Sheet.{Sheet}
use Rattle.cpt_sheet.specs.declared.data.NodeLine.{NodeLine}
use Rattle.cpt_cert_form.specs.declared.forms.Version.{Version}
use Rattle.cpt_cert_form.specs.declared.forms.Claim.{Claim}
use Rattle.cpt_cert_form.specs.declared.forms.CertLine.{CertLine}
use Rattle.cpt_cert_form.specs.declared.forms.CertLine.TheVariants as lines
use Rattle.cpt_cert_accept.specs.declared.faults.Why.{Why}
use Rattle.cpt_cert_accept.specs.Accepting.{is_done}
use Rattle.cpt_cert_accept.specs.Trees.{Part, bring_of}
use Rattle.cpt_cert_accept.specs.Reading.{Outcome, After, behind}
use Rattle.cpt_cert_accept.specs.Reading.Outcome.{went, faulted}
use Rattle.cpt_cert_accept.specs.Descent.{Reads}
use Rattle.cpt_cert_accept.specs.Trees.Part.{node, worked}
use Rattle.cpt_walk.specs.declared.walk.Walk.{Walk}
use Rattle.cpt_walk.specs.declared.walk.Place.TheVariants.{Node, Worked}
use Rattle.cpt_walk.specs.Walks.{ReadsParts, parts_left, parts_at, stacked, IsFewIn, IsFewAt, IsFrame, IsPlaceFormed, IsUnread, IsUnreadAt, Leads, FailsAt}
use Rattle.cpt_sections.specs.declared.section.Stage.{Stage}
use Rattle.cpt_sections.specs.declared.section.Section.{Section}
use Rattle.cpt_sections.specs.Stages.{IsStage}
use Rattle.cpt_sections.specs.declared.section.Stage.TheVariants as stages
use Rattle.cpt_sections.specs.declared.section.Trees.{Trees}
use Rattle.cpt_sections.specs.declared.section.Section.TheVariants as sections
use Rattle.cpt_walk.proofs.Turning.{more_few}
use Rattle.cpt_thin.specs.declared.fates.Fate.{Fate}
use Rattle.cpt_thin.specs.declared.fates.Fate.TheVariants.{Fixed, Kept, Dropped}
use Rattle.cpt_thin.specs.Fates.{is_dropped}
use Rattle.cpt_thin.specs.Fronts.{read_of}
use Rattle.cpt_thin.specs.Dooms.{IsDoomed, IsDoomedAt, Goes, IsBack, IsAlone, Meets, line_left}
use Rattle.cpt_thin.specs.declared.doubts.Met.{Met}
use Rattle.cpt_thin.proofs.FrontLines.{one_bring}

-- a line that is dropped leads nowhere
pub goes_nowhere : (t : TaskShape) (b : Tables) (w : Walk) → Goes t b w [] w
goes_nowhere t b w = record {
  going = λ k h. let done = h.done in record { walk = h.walk; unread = h.unread; few = more_few k (k + 1) w (omega arith) h.few; done = omega (arith, done) };
  may_open = refl;
  back = λ rest h. h;
}

pub nowhere : (t : TaskShape) (b : Tables) (w : Walk) (f : Fate) (l : CertLine) → is_dropped f ≡ true → Goes t b w (line_left f l) w
nowhere t b w f l e = rw e (goes_nowhere t b w)

one_more : (done was k : ℕ) (c : Bool) → done ≡ was + (if c then 1 else 0) → was ≤ k → done ≤ k + 1
one_more done was k true e le = omega (arith, e, le)
one_more done was k false e le = omega (arith, e, le)

-- a line that leads on
pub goes_on : (t : TaskShape) (b : Tables) (w v : Walk) (l : NodeLine) → Leads t b w l v → IsUnread v → Goes t b w (lines.Node l ∷ []) v
goes_on t b w v l lead unread = record {
  going = λ k h. let one = one_bring l in record {
    walk = lead.walk;
    unread = unread;
    few = more_few (k + bring_of l) (k + 1) v (omega (arith, one)) (lead.few k h.few);
    done = one_more v.past.done w.past.done k (is_done l) lead.done h.done;
  };
  may_open = lead.may_open;
  back = λ rest doom n. let d = doom (n + 1) in (d.0, (d.1.0, lead.reads n rest (faulted d.0 d.1.0) d.1.1));
}

-- a line that is at fault
pub fails_here : (t : TaskShape) (b : Tables) (w : Walk) (l : NodeLine) (why : Why) → FailsAt t b w l why → (rest : List CertLine) → IsDoomed t b w.past.may_open (parts_left w) ((lines.Node l ∷ []) ++ rest)
fails_here t b w l why h rest = λ n. (n, (why, h n rest))

-- the lines that are left from a place on
left_at : (f : Fate) (l : CertLine) (fs : List Fate) (ls : List CertLine) → read_of (f ∷ fs) (l ∷ ls) ≡ line_left f l ++ read_of fs ls
left_at Fixed l fs ls = refl
left_at Kept l fs ls = refl
left_at Dropped l fs ls = refl

left_behind : (fs : List Fate) (ls : List CertLine) (i : ℕ) (d : Fate) (e : CertLine) → i < length fs → length fs ≡ length ls → read_of (drop i fs) (drop i ls) ≡ line_left (get_or fs i d) (get_or ls i e) ++ read_of (drop (suc i) fs) (drop (suc i) ls)
left_behind [] ls i d e lt same = absurd (omega (arith, lt))
left_behind (f ∷ fs) [] i d e lt same = absurd (omega (arith, same))
left_behind (f ∷ fs) (l ∷ ls) zero d e lt same = left_at f l fs ls
left_behind (f ∷ fs) (l ∷ ls) (suc i) d e lt same = left_behind fs ls i d e (omega (arith, lt)) (omega (arith, same))

pub left_from : (fs : List Fate) (ls : List CertLine) (i : ℕ) (d : Fate) (e : CertLine) → i < length fs → length fs ≡ length ls → read_of (drop i fs) (drop i ls) ≡ line_left (get_or fs i d) (get_or ls i e) ++ read_of (drop (i + 1) fs) (drop (i + 1) ls)
left_from fs ls i d e lt same =
    let one : suc i ≡ i + 1 = omega arith in
    subst (λ z. read_of (drop i fs) (drop i ls) ≡ line_left (get_or fs i d) (get_or ls i e) ++ read_of (drop z fs) (drop z ls)) one (left_behind fs ls i d e lt same)

pub back_start : (t : TaskShape) (b : Tables) (start : Walk) (fs : List Fate) (ls : List CertLine) (place : ℕ) → IsBack t b start start fs ls place place
back_start t b start fs ls place = record { may_open = refl; back = λ rest h. h }

-- the lines from a place on, and what comes behind them
left_rest : (fs : List Fate) (ls rest : List CertLine) (i : ℕ) (d : Fate) (e : CertLine) → i < length fs → length fs ≡ length ls → read_of (drop i fs) (drop i ls) ++ rest ≡ line_left (get_or fs i d) (get_or ls i e) ++ (read_of (drop (i + 1) fs) (drop (i + 1) ls) ++ rest)
left_rest fs ls rest i d e lt same =
    ap (λ z. z ++ rest) (left_from fs ls i d e lt same) ∙ append_assoc (line_left (get_or fs i d) (get_or ls i e)) (read_of (drop (i + 1) fs) (drop (i + 1) ls)) rest

pub back_more : (t : TaskShape) (b : Tables) (start w v : Walk) (fs : List Fate) (ls : List CertLine) (place i : ℕ) (d : Fate) (e : CertLine) → i < length fs → length fs ≡ length ls → IsBack t b start w fs ls place i → Goes t b w (line_left (get_or fs i d) (get_or ls i e)) v → IsBack t b start v fs ls place (i + 1)
back_more t b start w v fs ls place i d e lt same h goes = record {
  may_open = goes.may_open ∙ h.may_open;
  back = λ rest doom.
      let more = read_of (drop (i + 1) fs) (drop (i + 1) ls) ++ rest in
      let one = goes.back more (subst (λ z. IsDoomed t b z (parts_left v) more) (sym h.may_open) doom) in
      let two = subst (λ z. IsDoomed t b z (parts_left w) (line_left (get_or fs i d) (get_or ls i e) ++ more)) h.may_open one in
      h.back rest (subst (IsDoomed t b start.past.may_open (parts_left w)) (sym (left_rest fs ls rest i d e lt same)) two);
}

pub back_fault : (t : TaskShape) (b : Tables) (start w : Walk) (fs : List Fate) (ls : List CertLine) (place i : ℕ) (d : Fate) (e : CertLine) → i < length fs → length fs ≡ length ls → IsBack t b start w fs ls place i →
    ((rest : List CertLine) → IsDoomed t b w.past.may_open (parts_left w) (line_left (get_or fs i d) (get_or ls i e) ++ rest)) → (rest : List CertLine) → IsDoomed t b start.past.may_open (parts_left start) (read_of (drop place fs) (drop place ls) ++ rest)
back_fault t b start w fs ls place i d e lt same h doom rest =
    let more = read_of (drop (i + 1) fs) (drop (i + 1) ls) ++ rest in
    let two = subst (λ z. IsDoomed t b z (parts_left w) (line_left (get_or fs i d) (get_or ls i e) ++ more)) h.may_open (doom more) in
    h.back rest (subst (IsDoomed t b start.past.may_open (parts_left w)) (sym (left_rest fs ls rest i d e lt same)) two)

-- where the first of some parts cannot be read these cannot
pub doomed_more : (t : TaskShape) (b : Tables) (mo : Bool) (p : Part) (ps : List Part) (ls : List CertLine) → IsDoomed t b mo (p ∷ []) ls → IsDoomed t b mo (p ∷ ps) ls
doomed_more t b mo p ps ls h n = let d = h n in (d.0, (d.1.0, go d.0 d.1.0 d.1.1))
  where
    first : (x : Outcome (List NodeLine)) (line : ℕ) (why : Why) → Reads t b mo p n ls x → After (λ f m rest z. (y : Outcome (List NodeLine)) × ReadsParts t b mo [] m rest y × (z ≡ behind (λ g. f ++ g) y)) x (faulted line why) → Reads t b mo p n ls (faulted line why)
    first (went f rest m) line why reads (y, e, k) = absurd (let j : behind (λ g. f ++ g) y ≡ went (f ++ []) rest m = ap (behind (λ g. f ++ g)) e in cc)
    first (faulted at w) line why reads e = subst (Reads t b mo p n ls) (sym e) reads

    go : (line : ℕ) (why : Why) → ReadsParts t b mo (p ∷ []) n ls (faulted line why) → ReadsParts t b mo (p ∷ ps) n ls (faulted line why)
    go line why (x, reads, after) = (faulted line why, first x line why reads after, refl)

-- and neither can the rest of a certificate
pub doomed_nodes : (t : TaskShape) (v : Version) (claim : Claim) (trees : Trees) (b : Tables) (w : Walk) (mo : Bool) (ls : List CertLine) → mo ≡ false → IsDoomed t b mo (parts_left w) ls → IsDoomedAt t (stages.Within v claim (sections.Nodes trees b w)) ls
doomed_nodes t v claim trees b w mo ls e h n = let d = subst (λ z. IsDoomed t b z (parts_left w) ls) e h n in (d.0, (d.1.0, (faulted d.0 d.1.0, (faulted d.0 d.1.0, d.1.1, refl), refl)))

pub doomed_open_nodes : (t : TaskShape) (v : Version) (claim : Claim) (nodes : ℕ) (b : Tables) (w : Walk) (mo : Bool) (ls : List CertLine) → mo ≡ true → IsDoomed t b mo (parts_left w) ls → IsDoomedAt t (stages.Within v claim (sections.OpenNodes nodes b w)) ls
doomed_open_nodes t v claim nodes b w mo ls e h n = let d = subst (λ z. IsDoomed t b z (parts_left w) ls) e h n in (d.0, (d.1.0, (faulted d.0 d.1.0, (faulted d.0 d.1.0, d.1.1, refl), refl)))

-- a walk of which the place of another is left
pub node_alone : (w v : Walk) (s : Sheet) → w.place ≡ Node s → v.place ≡ Node s → v.past.frames.items ≡ [] → v.past.may_open ≡ w.past.may_open → v.past.done ≡ 0 → IsAlone w v
node_alone w v s e k none mo done = record {
  head = node s;
  others = stacked w.past.frames.items [];
  whole = ap (λ p. parts_at p (stacked w.past.frames.items [])) e;
  alone = ap (λ p. parts_at p (stacked v.past.frames.items [])) k ∙ ap (λ fs. node s ∷ stacked fs []) none;
  may_open = mo;
  going = λ t n walk few. record {
    walk = record { frames = subst (All (IsFrame t)) (sym none) (All-nil (IsFrame t)); place = subst (IsPlaceFormed t) (e ∙ sym k) walk.place };
    unread = subst (λ p. IsUnreadAt p v.past) (sym k) tt;
    few = record { frames = subst (All (IsFewIn n)) (sym none) (All-nil (IsFewIn n)); place = subst (IsFewAt n) (e ∙ sym k) few.place };
    done = omega (arith, done);
  };
}

pub work_alone : (w v : Walk) (s : Sheet) → w.place ≡ Worked s → v.place ≡ Worked s → v.past.frames.items ≡ [] → v.past.may_open ≡ w.past.may_open → v.past.done ≡ 0 → IsAlone w v
work_alone w v s e k none mo done = record {
  head = worked s;
  others = stacked w.past.frames.items [];
  whole = ap (λ p. parts_at p (stacked w.past.frames.items [])) e;
  alone = ap (λ p. parts_at p (stacked v.past.frames.items [])) k ∙ ap (λ fs. worked s ∷ stacked fs []) none;
  may_open = mo;
  going = λ t n walk few. record {
    walk = record { frames = subst (All (IsFrame t)) (sym none) (All-nil (IsFrame t)); place = subst (IsPlaceFormed t) (e ∙ sym k) walk.place };
    unread = subst (λ p. IsUnreadAt p v.past) (sym k) tt;
    few = record { frames = subst (All (IsFewIn n)) (sym none) (All-nil (IsFewIn n)); place = subst (IsFewAt n) (e ∙ sym k) few.place };
    done = omega (arith, done);
  };
}

-- where the place alone cannot be read the rest cannot
pub doomed_alone : (t : TaskShape) (b : Tables) (w v : Walk) (ls : List CertLine) → IsAlone w v → IsDoomed t b v.past.may_open (parts_left v) ls → IsDoomed t b w.past.may_open (parts_left w) ls
doomed_alone t b w v ls h doom =
    let here : IsDoomed t b w.past.may_open (h.head ∷ []) ls = subst (λ z. IsDoomed t b z (h.head ∷ []) ls) h.may_open (subst (λ z. IsDoomed t b v.past.may_open z ls) h.alone doom) in
    subst (λ z. IsDoomed t b w.past.may_open z ls) (sym h.whole) (doomed_more t b w.past.may_open h.head h.others ls here)

pub doomed_if : (t : TaskShape) (b : Tables) (w v : Walk) (doomed : Bool) (ls : List CertLine) → IsAlone w v → MatchBool doomed ((rest : List CertLine) → IsDoomed t b v.past.may_open (parts_left v) (ls ++ rest)) ⊤ → MatchBool doomed ((rest : List CertLine) → IsDoomed t b w.past.may_open (parts_left w) (ls ++ rest)) ⊤
doomed_if t b w v true ls h doom = λ rest. doomed_alone t b w v (ls ++ rest) h (doom rest)
doomed_if t b w v false ls h doom = tt

pub nodes_if : (t : TaskShape) (v : Version) (claim : Claim) (trees : Trees) (b : Tables) (w : Walk) (doomed : Bool) (ls : List CertLine) → w.past.may_open ≡ false → MatchBool doomed ((rest : List CertLine) → IsDoomed t b w.past.may_open (parts_left w) (ls ++ rest)) ⊤ →
    MatchBool doomed ((rest : List CertLine) → IsDoomedAt t (stages.Within v claim (sections.Nodes trees b w)) (ls ++ rest)) ⊤
nodes_if t v claim trees b w true ls e h = λ rest. doomed_nodes t v claim trees b w w.past.may_open (ls ++ rest) e (h rest)
nodes_if t v claim trees b w false ls e h = tt

pub open_nodes_if : (t : TaskShape) (v : Version) (claim : Claim) (nodes : ℕ) (b : Tables) (w : Walk) (doomed : Bool) (ls : List CertLine) → w.past.may_open ≡ true → MatchBool doomed ((rest : List CertLine) → IsDoomed t b w.past.may_open (parts_left w) (ls ++ rest)) ⊤ →
    MatchBool doomed ((rest : List CertLine) → IsDoomedAt t (stages.Within v claim (sections.OpenNodes nodes b w)) (ls ++ rest)) ⊤
open_nodes_if t v claim nodes b w true ls e h = λ rest. doomed_open_nodes t v claim nodes b w w.past.may_open (ls ++ rest) e (h rest)
open_nodes_if t v claim nodes b w false ls e h = tt

-- a line that is not dropped
pub met_left : {E : Type 0} (t : TaskShape) (b : Tables) (w : Walk) (f : Fate) (l : CertLine) (r : Result Met E) → is_dropped f ≡ false → IfOk r (Meets t b w (l ∷ [])) → IfOk r (Meets t b w (line_left f l))
met_left t b w f l r e h = rw e h

pub doomed_ok : {E : Type 0} (t : TaskShape) (b : Tables) (w v : Walk) (ls : List CertLine) (r : Result Bool E) → IsAlone w v → IfOk r (λ doomed. MatchBool doomed ((rest : List CertLine) → IsDoomed t b v.past.may_open (parts_left v) (ls ++ rest)) ⊤) → IfOk r (λ doomed. MatchBool doomed ((rest : List CertLine) → IsDoomed t b w.past.may_open (parts_left w) (ls ++ rest)) ⊤)
doomed_ok t b w v ls (Ok doomed) h k = doomed_if t b w v doomed ls h k
doomed_ok t b w v ls (Err e) h k = tt

pub nodes_ok : {E : Type 0} (t : TaskShape) (v : Version) (claim : Claim) (trees : Trees) (b : Tables) (w : Walk) (ls : List CertLine) (r : Result Bool E) → w.past.may_open ≡ false → IfOk r (λ doomed. MatchBool doomed ((rest : List CertLine) → IsDoomed t b w.past.may_open (parts_left w) (ls ++ rest)) ⊤) →
    IfOk r (λ doomed. MatchBool doomed ((rest : List CertLine) → IsDoomedAt t (stages.Within v claim (sections.Nodes trees b w)) (ls ++ rest)) ⊤)
nodes_ok t v claim trees b w ls (Ok doomed) e h = nodes_if t v claim trees b w doomed ls e h
nodes_ok t v claim trees b w ls (Err e) k h = tt

pub open_nodes_ok : {E : Type 0} (t : TaskShape) (v : Version) (claim : Claim) (nodes : ℕ) (b : Tables) (w : Walk) (ls : List CertLine) (r : Result Bool E) → w.past.may_open ≡ true → IfOk r (λ doomed. MatchBool doomed ((rest : List CertLine) → IsDoomed t b w.past.may_open (parts_left w) (ls ++ rest)) ⊤) →
    IfOk r (λ doomed. MatchBool doomed ((rest : List CertLine) → IsDoomedAt t (stages.Within v claim (sections.OpenNodes nodes b w)) (ls ++ rest)) ⊤)
open_nodes_ok t v claim nodes b w ls (Ok doomed) e h = open_nodes_if t v claim nodes b w doomed ls e h
open_nodes_ok t v claim nodes b w ls (Err e) k h = tt

-- the same of a stage that is known by an equation
pub nodes_at : {E : Type 0} (t : TaskShape) (n : ℕ) (s : Stage) (v : Version) (claim : Claim) (x : Section) (trees : Trees) (b : Tables) (w : Walk) (ls : List CertLine) (r : Result Bool E) → s ≡ stages.Within v claim x → x ≡ sections.Nodes trees b w → IsStage t n s →
    IfOk r (λ doomed. MatchBool doomed ((rest : List CertLine) → IsDoomed t b w.past.may_open (parts_left w) (ls ++ rest)) ⊤) → IfOk r (λ doomed. MatchBool doomed ((rest : List CertLine) → IsDoomedAt t s (ls ++ rest)) ⊤)
nodes_at t n s v claim x trees b w ls r e k h d =
    let whole : s ≡ stages.Within v claim (sections.Nodes trees b w) = e ∙ ap (stages.Within v claim) k in
    let stage = subst (IsStage t n) whole h in
    subst (λ z. IfOk r (λ doomed. MatchBool doomed ((rest : List CertLine) → IsDoomedAt t z (ls ++ rest)) ⊤)) (sym whole) (nodes_ok t v claim trees b w ls r stage.1.2.opens d)

pub open_nodes_at : {E : Type 0} (t : TaskShape) (n : ℕ) (s : Stage) (v : Version) (claim : Claim) (x : Section) (nodes : ℕ) (b : Tables) (w : Walk) (ls : List CertLine) (r : Result Bool E) → s ≡ stages.Within v claim x → x ≡ sections.OpenNodes nodes b w → IsStage t n s →
    IfOk r (λ doomed. MatchBool doomed ((rest : List CertLine) → IsDoomed t b w.past.may_open (parts_left w) (ls ++ rest)) ⊤) → IfOk r (λ doomed. MatchBool doomed ((rest : List CertLine) → IsDoomedAt t s (ls ++ rest)) ⊤)
open_nodes_at t n s v claim x nodes b w ls r e k h d =
    let whole : s ≡ stages.Within v claim (sections.OpenNodes nodes b w) = e ∙ ap (stages.Within v claim) k in
    let stage = subst (IsStage t n) whole h in
    subst (λ z. IfOk r (λ doomed. MatchBool doomed ((rest : List CertLine) → IsDoomedAt t z (ls ++ rest)) ⊤)) (sym whole) (open_nodes_ok t v claim nodes b w ls r stage.1.1.opens d)
