-- the lines that are not dropped, read one after another
use Rattle.std.proofs.Common.{◌≡◌, ℕ, ◌+◌, ◌<◌, ◌≤◌, List, [], ◌∷◌, ◌++◌, length, map, take, get_or, Bor, refl, sym, ap, ◌∙◌, subst, arith, append_assoc, length-append}
use Rattle.std.specs.List.{AllZip}
use Rattle.std.proofs.lemmas.List.{take_more, length-map, get_or-map}
use Rattle.cpt_task.specs.Shape.{TaskShape}
use Rattle.cpt_sheet.specs.declared.data.NodeLine.{NodeLine}
use Rattle.cpt_sheet.specs.declared.data.NodeLine.TheVariants.{Child}
use Rattle.cpt_sheet.specs.declared.data.Decision.TheVariants.{Bring}
use Rattle.cpt_cert_form.specs.declared.forms.Version.{Version}
use Rattle.cpt_cert_form.specs.declared.forms.Claim.{Claim}
use Rattle.cpt_cert_form.specs.declared.forms.CertLine.{CertLine}
use Rattle.cpt_cert_form.specs.declared.forms.CertLine.TheVariants as lines
use Rattle.cpt_cert_form.specs.Forms.{IsReadAs}
use Rattle.cpt_cert_accept.specs.Reading.{Outcome}
use Rattle.cpt_cert_accept.specs.Descent.{ReadsAll}
use Rattle.cpt_cert_accept.specs.Trees.{bring_of}
use Rattle.cpt_cert_accept.specs.Texts.{bring_in}
use Rattle.cpt_sections.specs.declared.section.Stage.{Stage}
use Rattle.cpt_sections.specs.declared.section.Stage.TheVariants as stages
use Rattle.cpt_sections.specs.Stages.{LeftOf, IsStage, HasFewAt, Advances}
use Rattle.cpt_sections.proofs.StageLines.{more_few_at}
use Rattle.cpt_thin.specs.declared.fronts.Front.{Front}
use Rattle.cpt_thin.specs.declared.fates.Fate.{Fate}
use Rattle.cpt_thin.specs.declared.fates.Fate.TheVariants.{Fixed, Kept, Dropped}
use Rattle.cpt_thin.specs.Dooms.{line_left}
use Rattle.cpt_thin.specs.Fronts.{IsFrontOf}

pub one_bring : (l : NodeLine) → bring_of l ≤ 1
one_bring (Child (Bring x p a)) = omega arith
one_bring _ = omega arith

pub one_brought : (l : CertLine) → bring_in l ≤ 1
one_brought (lines.Node l) = one_bring l
one_brought _ = omega arith

-- nothing is read
pub no_front : (t : TaskShape) → IsFrontOf t [] (record { stage = stages.First; count = 0 })
no_front t = record { count = refl; stage = tt; few = tt; reads = λ ls x h. h }

-- what may come next
pub front_stage : (t : TaskShape) (read : List CertLine) (f : Front) → IsFrontOf t read f → IsStage t (f.count + 1) f.stage
front_stage t read f h = subst (λ z. IsStage t (z + 1) f.stage) (sym h.count) h.stage

pub front_few : (t : TaskShape) (read : List CertLine) (f : Front) → IsFrontOf t read f → f.count < 16777216 → HasFewAt 4294967292 f.stage
front_few t read f h few = let count = h.count in more_few_at (length read) 4294967292 f.stage (omega (arith, count, few)) h.few

-- a line led on
pub front_more : (t : TaskShape) (read : List CertLine) (f : Front) (line : CertLine) (new : Stage) → IsFrontOf t read f → Advances t f.stage (f.count + 1) line new → IsFrontOf t (read ++ line ∷ []) (record { stage = new; count = f.count + 1 })
front_more t read f line new h a =
    let size : length (read ++ line ∷ []) ≡ length read + 1 = length-append read (line ∷ []) in
    let count : f.count ≡ length read = h.count in
    let one = one_brought line in
    let n : f.count + 1 + 1 ≡ length (read ++ line ∷ []) + 1 = omega (arith, size, count) in
    let here : f.count + 1 ≡ length read + 1 = omega (arith, count) in
    let reads : (ls : List CertLine) (x : Outcome (Version × Claim)) → LeftOf t new (f.count + 1 + 1) ls x → ReadsAll t ((read ++ line ∷ []) ++ ls) x =
    λ ls x k. subst (λ z. ReadsAll t z x) (sym (append_assoc read (line ∷ []) ls)) (h.reads (line ∷ ls) x (subst (λ z. LeftOf t f.stage z (line ∷ ls) x) here (a.reads ls x k))) in
    record {
      count = omega (arith, size, count);
      stage = subst (λ z. IsStage t z new) n a.stage;
      few = more_few_at (length read + bring_in line) (length (read ++ line ∷ [])) new (omega (arith, size, one)) (a.few (length read) h.few);
      reads = λ ls x k. reads ls x (subst (λ z. LeftOf t new z ls x) (sym n) k);
    }

read_push : (bs : List (List ℕ)) (ls : List CertLine) (b : List ℕ) (l : CertLine) → AllZip IsReadAs bs ls → IsReadAs b l → AllZip IsReadAs (bs ++ b ∷ []) (ls ++ l ∷ [])
read_push [] [] b l h k = (k, tt)
read_push [] (m ∷ ls) b l h k = absurd h
read_push (c ∷ bs) [] b l h k = absurd h
read_push (c ∷ bs) (m ∷ ls) b l h k = (h.0, read_push bs ls b l h.1 k)

-- what one body more is read as
pub read_more : (bodies : List (Bor (List ℕ))) (i : ℕ) (e : Bor (List ℕ)) (ls : List CertLine) (l : CertLine) → i < length bodies → AllZip IsReadAs (take i (map (λ (b : Bor (List ℕ)). b.now) bodies)) ls → IsReadAs (get_or bodies i e).now l →
    AllZip IsReadAs (take (i + 1) (map (λ (b : Bor (List ℕ)). b.now) bodies)) (ls ++ l ∷ [])
read_more bodies i e ls l lt h k =
    let now : Bor (List ℕ) → List ℕ = λ b. b.now in
    let size = length-map bodies now in
    let more : take (i + 1) (map now bodies) ≡ take i (map now bodies) ++ (get_or bodies i e).now ∷ [] = take_more (map now bodies) i e.now (omega (arith, lt, size)) ∙ ap (λ z. take i (map now bodies) ++ z ∷ []) (get_or-map now bodies i e e.now lt) in
    subst (λ z. AllZip IsReadAs z (ls ++ l ∷ [])) (sym more) (read_push (take i (map now bodies)) ls (get_or bodies i e).now l h k)

-- a line is one line, or none where it is dropped
pub few_left : (read : List CertLine) (f : Fate) (l : CertLine) → length (read ++ line_left f l) ≤ length read + 1
few_left read Fixed l = let size = length-append read (l ∷ []) in omega (arith, size)
few_left read Kept l = let size = length-append read (l ∷ []) in omega (arith, size)
few_left read Dropped l = let size = length-append read [] in omega (arith, size)
