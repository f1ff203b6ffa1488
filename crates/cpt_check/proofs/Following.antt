-- the bytes that a library gives, one piece behind another
use Rattle.std.proofs.Common.{◌≡◌, ℕ, ◌+◌, ◌<◌, ◌≤◌, List, [], ◌∷◌, ◌++◌, length, take, Option, None, Some, Ok, Err, refl, sym, ap, ◌∙◌, subst, arith, append_assoc, append-nil, length-append}
use Rattle.cpt_task.specs.Shape.{TaskShape}
use Rattle.cpt_cert_form.specs.declared.forms.CertLine.{CertLine}
use Rattle.cpt_io.specs.Meaning.{Pulls}
use Rattle.cpt_check.specs.declared.past.Fault.{Fault}
use Rattle.cpt_check.specs.declared.past.Found.TheVariants as founds
use Rattle.cpt_check.specs.declared.judged.CheckError.{CheckError}
use Rattle.cpt_check.specs.declared.judged.CheckError.TheVariants as errors
use Rattle.cpt_check.specs.declared.judged.Judged.{Judged}
use Rattle.cpt_check.specs.declared.judged.Ruling.TheVariants.{Rejected}
use Rattle.cpt_check.specs.Judging.{IsFront, StandsIn, IsRejected, IsTooLong, Rules, RulesOf, Leaves, LeavesOf}
use Rattle.cpt_check.specs.Progress.{TakesFront, Follows}
use Rattle.cpt_check.proofs.Concluding.{found_rejected, found_last, read_too_long}

-- nothing came yet
pub follows_none : (told : Option (List ℕ)) → Follows told [] told
follows_none None = tt
follows_none (Some text) = (text, refl, refl)

pulled_some : (n : ℕ) (piece bytes text rest : List ℕ) (new : Option (List ℕ)) → text ≡ bytes ++ rest → Pulls (Some rest) new n piece → (ys : List ℕ) × (new ≡ Some ys) × (text ≡ (bytes ++ take n piece) ++ ys)
pulled_some n piece bytes text rest None e p = absurd p
pulled_some n piece bytes text rest (Some ys) e p = (ys, refl, e ∙ ap (λ z. bytes ++ z) p.0 ∙ sym (append_assoc bytes (take n piece) ys))

-- a piece came
pub follows_more : (told : Option (List ℕ)) (bytes piece : List ℕ) (n : ℕ) (old new : Option (List ℕ)) → Follows told bytes old → Pulls old new n piece → Follows told (bytes ++ take n piece) new
follows_more None bytes piece n old new h p = tt
follows_more (Some text) bytes piece n old new h p = pulled_some n piece bytes text h.0 new h.2 (subst (λ o. Pulls o new n piece) h.1 p)

nothing_left : (n : ℕ) (piece rest : List ℕ) (new : Option (List ℕ)) → n ≡ 0 → 0 < length piece → Pulls (Some rest) new n piece → (rest ≡ []) × (new ≡ Some [])
nothing_left n piece rest None zero room p = absurd p
nothing_left n piece rest (Some ys) zero room p =
    let none : rest ≡ [] = (p.1 room).0 zero in
    let size : length rest ≡ length (take n piece) + length ys = ap length p.0 ∙ length-append (take n piece) ys in
    (none, ap Some (empty ys (let same : length rest ≡ 0 = ap length none in omega (arith, size, same))))
  where
    empty : (xs : List ℕ) → length xs ≡ 0 → xs ≡ []
    empty [] h = refl
    empty (x ∷ xs) h = absurd (omega (arith, h))

-- no bytes came into a piece with room: all came
pub follows_all : (told : Option (List ℕ)) (text bytes piece : List ℕ) (n : ℕ) (old new : Option (List ℕ)) → told ≡ Some text → n ≡ 0 → 0 < length piece → Follows told bytes old → Pulls old new n piece → (text ≡ bytes) × (new ≡ Some [])
follows_all told text bytes piece n old new e zero room h p = go (subst (λ z. Follows z bytes old) e h)
  where
    go : Follows (Some text) bytes old → (text ≡ bytes) × (new ≡ Some [])
    go k = let none = nothing_left n piece k.0 new zero room (subst (λ o. Pulls o new n piece) k.1 p) in (k.2 ∙ ap (λ z. bytes ++ z) none.0 ∙ append-nil bytes, none.1)

regroup : (text bytes front more rest piece : List ℕ) → text ≡ (bytes ++ piece) ++ rest → piece ≡ front ++ more → text ≡ (bytes ++ front) ++ (more ++ rest)
regroup text bytes front more rest piece e k =
    e ∙ ap (λ z. (bytes ++ z) ++ rest) k ∙ append_assoc bytes (front ++ more) rest ∙ ap (λ z. bytes ++ z) (append_assoc front more rest) ∙ sym (append_assoc bytes front (more ++ rest))

-- a fault is known in a piece
fault_rules : (t : TaskShape) (told left : Option (List ℕ)) (text bytes piece : List ℕ) (room most : ℕ) (pending : List ℕ) (f : Fault) →
    told ≡ Some text → Follows told (bytes ++ piece) left → length bytes + room ≡ most → TakesFront t bytes piece room pending (Ok (founds.Fault f)) → IsRejected t most text f.version f.line f.why
fault_rules t told left text bytes piece room most pending f e h size (front, more, parts, le, found) = go (subst (λ z. Follows z (bytes ++ piece) left) e h)
  where
    go : Follows (Some text) (bytes ++ piece) left → IsRejected t most text f.version f.line f.why
    go k =
        let few = length-append bytes front in
        subst (λ z. IsRejected t most z f.version f.line f.why) (sym (regroup text bytes front more k.0 piece k.2 parts)) (found_rejected t most (bytes ++ front) (more ++ k.0) f found (omega (arith, size, le, few)))

pub fault_leaves : (t : TaskShape) (told left : Option (List ℕ)) (text bytes piece : List ℕ) (room : ℕ) (pending : List ℕ) (f : Fault) →
    told ≡ Some text → Follows told (bytes ++ piece) left → length piece ≤ 65536 → TakesFront t bytes piece room pending (Ok (founds.Fault f)) → LeavesOf t text left (Rejected f.line f.why)
fault_leaves t told left text bytes piece room pending f e h few (front, more, parts, le, found) = go (subst (λ z. Follows z (bytes ++ piece) left) e h)
  where
    go : Follows (Some text) (bytes ++ piece) left → LeavesOf t text left (Rejected f.line f.why)
    go k = (bytes ++ piece, record { rest = k.0; parts = k.2; left_is = k.1 }, λ n ls at s. close n (last n ls at s))
      where
        last : (n : ℕ) (ls : List CertLine) → IsFront text n ls → StandsIn t ls f.line f.why → length (bytes ++ front) ≤ n
        last n ls at s = found_last t (bytes ++ front) (more ++ k.0) f n ls found (subst (λ z. IsFront z n ls) (regroup text bytes front more k.0 piece k.2 parts) at) s

        close : (n : ℕ) → length (bytes ++ front) ≤ n → length (bytes ++ piece) ≤ n + 65536
        close n far =
            let one = length-append bytes piece in
            let two = length-append bytes front in omega (arith, far, one, two, few)

-- more bytes came than may be taken
too_long_rules : (t : TaskShape) (told left : Option (List ℕ)) (text bytes piece : List ℕ) (room most : ℕ) (pending : List ℕ) →
    told ≡ Some text → Follows told (bytes ++ piece) left → length bytes + room ≡ most → TakesFront t bytes piece room pending (Err errors.TooLong) → IsTooLong t most text
too_long_rules t told left text bytes piece room most pending e h size (front, more, new, parts, all, lt, read) = go (subst (λ z. Follows z (bytes ++ piece) left) e h)
  where
    go : Follows (Some text) (bytes ++ piece) left → IsTooLong t most text
    go k =
        let same = regroup text bytes front more k.0 piece k.2 parts in
        let one = length-append bytes front in
        let two = length-append (bytes ++ front) (more ++ k.0) in
        let three = length-append more k.0 in
        let four : length piece ≡ length front + length more = ap length parts ∙ length-append front more in
        subst (IsTooLong t most) (sym same) (read_too_long t most (bytes ++ front) (more ++ k.0) new pending read (omega (arith, size, all, one)) (omega (arith, size, all, lt, one, two, three, four)))

-- an error of taking a piece
pub err_rules : (t : TaskShape) (told left : Option (List ℕ)) (text bytes piece : List ℕ) (room most : ℕ) (pending : List ℕ) (e : CheckError) →
    told ≡ Some text → Follows told (bytes ++ piece) left → length bytes + room ≡ most → TakesFront t bytes piece room pending (Err e) → Rules t most text (Err e)
err_rules t told left text bytes piece room most pending errors.TooLong same h size k = too_long_rules t told left text bytes piece room most pending same h size k
err_rules t told left text bytes piece room most pending errors.Failed same h size k = absurd k
err_rules t told left text bytes piece room most pending errors.Memory same h size k = tt

pub never_failed : (t : TaskShape) (bytes piece : List ℕ) (room : ℕ) (pending : List ℕ) (e : CheckError) → TakesFront t bytes piece room pending (Err e) → e ≡ errors.Failed → ⊥
never_failed t bytes piece room pending e h same = subst (λ z. TakesFront t bytes piece room pending (Err z)) same h

pub fault_ruling : (t : TaskShape) (told left : Option (List ℕ)) (text bytes piece : List ℕ) (room most : ℕ) (pending : List ℕ) (f : Fault) (j : Judged) → j.version ≡ f.version → j.ruling ≡ Rejected f.line f.why →
    told ≡ Some text → Follows told (bytes ++ piece) left → length bytes + room ≡ most → TakesFront t bytes piece room pending (Ok (founds.Fault f)) → RulesOf t most text j.version j.ruling
fault_ruling t told left text bytes piece room most pending f j version ruling e h size k =
    subst (λ z. RulesOf t most text z j.ruling) (sym version) (subst (RulesOf t most text f.version) (sym ruling) (fault_rules t told left text bytes piece room most pending f e h size k))

-- what is left at an error of taking a piece
pub err_leaves : (t : TaskShape) (told left : Option (List ℕ)) (text bytes piece : List ℕ) (room most : ℕ) (pending : List ℕ) (e : CheckError) →
    told ≡ Some text → Follows told (bytes ++ piece) left → length bytes + room ≡ most → length piece ≤ 65536 → TakesFront t bytes piece room pending (Err e) → Leaves t most text left (Err e)
err_leaves t told left text bytes piece room most pending errors.TooLong same h size few k = go (subst (λ z. Follows z (bytes ++ piece) left) same h)
  where
    go : Follows (Some text) (bytes ++ piece) left → Leaves t most text left (Err errors.TooLong)
    go f =
        let one = length-append bytes piece in (bytes ++ piece, record { rest = f.0; parts = f.2; left_is = f.1 }, omega (arith, size, few, one))
err_leaves t told left text bytes piece room most pending errors.Failed same h size few k = absurd k
err_leaves t told left text bytes piece room most pending errors.Memory same h size few k = tt

-- these bytes are a text, and all of it came
pub all_came : (bytes : List ℕ) → Follows (Some bytes) bytes (Some [])
all_came bytes = ([], refl, sym (append-nil bytes))
