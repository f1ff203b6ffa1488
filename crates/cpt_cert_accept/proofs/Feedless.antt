-- no line feed stands in the spelling of a line
use Rattle.std.proofs.Common.{◌≡◌, ◌≢◌, ℕ, ◌≤◌, Bool, true, false, not, ◌&&◌, cond, eqb, List, [], ◌∷◌, ◌++◌, map, codes, All, refl, arith, append_assoc}
use Rattle.std.specs.Char.{is_ascii_digit}
use Rattle.std.specs.Fmt.{decimal}
use Rattle.std.specs.List.{flat_map}
use Rattle.std.specs.Str.{all_ascii_digits}
use Rattle.std.proofs.lemmas.Bool.{and_parts, and_from, not-true, eqb-false, ne_eqb}
use Rattle.std.proofs.lemmas.Fmt.{digits_decimal}
use Rattle.std.proofs.lemmas.List.Elements.{All-nil, All-cons, All-head, All-tail}
use Rattle.std.proofs.lemmas.Str.Parse.{tells_all_ascii_digits}
use Rattle.cpt_task.specs.declared.span.Span.{Span}
use Rattle.cpt_task.specs.declared.span.Span.TheVariants.{At, Never}
use Rattle.cpt_sheet.specs.declared.data.Cand.{Cand}
use Rattle.cpt_sheet.specs.declared.data.Cand.TheVariants.{Tok, Out}
use Rattle.cpt_sheet.specs.declared.data.Decision.{Decision}
use Rattle.cpt_sheet.specs.declared.data.Decision.TheVariants.{Join, Bring, Before}
use Rattle.cpt_sheet.specs.declared.data.Flaw.{Flaw}
use Rattle.cpt_sheet.specs.declared.data.Flaw.TheVariants.{Threat, OpenNeed, Clash}
use Rattle.cpt_sheet.specs.declared.data.Step.{Step}
use Rattle.cpt_sheet.specs.declared.data.Step.TheVariants.{R1, R2, R3, R4, R5, R6, R7, R8, R9After, R9Ahead, R10, R11After, R11Ahead, R12After, R12Ahead, R13}
use Rattle.cpt_sheet.specs.declared.data.NodeLine.{NodeLine}
use Rattle.cpt_sheet.specs.declared.data.NodeLine.TheVariants.{Child, Narrow, Close, Branch, OpenNode}
use Rattle.cpt_cert_form.specs.declared.forms.Version.{Version}
use Rattle.cpt_cert_form.specs.declared.forms.Version.TheVariants.{One, Two}
use Rattle.cpt_cert_form.specs.declared.forms.Claim.{Claim}
use Rattle.cpt_cert_form.specs.declared.forms.Claim.TheVariants as claims
use Rattle.cpt_cert_form.specs.declared.forms.Run.{Run}
use Rattle.cpt_cert_form.specs.declared.forms.CertLine.{CertLine}
use Rattle.cpt_cert_form.specs.declared.forms.CertLine.TheVariants as lines
use Rattle.cpt_cert_form.specs.Forms.{IsShort, IsShortSpan, IsShortCand, IsShortStep, IsShortNode, IsShortDecision, IsShortFlaw, IsClaim, IsRowSpan, IsRun, IsWritten, span_word, cand_word, run_word, step_words, node_words, decision_words, flaw_words, claim_words, line_words, joined, spelled}
use Rattle.cpt_cert_read.specs.Lines.{HasNoEnd}
use Rattle.cpt_cert_read.proofs.Numerals.{own}

-- no line feed stands in it
abbrev is_unfed : List ℕ → Bool
is_unfed [] = true
is_unfed (b ∷ bs) = not (eqb b 10) && is_unfed bs

abbrev are_unfed : List (List ℕ) → Bool
are_unfed [] = true
are_unfed (w ∷ ws) = is_unfed w && are_unfed ws

unfed_digits : (ds : List ℕ) → all_ascii_digits ds ≡ true → is_unfed ds ≡ true
unfed_digits [] h = refl
unfed_digits (d ∷ ds) h =
    let p = and_parts (is_ascii_digit d) (all_ascii_digits ds) h in
    let within = (tells_all_ascii_digits.parts d ds h).0 in
    rw (ne_eqb d 10 (λ e. omega (arith, within, e))) (unfed_digits ds p.1)

-- no line feed stands in a number
number_unfed : (n : ℕ) → IsShort n → is_unfed (decimal n) ≡ true
number_unfed n short = unfed_digits (decimal n) (digits_decimal own n (omega (arith, short)))

span_unfed : (v : Span) → IsShortSpan v → is_unfed (span_word v) ≡ true
span_unfed (At n) short = number_unfed n short
span_unfed Never short = refl

cand_unfed : (c : Cand) → IsShortCand c → is_unfed (cand_word c) ≡ true
cand_unfed (Tok n) short = number_unfed n short
cand_unfed (Out n) short = number_unfed n short

short_span : (v : Span) → IsRowSpan v → IsShortSpan v
short_span (At n) h = omega (arith, h)
short_span Never h = tt

unfed_append : (v w : List ℕ) → is_unfed v ≡ true → is_unfed w ≡ true → is_unfed (v ++ w) ≡ true
unfed_append [] w h k = k
unfed_append (b ∷ bs) w h k =
    let p = and_parts (not (eqb b 10)) (is_unfed bs) h in
    and_from (not (eqb b 10)) (is_unfed (bs ++ w)) p.0 (unfed_append bs w p.1 k)

run_unfed_by : (v : Span) (n : ℕ) (t : Bool) → IsShortSpan v → IsShort n → is_unfed (cond t (span_word v) (span_word v ++ codes "*" ++ decimal n)) ≡ true
run_unfed_by v n true short few = span_unfed v short
run_unfed_by v n false short few = rw (append_assoc (span_word v) (42 ∷ []) (decimal n)) (unfed_append (span_word v) (42 ∷ decimal n) (span_unfed v short) (number_unfed n few))

-- no line feed stands in a value
runs_unfed : (runs : List Run) → All IsRun runs → are_unfed (map run_word runs) ≡ true
runs_unfed [] h = refl
runs_unfed (run ∷ runs) h =
    let first : IsRun run = All-head IsRun run runs h in
    let le : run.count ≤ 2048 = first.few in
    and_from (is_unfed (run_word run)) (are_unfed (map run_word runs)) (run_unfed_by run.value run.count (eqb run.count 1) (short_span run.value first.value) (omega (arith, le))) (runs_unfed runs (All-tail IsRun run runs h))

step_unfed : (s : Step) → IsShortStep s → are_unfed (step_words s) ≡ true
step_unfed (R1 x y v) h = rw (number_unfed x h.0, number_unfed y h.1, span_unfed v h.2) refl
step_unfed (R2 x y v) h = rw (number_unfed x h.0, number_unfed y h.1, span_unfed v h.2) refl
step_unfed (R3 x y) h = rw (number_unfed x h.0, number_unfed y h.1) refl
step_unfed (R4 x p v) h = rw (number_unfed x h.0, number_unfed p h.1, span_unfed v h.2) refl
step_unfed (R5 x p c) h = rw (number_unfed x h.0, number_unfed p h.1, cand_unfed c h.2) refl
step_unfed (R6 x p) h = rw (number_unfed x h.0, number_unfed p h.1) refl
step_unfed (R7 x p a) h = rw (number_unfed x h.0, number_unfed p h.1, cand_unfed (Out a) h.2) refl
step_unfed (R8 x p c d) h = rw (number_unfed x h.0, number_unfed p h.1, cand_unfed c h.2, number_unfed d h.3) refl
step_unfed (R9After x p d) h = rw (number_unfed x h.0, number_unfed p h.1, number_unfed d h.2) refl
step_unfed (R9Ahead x p d) h = rw (number_unfed x h.0, number_unfed p h.1, number_unfed d h.2) refl
step_unfed (R10 a p v) h = rw (number_unfed a h.0, number_unfed p h.1, span_unfed v h.2) refl
step_unfed (R11After x p a v) h = rw (number_unfed x h.0, number_unfed p h.1, number_unfed a h.2, span_unfed v h.3) refl
step_unfed (R11Ahead x p a v) h = rw (number_unfed x h.0, number_unfed p h.1, number_unfed a h.2, span_unfed v h.3) refl
step_unfed (R12After x a v) h = rw (number_unfed x h.0, number_unfed a h.1, span_unfed v h.2) refl
step_unfed (R12Ahead x a v) h = rw (number_unfed x h.0, number_unfed a h.1, span_unfed v h.2) refl
step_unfed (R13 x p c q) h = rw (number_unfed x h.0, number_unfed p h.1, cand_unfed c h.2, number_unfed q h.3) refl

decision_unfed : (d : Decision) → IsShortDecision d → are_unfed (decision_words d) ≡ true
decision_unfed (Join x p y) h = rw (number_unfed x h.0, number_unfed p h.1, number_unfed y h.2) refl
decision_unfed (Bring x p a) h = rw (number_unfed x h.0, number_unfed p h.1, number_unfed a h.2) refl
decision_unfed (Before x y) h = rw (number_unfed x h.0, number_unfed y h.1) refl

flaw_unfed : (f : Flaw) → IsShortFlaw f → are_unfed (flaw_words f) ≡ true
flaw_unfed (Threat x p d) h = rw (number_unfed x h.0, number_unfed p h.1, number_unfed d h.2) refl
flaw_unfed (OpenNeed x p) h = rw (number_unfed x h.0, number_unfed p h.1) refl
flaw_unfed (Clash x y) h = rw (number_unfed x h.0, number_unfed y h.1) refl

node_unfed : (l : NodeLine) → IsShortNode l → are_unfed (node_words l) ≡ true
node_unfed (Child d) h = rw (decision_unfed d h) refl
node_unfed (Narrow step) h = step_unfed step h
node_unfed Close h = refl
node_unfed (Branch f) h = rw (flaw_unfed f h) refl
node_unfed OpenNode h = refl

claim_unfed : (c : Claim) → IsClaim c → are_unfed (claim_words c) ≡ true
claim_unfed (claims.Optimal m) h = let le : m ≤ 1000000 = h in rw (number_unfed m (omega (arith, le))) refl
claim_unfed (claims.NoneUpTo m) h = let le : m ≤ 1000000 = h in rw (number_unfed m (omega (arith, le))) refl
claim_unfed claims.Never h = refl
claim_unfed (claims.Spent r n) h =
    let few : r ≤ 999999 = h.0 in
    let most : n ≤ 4294967295 = h.2 in
    rw (number_unfed r (omega (arith, few)), number_unfed n (omega (arith, most))) refl

version_unfed : (v : Version) → are_unfed (line_words (lines.First v)) ≡ true
version_unfed One = refl
version_unfed Two = refl

-- no line feed stands in the words of a line
line_unfed : (line : CertLine) → IsWritten line → are_unfed (line_words line) ≡ true
line_unfed (lines.First v) h = version_unfed v
line_unfed (lines.Claimed c) h = rw (claim_unfed c h) refl
line_unfed (lines.Sizes atoms actions) h = rw (number_unfed atoms h.0, number_unfed actions h.1) refl
line_unfed (lines.Plan k) h = let le : k ≤ 4294967295 = h in rw (number_unfed k (omega (arith, le))) refl
line_unfed (lines.Item start act) h = rw (number_unfed start h.0, number_unfed act h.1) refl
line_unfed lines.Pairs h = refl
line_unfed (lines.PairRow runs) h = rw (runs_unfed runs h.all) refl
line_unfed lines.Dists h = refl
line_unfed (lines.DistRow runs) h = rw (runs_unfed runs h.all) refl
line_unfed (lines.Tree b) h = rw (number_unfed b h) refl
line_unfed (lines.OpenTree b) h = rw (number_unfed b h) refl
line_unfed (lines.Node line) h = node_unfed line h
line_unfed lines.End h = refl
line_unfed lines.Strange h = absurd h

words_unfed : (ws : List (List ℕ)) → are_unfed ws ≡ true → is_unfed (flat_map (λ w. 32 ∷ w) ws) ≡ true
words_unfed [] h = refl
words_unfed (w ∷ ws) h =
    let p = and_parts (is_unfed w) (are_unfed ws) h in unfed_append (32 ∷ w) (flat_map (λ v. 32 ∷ v) ws) p.0 (words_unfed ws p.1)

joined_unfed : (ws : List (List ℕ)) → are_unfed ws ≡ true → is_unfed (joined ws) ≡ true
joined_unfed [] h = refl
joined_unfed (w ∷ ws) h = let p = and_parts (is_unfed w) (are_unfed ws) h in unfed_append w (flat_map (λ v. 32 ∷ v) ws) p.0 (words_unfed ws p.1)

has_no_end : (bs : List ℕ) → is_unfed bs ≡ true → HasNoEnd bs
has_no_end [] h = All-nil (λ b. b ≢ 10)
has_no_end (b ∷ bs) h =
    let p = and_parts (not (eqb b 10)) (is_unfed bs) h in All-cons (λ c. c ≢ 10) b bs (eqb-false b 10 (not-true (eqb b 10) p.0)) (has_no_end bs p.1)

-- no line feed stands in the spelling of a line
pub feedless : (line : CertLine) → IsWritten line → HasNoEnd (spelled line)
feedless line h = has_no_end (spelled line) (joined_unfed (line_words line) (line_unfed line h))
