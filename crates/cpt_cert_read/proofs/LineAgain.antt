-- What is spelled as a line is read as that line.
use Rattle.std.proofs.Common.{◌≡◌, ℕ, ◌≤◌, true, false, List, [], ◌∷◌, None, Some, codes, refl, arith}
use Rattle.std.specs.Fmt.{decimal}
use Rattle.std.proofs.lemmas.Bool.{ne_eqb}
use Rattle.cpt_sheet.specs.declared.data.Cand.TheVariants.{Out}
use Rattle.cpt_sheet.specs.declared.data.Decision.{Decision}
use Rattle.cpt_sheet.specs.declared.data.Decision.TheVariants.{Join, Bring, Before}
use Rattle.cpt_sheet.specs.declared.data.Flaw.{Flaw}
use Rattle.cpt_sheet.specs.declared.data.Flaw.TheVariants.{Threat, OpenNeed, Clash}
use Rattle.cpt_sheet.specs.declared.data.Step.{Step}
use Rattle.cpt_sheet.specs.declared.data.Step.TheVariants.{R1, R2, R3, R4, R5, R6, R7, R8, R9After, R9Ahead, R10, R11After, R11Ahead, R12After, R12Ahead, R13}
use Rattle.cpt_sheet.specs.declared.data.NodeLine.{NodeLine}
use Rattle.cpt_sheet.specs.declared.data.NodeLine.TheVariants.{Child, Narrow, Close, Branch, OpenNode}
use Rattle.cpt_cert_form.specs.declared.forms.Version.{Version}
use Rattle.cpt_cert_form.specs.declared.forms.Version.TheVariants.{One, Two}
use Rattle.cpt_cert_form.specs.declared.forms.Claim.{Claim}
use Rattle.cpt_cert_form.specs.declared.forms.Claim.TheVariants as claims
use Rattle.cpt_cert_form.specs.declared.forms.CertLine.{CertLine}
use Rattle.cpt_cert_form.specs.declared.forms.CertLine.TheVariants as lines
use Rattle.cpt_cert_form.specs.Forms.{IsShort, IsShortStep, IsShortNode, IsShortDecision, IsShortFlaw, IsClaim, IsWritten, capped_step, capped_node, capped_decision, capped_flaw, capped_line, step_words, node_words, decision_words, flaw_words, claim_words, line_words}
use Rattle.cpt_cert_read.specs.Reading.{is_numeral, number_in, alone_number_in, alone_limited_in, alone_span_in, alone_cand_in, alone_out_in, cand_id_in, id_side_in, side_span_in, id_side_span_in, two_ids_in, three_ids_in, two_numbers_in, version_in, spent_in, claim_in, decision_in, flaw_in, node_in, step_in, numbered_in, worded_in, named_in, line_in}
use Rattle.cpt_cert_read.proofs.Joining.{are_solid}
use Rattle.cpt_cert_read.proofs.Numerals.{number_again, number_solid}
use Rattle.cpt_cert_read.proofs.RowRead.{row_again, runs_solid}
use Rattle.cpt_cert_read.proofs.WordRead.{id_again, limited_again, span_again, cand_again, out_again, after_again, ahead_again, span_solid, cand_solid}

step_again : (s : Step) → IsShortStep s → line_in (step_words s) ≡ Some (lines.Node (Narrow (capped_step s)))
unfolding line_in numbered_in step_in alone_span_in alone_cand_in alone_out_in cand_id_in id_side_in side_span_in id_side_span_in number_in
step_again (R1 x y v) h = rw (id_again x h.0, id_again y h.1, span_again v h.2) refl
step_again (R2 x y v) h = rw (id_again x h.0, id_again y h.1, span_again v h.2) refl
step_again (R3 x y) h = rw (id_again x h.0, id_again y h.1) refl
step_again (R4 x p v) h = rw (id_again x h.0, id_again p h.1, span_again v h.2) refl
step_again (R5 x p c) h = rw (id_again x h.0, id_again p h.1, cand_again c h.2) refl
step_again (R6 x p) h = rw (id_again x h.0, id_again p h.1) refl
step_again (R7 x p a) h = rw (id_again x h.0, id_again p h.1, out_again a h.2) refl
step_again (R8 x p c d) h = rw (id_again x h.0, id_again p h.1, cand_again c h.2, id_again d h.3) refl
step_again (R9After x p d) h = rw (id_again x h.0, id_again p h.1, id_again d h.2, after_again) refl
step_again (R9Ahead x p d) h = rw (id_again x h.0, id_again p h.1, id_again d h.2, ahead_again) refl
step_again (R10 a p v) h = rw (id_again a h.0, id_again p h.1, span_again v h.2) refl
step_again (R11After x p a v) h = rw (id_again x h.0, id_again p h.1, id_again a h.2, after_again, span_again v h.3) refl
step_again (R11Ahead x p a v) h = rw (id_again x h.0, id_again p h.1, id_again a h.2, ahead_again, span_again v h.3) refl
step_again (R12After x a v) h = rw (id_again x h.0, id_again a h.1, after_again, span_again v h.2) refl
step_again (R12Ahead x a v) h = rw (id_again x h.0, id_again a h.1, ahead_again, span_again v h.2) refl
step_again (R13 x p c q) h = rw (id_again x h.0, id_again p h.1, cand_again c h.2, id_again q h.3) refl

decision_again : (d : Decision) → IsShortDecision d → decision_in (decision_words d) ≡ Some (capped_decision d)
unfolding decision_in two_ids_in three_ids_in
decision_again (Join x p y) h = rw (id_again x h.0, id_again p h.1, id_again y h.2) refl
decision_again (Bring x p a) h = rw (id_again x h.0, id_again p h.1, id_again a h.2) refl
decision_again (Before x y) h = rw (id_again x h.0, id_again y h.1) refl

flaw_again : (f : Flaw) → IsShortFlaw f → flaw_in (flaw_words f) ≡ Some (capped_flaw f)
unfolding flaw_in two_ids_in three_ids_in
flaw_again (Threat x p d) h = rw (id_again x h.0, id_again p h.1, id_again d h.2) refl
flaw_again (OpenNeed x p) h = rw (id_again x h.0, id_again p h.1) refl
flaw_again (Clash x y) h = rw (id_again x h.0, id_again y h.1) refl

node_again : (l : NodeLine) → IsShortNode l → line_in (node_words l) ≡ Some (lines.Node (capped_node l))
unfolding line_in named_in worded_in node_in number_in
node_again (Child d) h = rw (decision_again d h) refl
node_again (Narrow step) h = step_again step h
node_again Close h = refl
node_again (Branch f) h = rw (flaw_again f h) refl
node_again OpenNode h = refl

claim_again : (c : Claim) → IsClaim c → claim_in (claim_words c) ≡ Some c
unfolding claim_in spent_in alone_limited_in
claim_again (claims.Optimal m) h = rw (limited_again 1000000 m h (omega arith)) refl
claim_again (claims.NoneUpTo m) h = rw (limited_again 1000000 m h (omega arith)) refl
claim_again claims.Never h = refl
claim_again (claims.Spent r n) h =
    let some : 1 ≤ n = h.1 in
    rw (limited_again 999999 r h.0 (omega arith), limited_again 4294967295 n h.2 (omega arith), ne_eqb n 0 (λ e. omega (arith, e, some))) refl

version_again : (v : Version) → line_in (line_words (lines.First v)) ≡ Some (lines.First v)
unfolding line_in named_in worded_in version_in number_in
version_again One = refl
version_again Two = refl

item_again : (start act : ℕ) → IsShort start → IsShort act → line_in (decimal start ∷ decimal act ∷ []) ≡ Some (lines.Item start act)
unfolding line_in numbered_in
item_again start act h k = rw (number_again start h, number_again act k) refl

head_is : (head : List ℕ) (ws : List (List ℕ)) (c : CertLine) → number_in head ≡ None → named_in head ws ≡ Some c → line_in (head ∷ ws) ≡ Some c
unfolding line_in
head_is head ws c h k = rw h k

no_number : (head : List ℕ) → is_numeral head ≡ false → number_in head ≡ None
unfolding number_in
no_number head h = rw h refl

sizes_named : (atoms actions : ℕ) → IsShort atoms → IsShort actions → named_in (codes "task") (decimal atoms ∷ decimal actions ∷ []) ≡ Some (lines.Sizes atoms actions)
unfolding named_in worded_in two_numbers_in
sizes_named atoms actions h k = rw (number_again atoms h, number_again actions k) refl

sizes_again : (atoms actions : ℕ) → IsShort atoms → IsShort actions → line_in (line_words (lines.Sizes atoms actions)) ≡ Some (lines.Sizes atoms actions)
sizes_again atoms actions h k = head_is (codes "task") (decimal atoms ∷ decimal actions ∷ []) (lines.Sizes atoms actions) (no_number (codes "task") refl) (sizes_named atoms actions h k)

tree_named : (b : ℕ) → IsShort b → named_in (codes "tree") (decimal b ∷ []) ≡ Some (lines.Tree b)
unfolding named_in worded_in alone_number_in
tree_named b h = rw (number_again b h) refl

tree_again : (b : ℕ) → IsShort b → line_in (line_words (lines.Tree b)) ≡ Some (lines.Tree b)
tree_again b h = head_is (codes "tree") (decimal b ∷ []) (lines.Tree b) (no_number (codes "tree") refl) (tree_named b h)

open_tree_named : (b : ℕ) → IsShort b → named_in (codes "open-tree") (decimal b ∷ []) ≡ Some (lines.OpenTree b)
unfolding named_in worded_in alone_number_in
open_tree_named b h = rw (number_again b h) refl

open_tree_again : (b : ℕ) → IsShort b → line_in (line_words (lines.OpenTree b)) ≡ Some (lines.OpenTree b)
open_tree_again b h = head_is (codes "open-tree") (decimal b ∷ []) (lines.OpenTree b) (no_number (codes "open-tree") refl) (open_tree_named b h)

-- what is spelled as a line is read
pub line_again : (line : CertLine) → IsWritten line → line_in (line_words line) ≡ Some (capped_line line)
unfolding line_in named_in worded_in two_numbers_in alone_limited_in alone_number_in number_in
line_again (lines.First v) h = version_again v
line_again (lines.Claimed c) h = rw (claim_again c h) refl
line_again (lines.Sizes atoms actions) h = sizes_again atoms actions h.0 h.1
line_again (lines.Plan k) h = rw (limited_again 4294967295 k h (omega arith)) refl
line_again (lines.Item start act) h = item_again start act h.0 h.1
line_again lines.Pairs h = refl
line_again (lines.PairRow runs) h = rw (row_again runs h) refl
line_again lines.Dists h = refl
line_again (lines.DistRow runs) h = rw (row_again runs h) refl
line_again (lines.Tree b) h = tree_again b h
line_again (lines.OpenTree b) h = open_tree_again b h
line_again (lines.Node line) h = node_again line h
line_again lines.End h = refl
line_again lines.Strange h = absurd h

step_solid : (s : Step) → IsShortStep s → are_solid (step_words s) ≡ true
step_solid (R1 x y v) h = rw (number_solid x h.0, number_solid y h.1, span_solid v h.2) refl
step_solid (R2 x y v) h = rw (number_solid x h.0, number_solid y h.1, span_solid v h.2) refl
step_solid (R3 x y) h = rw (number_solid x h.0, number_solid y h.1) refl
step_solid (R4 x p v) h = rw (number_solid x h.0, number_solid p h.1, span_solid v h.2) refl
step_solid (R5 x p c) h = rw (number_solid x h.0, number_solid p h.1, cand_solid c h.2) refl
step_solid (R6 x p) h = rw (number_solid x h.0, number_solid p h.1) refl
step_solid (R7 x p a) h = rw (number_solid x h.0, number_solid p h.1, cand_solid (Out a) h.2) refl
step_solid (R8 x p c d) h = rw (number_solid x h.0, number_solid p h.1, cand_solid c h.2, number_solid d h.3) refl
step_solid (R9After x p d) h = rw (number_solid x h.0, number_solid p h.1, number_solid d h.2) refl
step_solid (R9Ahead x p d) h = rw (number_solid x h.0, number_solid p h.1, number_solid d h.2) refl
step_solid (R10 a p v) h = rw (number_solid a h.0, number_solid p h.1, span_solid v h.2) refl
step_solid (R11After x p a v) h = rw (number_solid x h.0, number_solid p h.1, number_solid a h.2, span_solid v h.3) refl
step_solid (R11Ahead x p a v) h = rw (number_solid x h.0, number_solid p h.1, number_solid a h.2, span_solid v h.3) refl
step_solid (R12After x a v) h = rw (number_solid x h.0, number_solid a h.1, span_solid v h.2) refl
step_solid (R12Ahead x a v) h = rw (number_solid x h.0, number_solid a h.1, span_solid v h.2) refl
step_solid (R13 x p c q) h = rw (number_solid x h.0, number_solid p h.1, cand_solid c h.2, number_solid q h.3) refl

decision_solid : (d : Decision) → IsShortDecision d → are_solid (decision_words d) ≡ true
decision_solid (Join x p y) h = rw (number_solid x h.0, number_solid p h.1, number_solid y h.2) refl
decision_solid (Bring x p a) h = rw (number_solid x h.0, number_solid p h.1, number_solid a h.2) refl
decision_solid (Before x y) h = rw (number_solid x h.0, number_solid y h.1) refl

flaw_solid : (f : Flaw) → IsShortFlaw f → are_solid (flaw_words f) ≡ true
flaw_solid (Threat x p d) h = rw (number_solid x h.0, number_solid p h.1, number_solid d h.2) refl
flaw_solid (OpenNeed x p) h = rw (number_solid x h.0, number_solid p h.1) refl
flaw_solid (Clash x y) h = rw (number_solid x h.0, number_solid y h.1) refl

node_solid : (l : NodeLine) → IsShortNode l → are_solid (node_words l) ≡ true
node_solid (Child d) h = rw (decision_solid d h) refl
node_solid (Narrow step) h = step_solid step h
node_solid Close h = refl
node_solid (Branch f) h = rw (flaw_solid f h) refl
node_solid OpenNode h = refl

claim_solid : (c : Claim) → IsClaim c → are_solid (claim_words c) ≡ true
claim_solid (claims.Optimal m) h = let le : m ≤ 1000000 = h in rw (number_solid m (omega (arith, le))) refl
claim_solid (claims.NoneUpTo m) h = let le : m ≤ 1000000 = h in rw (number_solid m (omega (arith, le))) refl
claim_solid claims.Never h = refl
claim_solid (claims.Spent r n) h =
    let few : r ≤ 999999 = h.0 in
    let most : n ≤ 4294967295 = h.2 in
    rw (number_solid r (omega (arith, few)), number_solid n (omega (arith, most))) refl

version_solid : (v : Version) → are_solid (line_words (lines.First v)) ≡ true
version_solid One = refl
version_solid Two = refl

-- no space stands in the words of a line
pub line_solid : (line : CertLine) → IsWritten line → are_solid (line_words line) ≡ true
line_solid (lines.First v) h = version_solid v
line_solid (lines.Claimed c) h = rw (claim_solid c h) refl
line_solid (lines.Sizes atoms actions) h = rw (number_solid atoms h.0, number_solid actions h.1) refl
line_solid (lines.Plan k) h = let le : k ≤ 4294967295 = h in rw (number_solid k (omega (arith, le))) refl
line_solid (lines.Item start act) h = rw (number_solid start h.0, number_solid act h.1) refl
line_solid lines.Pairs h = refl
line_solid (lines.PairRow runs) h = rw (runs_solid runs h.all) refl
line_solid lines.Dists h = refl
line_solid (lines.DistRow runs) h = rw (runs_solid runs h.all) refl
line_solid (lines.Tree b) h = rw (number_solid b h) refl
line_solid (lines.OpenTree b) h = rw (number_solid b h) refl
line_solid (lines.Node line) h = node_solid line h
line_solid lines.End h = refl
line_solid lines.Strange h = absurd h
