-- what counting comes to
use Rattle.std.proofs.Common.{◌≡◌, ℕ, ◌≤◌, Bool, inl, inr, List, length, map, Option, Some, Result, Ok, refl, sym, ap, ◌∙◌, arith, append-nil}
use Rattle.std.specs.Prelude.{codes}
use Rattle.std.proofs.lemmas.List.Elements.{All-weaker}
use Rattle.cpt_io.specs.Meaning.{Files}
use Rattle.cpt_task.specs.Shape.{TaskShape}
use Rattle.cpt_reach.specs.declared.pruning.Pruned.{Pruned}
use Rattle.cpt_cert_form.specs.declared.forms.Version.{Version}
use Rattle.cpt_cert_form.specs.declared.forms.Claim.{Claim}
use Rattle.cpt_cert_accept.specs.declared.faults.Why.{Why}
use Rattle.cpt_cert_accept.specs.Accepting.{Accepts}
use Rattle.cpt_check.specs.declared.judged.Judged.{Judged}
use Rattle.cpt_check.specs.declared.judged.Ruling.{Ruling}
use Rattle.cpt_check.specs.declared.judged.Ruling.TheVariants.{Accepted, Rejected}
use Rattle.cpt_check.specs.Judging.{IsAccepted, IsRejected, RulesOf}
use Rattle.cpt_counts.specs.declared.kinds.Counts.{Counts}
use Rattle.cpt_counts.specs.Counting.{AreCounts, AreFew, count_begun, count_same, rule_fronts, tree_lines}
use Rattle.cpt_answer.specs.declared.ending.Ending.{Ending}
use Rattle.cpt_answer.specs.declared.ending.Reply.{Reply}
use Rattle.cpt_answer.specs.Endings.{Answer, answer, answer_of, reply_answer}
use Rattle.cpt_answer.specs.Giving.{Gives}
use Rattle.cpt_cert_file.specs.Held.{HoldText}
use Rattle.cpt_cert_file.specs.Texts.{text_limit}
use Rattle.cpt_cert_file.proofs.Holding.{over_held, reach, reached}
use Rattle.cpt_check_files.specs.Claims.{HoldCertificate, HoldFault}
use Rattle.cpt_check_files.specs.Commands.{IsRuling}
use Rattle.cpt_check_files.specs.Rulings.{cert_limit, rejected_lines}
use Rattle.cpt_check_files.proofs.RulingOnce.{judged}
use Rattle.cpt_explain_cert_files.specs.Counted.{CountsFiles, CountsText, counted_answer, counted_lines}

-- the numbers of a text's lines
abbrev pub counts_of : List ℕ → Counts
counts_of text = record {
  closed = count_same (codes "close") (tree_lines text);
  branched = count_begun (codes "branch ") (tree_lines text);
  left = count_same (codes "open") (tree_lines text);
  rules = map (λ front. count_begun front (tree_lines text)) rule_fronts;
}

pub are_counts : (text : List ℕ) → AreCounts text (counts_of text)
are_counts text = record { closed = refl; branched = refl; left = refl; rules = refl }

-- the status of an answer
status_is : (r : Result Answer Ending) (a : Answer) → r ≡ Ok a → (answer_of r).status ≡ a.status
status_is r a e = ap (λ x. (answer_of x).status) e

text_is : (r : Result Answer Ending) (a : Answer) → r ≡ Ok a → (answer_of r).text ≡ a.text
text_is r a e = ap (λ x. (answer_of x).text) e

-- a status of 0 is that of a certificate
pub record IsZero (t : TaskShape) (text told : List ℕ) : Type 0 where
  pub version : Version
  pub claim : Claim
  pub counts : Counts
  pub accepts : Accepts t text version claim
  pub counted : AreCounts text counts
  pub told_is : told ≡ counted_lines version claim counts

zero_at : (t : TaskShape) (text : List ℕ) (v : Option Version) (ruling : Ruling) (counts : Counts) (r : Result Answer Ending) → RulesOf t text_limit text v ruling → AreCounts text counts → r ≡ Ok (counted_answer (judged v ruling) counts)
    → (answer_of r).status ≡ 0 → IsZero t text (answer_of r).text
zero_at t text v (Accepted claim) counts r h are e zero = record {
  version = h.named;
  claim = claim;
  counts = counts;
  accepts = h.accepts;
  counted = are;
  told_is = text_is r (counted_answer (judged v (Accepted claim)) counts) e ∙ ap (λ x. (counted_answer (judged x (Accepted claim)) counts).text) h.version_is;
}
zero_at t text v (Rejected line why) counts r h are e zero = absurd (omega (arith, status_is r (counted_answer (judged v (Rejected line why)) counts) e, zero))

-- and one of 1 that of a text with a fault
pub record IsOne (t : TaskShape) (text told : List ℕ) : Type 0 where
  pub version : Option Version
  pub line : ℕ
  pub why : Why
  pub is : IsRejected t text_limit text version line why
  pub told_is : told ≡ rejected_lines version line why

one_at : (t : TaskShape) (text : List ℕ) (v : Option Version) (ruling : Ruling) (counts : Counts) (r : Result Answer Ending) → RulesOf t text_limit text v ruling → r ≡ Ok (counted_answer (judged v ruling) counts)
    → (answer_of r).status ≡ 1 → IsOne t text (answer_of r).text
one_at t text v (Accepted claim) counts r h e one = absurd (omega (arith, status_is r (counted_answer (judged v (Accepted claim)) counts) e, one))
one_at t text v (Rejected line why) counts r h e one =
    record { version = v; line = line; why = why; is = h; told_is = text_is r (counted_answer (judged v (Rejected line why)) counts) e ∙ append-nil (rejected_lines v line why) }

ruling_at : (v : Option Version) (ruling : Ruling) (counts : Counts) (r : Result Answer Ending) → r ≡ Ok (counted_answer (judged v ruling) counts) → IsRuling (answer_of r).status
ruling_at v (Accepted claim) counts r e = inl (status_is r (counted_answer (judged v (Accepted claim)) counts) e)
ruling_at v (Rejected line why) counts r e = inr (inl (status_is r (counted_answer (judged v (Rejected line why)) counts) e))

-- a certificate that is held, with the lines that are written of it
pub record IsCounted (files : Files) (dn pn cn told : List ℕ) : Type 0 where
  pub version : Version
  pub claim : Claim
  pub held : HoldCertificate files dn pn cn version claim
  pub size : length held.text ≤ text_limit
  pub counts : Counts
  pub counted : AreCounts held.text counts
  pub told_is : told ≡ counted_lines version claim counts

-- and a text with a fault
pub record IsFaulty (files : Files) (dn pn cn told : List ℕ) : Type 0 where
  pub version : Option Version
  pub line : ℕ
  pub why : Why
  pub held : HoldFault files dn pn cn version line why
  pub size : length held.text ≤ text_limit
  pub told_is : told ≡ rejected_lines version line why

module _ (files : Files) (dn pn cn : List ℕ) where
  certificate_of : (kept : Pruned) (text : List ℕ) (v : Version) (claim : Claim) → HoldText files dn pn cn kept text → Accepts kept.task text v claim → HoldCertificate files dn pn cn v claim
  certificate_of kept text v claim h accepts =
      let size = h.size in
      record {
        domain = h.domain;
        problem = h.problem;
        task = h.task;
        kept = kept;
        accepted = h.accepted;
        text = text;
        cert_file = h.cert_file;
        size = omega (arith, size);
        parts = accepts.0;
        certificate = accepts.1;
      }

  fault_of : (kept : Pruned) (text : List ℕ) (v : Option Version) (line : ℕ) (why : Why) → HoldText files dn pn cn kept text → IsRejected kept.task text_limit text v line why → HoldFault files dn pn cn v line why
  fault_of kept text v line why h is =
      let size = h.size in
      let short : length text ≤ cert_limit = omega (arith, size) in
      record {
        domain = h.domain;
        problem = h.problem;
        task = h.task;
        kept = kept;
        accepted = h.accepted;
        text = text;
        cert_file = h.cert_file;
        rejected = record { version_is = is.version_is; first = is.first; known = inl short };
      }

  pub zero_is_counted : (r : Result Answer Ending) → CountsFiles files dn pn cn r → (answer_of r).status ≡ 0 → IsCounted files dn pn cn (answer_of r).text
  unfolding certificate_of
  zero_is_counted r h zero =
      let k = reached files dn pn cn CountsText r h (inl zero) in
      let c = k.3 in
      let z = zero_at k.0.task k.1 c.0.version c.0.ruling c.2.0 r c.1 c.2.1 c.2.2 zero in
      record { version = z.version; claim = z.claim; held = certificate_of k.0 k.1 z.version z.claim k.2 z.accepts; size = k.2.size; counts = z.counts; counted = z.counted; told_is = z.told_is }

  pub one_is_faulty : (r : Result Answer Ending) → CountsFiles files dn pn cn r → (answer_of r).status ≡ 1 → IsFaulty files dn pn cn (answer_of r).text
  unfolding fault_of
  one_is_faulty r h one =
      let k = reached files dn pn cn CountsText r h (inr one) in
      let c = k.3 in
      let z = one_at k.0.task k.1 c.0.version c.0.ruling c.2.0 r c.1 c.2.2 one in
      record { version = z.version; line = z.line; why = z.why; held = fault_of k.0 k.1 z.version z.line z.why k.2 z.is; size = k.2.size; told_is = z.told_is }

  -- a certificate is answered so
  pub counted_is_zero : (v : Version) (claim : Claim) (counts : Counts) (h : HoldCertificate files dn pn cn v claim) → length h.text ≤ text_limit → AreCounts h.text counts → CountsFiles files dn pn cn (Ok (answer 0 (counted_lines v claim counts)))
  counted_is_zero v claim counts h size are =
      let rules : IsAccepted h.kept.task text_limit h.text (Some v) claim = record { size = size; named = v; version_is = refl; accepts = (h.parts, h.certificate) } in
      let held : HoldText files dn pn cn h.kept h.text = record { domain = h.domain; problem = h.problem; task = h.task; accepted = h.accepted; cert_file = h.cert_file; size = size } in
      reach files dn pn cn CountsText h.kept h.text (Ok (answer 0 (counted_lines v claim counts))) held (judged (Some v) (Accepted claim), rules, (counts, are, refl))

  -- and a text with a fault so
  pub faulty_is_one : (v : Option Version) (line : ℕ) (why : Why) (h : HoldFault files dn pn cn v line why) → length h.text ≤ text_limit → CountsFiles files dn pn cn (Ok (answer 1 (rejected_lines v line why)))
  faulty_is_one v line why h size =
      let is : IsRejected h.kept.task text_limit h.text v line why = record { version_is = h.rejected.version_is; first = h.rejected.first; known = inl size } in
      let held : HoldText files dn pn cn h.kept h.text = record { domain = h.domain; problem = h.problem; task = h.task; accepted = h.accepted; cert_file = h.cert_file; size = size } in
      let at : List ℕ → Result Answer Ending = λ z. Ok (answer 1 z) in
      reach files dn pn cn CountsText h.kept h.text (Ok (answer 1 (rejected_lines v line why))) held
      (judged v (Rejected line why), is, (counts_of h.text, are_counts h.text, sym (ap at (append-nil (rejected_lines v line why)))))

  -- and a text that is held is ruled on
  pub held_is_ruled : (kept : Pruned) (text : List ℕ) → HoldText files dn pn cn kept text → (r : Result Answer Ending) → CountsFiles files dn pn cn r → IsRuling (answer_of r).status
  held_is_ruled kept text held r h = let c = over_held files dn pn cn CountsText kept text r held h in ruling_at c.0.version c.0.ruling c.2.0 r c.2.2

-- what is answered to a text
pub counted_here : (t : TaskShape) (text : List ℕ) (j : Judged) (counts : Counts) (steady : Bool) (reply : Reply) → RulesOf t text_limit text j.version j.ruling → AreCounts text counts → reply_answer reply ≡ counted_answer j counts → Gives steady reply_answer (Ok reply) (CountsText t text)
counted_here t text j counts steady reply h are e = (j, h, (counts, are, ap Ok e))

pub few_at : (text : List ℕ) (c : Counts) → AreFew (length text) c → length text ≤ 16777216 → AreFew 16777216 c
few_at text c h short =
    let closed = h.closed in
    let branched = h.branched in
    let left = h.left in
    record {
      closed = omega (arith, closed, short);
      branched = omega (arith, branched, short);
      left = omega (arith, left, short);
      rules = All-weaker (λ n. n ≤ length text) (λ n. n ≤ 16777216) (λ n le. omega (arith, le, short)) c.rules h.rules;
    }
