use Rattle.std.proofs.Common.{append_assoc}
use Rattle.std.proofs.lemmas.List.{map-append}
use Rattle.cpt_cert_read.proofs.Cutting.{cut_first, cut_none}
use Rattle.cpt_cert_read.proofs.words.words_of.Goals as goal

pub loop-word-preserved : goal.loop-word-preserved
loop-word-preserved c =
    let e = cut_first c.loop-word.rest.now c.in-Some.word.now c.in-Some.after.now c.in-Some.ensures.exact in
    rw (c.in_ok-push.ensures.items, map-append, append_assoc, ← e) c.loop-word.invariant

pub returns : goal.returns
returns c =
    let e = cut_none c.loop-word.rest.now c.in_default.ensures.exact in
    rw (c.in_ok-push-2.ensures.items, map-append, ← e) c.loop-word.invariant
