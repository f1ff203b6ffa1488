use Rattle.std.proofs.Common.{◌≡◌, ◌+◌, ◌++◌, ◌∷◌, List, ℕ, [], length, take, get_or, Vec, subst, sym, ap, ◌∙◌, append-nil}
use Rattle.std.specs.Global.{Global}
use Rattle.std.specs.List.{flat_map}
use Rattle.std.proofs.lemmas.List.{take_more, take_all}
use Rattle.std.proofs.lemmas.Grind.{flat_map-append}
use Rattle.cpt_cert_form.specs.declared.forms.CertLine.{CertLine}
use Rattle.cpt_cert_read.specs.Texts.{AreLinesOf, AreFinished}
use Rattle.cpt_cert_read.proofs.Feeding.{none_finished, all_finished, left_pending}
use Rattle.cpt_cert_read.proofs.pieces.read_pieces.Goals as goal
use Rattle.cpt_cert_read.proofs.pieces.read_pieces.Goals.{then-unfinished+in_ok-push, else-unfinished}

-- the text of the pieces
abbrev text_of : List (Vec ℕ Global) → List ℕ
text_of pieces = flat_map (λ (piece : Vec ℕ Global). piece.items) pieces

one_piece : (piece : Vec ℕ Global) → text_of (piece ∷ []) ≡ piece.items
one_piece piece = append-nil piece.items

pub loop-piece-init : goal.loop-piece-init
loop-piece-init c = rw c.new-read.ensures.items (none_finished c.in_ok-lines.lines c.in_ok-lines.ensures)

pub loop-piece-preserved : goal.loop-piece-preserved
loop-piece-preserved c =
    let pieces = c.args.pieces.now in
    let i = c.loop-piece.piece-index in
    let piece = c.piece-item.result in
    let more : take (i + 1) pieces ≡ take i pieces ++ piece ∷ [] = take_more pieces i piece c.loop-piece-test.true ∙ ap (λ z. take i pieces ++ z ∷ []) (sym c.piece-item.is) in
    let text : text_of (take (i + 1) pieces) ≡ text_of (take i pieces) ++ c.deref.result.now =
    ap text_of more ∙ flat_map-append (λ (z : Vec ℕ Global). z.items) (take i pieces) (piece ∷ []) ∙ ap (λ z. text_of (take i pieces) ++ z) (one_piece piece ∙ sym c.deref.ensures.value) in
    subst (λ z. AreFinished z c.read_piece.new.read.items c.read_piece.new.lines) (sym text) (c.in_ok-read_piece.ensures (text_of (take i pieces)) c.loop-piece.invariant)

pub returns : goal.returns
returns c =
    let pieces = c.args.pieces.now in
    let i = c.loop-piece.piece-index in
    let whole : text_of (take i pieces) ≡ text_of pieces = ap text_of (take_all i pieces c.loop-piece-test.false) in
    let finished = subst (λ z. AreFinished z c.loop-piece.read.items c.loop-piece.lines) whole c.loop-piece.invariant in
    elim c.if-unfinished.branch [
      | then-unfinished+in_ok-push w ↦
          let all = left_pending (text_of pieces) c.loop-piece.read.items c.loop-piece.lines finished w.if-unfinished.ensures in
          subst (AreLinesOf (text_of pieces)) (sym (ap (λ z. z.items) w.read-is ∙ w.in_ok-push.ensures.items)) all
      | else-unfinished w ↦
          let all = all_finished (text_of pieces) c.loop-piece.read.items c.loop-piece.lines finished w.if-unfinished.ensures in
          subst (AreLinesOf (text_of pieces)) (sym (ap (λ z. z.items) w.read-is)) all
    ]
