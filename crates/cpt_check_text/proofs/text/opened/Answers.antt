use Rattle.std.proofs.Common.{List, ◌∷◌, [], ◌++◌, Some, ap, ◌∙◌}
use Rattle.cpt_io.specs.Entries.{Entry}
use Rattle.cpt_io.specs.InMemory.{mem_holds, mem_left}
use Rattle.cpt_check_text.proofs.Opening.{opened_left}
use Rattle.cpt_check_text.proofs.text.opened.Goals as goal

pub returns-in-Ok-clause-left : goal.returns-in-Ok-clause-left
returns-in-Ok-clause-left c =
    opened_left c.push.new.self.items c.from_vec.result c.in_ok-bytes.bytes (mem_holds c.new-lib.result) (mem_left c.open.new.self)
    (c.in_ok-push.ensures.items ∙ ap (λ (z : List Entry). z ++ (c.from_vec.result, c.in_ok-bytes.bytes) ∷ []) c.new-files.ensures.items) (c.from_vec.ensures ∙ c.new.ensures.items) c.new-lib.ensures.holds c.in-Ok.ensures.opened
    ∙ ap Some c.in_ok-bytes.ensures.items
