use Rattle.std.proofs.Common.{◌-◌, ◌+◌, ◌∙◌, ap, arith, length, sym}
use Rattle.std.proofs.lemmas.List.{take_all}
use Rattle.cpt_index.specs.Index.{kinds_in}
use Rattle.cpt_index.specs.Rows.{without_last}
use Rattle.cpt_index.proofs.IndexLemmas.{count_in, index_as, index_itself, shorter, taken}
use Rattle.cpt_index.proofs.index.Index.shorten.Goals as goal

pub loop-place-init : goal.loop-place-init
loop-place-init c = index_as c.args.task.now (kinds_in c.args.self.now) _ c.args.self.now (sym (take_all (length (kinds_in c.args.self.now) - 0) (kinds_in c.args.self.now) (omega arith))) c.requires

pub pop-requires : goal.pop-requires
pop-requires c = index_itself c.args.task.now _ c.loop-place.self c.loop-place.invariant

pub loop-place-preserved : goal.loop-place-preserved
loop-place-preserved c =
    index_as c.args.task.now _ _ c.pop.new.self
    (ap (λ l. without_last l) c.loop-place.invariant.kinds
    ∙ shorter (kinds_in c.args.self.now) (length (kinds_in c.args.self.now) - c.loop-place.place) (length (kinds_in c.args.self.now) - (c.loop-place.place + 1)) (omega arith) (omega arith))
    c.pop.ensures

pub returns : goal.returns
returns c =
    index_as c.args.task.now _ _ c.loop-place.self
    (taken (kinds_in c.args.self.now) c.args.count c.loop-place.place (omega (arith, c.saturating_sub-extra.ensures, c.len.ensures, count_in c.args.self.now)))
    c.loop-place.invariant
