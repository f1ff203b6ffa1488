use Rattle.std.proofs.Common.{◌-◌, ap, sym, ◌∙◌, arith, length, slice_get, take, drop, length-drop}
use Rattle.cpt_sexp.proofs.Refusing.{refuse_alone, refuse_fault, refuse_first, whole_rest, few_open, no_first}
use Rattle.cpt_sexp.proofs.reading.Reading.refusal.Goals as goal

pub runs_out-requires : goal.runs_out-requires
runs_out-requires c =
    let text = c.args.text.now in
    let few = few_open text c.args.self.now.items.items c.args.self.now.opened.items c.args.at c.requires.read in
    let within = c.requires.read.in_text in
    omega (arith, ap length (whole_rest text c.args.at) ∙ length-drop c.args.at text)

pub returns-in-None : goal.returns-in-None
returns-in-None c =
    refuse_alone c.args.text.now c.args.self.now.items.items c.args.self.now.opened.items c.args.at c.args.fault c.requires.read c.requires.stands c.requires.here (no_first c.args.self.now.opened.items (c.in-None.ensures.value ∙ ap (λ gs. slice_get gs 0) c.deref.ensures.value))

pub returns-then-runs_out : goal.returns-then-runs_out
returns-then-runs_out c =
    refuse_fault c.args.text.now (take (length c.args.text.now - c.args.at) (drop c.args.at c.args.text.now)) c.args.self.now.items.items c.args.self.now.opened.items c.args.at c.len.result c.args.fault
    c.requires.read c.requires.stands c.requires.here (omega arith) (whole_rest c.args.text.now c.args.at) (sym c.runs_out.ensures ∙ c.if-runs_out.true)

pub returns-else-runs_out : goal.returns-else-runs_out
returns-else-runs_out c =
    refuse_first c.args.text.now (take (length c.args.text.now - c.args.at) (drop c.args.at c.args.text.now)) c.args.self.now.items.items c.args.self.now.opened.items c.args.at c.len.result c.in-Some.first.now
    c.requires.read (c.in-Some.ensures.value ∙ ap (λ gs. slice_get gs 0) c.deref.ensures.value) (omega arith) (whole_rest c.args.text.now c.args.at) (sym c.runs_out.ensures ∙ c.if-runs_out.false)
