use Rattle.std.proofs.Common.{rules, ◌≡◌, length, ◌∙◌, ap, sym}
use Rattle.std.specs.Vec.{vec_len}
use Rattle.cpt_trail.specs.Trails.{TrailShape}
use Rattle.cpt_trail.proofs.Undoing.{length-marks}
use Rattle.cpt_trail.proofs.trail.Trail.stands.Goals as goal

pub returns : goal.returns
returns c =
    let k : vec_len c.self.inside.levels ≡ length c.self.inside.levels.items = search rules in
    c.len.ensures ∙ (k ∙ (sym (length-marks c.self.inside.levels.items c.self.inside.entries.items c.self.inside.values.items) ∙ ap (λ (t : TrailShape). length t.marks) c.self.view_is))
