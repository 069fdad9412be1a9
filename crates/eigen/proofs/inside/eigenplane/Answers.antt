-- What the steps leave and show, by `plane_swept` and `plane_answers`.
use Rattle.std.proofs.Common.{ap, ◌∙◌}
use lib.Ieee.{Float}
use Rattle.eigen.specs.Eigen.{swept}
use Rattle.eigen.specs.Private.{plane_state, plane_pairs}
use Rattle.eigen.proofs.Cases.PlaneSteps.{plane_swept, plane_answers}
use Rattle.eigen.proofs.inside.eigenplane.Goals as goal

pub returns-clause-value : goal.returns-clause-value
returns-clause-value c =
    let x = c.args in
    let left = c.sweep_plane-p.ensures ∙ ap (λ (t : Float). swept 2 t (plane_state c.begin-s.result)) c.plane_tolerance-tol.ensures in
    c.descend.ensures ∙ plane_swept x.w x.x x.y x.z c.begin-s.ensures left

pub returns-clause-result_value : goal.returns-clause-result_value
returns-clause-result_value c =
    let x = c.args in
    let left = c.sweep_plane-p.ensures ∙ ap (λ (t : Float). swept 2 t (plane_state c.begin-s.result)) c.plane_tolerance-tol.ensures in
    ap plane_pairs c.descend.ensures ∙ plane_answers x.w x.x x.y x.z c.begin-s.ensures left
