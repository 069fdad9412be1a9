-- A refusal of the inverse is that of the distance.
use Rattle.std.proofs.Common.{◌≡◌, ◌∙◌, rules, Err}
use lib.Ieee.{Float}
use Rattle.kernel.specs.Answer.{Outcome}
use Rattle.pivoting.proofs.Distances.{distance_never}
use Rattle.pivoting.proofs.distance.distance_within.Goals as goal

pub returns-in_err-inverse : goal.returns-in_err-inverse
returns-in_err-inverse g c =
    let e : ◌≡◌ {A = Outcome Float} c.from_residual.result (Err c.in_err-inverse.field-0.0) = search rules in
    e ∙ distance_never _ _ _ _ _ c.in_err-inverse.ensures
