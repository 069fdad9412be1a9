-- The covariance is inverted, and the inverse times the state is the vector.
use Rattle.std.proofs.Common.{arith, ℕ, ◌∙◌, sym, refl, List, take}
use Rattle.std.proofs.lemmas.Result.{err_from_is_err_and}
use lib.Ieee.{Float}
use lib.Seq.{length-take-le}
use Rattle.dense.proofs.Tests.{side_high}
use Rattle.linalg.specs.Products.{times}
use Rattle.pivoting.specs.Solve.{inverse}
use Rattle.tracks.specs.Layout.{fields}
use Rattle.compare.specs.Fields.{track_state, track_covariance}
use Rattle.fusion.specs.Fusion.{Information, information_of}
use Rattle.fusion.proofs.Calls.{through_refuses, through_gives, inverts, is_times}
use Rattle.fusion.proofs.information.information.Goals as goal

pub track_covariance-requires : goal.track_covariance-requires
unfolding fields
track_covariance-requires c =
    record { track = record { few = side_high c.args.d c.requires.0.sided; enough = omega (arith, c.requires.0.long) }; room = c.requires.1 }

-- what the inverse tells of this state
abbrev with_state : ℕ → List Float → List Float → Information
with_state d v y = record { matrix = y; vector = times y (track_state d v) d d }

pub returns-in_err-mat_inv : goal.returns-in_err-mat_inv
unfolding information_of
returns-in_err-mat_inv c =
    let x = c.args in
    let p = err_from_is_err_and c.from_residual.result c.from_residual.ensures.1 in
    rw (p.1, p.2)
    (through_refuses (with_state x.d x.v.now) (inverse (track_covariance x.d x.v.now) x.d)
    (inverts x.d _ _ _ c.requires.0.sided (c.track_covariance.auto.out ∙ c.requires.1) c.requires.2.matrix c.track_covariance.ensures c.mat_inv.ensures) c.in_err-mat_inv.was)

pub slice_bounds-mat_vec_mul-end : goal.slice_bounds-mat_vec_mul-end
unfolding fields
slice_bounds-mat_vec_mul-end c = sym (length-take-le c.args.d c.args.v.now (omega (arith, c.requires.0.long)))

pub returns : goal.returns
unfolding information_of fields
returns c =
    let x = c.args in
    let told = is_times x.d c.mat_inv.new.out (take x.d x.v.now) x.y.now c.requires.0.sided (c.mat_inv.auto.out ∙ c.requires.2.matrix)
    (length-take-le x.d x.v.now (omega (arith, c.requires.0.long))) c.requires.2.vector c.mat_vec_mul.ensures in
    rw (told.0, told.1)
    (through_gives (with_state x.d x.v.now) (inverse (track_covariance x.d x.v.now) x.d)
    (inverts x.d _ _ _ c.requires.0.sided (c.track_covariance.auto.out ∙ c.requires.1) c.requires.2.matrix c.track_covariance.ensures c.mat_inv.ensures) c.in_ok-mat_inv.was refl)
