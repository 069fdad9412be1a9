-- The state, the inverse, its symmetric part and its repair are asked one after the other.
use Rattle.std.specs.Prelude.{Ok}
use Rattle.std.proofs.Common.{◌≡◌, ◌∙◌, ℕ, true, List, sym, refl}
use Rattle.std.proofs.lemmas.Result.{err_from_is_err_and}
use lib.Ieee.{Float}
use Rattle.kernel.specs.Answer.{Outcome, and_then, through}
use Rattle.kernel.proofs.Answers.{never_both}
use Rattle.dense.specs.Answer.{Leaves}
use Rattle.dense.specs.Matrix.{is_side}
use Rattle.linalg.specs.Products.{symmetric_part}
use Rattle.pivoting.specs.Solve.{mat_solve, solved, mat_inv, inverse}
use Rattle.repair.specs.Repair.{repair}
use Rattle.fusion.specs.Fusion.{Estimate, estimate_from}
use Rattle.fusion.specs.Private.{Sized, Gives, information, estimate}
use Rattle.fusion.proofs.Calls.{first_refuses, first_gives, inverts, is_symmetrized, repair_refuses, repair_gives, solves}
use Rattle.fusion.proofs.track.estimate.Goals as goal

-- what follows the inverse, and what follows the state
abbrev with_inverse : ℕ → Float → List Float → List Float → Outcome Estimate
with_inverse d floor x p = through (λ r. record { state = x; covariance = r.rebuilt }) (repair (symmetric_part p d) floor d)

abbrev with_state : ℕ → Float → List Float → List Float → Outcome Estimate
with_state d floor m x = and_then (inverse m d) (with_inverse d floor x)

-- where there are a state and an inverse, what the repair gives is what the estimate gives
repaired : (floor : Float) {d : ℕ} {m y old-x old-p x p : List Float} {r s t : Outcome Unit} {w : Estimate}
    → is_side d ≡ true → Sized d m y → Sized d old-p old-x
    → Leaves (mat_solve m y d old-x) old-x r x → r ≡ Ok tt → Leaves (mat_inv m d old-p) old-p s p → s ≡ Ok tt
    → Gives (with_inverse d floor x p) t w → Gives (estimate_from d floor (information m y)) t w
unfolding estimate_from
repaired floor {d} {m} {y} {x = x} side sized room solve r invert s given =
    first_gives (solved m y d 1) (with_state d floor m) (solves d _ _ _ side sized.matrix sized.vector room.vector solve) r
    (first_gives (inverse m d) (with_inverse d floor x) (inverts d _ _ _ side sized.matrix room.matrix refl invert) s given)

pub returns-in_err-mat_solve : goal.returns-in_err-mat_solve
unfolding estimate_from
returns-in_err-mat_solve c =
    let x = c.args in
    let p = err_from_is_err_and c.from_residual.result c.from_residual.ensures.1 in
    rw (p.1, p.2)
    (first_refuses (solved x.m.now x.y.now x.d 1) (with_state x.d x.floor x.m.now)
    (solves x.d _ _ _ c.requires.0 c.requires.1.matrix c.requires.1.vector c.requires.3.vector c.mat_solve.ensures) c.in_err-mat_solve.was)

pub returns-in_err-mat_inv : goal.returns-in_err-mat_inv
unfolding estimate_from
returns-in_err-mat_inv c =
    let x = c.args in
    let p = err_from_is_err_and c.from_residual-in_err-mat_inv.result c.from_residual-in_err-mat_inv.ensures.1 in
    rw (p.1, p.2)
    (first_gives (solved x.m.now x.y.now x.d 1) (with_state x.d x.floor x.m.now)
    (solves x.d _ _ _ c.requires.0 c.requires.1.matrix c.requires.1.vector c.requires.3.vector c.mat_solve.ensures) c.in_ok-mat_solve.was
    (first_refuses (inverse x.m.now x.d) (with_inverse x.d x.floor c.mat_solve.new.out)
    (inverts x.d _ _ _ c.requires.0 c.requires.1.matrix c.requires.3.matrix refl c.mat_inv.ensures) c.in_err-mat_inv.was))

-- a symmetric part is always written
pub returns-in_err-mat_symmetrize : goal.returns-in_err-mat_symmetrize
returns-in_err-mat_symmetrize c =
    let part = is_symmetrized c.args.d _ _ _ c.requires.0 (c.mat_inv.auto.out ∙ c.requires.3.matrix) c.requires.2 refl c.mat_symmetrize.ensures in
    never_both (sym part.0 ∙ c.in_err-mat_symmetrize.was)

pub returns-in_err-nearest_psd : goal.returns-in_err-nearest_psd
returns-in_err-nearest_psd c =
    let x = c.args in
    let long = c.mat_inv.auto.out ∙ c.requires.3.matrix in
    let part = is_symmetrized x.d _ _ _ c.requires.0 long c.requires.2 refl c.mat_symmetrize.ensures in
    let p = err_from_is_err_and c.from_residual-in_err-nearest_psd.result c.from_residual-in_err-nearest_psd.ensures.1 in
    rw (p.1, p.2)
    (repaired x.floor c.requires.0 c.requires.1 c.requires.3 c.mat_solve.ensures c.in_ok-mat_solve.was c.mat_inv.ensures c.in_ok-mat_inv.was
    (repair_refuses x.d _ _ _ c.requires.0 (c.mat_symmetrize.auto.out ∙ c.requires.2) long part.1 x.floor c.nearest_psd.ensures
    (estimate c.mat_solve.new.out) c.in_err-nearest_psd.was))

pub returns : goal.returns
returns c =
    let x = c.args in
    let long = c.mat_inv.auto.out ∙ c.requires.3.matrix in
    let part = is_symmetrized x.d _ _ _ c.requires.0 long c.requires.2 refl c.mat_symmetrize.ensures in
    repaired x.floor c.requires.0 c.requires.1 c.requires.3 c.mat_solve.ensures c.in_ok-mat_solve.was c.mat_inv.ensures c.in_ok-mat_inv.was
    (repair_gives x.d _ _ _ c.requires.0 (c.mat_symmetrize.auto.out ∙ c.requires.2) long part.1 x.floor c.nearest_psd.ensures
    (estimate c.mat_solve.new.out) c.in_ok-nearest_psd.was)
