-- A sweep of order 2 is one rotation, and its test is on one square.
use Rattle.std.proofs.Common.{sym, ◌∙◌, arith}
use Rattle.eigen.proofs.Cases.PlaneSteps.{plane_stops, plane_sweep}
use Rattle.eigen.proofs.Rotations.Sweeps.{first_sweep, next_sweep, stops_now, stops_never}
use Rattle.eigen.proofs.planes.sweep_plane.Goals as goal

pub loop-k-init : goal.loop-k-init
loop-k-init c = first_sweep

pub returns-then-p-tol : goal.returns-then-p-tol
returns-then-p-tol c = let turn = c.loop-k in stops_now turn.invariant (omega arith) (plane_stops _ turn.p ∙ c.if-p-tol.true)

pub loop-k-preserved : goal.loop-k-preserved
loop-k-preserved c =
    let turn = c.loop-k in
    next_sweep turn.invariant (omega arith) (plane_stops _ turn.p ∙ c.if-p-tol.false) (c.turn-p.ensures ∙ sym (plane_sweep _))

pub returns : goal.returns
returns c = stops_never c.loop-k.invariant c.loop-k-test.false
