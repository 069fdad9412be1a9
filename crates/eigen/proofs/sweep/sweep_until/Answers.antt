-- One sweep more, or the test stops them.
use Rattle.std.proofs.Common.{arith}
use Rattle.eigen.proofs.Rotations.Sweeps.{slices_swept, first_sweep, next_sweep, stops_now, stops_never, stops_by}
use Rattle.eigen.proofs.sweep.sweep_until.Goals as goal

pub loop-k-init : goal.loop-k-init
loop-k-init c = record { slices = c.requires; sweeping = first_sweep }

pub returns-then-above-tol : goal.returns-then-above-tol
returns-then-above-tol c = stops_now c.loop-k.invariant.sweeping (omega arith) (stops_by _ _ _ _ c.above.ensures c.if-above-tol.true)

pub loop-k-preserved : goal.loop-k-preserved
loop-k-preserved c =
    let held = c.loop-k.invariant in
    let call = c.sweep in
    record {
      slices = slices_swept held.slices call.auto.m call.auto.v call.ensures;
      sweeping = next_sweep held.sweeping (omega arith) (stops_by _ _ _ _ c.above.ensures c.if-above-tol.false) call.ensures;
    }

pub returns : goal.returns
returns c = stops_never c.loop-k.invariant.sweeping c.loop-k-test.false
