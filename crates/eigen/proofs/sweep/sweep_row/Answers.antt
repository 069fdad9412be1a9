-- One column more.
use Rattle.std.proofs.Common.{arith}
use Rattle.eigen.specs.Private.{state_of}
use Rattle.eigen.proofs.Rotations.Sweeps.{slices_rotated, row_none, row_more}
use Rattle.eigen.proofs.sweep.sweep_row.Goals as goal

pub loop-q-init : goal.loop-q-init
loop-q-init c = let x = c.args in record { after = omega arith; turns = omega arith; slices = c.requires.1; swept = row_none x.n x.p (state_of x.n x.m.now x.v.now) }

pub loop-q-preserved : goal.loop-q-preserved
loop-q-preserved c =
    let x = c.args in
    let turn = c.loop-q in
    let call = c.rotate in
    record {
      after = omega arith;
      turns = omega arith;
      slices = slices_rotated turn.invariant.slices call.auto.m call.auto.v x.p turn.q call.ensures;
      swept = row_more x.n x.p turn.q (state_of x.n x.m.now x.v.now) turn.invariant.after turn.invariant.swept call.ensures;
    }
