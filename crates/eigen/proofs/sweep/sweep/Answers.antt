-- One row more.
use Rattle.std.proofs.Common.{suc, ◌-◌, refl, arith}
use Rattle.eigen.specs.Eigen.{swept_rows}
use Rattle.eigen.specs.Private.{state_of}
use Rattle.eigen.proofs.Rotations.Sweeps.{slices_row, rows_more}
use Rattle.eigen.proofs.sweep.sweep.Goals as goal

pub loop-p-init : goal.loop-p-init
unfolding swept_rows
loop-p-init c = record { turns = omega arith; slices = c.requires; swept = refl }

pub loop-p-preserved : goal.loop-p-preserved
loop-p-preserved c =
    let x = c.args in
    let turn = c.loop-p in
    let call = c.sweep_row in
    record {
      turns = omega arith;
      slices = slices_row turn.invariant.slices call.auto.m call.auto.v turn.p (x.n - suc turn.p) call.ensures;
      swept = rows_more x.n turn.p (state_of x.n x.m.now x.v.now) turn.invariant.swept call.ensures;
    }
