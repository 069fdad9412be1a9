-- The choice gives the row, and the step and the norms that change places make the column.
use Rattle.std.proofs.Common.{arith, length, refl}
use Rattle.pivoting.proofs.Stages.{PivotFound, pivot_found, columned}
use Rattle.pivoting.proofs.reduce.reduce_column.Goals as goal

pub swap-requires-clause-b_in_bounds : goal.swap-requires-clause-b_in_bounds
swap-requires-clause-b_in_bounds c =
    let x = c.args in
    let found : PivotFound x.m.now x.s.now (length x.s.now) (length x.x.now) x.k c.in_ok-p.p = pivot_found _ _ _ _ _ refl c.requires.diagonal c.in_ok-p.ensures in
    omega arith

pub step-requires : goal.step-requires
step-requires c =
    let x = c.args in
    let found : PivotFound x.m.now x.s.now (length x.s.now) (length x.x.now) x.k c.in_ok-p.p = pivot_found _ _ _ _ _ refl c.requires.diagonal c.in_ok-p.ensures in (
      c.requires.diagonal,
      record { row = found.within; column = c.requires.column; matrix = c.requires.room },
    )

pub returns-clause-answers : goal.returns-clause-answers
returns-clause-answers c =
    let x = c.args in
    let found : PivotFound x.m.now x.s.now (length x.s.now) (length x.x.now) x.k c.in_ok-p.p = pivot_found _ _ _ _ _ refl c.requires.diagonal c.in_ok-p.ensures in
    rw found.taken_there

pub returns-clause-reduced : goal.returns-clause-reduced
returns-clause-reduced c =
    let x = c.args in
    let found : PivotFound x.m.now x.s.now (length x.s.now) (length x.x.now) x.k c.in_ok-p.p = pivot_found _ _ _ _ _ refl c.requires.diagonal c.in_ok-p.ensures in
    λ e. columned _ _ _ _ _ _ _ found c.step.ensures (omega arith) c.swap.ensures.by_index
