-- Before turn k the first k columns are reduced, each with a pivot.
use Rattle.std.proofs.Common.{length}
use Rattle.pivoting.specs.Pivot.{stage}
use Rattle.pivoting.specs.Solve.{reduced}
use Rattle.pivoting.proofs.Stages.{Columns}
use Rattle.pivoting.proofs.reduce.reduce.Given as goal

abbrev pub invariant-loop-k : goal.invariant-loop-k
invariant-loop-k l = Columns (length l.initial.s) (length l.initial.x) (reduced (length l.initial.s) (length l.initial.x) (stage l.initial.m l.initial.s)) l.k l.m l.s
