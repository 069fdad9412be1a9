-- No unit vector before k is the start.
use Rattle.std.proofs.Common.{length}
use Rattle.kernel.proofs.First.{Standing}
use Rattle.power.proofs.Starts.{start_at}
use Rattle.power.proofs.inverse.start.Given as goal

abbrev pub invariant-loop-k : goal.invariant-loop-k
invariant-loop-k l = Standing (λ j. j) (start_at l.v (length l.v)) (length l.v) l.k l.k
