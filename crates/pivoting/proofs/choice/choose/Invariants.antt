-- Before turn i the best is that of the rows k to i - 1.
use Rattle.std.proofs.Common.{◌≡◌, ◌-◌}
use Rattle.pivoting.specs.Pivot.{best_of}
use Rattle.pivoting.proofs.choice.choose.Given as goal

abbrev pub invariant-loop-i : goal.invariant-loop-i
invariant-loop-i l = l.best ≡ best_of l.m l.s l.w l.k (l.i - l.k)
