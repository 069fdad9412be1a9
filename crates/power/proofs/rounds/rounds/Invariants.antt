-- Before turn k there have been k rounds, none of them the last, and the product of the vector is at hand.
use Rattle.power.proofs.Iteration.{Before}
use Rattle.power.proofs.rounds.rounds.Given as goal

abbrev pub invariant-loop-k : goal.invariant-loop-k
invariant-loop-k l = Before l.a l.n l.max_iter l.tol l.initial.v l.k l.v l.w
