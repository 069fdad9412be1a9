-- Before turn k there have been k rounds, and none of them was the last.
use Rattle.kernel.specs.Constants.{nought}
use Rattle.power.specs.Condition.{iterate}
use Rattle.power.proofs.Ratios.{Before}
use Rattle.power.proofs.inverse.rounds.Given as goal

abbrev pub invariant-loop-k : goal.invariant-loop-k
invariant-loop-k l = Before l.g l.n (iterate l.initial.x nought) l.k l.x l.estimate
