-- Before turn j the best is that of the first j pairs.
use Rattle.std.proofs.Common.{◌≡◌, length}
use Rattle.pairing.specs.Private.{search_row}
use Rattle.pairing.proofs.search.search_row.Given as goal

abbrev pub invariant-loop-j : goal.invariant-loop-j
invariant-loop-j l = l.best ≡ search_row l.keys (length l.seconds) l.seconds l.i l.j l.fn.best
