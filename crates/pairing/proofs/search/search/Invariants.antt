-- Before turn i the best is that of the first i rows.
use Rattle.std.proofs.Common.{◌≡◌, length}
use Rattle.pairing.specs.Private.{search}
use Rattle.pairing.proofs.search.search.Given as goal

abbrev pub invariant-loop-i : goal.invariant-loop-i
invariant-loop-i l = l.best ≡ search l.keys (length l.seconds) l.firsts l.seconds l.i
