-- At each turn the tables hold some of the pairs of `paired`, and fewer tracks are free.
use Rattle.std.proofs.Common.{length}
use Rattle.pairing.specs.Keys.{from_keys}
use Rattle.pairing.proofs.Partners.Filling.{Underway, count_free}
use Rattle.pairing.proofs.pair_tracks.Given as goal

abbrev pub invariant-loop-best : goal.invariant-loop-best
invariant-loop-best l = Underway (from_keys l.keys (length l.fn.firsts) (length l.fn.seconds)) l.firsts l.seconds

abbrev pub decreases-loop-best : goal.decreases-loop-best
decreases-loop-best l = count_free l.firsts
