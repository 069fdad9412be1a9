-- What is left of the values decides, its first pattern eight bytes on for each value before it.
use Rattle.std.proofs.Common.{◌≡◌, ◌*◌, drop}
use Rattle.replay.specs.Replay.{all_same, same_from}
use Rattle.replay.proofs.doubles.are_same.Given as goal

abbrev pub invariant-loop-i : goal.invariant-loop-i
invariant-loop-i l = all_same l.values l.s ≡ same_from l.s (8 * l.i) (drop l.i l.values)
