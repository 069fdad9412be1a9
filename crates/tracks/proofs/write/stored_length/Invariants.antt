-- The bytes of the fields so far are counted.
use Rattle.std.proofs.Common.{◌≡◌, ◌*◌, ◌≤◌, length, take}
use Rattle.tracks.specs.Write.{stored_bytes}
use Rattle.tracks.specs.Calls.{patterns}
use Rattle.tracks.proofs.write.stored_length.Given as goal

abbrev pub invariant-loop-x : goal.invariant-loop-x
invariant-loop-x l = record {
  counted : l.n ≡ length (stored_bytes (take l.x-index (patterns l.v)));
  small : l.n ≤ 8 * l.x-index;
}
