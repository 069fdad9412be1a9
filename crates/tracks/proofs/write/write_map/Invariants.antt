-- The bytes of the map so far are written.
use Rattle.std.proofs.Common.{ℕ, ◌≡◌, ◌<◌, get_or}
use Rattle.tracks.specs.Write.{map_byte}
use Rattle.tracks.specs.Private.{track_of_doubles}
use Rattle.tracks.proofs.write.write_map.Given as goal

abbrev pub invariant-loop-b : goal.invariant-loop-b
invariant-loop-b l = (i : ℕ) → i < l.b → get_or l.x-items i 0 ≡ map_byte (track_of_doubles l.v) i
