-- The bytes of the fields so far are written.
use Rattle.std.proofs.Common.{take}
use Rattle.tracks.specs.Write.{stored_bytes}
use Rattle.tracks.specs.Calls.{patterns}
use Rattle.tracks.proofs.Slices.Laid.{Laid}
use Rattle.tracks.proofs.write.write_fields.Given as goal

abbrev pub invariant-loop-x : goal.invariant-loop-x
invariant-loop-x l = Laid l.fn.out l.start (stored_bytes (take l.x-index (patterns l.v))) l.at l.out
