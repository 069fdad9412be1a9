-- The fields of the tracks so far are in their places.
use Rattle.std.proofs.Common.{◌*◌}
use Rattle.tracks.specs.Read.{track}
use Rattle.tracks.specs.Calls.{joined}
use Rattle.tracks.proofs.Slices.Putting.{Putting}
use Rattle.tracks.proofs.read.put_tracks.Given as goal

abbrev pub invariant-loop-j : goal.invariant-loop-j
invariant-loop-j l = Putting (λ _. track l.list l.size.dimension) 2 joined l.fn.values 0 l.size.count l.j l.at (l.j * l.f) l.values
