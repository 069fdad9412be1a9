-- The fields so far are in their places.
use Rattle.tracks.specs.Layout.{fields}
use Rattle.tracks.specs.Read.{after_map, field}
use Rattle.tracks.proofs.Slices.Putting.{Putting}
use Rattle.tracks.proofs.read.put_track.Given as goal

abbrev pub invariant-loop-k : goal.invariant-loop-k
invariant-loop-k l = Putting (field l.list l.map) (after_map l.d l.map) (λ v. v) l.fn.values 0 (fields l.d) l.k l.at l.k l.values
