-- The records of the tracks so far are written, and the values of the others are left.
use Rattle.std.proofs.Common.{◌≡◌, ◌*◌, ◌/◌, ◌≤◌, length, drop}
use Rattle.tracks.specs.Layout.{fields}
use Rattle.tracks.specs.Write.{records_of, tracks_of}
use Rattle.tracks.specs.Calls.{patterns}
use Rattle.tracks.proofs.Slices.Laid.{Laid}
use Rattle.tracks.proofs.write.write_tracks.Given as goal

abbrev pub invariant-loop-values : goal.invariant-loop-values
invariant-loop-values l = record {
  turns : length l.yielded ≤ length l.v / fields l.d;
  size : l.values-iterator.size ≡ fields l.d;
  rest : l.values-iterator.rest.now ≡ drop (length l.yielded * fields l.d) l.v;
  laid : Laid l.fn.out 2 (records_of l.d (tracks_of (length l.yielded) (fields l.d) (patterns l.v))) l.at l.out;
}
