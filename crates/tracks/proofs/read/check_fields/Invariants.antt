-- The fields so far are accepted, and end within the list.
use Rattle.std.proofs.Common.{◌≡◌, ◌≤◌, length, Ok}
use Rattle.tracks.specs.Read.{field, items}
use Rattle.tracks.specs.Private.{ends}
use Rattle.tracks.proofs.read.check_fields.Given as goal

abbrev pub invariant-loop-k : goal.invariant-loop-k
invariant-loop-k l = record {
  within : l.at ≤ length l.list;
  end : ends (items (field l.list l.map) l.start l.k) ≡ Ok l.at;
}
