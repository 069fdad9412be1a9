-- The record is looked for among the records that are left, from `here` on.
use Rattle.std.proofs.Common.{◌≡◌, ◌≤◌, ◌-◌, length}
use Rattle.tracks.specs.Record.{record_end}
use Rattle.tracks.proofs.record.find_end.Given as goal

abbrev pub invariant-loop : goal.invariant-loop
invariant-loop l = record {
  within : l.here ≤ length l.list;
  among : record_end l.list l.size.dimension l.at 2 l.size.count ≡ record_end l.list l.size.dimension l.at l.here (l.size.count - l.counter);
}
