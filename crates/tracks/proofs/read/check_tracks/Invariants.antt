-- The tracks so far are checked, and where they start is stored.
use Rattle.std.proofs.Common.{◌≡◌}
use Rattle.kernel.specs.Lists.{tabulate}
use Rattle.tracks.specs.Read.{tracks}
use Rattle.tracks.specs.Record.{end_of}
use Rattle.tracks.specs.Private.{ends}
use Rattle.tracks.proofs.Slices.Laid.{Laid}
use Rattle.tracks.proofs.read.check_tracks.Given as goal

abbrev pub invariant-loop-offset : goal.invariant-loop-offset
invariant-loop-offset l = record {
  told : l.end ≡ ends (tracks l.list l.size.dimension l.offset-index);
  laid : Laid l.initial.offset-items 0 (tabulate l.offset-index (λ j. end_of (tracks l.list l.size.dimension j))) l.offset-index l.offset-items;
}
