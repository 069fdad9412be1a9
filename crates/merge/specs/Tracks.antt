-- The tracks of accepted lists, and when two of them are equal.
use Rattle.std.specs.Prelude.{ℕ, Bool, [], length, get_or}
use Rattle.tracks.specs.Read.{Track, TrackList, track_of}
use Rattle.kernel.specs.Bytes.{same_bytes}

-- Base, ours and theirs, as they are read.
pub record ThreeLists : Type 0 where
  pub base : TrackList
  pub ours : TrackList
  pub theirs : TrackList

-- How many tracks there are: byte 0 of the list.
abbrev pub track_count : TrackList → ℕ
track_count c = length c.tracks

-- Track i.
abbrev pub track_at : TrackList → ℕ → Track
track_at c i = get_or c.tracks i (track_of [])

-- Equal (=) means equal bits in every field. (`same_bytes` compares any two lists of numbers, element by element.)
unfoldable pub equal_tracks : TrackList → ℕ → TrackList → ℕ → Bool
equal_tracks a i b j = same_bytes (track_at a i).values (track_at b j).values
