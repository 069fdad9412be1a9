-- Document 01's example j and its one-track list, computed on the definitions.
use Rattle.std.specs.Prelude.{ℕ, ◌≡◌, refl}
use mathlib.Core.List.{List, [], ◌∷◌, flat_map}
use Rattle.tracks.specs.Layout.{part, fields, map_bits, stands, none, spare}
use Rattle.kernel.specs.Bytes.{number, bytes, word}
use Rattle.tracks.specs.Read.{track_of, items, stored, field, track, tracks, contents}
use Rattle.tracks.specs.Record.{record_end, record_at, track_record}
use Rattle.tracks.specs.Write.{packed, map_byte, map_of, field_bytes, stored_bytes, record_of, records_of, list_of, all_finite, tracks_of, written}
use Rattle.kernel.specs.Lists.{tabulate}
use Rattle.std.specs.Prelude.{Ok, Err}
use Rattle.kernel.specs.declared.question.Question.TheVariants as question

-- One track, d = 1, state 0, variance 1.
abbrev pub one_track : List ℕ
one_track = 0x01 ∷ 0x01 ∷ 0x02 ∷ 0x00 ∷ 0x00 ∷ 0x00 ∷ 0x00 ∷ 0x00 ∷ 0x00 ∷ 0xF0 ∷ 0x3F ∷ []

-- its fields: the bits of 0.0 and of 1.0
abbrev pub zero_and_one : List ℕ
zero_and_one = 0 ∷ 0x3FF0_0000_0000_0000 ∷ []

pub one_track_read : contents one_track ≡ Ok (record { dimension = 1; tracks = track_of zero_and_one ∷ [] })
unfolding fields map_bits stands number word none spare items stored field track tracks contents
one_track_read = refl

pub one_track-written : written 1 1 zero_and_one 11 ≡ Ok one_track
unfolding fields map_bits bytes tabulate packed map_byte map_of field_bytes stored_bytes record_of records_of list_of all_finite tracks_of written flat_map
one_track-written = refl

-- Example j: `01 01 06` has a spare bit.
pub example_j : contents (0x01 ∷ 0x01 ∷ 0x06 ∷ []) ≡ Err question.SpareBits
unfolding fields map_bits stands number word none spare items stored field track tracks contents
example_j = refl

-- Its record runs from the map to the last stored field, and no record starts inside it.
pub one_track-part : record_at one_track 2 ≡ part one_track 2 11
unfolding fields map_bits stands number word none spare items stored field track tracks contents record_end record_at
one_track-part = refl

pub one_track-by-offsets : track_record one_track (2 ∷ 11 ∷ []) 0 ≡ part one_track 2 11
unfolding track_record
one_track-by-offsets = refl

pub no_part_inside : record_at one_track 3 ≡ []
unfolding fields map_bits stands number word none spare items stored field track tracks contents record_end record_at
no_part_inside = refl
